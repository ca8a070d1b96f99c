use Rattle.std.proofs.Common.{◌≡◌, ◌∙◌, ◌++◌, ◌+◌, List, ℕ, ap, drop, option_map, subst, sym, take, arith}
use Rattle.std.specs.List.{flat_map}
use Rattle.std.proofs.lemmas.List.{take_all}
use Rattle.std.proofs.lemmas.Result.{on_err_weaker, on_ok_weaker}
use Rattle.ht_export.specs.Lines.{export_text, head_line, line}
use Rattle.ht_export.specs.Pieces.{Leaves, gathered}
use Rattle.ht_export.proofs.Pieces.{at_err, leaves_on, part_last, part_longer, part_on, whole_on}
use Rattle.ht_export.proofs.Rows.{and_rest, is_there, one_more}
use Rattle.ht_outside.specs.Tells.{Grows, GrowsPart}
use Rattle.ht_export.proofs.exporting.export.Goals as goal

pub unreachable-requires : goal.unreachable-requires
unreachable-requires g c =
    is_there c.args.tables.now.tables.rows c.loop-before.before (omega (arith, c.rows-before-end.ensures.value))
    (sym c.row.ensures.value ∙ ap (option_map (λ r. r.now)) c.in_default.is)

pub returns-in_err-add_line-clause-part : goal.returns-in_err-add_line-clause-part
returns-in_err-add_line-clause-part g c =
    let t = c.args.tables.now.tables in
    let i = c.loop-before.before in
    let o = (g.K.Sink.sink_state c.args.output.now).written in
    let p = (g.K.Sink.sink_state c.loop-before.output).written in
    let q = (g.K.Sink.sink_state c.add_line.new.output).written in
    let text = head_line ++ flat_map (line t) (take i t.rows) in
    let row = c.in-Some.row.now in
    let more = line t row in
    let rest = flat_map (line t) (drop (i + 1) t.rows) in
    let here : GrowsPart o q (text ++ more) = part_on o p q text (gathered c.loop-before.lines) c.loop-before.invariant.leaves more c.in_err-add_line.ensures.part in
    let is : text ++ more ≡ head_line ++ flat_map (line t) (take (i + 1) t.rows) = one_more (line t) head_line t.rows i row (sym c.in-Some.ensures.value) in
    let whole : export_text t ≡ (text ++ more) ++ rest = and_rest (line t) head_line t.rows (i + 1) ∙ ap (λ l. l ++ rest) (sym is) in
    at_err c.from_residual-in_err-add_line.result (subst (λ (l : List ℕ). GrowsPart o q l) (sym whole) (part_longer o q (text ++ more) rest here))

pub loop-before-preserved : goal.loop-before-preserved
loop-before-preserved g c =
    let t = c.args.tables.now.tables in
    let i = c.loop-before.before in
    let o = (g.K.Sink.sink_state c.args.output.now).written in
    let p = (g.K.Sink.sink_state c.loop-before.output).written in
    let q = (g.K.Sink.sink_state c.add_line.new.output).written in
    let text = head_line ++ flat_map (line t) (take i t.rows) in
    let row = c.in-Some.row.now in
    let left = gathered c.add_line.new.lines in
    let next = leaves_on o p q text (gathered c.loop-before.lines) c.loop-before.invariant.leaves (line t row) left c.in_ok-add_line.ensures.leaves in
    let is = one_more (line t) head_line t.rows i row (sym c.in-Some.ensures.value) in
    record {
      leaves = subst (λ (l : List ℕ). Leaves o q l left) is next;
      between = c.in_ok-add_line.ensures.between;
      later = omega (arith, c.loop-before.invariant.later, c.in_ok-add_line.ensures.cause.later);
    }

pub returns-clause-whole : goal.returns-clause-whole
returns-clause-whole g c =
    let t = c.args.tables.now.tables in
    let i = c.loop-before.before in
    let o = (g.K.Sink.sink_state c.args.output.now).written in
    let p = (g.K.Sink.sink_state c.loop-before.output).written in
    let q = (g.K.Sink.sink_state c.write_gathered.new.output).written in
    let text = head_line ++ flat_map (line t) (take i t.rows) in
    let all : take i t.rows ≡ t.rows = take_all i t.rows (omega (arith, c.rows-before-end.ensures.value)) in
    let whole : text ≡ export_text t = ap (λ l. head_line ++ flat_map (line t) l) all in
    on_ok_weaker c.write_gathered.result
    (λ w. subst (λ (l : List ℕ). Grows o q l) whole (whole_on o p q text (gathered c.loop-before.lines) c.loop-before.invariant.leaves w))
    c.write_gathered.ensures.whole

pub returns-clause-part : goal.returns-clause-part
returns-clause-part g c =
    let t = c.args.tables.now.tables in
    let i = c.loop-before.before in
    let o = (g.K.Sink.sink_state c.args.output.now).written in
    let p = (g.K.Sink.sink_state c.loop-before.output).written in
    let q = (g.K.Sink.sink_state c.write_gathered.new.output).written in
    let text = head_line ++ flat_map (line t) (take i t.rows) in
    let all : take i t.rows ≡ t.rows = take_all i t.rows (omega (arith, c.rows-before-end.ensures.value)) in
    let whole : text ≡ export_text t = ap (λ l. head_line ++ flat_map (line t) l) all in
    on_err_weaker c.write_gathered.result
    (λ w. subst (λ (l : List ℕ). GrowsPart o q l) whole (part_last o p q text (gathered c.loop-before.lines) c.loop-before.invariant.leaves w))
    c.write_gathered.ensures.part
