use Rattle.std.proofs.Common.{◌≡◌, ℕ, ◌+◌, ◌<◌, ◌≤◌, List, [], ◌∷◌, get_or, length, Some, slice_set, refl, sym, ap, ◌∙◌, arith, rules, vec_len}
use Rattle.std.specs.Prelude.{slice_get}
use Rattle.std.specs.List.{insert}
use Rattle.std.proofs.lemmas.Option.{slice_get_read}
use Rattle.std.proofs.lemmas.List.Edits.{length-insert}
use Rattle.ht_due.specs.declared.due.Due.{Due}
use Rattle.ht_due.specs.Blocks.{pushed_on}
use Rattle.ht_due.proofs.Moving.{pushes_end, pushes_full, pushes_room}
use Rattle.ht_due.proofs.blocks.push_on.Goals as goal
use Rattle.ht_due.proofs.blocks.push_on.Goals.{then-place-len+else-len-lt-MOST, else-place-len}

in_room : (bs : List (List Due)) (n len most : ℕ) (d : Due) (b m new : List Due) → len ≡ length bs → n < len → b ≡ get_or bs n b → most ≡ length b → most < 128 → m ≡ get_or bs n m → new ≡ d ∷ m → slice_set bs n new ≡ pushed_on n d bs
in_room bs n len most d b m new long l e is low f made =
    let here : slice_get bs n ≡ Some b = slice_get_read bs (length bs) n b refl (omega arith) e in
    let same : slice_get bs n ≡ Some m = slice_get_read bs (length bs) n m refl (omega arith) f in
    let p : m ≡ b = cc in
    ap (λ x. slice_set bs n x) (made ∙ ap (λ x. d ∷ x) p) ∙ sym (pushes_room bs n d b here (omega arith))

pub returns-then-len-lt-MOST-clause-blocks : goal.returns-then-len-lt-MOST-clause-blocks
returns-then-len-lt-MOST-clause-blocks c =
    in_room c.args.blocks.now.items c.args.place c.len.result c.len-then-place-len.result c.args.due c.index.result.now c.index_mut.result.now c.put_first.new.self (c.len.ensures ∙ c.args.blocks.now.ok.0) c.if-place-len.true c.index.ensures c.len-then-place-len.ensures c.if-len-lt-MOST.true c.index_mut.ensures.value c.put_first.ensures

new_full : (bs : List (List Due)) (n len most : ℕ) (d : Due) (b : List Due) → len ≡ length bs → n < len → b ≡ get_or bs n b → most ≡ length b → 128 ≤ most → pushed_on n d bs ≡ insert bs n (d ∷ [])
new_full bs n len most d b long l e is full = pushes_full bs n d b (slice_get_read bs (length bs) n b refl (omega arith) e) (omega arith)

new_end : (bs : List (List Due)) (n len : ℕ) (d : Due) → len ≡ length bs → len ≤ n → n ≤ length bs → pushed_on n d bs ≡ insert bs n (d ∷ [])
new_end bs n len d long l h = pushes_end bs n d h (omega arith)

no_room : (bs : List (List Due)) (n len free : ℕ) (d : Due) → pushed_on n d bs ≡ insert bs n (d ∷ []) → n ≤ length bs → length (pushed_on n d bs) ≤ len + free → len ≡ length bs → free ≡ 0 → ⊥
no_room bs n len free d is l room long none = let e : length (pushed_on n d bs) ≡ length bs + 1 = ap length is ∙ length-insert bs n (d ∷ []) l in omega arith

pub unreachable-requires : goal.unreachable-requires
unreachable-requires c =
    let bs = c.args.blocks.now.items in
    let none = c.in-None.ensures.cases in
    no_room bs c.args.place (vec_len c.args.blocks.now) (vec_len c.args.free.now) c.args.due (elim c.if-place-len.branch [
      | then-place-len+else-len-lt-MOST w ↦ new_full bs c.args.place c.len.result w.len-then-place-len.result c.args.due w.index.result.now (c.len.ensures ∙ c.args.blocks.now.ok.0) w.if-place-len.true w.index.ensures w.len-then-place-len.ensures w.if-len-lt-MOST.false
      | else-place-len w ↦ new_end bs c.args.place c.len.result c.args.due (c.len.ensures ∙ c.args.blocks.now.ok.0) w.if-place-len.false c.requires.place
    ]) c.requires.place c.requires.room c.args.blocks.now.ok.0 none.0

pub returns-clause-blocks : goal.returns-clause-blocks
returns-clause-blocks c =
    let bs = c.args.blocks.now.items in
    let made : c.insert.new.self.items ≡ insert bs c.args.place (c.args.due ∷ []) = search rules in
    made ∙ sym (elim c.if-place-len.branch [
      | then-place-len+else-len-lt-MOST w ↦ new_full bs c.args.place c.len.result w.len-then-place-len.result c.args.due w.index.result.now (c.len.ensures ∙ c.args.blocks.now.ok.0) w.if-place-len.true w.index.ensures w.len-then-place-len.ensures w.if-len-lt-MOST.false
      | else-place-len w ↦ new_end bs c.args.place c.len.result c.args.due (c.len.ensures ∙ c.args.blocks.now.ok.0) w.if-place-len.false c.requires.place
    ])
