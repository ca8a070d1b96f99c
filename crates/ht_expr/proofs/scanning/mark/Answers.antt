use Rattle.std.proofs.Common.{◌≡◌, ℕ, List, ◌++◌, ◌∙◌, ap, sym, length, drop}
use Rattle.ht_expr.proofs.Firsts.{first_mark, mark_boundary}
use Rattle.ht_expr.specs.Scanning.{mark_in}
use Rattle.ht_expr.specs.Tokens.{mark_bytes}
use Rattle.ht_expr.proofs.scanning.mark.Goals as goal

pub split_at-requires : goal.split_at-requires
split_at-requires c =
    rw c.as_str.ensures (mark_boundary c.in_ok-mark.mark c.args.text.now _ (rw c.as_bytes.ensures.value at c.in_ok-mark.ensures.stands) c.utf8.text)

pub returns : goal.returns
returns c =
    let text = c.args.text.now in
    let mark = c.in_ok-mark.mark in
    let stands : text ≡ mark_bytes mark ++ drop (length (mark_bytes mark)) text = rw c.as_bytes.ensures.value at c.in_ok-mark.ensures.stands in
    let rest : c.split_at.result.1.now ≡ drop (length (mark_bytes mark)) text = c.split_at.ensures.back ∙ ap (λ (l : List ℕ). drop (length l) text) c.as_str.ensures in
    let is : text ≡ mark_bytes mark ++ c.split_at.result.1.now = stands ∙ ap (λ l. mark_bytes mark ++ l) (sym rest) in
    (mark_bytes mark, is, first_mark mark text c.split_at.result.1.now (ap mark_in (sym c.as_bytes.ensures.value) ∙ sym c.in_ok-mark.ensures.longest) c.requires is)
