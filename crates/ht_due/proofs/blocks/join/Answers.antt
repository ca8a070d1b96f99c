use Rattle.std.proofs.Common.{◌≡◌, ℕ, ◌+◌, ◌-◌, ◌<◌, ◌≤◌, suc, List, ◌++◌, get_or, length, Some, slice_set, refl, sym, subst, ap, ◌∙◌, arith}
use Rattle.std.specs.Prelude.{slice_get}
use Rattle.std.specs.List.{remove}
use Rattle.std.proofs.lemmas.Option.{slice_get_read}
use Rattle.std.proofs.lemmas.List.Edits.{get_or-remove_below}
use Rattle.ht_due.specs.declared.due.Due.{Due}
use Rattle.ht_due.specs.Blocks.{AreFew, joined_at}
use Rattle.ht_due.proofs.Apart.{few_joined}
use Rattle.ht_due.proofs.Moving.{joins_none, joins_not, joins_two}
use Rattle.ht_due.proofs.blocks.join.Goals as goal
use Rattle.ht_due.proofs.blocks.join.Goals.{then-len-lt2-via-then-len-lt2, then-len-lt2-via-else-len-lt2+then-place-len}

pub returns-then-len-lt2-clause-blocks : goal.returns-then-len-lt2-clause-blocks
returns-then-len-lt2-clause-blocks c =
    let bs = c.args.blocks.now.items in
    let long = c.args.blocks.now.ok.0 in
    let len = c.len-len.ensures in
    elim c.then-len-lt2.branch [
      | then-len-lt2-via-then-len-lt2 w ↦ let l = w.if-len-lt2.true in sym (joins_none bs c.args.place (omega arith))
      | then-len-lt2-via-else-len-lt2+then-place-len w ↦ let l = w.if-len-lt2.false in let m = w.if-place-len.true in sym (joins_none bs c.args.place (omega arith))
    ]

next_one : (bs : List (List Due)) (n : ℕ) (b : List Due) → n + 1 < length bs → b ≡ get_or bs (n + 1) b → slice_get bs (suc n) ≡ Some b
next_one bs n b l e = let s : n + 1 ≡ suc n = omega arith in let P : ℕ → Type 0 = λ m. slice_get bs m ≡ Some b in subst P s (slice_get_read bs (length bs) (n + 1) b refl l e)

pub returns-then-len-gt-MOST-clause-blocks : goal.returns-then-len-gt-MOST-clause-blocks
returns-then-len-gt-MOST-clause-blocks c =
    let bs = c.args.blocks.now.items in
    let n = c.args.place in
    let long = c.args.blocks.now.ok.0 in
    let len = c.len-len.ensures in
    let l = c.if-len-lt2.false in
    let m = c.if-place-len.false in
    let a = c.len.ensures in
    let b = c.len-2.ensures in
    let t = c.if-len-gt-MOST.true in
    sym (joins_not bs n c.index.result.now c.index-2.result.now (slice_get_read bs (length bs) n c.index.result.now refl (omega arith) c.index.ensures) (next_one bs n c.index-2.result.now (omega arith) c.index-2.ensures) (omega arith))

written : (bs : List (List Due)) (n : ℕ) (one two m next new : List Due) (left : List (List Due)) → n + 1 < length bs → one ≡ get_or bs n one → two ≡ get_or bs (n + 1) two → length one + length two ≤ 128 → left ≡ remove bs (n + 1) → m ≡ get_or left n m → next ≡ get_or bs (n + 1) next → new ≡ m ++ next → slice_set left n new ≡ joined_at n bs
written bs n one two m next new left l e f low is g h made =
    let s : n + 1 ≡ suc n = omega arith in
    let here : slice_get bs n ≡ Some one = slice_get_read bs (length bs) n one refl (omega arith) e in
    let there : slice_get bs (suc n) ≡ Some two = next_one bs n two l f in
    let i : m ≡ get_or bs n m = g ∙ ap (λ (xs : List (List Due)). get_or xs n m) is ∙ get_or-remove_below bs (n + 1) m n (omega arith) l in
    let same : slice_get bs n ≡ Some m = slice_get_read bs (length bs) n m refl (omega arith) i in
    let also : slice_get bs (suc n) ≡ Some next = next_one bs n next l h in
    let p : m ≡ one = cc in
    let q : next ≡ two = cc in
    ap (λ xs. slice_set xs n new) is
    ∙ ap (λ x. slice_set (remove bs (n + 1)) n x) (made ∙ ap (λ x. x ++ next) p ∙ ap (λ x. one ++ x) q)
    ∙ ap (λ k. slice_set (remove bs k) n (one ++ two)) s
    ∙ sym (joins_two bs n one two here there low)

is_written : (bs : List (List Due)) (n len : ℕ) (one two m next new : List Due) (left : List (List Due)) → len ≡ length bs → 2 ≤ len → n ≤ len - 2 → one ≡ get_or bs n one → two ≡ get_or bs (n + 1) two → length one + length two ≤ 128 → left ≡ remove bs (n + 1) → m ≡ get_or left n m → next ≡ get_or bs (n + 1) next → new ≡ m ++ next → slice_set left n new ≡ joined_at n bs
is_written bs n len one two m next new left long l k e f low is g h made = written bs n one two m next new left (omega arith) e f low is g h made

pub returns-clause-blocks : goal.returns-clause-blocks
returns-clause-blocks c =
    let a = c.len.ensures in
    let b = c.len-2.ensures in
    let t = c.if-len-gt-MOST.false in
    is_written c.args.blocks.now.items c.args.place c.len-len.result c.index.result.now c.index-2.result.now c.index_mut.result.now c.remove-next.result c.take_all.new.self c.remove-next.new.self.items (c.len-len.ensures ∙ c.args.blocks.now.ok.0) c.if-len-lt2.false c.if-place-len.false c.index.ensures c.index-2.ensures (omega arith) c.remove-next.ensures.items c.index_mut.ensures.value c.remove-next.ensures.value c.take_all.ensures

pub returns-clause-few : goal.returns-clause-few
returns-clause-few c =
    let a = c.len.ensures in
    let b = c.len-2.ensures in
    let t = c.if-len-gt-MOST.false in
    subst AreFew (sym (is_written c.args.blocks.now.items c.args.place c.len-len.result c.index.result.now c.index-2.result.now c.index_mut.result.now c.remove-next.result c.take_all.new.self c.remove-next.new.self.items (c.len-len.ensures ∙ c.args.blocks.now.ok.0) c.if-len-lt2.false c.if-place-len.false c.index.ensures c.index-2.ensures (omega arith) c.remove-next.ensures.items c.index_mut.ensures.value c.remove-next.ensures.value c.take_all.ensures)) (few_joined c.args.place c.args.blocks.now.items c.requires.few)
