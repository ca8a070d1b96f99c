use Rattle.std.proofs.Common.{◌≡◌, ◌<◌, [], length, slice_set, Some, refl, inl, inr, ap, ◌∙◌, arith}
use Rattle.std.specs.Prelude.{slice_get}
use Rattle.std.proofs.lemmas.Bool.{cases_eq}
use Rattle.std.proofs.lemmas.Option.{slice_get_read}
use Rattle.ht_index.specs.Kept.{coming_by, spare_at}
use Rattle.ht_index.proofs.Slots.{comes_here, part_here, part_kept, part_of, part_there, there}
use Rattle.ht_index.proofs.asking.give_back.Goals as goal

pub index_mut-requires : goal.index_mut-requires
index_mut-requires c =
    let here : coming_by c.args.one.key c.args.one ≡ 1 = comes_here c.args.one c.if-one.true in
    let some = c.requires c.args.one.key in
    let low : c.args.one.key < length c.args.lists.now.items = there c.args.one.key c.args.lists.now.items (omega arith) in
    let long = c.args.lists.now.ok.0 in
    omega arith

pub give_back-requires : goal.give_back-requires
give_back-requires c =
    let lists = c.args.lists.now.items in
    let p = c.args.one.key in
    let here : coming_by p c.args.one ≡ 1 = comes_here c.args.one c.if-one.true in
    let some = c.requires p in
    let low : p < length lists = there p lists (omega arith) in
    let at : slice_get lists p ≡ Some c.index_mut.result.now = slice_get_read lists (length lists) p c.index_mut.result.now refl low c.index_mut.ensures.value in
    let is : spare_at p lists ≡ (c.index_mut.result.now).spare = part_of (λ l. l.spare) 0 lists p c.index_mut.result.now at in
    omega arith

pub returns-then-one-clause-lists : goal.returns-then-one-clause-lists
returns-then-one-clause-lists c =
    let lists = c.args.lists.now.items in
    let p = c.args.one.key in
    let here : coming_by p c.args.one ≡ 1 = comes_here c.args.one c.if-one.true in
    let some = c.requires p in
    let low : p < length lists = there p lists (omega arith) in
    let at : slice_get lists p ≡ Some c.index_mut.result.now = slice_get_read lists (length lists) p c.index_mut.result.now refl low c.index_mut.ensures.value in
    part_kept (λ l. l.tasks) [] lists p c.give_back.new.self c.index_mut.result.now at c.give_back.ensures.tasks low

pub returns-then-one-clause-spare : goal.returns-then-one-clause-spare
returns-then-one-clause-spare c = λ k.
    let lists = c.args.lists.now.items in
    let p = c.args.one.key in
    let new = c.give_back.new.self in
    let here : coming_by p c.args.one ≡ 1 = comes_here c.args.one c.if-one.true in
    let some = c.requires p in
    let low : p < length lists = there p lists (omega arith) in
    let at : slice_get lists p ≡ Some c.index_mut.result.now = slice_get_read lists (length lists) p c.index_mut.result.now refl low c.index_mut.ensures.value in
    elim (cases_eq k p) [
      | inl e ↦
          let now : spare_at k (slice_set lists p new) ≡ new.spare = part_here (λ l. l.spare) 0 lists p new k low e in
          let was : spare_at k lists ≡ (c.index_mut.result.now).spare = ap (λ n. spare_at n lists) e ∙ part_of (λ l. l.spare) 0 lists p c.index_mut.result.now at in
          let less = c.give_back.ensures.spare in
          let one : coming_by k c.args.one ≡ 1 = ap (λ n. coming_by n c.args.one) e ∙ here in
          omega arith
      | inr other ↦
          let same : spare_at k (slice_set lists p new) ≡ spare_at k lists = part_there (λ l. l.spare) 0 lists p new k other in
          omega arith
    ]
