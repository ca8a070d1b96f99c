use Rattle.std.proofs.Common.{ℕ, ◌||◌, ◌==◌, Bool, List, option_map, refl, subst}
use Rattle.ht_base.specs.Persons.{has}
use Rattle.ht_index.specs.declared.moves.Move.{Move}
use Rattle.ht_tree.specs.declared.listed_by.ListedBy.TheVariants as by
use Rattle.ht_tree.specs.ListedBy.{AddsOf, is_in_lists, stands_under}
use Rattle.ht_tree.proofs.Moving.{adds_none, adds_then, on_ok}
use Rattle.ht_tree.proofs.person_moves.add_listed.Goals as goal

pub returns-then-are_in_other : goal.returns-then-are_in_other
returns-then-are_in_other c = adds_none c.args.task c.args.comes _ _ _ (c.are_in_other.ensures c.if-are_in_other.true)

pub returns : goal.returns
returns c =
    let task = c.args.task in
    let comes = c.args.comes in
    let row = c.args.row.now in
    let others : ℕ → Bool = λ key. stands_under by.Person key (option_map (λ r. r.now) c.args.other) in
    let P : List Move → Type 0 = λ l. AddsOf task comes (λ key. is_in_lists key row) others l c.add_each-3.new.moves.items in
    on_ok c.add_each-3.result
    (λ last.
    subst P c.in_ok-reserve.ensures.items (adds_then task comes (λ key. row.initiator == key) (λ key. has key row.stakeholders || (has key row.potential_owners || has key row.administrators)) (λ key. is_in_lists key row) others c.reserve.new.self.items c.add.new.moves.items c.add_each-3.new.moves.items (λ key. refl)
    c.in_ok-add.ensures
    (adds_then task comes (λ key. has key row.stakeholders) (λ key. has key row.potential_owners || has key row.administrators) (λ key. has key row.stakeholders || (has key row.potential_owners || has key row.administrators)) others c.add.new.moves.items c.add_each.new.moves.items c.add_each-3.new.moves.items (λ key. refl)
    c.in_ok-add_each.ensures
    (adds_then task comes (λ key. has key row.potential_owners) (λ key. has key row.administrators) (λ key. has key row.potential_owners || has key row.administrators) others c.add_each.new.moves.items c.add_each-2.new.moves.items c.add_each-3.new.moves.items (λ key. refl)
    c.in_ok-add_each-2.ensures last))))
    c.add_each-3.ensures
