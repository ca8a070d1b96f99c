use Rattle.std.proofs.Common.{◌≡◌, ℕ, ◌+◌, ◌||◌, ◌==◌, true, false, List, take, option_map, ap, sym, subst, ◌∙◌}
use Rattle.ht_base.specs.Persons.{has}
use Rattle.ht_tree.specs.declared.listed_by.ListedBy.TheVariants as by
use Rattle.ht_tree.specs.ListedBy.{AddsOf, stands_under}
use Rattle.std.proofs.lemmas.List.{take_all}
use Rattle.ht_tree.proofs.Moving.{adds_none, adds_then, has_next}
use Rattle.ht_tree.proofs.person_moves.add_each.Goals as goal

pub loop-person-init : goal.loop-person-init
loop-person-init c = adds_none c.args.task c.args.comes _ _ _ (λ key on. let no : false ≡ true = on in cc)

pub loop-person-preserved : goal.loop-person-preserved
loop-person-preserved c =
    let persons = c.as_slice-person-items.result.now in
    let i = c.loop-person.person-index in
    let low = c.loop-person-test.true in
    adds_then c.args.task c.args.comes (λ key. has key (take i persons)) (λ key. c.person-item.result == key) (λ key. has key (take (i + 1) persons)) (λ key. stands_under by.Person key (option_map (λ r. r.now) c.args.other)) c.args.moves.now.items c.loop-person.moves.items c.add.new.moves.items
    (λ key. has_next key persons i c.person-item.result low ∙ ap (λ n. has key (take i persons) || (n == key)) (sym c.person-item.is))
    c.loop-person.invariant c.in_ok-add.ensures

pub returns : goal.returns
returns c =
    let persons = c.as_slice-person-items.result.now in
    let all : take c.loop-person.person-index persons ≡ c.args.persons.now = take_all c.loop-person.person-index persons c.loop-person-test.false ∙ c.as_slice-person-items.ensures.value in
    let P : List ℕ → Type 0 = λ l. AddsOf c.args.task c.args.comes (λ key. has key l) (λ key. stands_under by.Person key (option_map (λ r. r.now) c.args.other)) c.args.moves.now.items c.loop-person.moves.items in
    subst P all c.loop-person.invariant
