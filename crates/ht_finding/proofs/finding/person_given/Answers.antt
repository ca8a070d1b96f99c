use Rattle.std.proofs.Common.{◌≡◌, ℕ, ◌==◌, false, List, ◌∷◌, [], length, Option, Some, None, ap, sym, ◌∙◌, arith}
use Rattle.std.specs.Option.{option_map_or}
use Rattle.ht_base.specs.declared.value.Value.{Value}
use Rattle.ht_expr.specs.Assignments.{part}
use Rattle.ht_value.specs.Environment.{given}
use Rattle.ht_expr.specs.Kinds.{Declared}
use Rattle.ht_expr.specs.declared.kinds.Side.TheVariants.{Input}
use Rattle.ht_people.specs.Membership.{everybody}
use Rattle.ht_finding.specs.Assigning.{is_found, person_of, resolved, sight}
use Rattle.ht_finding.proofs.Selecting.{if_ok, select_none, select_one, select_past}
use Rattle.ht_finding.proofs.finding.person_given.Goals as goal

pub returns-in_default : goal.returns-in_default
returns-in_default c = λ kinds.
    let d = c.args.people.now in
    let s = sight kinds c.args.env.now in
    let nobody : person_of (given c.args.env.now Input c.args.name.now) ≡ None = sym (ap (λ (o : Option Value). person_of o) c.given.ensures) ∙ sym c.in_default.ensures in
    c.new.ensures ∙ select_none (is_found d s (part Input c.args.name.now)) (everybody d) (λ p. ap (λ (o : Option ℕ). option_map_or (λ q. p == q) o false) nobody)

pub returns-then-person-persons : goal.returns-then-person-persons
returns-then-person-persons c =
    let d = c.args.people.now in
    let q = c.in-Some.person in
    let named : person_of (given c.args.env.now Input c.args.name.now) ≡ Some q = sym (ap (λ (o : Option Value). person_of o) c.given.ensures) ∙ sym c.in-Some.ensures in
    let one : (kinds : Declared) → q ∷ [] ≡ resolved d (sight kinds c.args.env.now) (part Input c.args.name.now) =
    λ kinds. select_one (is_found d (sight kinds c.args.env.now) (part Input c.args.name.now)) (length d.persons) q (omega arith) (λ p. ap (λ (o : Option ℕ). option_map_or (λ r. p == r) o false) named) in
    if_ok (λ (l : List ℕ). l ≡ q ∷ []) (λ (l : List ℕ). (kinds : Declared) → l ≡ resolved d (sight kinds c.args.env.now) (part Input c.args.name.now)) c.alone.result (λ l e kinds. e ∙ one kinds) c.alone.ensures

pub returns-else-person-persons : goal.returns-else-person-persons
returns-else-person-persons c = λ kinds.
    let d = c.args.people.now in
    let q = c.in-Some.person in
    let named : person_of (given c.args.env.now Input c.args.name.now) ≡ Some q = sym (ap (λ (o : Option Value). person_of o) c.given.ensures) ∙ sym c.in-Some.ensures in
    c.new-else-person-persons.ensures ∙ select_past (is_found d (sight kinds c.args.env.now) (part Input c.args.name.now)) (length d.persons) q (omega arith) (λ p. ap (λ (o : Option ℕ). option_map_or (λ r. p == r) o false) named)
