use Rattle.std.proofs.Common.{◌≡◌, ℕ, List, ◌∷◌, [], Option, Some, None, false, ◌==◌, length, ap, sym, ◌∙◌}
use Rattle.std.specs.Option.{option_and_then, option_map_or}
use Rattle.ht_base.specs.Name.{name_of}
use Rattle.ht_expr.specs.Assignments.{user}
use Rattle.ht_people.specs.Directory.{find}
use Rattle.ht_people.specs.Membership.{everybody}
use Rattle.ht_finding.specs.Assigning.{Sight, find_user, is_found, resolved}
use Rattle.ht_finding.proofs.Selecting.{if_ok, select_none, select_one}
use Rattle.ht_finding.proofs.finding.persons_named.Goals as goal

pub returns-in_default : goal.returns-in_default
returns-in_default c =
    let d = c.args.people.now in
    let none : name_of c.args.text.now ≡ None = sym (ap (λ (l : List ℕ). name_of l) c.as_bytes.ensures.value) ∙ sym c.in_default.ensures in
    let unknown : find_user c.args.text.now d ≡ None = ap (λ (o : Option (List ℕ)). option_and_then (λ name. find name d) o) none in
    λ s. c.new.ensures ∙ select_none (is_found d s (user c.args.text.now)) (everybody d) (λ p. ap (λ (o : Option ℕ). option_map_or (λ q. p == q) o false) unknown)

pub returns-in-Some-find : goal.returns-in-Some-find
returns-in-Some-find c =
    let d = c.args.people.now in
    let name : name_of c.args.text.now ≡ Some c.in-Some.name = sym (ap (λ (l : List ℕ). name_of l) c.as_bytes.ensures.value) ∙ sym c.in-Some.ensures in
    let known : find_user c.args.text.now d ≡ Some c.in-Some-find.person = ap (λ (o : Option (List ℕ)). option_and_then (λ name. find name d) o) name ∙ sym c.in-Some-find.ensures.value in
    let q = c.in-Some-find.person in
    let one : (s : Sight) → q ∷ [] ≡ resolved d s (user c.args.text.now) =
    λ s. select_one (is_found d s (user c.args.text.now)) (length d.persons) q c.in-Some-find.ensures.within (λ p. ap (λ (o : Option ℕ). option_map_or (λ r. p == r) o false) known) in
    if_ok (λ (l : List ℕ). l ≡ q ∷ []) (λ (l : List ℕ). (s : Sight) → l ≡ resolved d s (user c.args.text.now)) c.alone.result (λ l e s. e ∙ one s) c.alone.ensures

pub returns-in-None : goal.returns-in-None
returns-in-None c =
    let d = c.args.people.now in
    let name : name_of c.args.text.now ≡ Some c.in-Some.name = sym (ap (λ (l : List ℕ). name_of l) c.as_bytes.ensures.value) ∙ sym c.in-Some.ensures in
    let unknown : find_user c.args.text.now d ≡ None = ap (λ (o : Option (List ℕ)). option_and_then (λ name. find name d) o) name ∙ sym c.in-None.ensures.value in
    λ s. c.new-in-None.ensures ∙ select_none (is_found d s (user c.args.text.now)) (everybody d) (λ p. ap (λ (o : Option ℕ). option_map_or (λ q. p == q) o false) unknown)
