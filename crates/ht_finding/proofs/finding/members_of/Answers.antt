use Rattle.std.proofs.Common.{◌≡◌, ℕ, List, Option, None, false, ap, sym, ◌∙◌}
use Rattle.std.specs.Option.{option_map_or}
use Rattle.ht_base.specs.Name.{name_of}
use Rattle.ht_expr.specs.Assignments.{group}
use Rattle.ht_people.specs.Membership.{everybody, is_member}
use Rattle.ht_finding.specs.Assigning.{is_found}
use Rattle.ht_finding.proofs.Selecting.{select_none}
use Rattle.ht_finding.proofs.finding.members_of.Goals as goal

pub returns-in-None : goal.returns-in-None
returns-in-None c =
    let d = c.args.people.now in
    let none : name_of c.args.text.now ≡ None = sym (ap (λ (l : List ℕ). name_of l) c.as_bytes.ensures.value) ∙ sym c.in-None.ensures in
    λ s. c.new.ensures ∙ select_none (is_found d s (group c.args.text.now)) (everybody d) (λ p. ap (λ (o : Option (List ℕ)). option_map_or (λ name. is_member d name p) o false) none)
