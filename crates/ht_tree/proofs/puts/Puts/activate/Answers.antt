use Rattle.std.proofs.Common.{◌≡◌, [], ◌∷◌, ◌++◌, ℕ, Bool, true, nat_le, slice_set, Option, Some, if◌then◌else◌, sym, ap, ◌∙◌, arith}
use Rattle.std.proofs.lemmas.Bool.Decides.{nat_tests}
use Rattle.std.proofs.lemmas.Option.{slice_get_within}
use Rattle.ht_tree.specs.declared.row.Row.{Row}
use Rattle.ht_tree.specs.Activation.{activated_to}
use Rattle.ht_tree.specs.Places.{last_place, put_past, set_past, tasks_of}
use Rattle.ht_tree.proofs.Places.{last_there}
use Rattle.ht_tree.proofs.puts.Puts.activate.Goals as goal

pub activate_at-requires : goal.activate_at-requires
activate_at-requires c =
    let found = last_there c.args.task.0 c.args.self.now (Some c.in-Some.place) (sym c.in-Some.ensures) in
    slice_get_within c.args.self.now c.in-Some.place found.0 found.1

pub returns-in-Some-clause-there : goal.returns-in-Some-clause-there
returns-in-Some-clause-there c = λ yes.
    let rows = c.args.self.now in
    let place = c.in-Some.place in
    let found = last_there c.args.task.0 rows (Some place) (sym c.in-Some.ensures) in
    let set = c.activate_at.ensures in
    let after : Row → Row = λ r. activated_to c.args.state c.args.owner r in
    let one : Some set.0 ≡ Some found.0 = sym set.1 ∙ found.1 in
    let same : set.0 ≡ found.0 = cc in
    let own : (after found.0).task.0 ≡ c.args.task.0 = found.3 in
    let last : last_place (after found.0).task.0 (tasks_of rows) ≡ Some place = ap (λ (n : ℕ). last_place n (tasks_of rows)) own ∙ sym c.in-Some.ensures in
    let behind : nat_le c.args.mark place ≡ true = grind (arith, nat_tests, c.if-place-mark.true) in
    let past : put_past c.args.mark rows (after found.0) ≡ slice_set rows place (after found.0) = ap (λ (o : Option ℕ). set_past c.args.mark rows (after found.0) o) last ∙ ap (λ (b : Bool). if b then slice_set rows place (after found.0) else (rows ++ after found.0 ∷ [])) behind in
    (found.0, found.2, set.2 ∙ ap (λ (r : Row). slice_set rows place (after r)) same ∙ sym past)
