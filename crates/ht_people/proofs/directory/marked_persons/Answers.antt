use Rattle.std.proofs.Common.{◌∙◌, ◌+◌, ℕ, Bool, List, [], ◌∷◌, ◌++◌, false, ap, arith, sym}
use Rattle.std.specs.Prelude.{slice_index_or}
use Rattle.ht_people.proofs.Filtering.{failed, passed}
use Rattle.ht_people.proofs.Merging.{all_below, push_below}
use Rattle.ht_people.proofs.directory.marked_persons.Goals as goal
use Rattle.ht_people.proofs.directory.marked_persons.Goals.{then-is_marked+in_ok-push, else-is_marked}

pub loop-person-preserved : goal.loop-person-preserved
loop-person-preserved c =
    let test : ℕ → Bool = λ person. slice_index_or c.args.marks.now person false in
    let person = c.loop-person.person in
    elim c.if-is_marked.branch [
      | then-is_marked+in_ok-push w ↦
          rw (w.persons-is, w.in_ok-push.ensures.ok) (record {
            persons = ap (λ (ps : List ℕ). ps ++ person ∷ []) c.loop-person.invariant.persons ∙ sym (passed test person (sym c.is_marked.ensures ∙ w.if-is_marked.true));
            below = push_below person c.loop-person.persons c.loop-person.invariant.below;
          })
      | else-is_marked w ↦
          rw w.persons-is (record {
            persons = c.loop-person.invariant.persons ∙ sym (failed test person (sym c.is_marked.ensures ∙ w.if-is_marked.false));
            below = all_below person (person + 1) c.loop-person.persons c.loop-person.invariant.below (omega arith);
          })
    ]
