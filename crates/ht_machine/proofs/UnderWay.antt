-- A turn from its beginning to its end.
use Rattle.std.proofs.Common.{◌≡◌, ◌≤◌, ℕ, ◌+◌, List, [], ◌∷◌, ◌++◌, length, None, Some, refl, sym, subst, ◌∙◌, inl, inr, Result, Ok, Err, OnErr, arith}
use Rattle.ht_due.specs.declared.due.Due.{Due}
use Rattle.ht_machine.specs.Courses.{GoesOn, IsUnderWay}
use Rattle.ht_machine.specs.Turning.{Takes, Takings, Turns}
use Rattle.ht_machine.specs.Turning.Takings.{end, on}
use Rattle.ht_tree.proofs.PublicLaws.{goes_on, stays}
use Rattle.ht_tree.specs.Plans.{IsPlanOf, PlanOf, planned}
use Rattle.ht_tree.specs.RowDues.{first_due}
use Rattle.ht_tree.specs.Soundness.{IsSound}
use Rattle.ht_tree.specs.Tables.{TablesOf}

-- one taking more
pub taken_on : (by : ℕ) (u v w : TablesOf) (dues : List Due) (due : Due) → Takings by u dues v → first_due v by ≡ Some due → Takes v due w → Takings by u (dues ++ due ∷ []) w
taken_on by u v w [] due end first takes = on first takes end
taken_on by u v w (d ∷ ds) due (on {v = x} first_one takes_one rest) first takes = on first_one takes_one (taken_on by x v w ds due rest first takes)

length_push : (ds : List Due) (d : Due) → length (ds ++ d ∷ []) ≡ length ds + 1
length_push [] d = refl
length_push (x ∷ ds) d = let e = length_push ds d in omega (arith, e)

pub sets_out : (t : TablesOf) (p : PlanOf) (by taken : ℕ) → IsPlanOf t p → IsSound (planned t p) → taken ≡ 0 → IsUnderWay t p p by taken
sets_out t p by taken fit sound none = record { dues = []; takings = end; goes = stays t p fit; sound = sound; count = none }

pub goes_further : (t : TablesOf) (start old new : PlanOf) (by before after : ℕ) → IsUnderWay t start old by before → GoesOn t old new by before after → IsUnderWay t start new by after
goes_further t start old new by before after way (inl same) =
    let W : PlanOf → Type 0 = λ p. IsUnderWay t start p by after in
    subst W (sym same.0) (record { dues = way.dues; takings = way.takings; goes = way.goes; sound = way.sound; count = same.1 ∙ way.count })
goes_further t start old new by before after way (inr more) =
    let first = more.0 in
    let taken = first.taken in
    let pushed = length_push way.dues first.due in
    let count = way.count in
    let one = more.1 in
    record {
      dues = way.dues ++ first.due ∷ [];
      takings = taken_on by (planned t start) (planned t old) (planned t new) way.dues first.due way.takings first.first taken.takes;
      goes = goes_on t start old new (planned t start) (planned t old) (planned t new) way.goes taken.goes;
      sound = taken.sound;
      count = omega (arith, pushed, count, one);
    }

pub turns_then : (t : TablesOf) (start now : PlanOf) (by taken : ℕ) → IsUnderWay t start now by taken → first_due (planned t now) by ≡ None → Turns t start now by taken
turns_then t start now by taken way over = record {
  after = planned t now;
  dues = way.dues;
  turn = record { takings = way.takings; ended = over };
  goes = way.goes;
  sound = way.sound;
  count = way.count;
}

pub one_more : (t : TablesOf) (old new : PlanOf) (by before after : ℕ) → GoesOn t old new by before after → after ≤ before + 1
one_more t old new by before after (inl same) = let e = same.1 in omega (arith, e)
one_more t old new by before after (inr more) = let e = more.1 in omega (arith, e)

pub told : {T E : Type 0} {P : Type 0} (r : Result T E) → P → OnErr r P
told (Ok x) p = tt
told (Err e) p = p
