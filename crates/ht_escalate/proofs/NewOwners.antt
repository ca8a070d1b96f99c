-- To whom a reassignment gives the task.
use Rattle.std.proofs.Common.{◌≡◌, ◌∙◌, ℕ, Bool, IfSome, List, Option, Some, ap, subst}
use Rattle.ht_escalate.specs.declared.reassigning.Owners.{Owners}

-- what holds of the model that is there
pub of_this : {A : Type 0} (P : A → Type 0) (o : Option A) (x : A) → o ≡ Some x → IfSome o P → P x
of_this {A = A} P o x at p = let Q : Option A → Type 0 = λ y. IfSome y P in subst Q at p

abbrev owners : List ℕ → Bool → Owners
owners persons by_group = record { persons = persons; by_group = by_group }

pub same_owners : (ps qs : List ℕ) (a b : Bool) → ps ≡ qs → a ≡ b → owners ps a ≡ owners qs b
same_owners ps qs a b e f = ap (λ l. owners l a) e ∙ ap (λ b. owners qs b) f
