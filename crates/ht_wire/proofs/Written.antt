-- A reply that goes out by two writes.
use Rattle.std.proofs.Common.{ℕ, List, ◌++◌, sym, ap, ◌∙◌, append_assoc, Option, Result, Ok, Err}
use Rattle.std.specs.Result.{IsErr}
use Rattle.std.specs.Prelude.{⊤}
use Rattle.ht_outside.specs.Tells.{Grows, GrowsPart, WriteGrows}
use Rattle.ht_outside.proofs.PublicLaws.{Grows-trans}

-- the first piece was written, and then as much of the second as the second write says
pub second_write : {E : Type 0} (f g h : Option (List ℕ)) (xs ys : List ℕ) (result : Result ⊤ E) → Grows f g xs → WriteGrows g h result ys → WriteGrows f h result (xs ++ ys)
second_write f g h xs ys (Ok done) a b = Grows-trans f g h xs ys a b
second_write f g h xs ys (Err e) a b = (xs ++ b.0, b.1, ap (λ l. xs ++ l) b.2 ∙ sym (append_assoc xs b.0 b.1), Grows-trans f g h xs b.0 a b.3)

-- the first write failed
pub first_write : {E : Type 0} (f g : Option (List ℕ)) (xs ys : List ℕ) (result : Result ⊤ E) → IsErr result → GrowsPart f g xs → WriteGrows f g result (xs ++ ys)
first_write f g xs ys (Ok done) err part = absurd (cc)
first_write f g xs ys (Err e) err part = (part.0, part.1 ++ ys, ap (λ l. l ++ ys) part.2 ∙ append_assoc part.0 part.1 ys, part.3)
