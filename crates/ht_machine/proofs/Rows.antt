-- Rows that are found.
use Rattle.std.proofs.Common.{◌≡◌, Option, Some}

-- one thing is found
pub one : {A : Type 0} (o : Option A) (x y : A) → o ≡ Some x → o ≡ Some y → x ≡ y
one o x y e f = cc
