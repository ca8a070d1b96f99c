-- Which text and which number a word is.
use Rattle.std.proofs.Common.{◌≡◌, ℕ, ◌<◌, Bool, true, false, List, decimal, sym, ap, ◌∙◌, ◌^◌, Some, None, Result, Ok, bytes_eq}
use Rattle.std.specs.Result.{result_ok}
use Rattle.std.specs.Str.Parse.{ParsesUnsigned, digits_value}
use Rattle.std.proofs.lemmas.Fmt.{parse-decimal, decimal_is_IsNumeral}
use Rattle.std.proofs.lemmas.Slice.Eq.{bytes_eq-Decides}
use Rattle.std.proofs.lemmas.Bool.Decides.{not_from_Decides}

pub same_text : (a b : List ℕ) (r : Bool) → r ≡ bytes_eq a b → r ≡ true → a ≡ b
same_text a b r is positive = (bytes_eq-Decides a b).0 (sym is ∙ positive)

pub other_text : (a b : List ℕ) (r : Bool) → r ≡ bytes_eq a b → r ≡ false → a ≡ b → ⊥
other_text a b r is negative same = not_from_Decides (bytes_eq a b) (bytes_eq-Decides a b) (sym is ∙ negative) same

number_parses : {E : Type 0} (text : List ℕ) (r : Result ℕ E) (n : ℕ) → ParsesUnsigned 64 10 text r → n < 2 ^ 64 → text ≡ decimal n → r ≡ Ok n
number_parses text r n parses small is = parse-decimal 64 n text r small small is parses

pub no_number : {E : Type 0} (text : List ℕ) (r : Result ℕ E) (n : ℕ) → ParsesUnsigned 64 10 text r → result_ok r ≡ None → n < 2 ^ 64 → text ≡ decimal n → ⊥
no_number text r n parses none small is = let ok = number_parses text r n parses small is in let found : Some n ≡ None = ap result_ok (sym ok) ∙ none in absurd (cc)

pub that_number : {E : Type 0} (text : List ℕ) (r : Result ℕ E) (m n : ℕ) → ParsesUnsigned 64 10 text r → result_ok r ≡ Some m → n < 2 ^ 64 → text ≡ decimal n → m ≡ n
that_number text r m n parses some small is = let ok = number_parses text r n parses small is in let found : Some n ≡ Some m = ap result_ok (sym ok) ∙ some in cc

-- two numbers that are spelled alike are one
pub same_number : (m n : ℕ) → m < 2 ^ 64 → n < 2 ^ 64 → decimal m ≡ decimal n → m ≡ n
same_number m n small other same = sym (decimal_is_IsNumeral m small).1 ∙ ap (digits_value 10) same ∙ (decimal_is_IsNumeral n other).1
