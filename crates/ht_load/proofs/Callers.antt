-- The callers' names.
use Rattle.std.proofs.Common.{◌≡◌, ℕ, ◌+◌, ◌/◌, ◌%◌, ◌<◌, ◌∙◌, ◌++◌, inl, inr, zero, suc, true, [], ◌∷◌, decimal, refl, ap, arith}
use Rattle.std.proofs.lemmas.Bool.{cases_lt}
use Rattle.std.proofs.lemmas.Fmt.{decimal_digit, decimal_step}
use Rattle.ht_base.specs.Name.{is_name}

low : (n : ℕ) → n < 10 → is_name (112 ∷ (48 + n) ∷ []) ≡ true
low zero l = refl
low (suc zero) l = refl
low (suc (suc zero)) l = refl
low (suc (suc (suc zero))) l = refl
low (suc (suc (suc (suc zero)))) l = refl
low (suc (suc (suc (suc (suc zero))))) l = refl
low (suc (suc (suc (suc (suc (suc zero)))))) l = refl
low (suc (suc (suc (suc (suc (suc (suc zero))))))) l = refl
low (suc (suc (suc (suc (suc (suc (suc (suc zero)))))))) l = refl
low (suc (suc (suc (suc (suc (suc (suc (suc (suc zero))))))))) l = refl
low (suc (suc (suc (suc (suc (suc (suc (suc (suc (suc n)))))))))) l = absurd (omega arith)

high : (n : ℕ) → n < 6 → is_name (112 ∷ 49 ∷ (48 + n) ∷ []) ≡ true
high zero l = refl
high (suc zero) l = refl
high (suc (suc zero)) l = refl
high (suc (suc (suc zero))) l = refl
high (suc (suc (suc (suc zero)))) l = refl
high (suc (suc (suc (suc (suc zero))))) l = refl
high (suc (suc (suc (suc (suc (suc n)))))) l = absurd (omega arith)

pub is_caller : (n : ℕ) → n < 16 → is_name (112 ∷ decimal n) ≡ true
is_caller n l = elim (cases_lt n 10) [
  | inl few ↦ ap (λ bs. is_name (112 ∷ bs)) (decimal_digit n few) ∙ low n few
  | inr many ↦
      let tens : n / 10 ≡ 1 = omega arith in
      let ones : n % 10 < 6 = omega arith in
      let first : decimal (n / 10) ≡ 49 ∷ [] = ap decimal tens ∙ decimal_digit 1 (omega arith) in
      ap (λ bs. is_name (112 ∷ bs)) (decimal_step n many (omega arith) ∙ ap (λ bs. bs ++ (48 + n % 10) ∷ []) first) ∙ high (n % 10) ones
]
