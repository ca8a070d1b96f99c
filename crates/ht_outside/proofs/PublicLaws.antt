-- Laws of the definitions, for the proofs of crates above: how takings and writings go on, and the faults of two objects.
use Rattle.std.proofs.Common.{◌⊎◌, ⊎_elim, inl, inr, ◌+◌, ◌-◌, ◌^◌, ◌<◌, ◌≤◌, arith, List, [], ◌++◌, ℕ, refl, append-nil, append_assoc, ap, sym, ◌∙◌, Option, Some, None}
use Rattle.std.proofs.lemmas.Bool.{cases_lt}
use Rattle.ht_outside.specs.Causes.{Rose, together}
use Rattle.ht_outside.specs.Tells.{Flow, Takes, Grows}

pub Takes-trans : (f g h : Option Flow) (xs ys : List ℕ) → Takes f g xs → Takes g h ys → Takes f h (xs ++ ys)
Takes-trans None None None xs ys a b = tt
Takes-trans None None (Some h) xs ys a b = b
Takes-trans None (Some g) h xs ys a b = absurd a
Takes-trans (Some f) None h xs ys a b = absurd a
Takes-trans (Some f) (Some g) None xs ys a b = b
Takes-trans (Some f) (Some g) (Some h) xs ys a b = record {
  left = a.left ∙ ap (λ l. xs ++ l) b.left ∙ sym (append_assoc xs ys h.left);
  taken = b.taken ∙ ap (λ l. l ++ ys) a.taken ∙ append_assoc f.taken xs ys;
}

pub Takes-none : (f : Option Flow) → Takes f f []
Takes-none None = tt
Takes-none (Some f) = record { left = refl; taken = sym (append-nil f.taken) }

pub Grows-trans : (f g h : Option (List ℕ)) (xs ys : List ℕ) → Grows f g xs → Grows g h ys → Grows f h (xs ++ ys)
Grows-trans None None None xs ys a b = tt
Grows-trans None None (Some h) xs ys a b = b
Grows-trans None (Some g) h xs ys a b = absurd a
Grows-trans (Some f) None h xs ys a b = absurd a
Grows-trans (Some f) (Some g) None xs ys a b = b
Grows-trans (Some f) (Some g) (Some h) xs ys a b = b ∙ ap (λ l. l ++ ys) a ∙ append_assoc f xs ys

-- where one count rose, both together did
pub together_rose : (a b c d : ℕ) → a ≤ c → b ≤ d → Rose a c ⊎ Rose b d → Rose (together a b) (together c d)
together_rose a b c d first second (inl rose) = omega arith
together_rose a b c d first second (inr rose) = omega arith

-- and where both together rose below the end, one did
pub one_rose : (a b c d : ℕ) → a ≤ c → b ≤ d → a + b < 2 ^ 64 - 1 → Rose (together a b) (together c d) → Rose a c ⊎ Rose b d
one_rose a b c d first second below rose = ⊎_elim (λ (more : a < c). inl (omega arith)) (λ (same : c ≤ a). inr (omega arith)) (cases_lt a c)
