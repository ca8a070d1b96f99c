-- A walk meets places, one after another.
use Rattle.std.proofs.Common.{◌≡◌, ◌≢◌, ◌∙◌, ℕ, ◌+◌, ◌<◌, zero, suc, Bool, true, false, ◌||◌, ◌==◌, List, [], ◌∷◌, ◌++◌, length, take, Some, ap, arith, get_or-set_other, get_or-set_same, inl, inr, refl, sym}
use Rattle.std.specs.Prelude.{slice_get, slice_index_or, slice_set}
use Rattle.std.proofs.Math.Bool.{or-false, or-true, or_assoc}
use Rattle.std.proofs.lemmas.Bool.{eqb-false, eqb-true, or_cases}
use Rattle.std.proofs.lemmas.List.{take_more}
use Rattle.std.proofs.lemmas.List.Folds.{list_any-append}
use Rattle.std.proofs.lemmas.Option.{get_or_from_slice_get, slice_get_within}
use Rattle.ht_base.specs.Persons.{has}
use Rattle.ht_graph.specs.Walking.{Meets, unmet}

has_push : (place m : ℕ) (ms : List ℕ) → has place (ms ++ m ∷ []) ≡ (has place ms || (m == place))
has_push place m ms = list_any-append (λ p. p == place) ms (m ∷ []) ∙ ap (λ (b : Bool). has place ms || b) (or-false (m == place))

has_more : (place m i : ℕ) (ms : List ℕ) → slice_get ms i ≡ Some m → has place (take (i + 1) ms) ≡ (has place (take i ms) || (m == place))
has_more place m i ms at =
    let put : take (i + 1) ms ≡ take i ms ++ m ∷ [] = take_more ms i m (slice_get_within ms i m at) ∙ ap (λ (x : ℕ). take i ms ++ x ∷ []) (get_or_from_slice_get ms i m m at) in
    ap (has place) put ∙ has_push place m (take i ms)

-- a place that is marked
marked : (met : List Bool) (m place : ℕ) → m < length met → slice_index_or (slice_set met m true) place false ≡ (slice_index_or met place false || (m == place))
marked met m place low = at (m == place) refl
  where
    at : (b : Bool) → (m == place) ≡ b → slice_index_or (slice_set met m true) place false ≡ (slice_index_or met place false || b)
    at true e = let one = eqb-true m place e in rw (← one) (get_or-set_same met m true false low ∙ sym (or-true (slice_index_or met m false)))
    at false e = let ne : place ≢ m = (λ one. eqb-false m place e (sym one)) in get_or-set_other met m place true false ne ∙ sym (or-false (slice_index_or met place false))

pub marked_once : (met : List Bool) (m : ℕ) → m < length met → slice_index_or met m false ≡ false → unmet (slice_set met m true) + 1 ≡ unmet met
marked_once [] m low e = absurd (omega arith)
marked_once (b ∷ met) zero low e = let no : b ≡ false = e in rw no (omega arith)
marked_once (b ∷ met) (suc m) low e = let rest = marked_once met m (omega arith) e in omega arith

module _ (ms : List ℕ) (i m : ℕ) (at : slice_get ms i ≡ Some m) (old mid : List Bool) (before pending : List ℕ) (meets : Meets (take i ms) old mid before pending) where
  -- it was met
  pub met_again : slice_index_or mid m false ≡ true → Meets (take (i + 1) ms) old mid before pending
  met_again is = record { met = λ place. rw (has_more place m i ms at) (each place (m == place) refl); open_still = meets.open_still; newly = meets.newly; from_these = meets.from_these }
    where
      each : (place : ℕ) (b : Bool) → (m == place) ≡ b → slice_index_or mid place false ≡ (slice_index_or old place false || (has place (take i ms) || b))
      each place true e =
          let one = eqb-true m place e in
          let there : slice_index_or mid place false ≡ true = rw (← one) is in
          there ∙ sym (ap (λ (b : Bool). slice_index_or old place false || b) (or-true (has place (take i ms))) ∙ or-true (slice_index_or old place false))
      each place false e = meets.met place ∙ sym (ap (λ (b : Bool). slice_index_or old place false || b) (or-false (has place (take i ms))))

  -- it wasn't
  pub met_newly : m < length mid → Meets (take (i + 1) ms) old (slice_set mid m true) before (pending ++ m ∷ [])
  met_newly low = record {
    met = λ place. marked mid m place low ∙ ap (λ (b : Bool). b || (m == place)) (meets.met place) ∙ or_assoc (slice_index_or old place false) (has place (take i ms)) (m == place) ∙ sym (ap (λ (b : Bool). slice_index_or old place false || b) (has_more place m i ms at));
    open_still = λ place h. has_push place m pending ∙ ap (λ (b : Bool). b || (m == place)) (meets.open_still place h);
    newly = λ place h was. elim (or_cases (slice_index_or mid place false) (m == place) (sym (marked mid m place low) ∙ h)) [
      | inl e ↦ has_push place m pending ∙ ap (λ (b : Bool). b || (m == place)) (meets.newly place e was)
      | inr e ↦ has_push place m pending ∙ ap (λ (b : Bool). has place pending || b) e ∙ or-true (has place pending)
    ];
    from_these = λ place h. elim (or_cases (has place pending) (m == place) (sym (has_push place m pending) ∙ h)) [
      | inl e ↦ elim (meets.from_these place e) [ inl b ↦ inl b | inr n ↦ inr (marked mid m place low ∙ ap (λ (b : Bool). b || (m == place)) n) ]
      | inr e ↦ inr (marked mid m place low ∙ ap (λ (b : Bool). slice_index_or mid place false || b) e ∙ or-true (slice_index_or mid place false))
    ];
  }
