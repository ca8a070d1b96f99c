-- Worked examples of the definitions. A wrong reading of one fails the check.
use Rattle.std.specs.Prelude.{◌≡◌, refl, ℕ, List, [], ◌∷◌, true, false, slice_get, unwrap_or}
use Rattle.ht_graph.specs.Graphs.{is_near, leads}

-- 0 and 1 lead to each other, 2 leads to 1 and 3, and 3 to 4, which leads nowhere
abbrev pub sample : ℕ → List ℕ
sample place = unwrap_or (slice_get ((1 ∷ []) ∷ (0 ∷ []) ∷ (1 ∷ 3 ∷ []) ∷ (4 ∷ []) ∷ []) place) []

there_and_back : leads sample 2 0 0 ≡ true
there_and_back = refl

not_at_once : leads sample 1 0 0 ≡ false
not_at_once = refl

no_step_leads_to_itself : leads sample 0 4 4 ≡ true
no_step_leads_to_itself = refl

no_way_back : is_near sample 5 3 2 ≡ false
no_way_back = refl

two_steps_are_near : is_near sample 2 2 4 ≡ true
two_steps_are_near = refl

-- no step is none of one step or more
nobody_is_near_by_no_step : is_near sample 5 4 4 ≡ false
nobody_is_near_by_no_step = refl
