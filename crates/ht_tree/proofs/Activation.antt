-- That the owner whom the potential owners give a task is a person, whom the state wants.
use Rattle.std.proofs.Common.{◌≡◌, ℕ, ◌<◌, false, true, ◌||◌, List, [], ◌∷◌, IfSome, refl, sym, ap, eq-eqb}
use Rattle.ht_base.specs.declared.state.State.{State}
use Rattle.ht_base.specs.Persons.{AllBelow}
use Rattle.ht_tree.specs.Activation.{owner_by, state_by}
use Rattle.ht_tree.specs.Soundness.{AreApart, IsWhose, is_owned}

pub owner_known : (persons : ℕ) (owners : List ℕ) → AllBelow persons owners → IfSome (owner_by owners) (λ p. p < persons)
owner_known persons [] all = tt
owner_known persons (p ∷ []) all = all.0
owner_known persons (p ∷ q ∷ ps) all = tt

pub by_people : (persons : ℕ) (others : List ℕ) (state : State) (owners : List ℕ) → AllBelow persons owners → AreApart owners others → is_owned state ≡ false → IsWhose persons true others (state_by owners state) (owner_by owners)
by_people persons others state [] all apart fit = record { owned = sym fit; ownerless = refl; known = tt; allowed = tt }
by_people persons others state (p ∷ []) all apart fit = record { owned = refl; ownerless = refl; known = all.0; allowed = apart p (ap (λ b. b || false) (eq-eqb p p refl)) }
by_people persons others state (p ∷ q ∷ ps) all apart fit = record { owned = refl; ownerless = refl; known = tt; allowed = tt }
