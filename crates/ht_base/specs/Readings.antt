-- The history of a value, read as one of the states that it is at.
use Rattle.std.specs.Prelude.{◌≡◌, ℕ, List, [], ◌∷◌}
use Rattle.ht_base.specs.History.{Entry}

-- an entry without the state after it
abbrev pub call_of : {S E R : Type 0} → Entry S E R → ℕ × E × R
call_of e = (e.pass, e.event, e.reply)

-- what one step relates of a value, where its states are told apart from it: from each state that it is
-- at, a step leads to a state that it is at then
abbrev pub Carries : {S T E R : Type 0}
    → (S → T → Type 0) → (S → E → R → S → Type 0) → T → E → R → T → Type 0
Carries {S} At Steps old event reply new = (s : S) → At s old → (t : S) × Steps s event reply t × At t new

-- entry by entry the calls are the same, each is a step of the states, and the value is at the state
abbrev pub Reads : {S T E R : Type 0}
    → (S → T → Type 0) → (S → E → R → S → Type 0) → S → T → List (Entry S E R) → List (Entry T E R) → Type 0
Reads At Steps s x [] [] = At s x
Reads At Steps s x [] (b ∷ hs) = ⊥
Reads At Steps s x (a ∷ ks) [] = ⊥
Reads At Steps s x (a ∷ ks) (b ∷ hs) = At s x × (call_of a ≡ call_of b) × Steps s a.event a.reply a.after × Reads At Steps a.after b.after ks hs
