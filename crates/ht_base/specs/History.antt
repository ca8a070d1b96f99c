-- Histories of a machine that goes on step by step, whatever its states, events and replies are.
use Rattle.std.specs.Prelude.{ℕ, ◌==◌, List, [], ◌∷◌, filter}
use Rattle.ht_base.specs.declared.entry.Entry.{Entry as Call}

-- one event with its reply, the state after it, and the number of the caller's pass
abbrev pub Entry : Type 0 → Type 0 → Type 0 → Type 0
Entry S E R = Call S E R

-- each entry is a step from the state that the one before it left, the first from this state
abbrev pub IsLegal : {S E R : Type 0} → (S → E → R → S → Type 0) → S → List (Entry S E R) → Type 0
IsLegal Step old [] = Unit {0}
IsLegal Step old (e ∷ es) = Step old e.event e.reply e.after × IsLegal Step e.after es

-- the state at the end of a history that begins with this one
abbrev pub end_of : {S E R : Type 0} → S → List (Entry S E R) → S
end_of old [] = old
end_of old (e ∷ es) = end_of e.after es

-- the entries of one pass
abbrev pub own : {S E R : Type 0} → ℕ → List (Entry S E R) → List (Entry S E R)
own pass history = filter (λ e. e.pass == pass) history
