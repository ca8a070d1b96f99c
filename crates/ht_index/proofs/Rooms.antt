-- Room for moves in the sets of all keys.
use Rattle.std.proofs.Common.{ℕ, ◌+◌, ◌<◌, ◌≤◌, List, length, get_or, ap, sym, subst, ◌∙◌, inl, inr, arith}
use Rattle.std.proofs.lemmas.Bool.{cases_eq}
use Rattle.std.proofs.lemmas.List.{get_or_default}
use Rattle.ht_index.specs.declared.moves.Move.{Move}
use Rattle.ht_index.specs.SetMoves.{HasRoomFor, reach_at}
use Rattle.ht_index.specs.Sets.{TasksOf}

pub room_kept : (old new : List TasksOf) (m : Move) → ((k : ℕ) → reach_at k old ≤ reach_at k new) → HasRoomFor old m → HasRoomFor new m
room_kept old new m kept room comes = omega (arith, kept m.key, room comes)

-- there is room for the moves in front of a place
abbrev pub AreRoomFor : List TasksOf → List Move → ℕ → Type 0
AreRoomFor sets moves i = (k : ℕ) (d : Move) → k < i → HasRoomFor sets (get_or moves k d)

pub room_for_next : (old new : List TasksOf) (moves : List Move) (i : ℕ) (d : Move) → i < length moves → ((k : ℕ) → reach_at k old ≤ reach_at k new) → AreRoomFor old moves i → HasRoomFor new (get_or moves i d) → AreRoomFor new moves (i + 1)
room_for_next old new moves i d low kept room here k e within = elim (cases_eq k i) [
  | inl same ↦ subst (HasRoomFor new) (get_or_default moves i d e low ∙ ap (λ n. get_or moves n e) (sym same)) here
  | inr other ↦ room_kept old new (get_or moves k e) kept (room k e (omega arith))
]
