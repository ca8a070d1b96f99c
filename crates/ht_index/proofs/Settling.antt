-- Which list there is once tasks have moved.
use Rattle.std.proofs.Common.{◌≡◌, ℕ, ◌==◌, ◌&&◌, Bool, true, false, if◌then◌else◌, List, [], ◌∷◌, fold, refl, sym, ap, subst, ◌∙◌, inl, inr, eq-eqb}
use Rattle.std.specs.List.{AllByRecursion, list_any}
use Rattle.std.proofs.lemmas.Bool.{cases_eq, eqb-true}
use Rattle.ht_base.specs.declared.task_id.TaskId.{TaskId}
use Rattle.ht_index.specs.declared.moves.Move.{Move}
use Rattle.ht_index.specs.Indexes.{Ascends, has, is_of, moved, with_task, without_task}
use Rattle.ht_index.proofs.Members.{one_list, with_it, with_other, without_it, without_other}
use Rattle.ht_index.proofs.Places.{ascends_with, ascends_without}
use Rattle.ht_index.proofs.Slots.{moved_here, moved_there}

-- the moves of this key say of each task whether it is wanted
abbrev pub SayWhether : ℕ → (ℕ → Bool) → List Move → Type 0
SayWhether key wanted moves = AllByRecursion (λ m. m.key ≡ key → m.comes ≡ wanted m.task.0) moves

module _ (key : ℕ) (wanted : ℕ → Bool) where
  -- one that moved is there where it is wanted
  it_moved : (m : Move) (tasks : List TaskId) → key ≡ m.key → m.comes ≡ wanted m.task.0 → has m.task.0 (moved key tasks m) ≡ wanted m.task.0
  it_moved m tasks e says = ap (has m.task.0) (moved_here key tasks m e) ∙ at m.comes ∙ says
    where
      at : (b : Bool) → has m.task.0 (if b then with_task m.task tasks else without_task m.task tasks) ≡ b
      at true = with_it m.task tasks
      at false = without_it m.task tasks

  other_moved : (n : ℕ) (m : Move) (tasks : List TaskId) → is_of key n m ≡ false → has n (moved key tasks m) ≡ has n tasks
  other_moved n m tasks apart_from = elim (cases_eq key m.key) [
    | inr other ↦ ap (has n) (moved_there key tasks m other)
    | inl e ↦ ap (has n) (moved_here key tasks m e) ∙ at m.comes (differs e)
  ]
    where
      differs : key ≡ m.key → m.task.0 ≡ n → ⊥
      differs e f =
          let both : is_of key n m ≡ true = ap (λ b. b && (m.task.0 == n)) (eq-eqb m.key key (sym e)) ∙ eq-eqb m.task.0 n f in
          let no : true ≡ false = sym both ∙ apart_from in
          cc

      at : (b : Bool) → (m.task.0 ≡ n → ⊥) → has n (if b then with_task m.task tasks else without_task m.task tasks) ≡ has n tasks
      at true other = with_other n m.task other tasks
      at false other = without_other n m.task tasks other

  ascends_moved : (m : Move) (tasks : List TaskId) → Ascends tasks → Ascends (moved key tasks m)
  ascends_moved m tasks up = elim (cases_eq key m.key) [
    | inr other ↦ subst Ascends (sym (moved_there key tasks m other)) up
    | inl e ↦ subst Ascends (sym (moved_here key tasks m e)) (at m.comes)
  ]
    where
      at : (b : Bool) → Ascends (if b then with_task m.task tasks else without_task m.task tasks)
      at true = ascends_with m.task tasks up
      at false = ascends_without m.task tasks up

  -- those that don't move stand right already
  abbrev pub OthersStand : List TaskId → List Move → Type 0
  OthersStand tasks moves = (n : ℕ) → list_any (is_of key n) moves ≡ false → has n tasks ≡ wanted n

  settled : (moves : List Move) (tasks : List TaskId) → Ascends tasks → SayWhether key wanted moves → OthersStand tasks moves → Ascends (fold (moved key) tasks moves) × ((n : ℕ) → has n (fold (moved key) tasks moves) ≡ wanted n)
  settled [] tasks up say others = (up, λ n. others n refl)
  settled (m ∷ moves) tasks up say others = settled moves (moved key tasks m) (ascends_moved m tasks up) say.1 (λ n none. at n (is_of key n m) refl none)
    where
      at : (n : ℕ) (b : Bool) → is_of key n m ≡ b → list_any (is_of key n) moves ≡ false → has n (moved key tasks m) ≡ wanted n
      at n true is none =
          let e = both (m.key == key) (m.task.0 == n) is in
          let k : m.key ≡ key = eqb-true m.key key e.0 in
          let f : m.task.0 ≡ n = eqb-true m.task.0 n e.1 in
          ap (λ i. has i (moved key tasks m)) (sym f) ∙ it_moved m tasks (sym k) (say.0 k) ∙ ap wanted f
        where
          both : (a b : Bool) → (a && b) ≡ true → (a ≡ true) × (b ≡ true)
          both true true e = (refl, refl)
          both true false e = absurd cc
          both false b e = absurd cc
      at n false is none = other_moved n m tasks is ∙ others n (rw is none)

  -- so they are the list of those that are wanted
  pub made : (moves : List Move) (tasks all : List TaskId) → Ascends tasks → Ascends all → ((n : ℕ) → has n all ≡ wanted n) → SayWhether key wanted moves → OthersStand tasks moves → fold (moved key) tasks moves ≡ all
  made moves tasks all up also are say others =
      let s = settled moves tasks up say others in
      one_list (fold (moved key) tasks moves) all s.0 also (λ n. s.1 n ∙ sym (are n))
