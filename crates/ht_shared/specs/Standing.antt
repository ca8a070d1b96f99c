-- Where a pass stands between the steps of a turn: its view, and what it has taken out of the slot.
use Rattle.std.specs.Prelude.{◌≡◌, ℕ, ◌-◌, ◌^◌, ◌≤◌, List, [], ◌∷◌, ◌++◌, Option, Some, None, false, Contains}
use Rattle.atomic_table.specs.Table.{Me}
use Rattle.atomic_table.specs.Seated.{TableId}
use Rattle.ht_base.specs.History.{Entry, IsLegal, end_of, own}
use Rattle.ht_shared.specs.declared.view.View.{View}
use Rattle.ht_shared.specs.Rule.{numbers}
use Rattle.ht_shared.specs.Plays.{made, entered, outside}

-- the board has four words and one slot, and this is a place at it
pub record IsPlaceAt (board place : TableId) : Type 0 where
  pub same : place ≡ board
  pub words : board.words ≡ 4
  pub slots : board.slots ≡ 1

module _ {T E R : Type 0} where
  -- outside, with or without a ticket
  pub record IsFree (start : T) (me : Me (Option T) (View T E R)) : Type 0 where
    pub start_is : me.0.start ≡ Some start
    pub outside : me.0.inside ≡ false
    pub entered : me.0.entered ≡ false
    pub slots : me.1 ≡ []

  -- outside, without a ticket
  pub record IsIdle (start : T) (me : Me (Option T) (View T E R)) : Type 0 where
    pub free : IsFree start me
    pub ticket : me.0.ticket ≡ None

  -- no ticket is left: the pass has kept what it found, and so many calls were entered
  abbrev pub IsLeftOut : Me (Option T) (View T E R) → Me (Option T) (View T E R) → Type 0
  IsLeftOut old new = (new ≡ (record old.0 { drawn = new.0.drawn; found = new.0.found }, [])) × (2 ^ 63 ≤ new.0.drawn) × (2 ^ 63 - 2 ^ 32 ≤ new.0.found)

  -- the pass has the machine, at the end of what it has seen
  abbrev pub HasEnd : Me (Option T) (View T E R) → Type 0
  HasEnd me = (start : T) × (x : T) × (me.0.start ≡ Some start) × (me.1 ≡ (0, Some x) ∷ []) × (end_of start me.0.seen ≡ x)

  -- the same, and the machine stands
  abbrev pub HasMachine : (T → Type 0) → Me (Option T) (View T E R) → Type 0
  HasMachine stands me = (start : T) × (x : T) × (me.0.start ≡ Some start) × (me.1 ≡ (0, Some x) ∷ []) × (end_of start me.0.seen ≡ x) × stands x

  -- the pass has the machine, one step behind the end of what it has seen, and the machine stands
  abbrev pub HasStepped : (T → E → R → T → Type 0) → (T → Type 0) → E → R → Me (Option T) (View T E R) → Type 0
  HasStepped relates stands event reply me =
      (start : T) × (x : T) × (me.0.start ≡ Some start) × (me.1 ≡ (0, Some x) ∷ []) × relates (end_of start me.0.seen) event reply x × stands x

  -- the call was entered, with the machine that the pass has as the state behind it
  abbrev pub HasEntered : E → R → Me (Option T) (View T E R) → Me (Option T) (View T E R) → Type 0
  HasEntered event reply old new = (x : T) × (old.1 ≡ (0, Some x) ∷ []) × (new ≡ (entered old.0 (made old.0.number event reply x), old.1))

  -- one step was made and entered, and the turn was passed on
  abbrev pub HasActed : (T → E → R → T → Type 0) → E → R → Me (Option T) (View T E R) → Me (Option T) (View T E R) → Type 0
  HasActed relates event reply old new =
      (start : T) × (x : T) × (old.0.start ≡ Some start) × relates (end_of start old.0.seen) event reply x × (new ≡ (outside (entered old.0 (made old.0.number event reply x)), []))

  -- ---- a whole call

  abbrev pub called : View T E R → List (Entry T E R) → View T E R
  called v history = record v { seen = history; ticket = None; inside = false; entered = false; before = [] }

  -- what is seen then goes on from what was seen, by calls of other numbers, and ends with this one
  pub record Acts (relates : T → E → R → T → Type 0) (v : View T E R) (event : E) (reply : R) (new : Me (Option T) (View T E R)) : Type 0 where
    pub after : T
    pub between : List (Entry T E R)
    pub is : new ≡ (called v ((v.seen ++ between) ++ made v.number event reply after ∷ []), [])
    pub legal : (start : T) → v.start ≡ Some start → IsLegal relates start ((v.seen ++ between) ++ made v.number event reply after ∷ [])
    pub own_seen : (n : ℕ) → Contains (numbers v) n → own n (v.seen ++ between) ≡ own n v.seen
    pub own_once : Contains v.ended v.number → ⊥
