-- What each step of the turn lock tells the pass that makes it: of `old`, its view with what it has
-- taken out of the slot, of what it found in the word, and of `new`, the same behind the step.
use Rattle.std.specs.Prelude.{◌≡◌, ℕ, ◌+◌, ◌-◌, ◌^◌, ◌≤◌, ◌==◌, max, nat_lt, true, false, cond, List, [], ◌∷◌, ◌++◌, length, Option, Some, None, MatchBool, Contains, All, unwrap_or}
use mathlib.Core.List.{IsPrefix}
use base.Stored.{Gv}
use Rattle.atomic_table.specs.Table.{Me, Step}
use Rattle.ht_base.specs.History.{Entry, IsLegal, end_of, own}
use Rattle.ht_shared.specs.declared.view.View.{View}
use Rattle.ht_shared.specs.Rule.{numbers, held, Continues, beginner, opener}

module _ {T E R : Type 0} where
  -- ---- look at `next`

  -- where no ticket is left, what was found is kept
  abbrev pub looked : View T E R → ℕ → View T E R
  looked v n = record v { drawn = cond (nat_lt n (2 ^ 63)) v.drawn n }

  abbrev pub LooksAtNext : Step (Option T) → Me (Option T) (View T E R) → ℕ → Me (Option T) (View T E R) → Type 0
  LooksAtNext s old found new = (new ≡ (looked old.0 found, old.1)) × (old.0.drawn ≤ found)

  -- ---- look at `count`

  -- where no ticket was left, all calls were entered but those of the passes that still wait
  abbrev pub counted : View T E R → ℕ → View T E R
  counted v n = record v { found = n }

  abbrev pub LooksAtCount : Step (Option T) → Me (Option T) (View T E R) → ℕ → Me (Option T) (View T E R) → Type 0
  LooksAtCount s old found new = (new ≡ (counted old.0 found, old.1)) × (2 ^ 63 ≤ old.0.drawn → 2 ^ 63 - 2 ^ 32 ≤ found)

  -- ---- draw

  -- who found the ticket that it named has it, and for who lost it nothing changes
  abbrev pub holder : View T E R → ℕ → View T E R
  holder v n = record v { ticket = Some n }

  abbrev pub Draws : Step (Option T) → Me (Option T) (View T E R) → ℕ → Me (Option T) (View T E R) → Type 0
  Draws s old found new = MatchBool (found == s.first) (new ≡ (holder old.0 s.first, old.1)) (new ≡ old)

  -- ---- arrive

  -- where `serving` is its ticket, the pass is inside and has the machine, and else nothing changes
  abbrev pub arrived : View T E R → List (Entry T E R) → View T E R
  arrived v history = record v { seen = history; inside = true; before = [] }

  pub record IsIn (relates : T → E → R → T → Type 0) (stands : T → Type 0) (old new : Me (Option T) (View T E R)) : Type 0 where
    pub value : T
    pub history : List (Entry T E R)
    -- it has taken the machine out of the slot, and has seen the whole history
    pub after : new ≡ (arrived old.0 history, (0, Some value) ∷ old.1)
    -- which goes on from what it had seen, and is legal
    pub is_beginning : IsPrefix old.0.seen history
    pub legal : (start : T) → old.0.start ≡ Some start → IsLegal relates start history
    -- the machine stands at its end
    pub end : (start : T) → old.0.start ≡ Some start → end_of start history ≡ value
    pub standing : stands value
    -- nobody else has made a call of its numbers
    pub own_seen : (n : ℕ) → Contains (numbers old.0) n → own n history ≡ own n old.0.seen
    pub own_once : Contains old.0.ended old.0.number → ⊥

  abbrev pub Arrives : (T → E → R → T → Type 0) → (T → Type 0) → Step (Option T) → Me (Option T) (View T E R) → ℕ → Me (Option T) (View T E R) → Type 0
  Arrives relates stands s old found new = (n : ℕ) → old.0.ticket ≡ Some n → MatchBool (found == n) (IsIn relates stands old new) (new ≡ old)

  -- ---- enter

  -- a call, as an entry of the history
  abbrev pub made : ℕ → E → R → T → Entry T E R
  made number event reply after = record { pass = number; event = event; reply = reply; after = after }

  -- the history ends with the call, and the machine that the pass has is the state behind it
  abbrev pub entered : View T E R → Entry T E R → View T E R
  entered v e = record v { seen = v.seen ++ e ∷ []; entered = true; before = [] }

  abbrev pub EntersAs : (E → Gv) → (R → Gv) → Gv → Gv → Step (Option T) → Me (Option T) (View T E R) → ℕ → Me (Option T) (View T E R) → Type 0
  EntersAs event_code reply_code event reply s old found new =
      (e : E) × (r : R) × (x : T) × (event_code e ≡ event) × (reply_code r ≡ reply) × (old.1 ≡ (0, Some x) ∷ [])
      × (new ≡ (entered old.0 (made old.0.number e r x), old.1))

  -- ---- pass on

  -- the machine lies in the slot again, and the pass is outside
  abbrev pub outside : View T E R → View T E R
  outside v = record v { ticket = None; inside = false; entered = false }

  abbrev pub PassesOn : Step (Option T) → Me (Option T) (View T E R) → ℕ → Me (Option T) (View T E R) → Type 0
  PassesOn s old found new = new ≡ (outside old.0, [])

  -- ---- look at `passes`

  -- the first pass alone changes the word, so it finds what it knows
  abbrev pub LooksAtPasses : Step (Option T) → Me (Option T) (View T E R) → ℕ → Me (Option T) (View T E R) → Type 0
  LooksAtPasses s old found new = (new ≡ old) × (found ≡ old.0.given + held old.0.to_give) × (found ≤ 4294967295)

  -- ---- number

  -- the first pass has a number to give, of which there is no call
  abbrev pub numbering : View T E R → View T E R
  numbering v = record v { to_give = Some v.given }

  abbrev pub Numbers : Step (Option T) → Me (Option T) (View T E R) → ℕ → Me (Option T) (View T E R) → Type 0
  Numbers s old found new = (new ≡ (numbering old.0, old.1)) × (found ≡ old.0.given) × (own old.0.given old.0.seen ≡ [])

  -- ---- seat split

  -- the number is given to a new pass, which has seen the same
  abbrev pub giver : View T E R → View T E R
  giver v = record v { given = v.given + 1; to_give = None }

  abbrev pub sibling : View T E R → View T E R
  sibling v = record { start = v.start; number = unwrap_or v.to_give 0; seen = v.seen; ended = []; drawn = 0; found = 0; given = 0; to_give = None; ticket = None; inside = false; entered = false; before = [] }

  -- ---- seat join

  -- one pass has seen what the one that saw more has
  abbrev pub longer : List (Entry T E R) → List (Entry T E R) → List (Entry T E R)
  longer xs ys = cond (nat_lt (length xs) (length ys)) ys xs

  abbrev pub joined : View T E R → View T E R → View T E R
  joined v w = record v { seen = longer v.seen w.seen; ended = v.ended ++ (w.number ∷ w.ended); drawn = max v.drawn w.drawn; found = max v.found w.found; before = (numbers v, v.seen) ∷ (numbers w, w.seen) ∷ [] }

  -- ---- look back

  -- what both had seen are beginnings of what is seen now
  abbrev pub LooksBack : Step (Option T) → Me (Option T) (View T E R) → ℕ → Me (Option T) (View T E R) → Type 0
  LooksBack s old found new = (new ≡ old) × All (Continues old.0.seen) old.0.before

  -- ---- opening

  -- the empty slot is taken out, and comes back with the machine in it
  abbrev pub TakesSlot : Step (Option T) → Me (Option T) (View T E R) → ℕ → Me (Option T) (View T E R) → Type 0
  TakesSlot s old found new = new ≡ (opener, (0, None) ∷ [])

  abbrev pub Begins : Step (Option T) → Me (Option T) (View T E R) → ℕ → Me (Option T) (View T E R) → Type 0
  Begins s old found new = (x : T) × (old.1 ≡ (0, Some x) ∷ []) × (new ≡ (beginner x, []))
