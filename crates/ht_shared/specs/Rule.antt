-- The rule of the turn lock: what holds between any two steps of any threads.
-- Its four words are `next` (how many tickets were drawn), `count` (how many calls were entered),
-- `serving` (the ticket whose turn it is) and `passes` (how many numbers of passes were drawn). In
-- its one slot lies the machine while no pass is inside.
use Rattle.std.specs.Prelude.{◌≡◌, ◌⊎◌, ℕ, ◌+◌, ◌^◌, ◌<◌, ◌≤◌, true, false, cond, List, [], ◌∷◌, length, Option, Some, None, Contains, All}
use mathlib.Core.Option.{Option as Maybe, some, none}
use mathlib.Core.List.{IsPrefix}
use lib.ListN.{get_elem?}
use Rattle.atomic_table.specs.Table.{State}
use Rattle.ht_base.specs.History.{Entry, IsLegal, end_of, own}
use Rattle.ht_shared.specs.declared.view.View.{View}

-- f of each, added up
abbrev pub total : {V : Type 0} → (V → ℕ) → List V → ℕ
total f [] = 0
total f (v ∷ vs) = f v + total f vs

-- one where there is a number, and else none
abbrev pub held : Option ℕ → ℕ
held None = 0
held (Some n) = 1

-- the numbers of a pass that knows the machine at the beginning
abbrev pub if_live : {T : Type 0} → Option T → List ℕ → List ℕ
if_live None ns = []
if_live (Some x) ns = ns

module _ {T E R : Type 0} where
  -- what a join leaves of the pass that was joined
  abbrev pub left_by_join : View T E R
  left_by_join = record { start = None; number = 0; seen = []; ended = []; drawn = 0; found = 0; given = 0; to_give = None; ticket = None; inside = false; entered = false; before = [] }

  -- the first pass before the machine lies in the slot
  abbrev pub newcomer : View T E R
  newcomer = record { start = None; number = 0; seen = []; ended = []; drawn = 0; found = 0; given = 1; to_give = None; ticket = None; inside = false; entered = false; before = [] }

  -- the same, with the empty slot in its hands
  abbrev pub opener : View T E R
  opener = record { start = None; number = 0; seen = []; ended = []; drawn = 0; found = 0; given = 1; to_give = None; ticket = None; inside = true; entered = false; before = [] }

  -- the first pass once the machine lies in the slot
  abbrev pub beginner : T → View T E R
  beginner start = record { start = Some start; number = 0; seen = []; ended = []; drawn = 0; found = 0; given = 1; to_give = None; ticket = None; inside = false; entered = false; before = [] }

  -- the numbers whose calls a pass answers for: its own, and those of the passes that were joined
  -- into it
  abbrev pub numbers : View T E R → List ℕ
  numbers v = if_live v.start (v.number ∷ v.ended)

  -- what was joined is a beginning of what is seen, which has no more calls of those numbers
  abbrev pub Continues : List (Entry T E R) → List ℕ × List (Entry T E R) → Type 0
  Continues seen b = IsPrefix b.1 seen × ((n : ℕ) → Contains b.0 n → own n seen ≡ own n b.1)

  -- ---- one pass

  pub record IsLive (start : T) (next serving given passes : ℕ) (history : List (Entry T E R)) (v : View T E R) : Type 0 where
    -- it knows the machine at the beginning
    pub start_is : v.start ≡ Some start
    -- what it has seen is a beginning of the history
    pub is_beginning : IsPrefix v.seen history
    -- of the calls of its numbers it has seen all
    pub own_seen : (n : ℕ) → Contains (numbers v) n → own n history ≡ own n v.seen
    -- its numbers were given
    pub numbers_given : (n : ℕ) → Contains (numbers v) n → n < given
    -- its own number isn't one of those that were joined into it
    pub own_once : Contains v.ended v.number → ⊥
    -- its ticket was drawn, and its turn isn't over
    pub ticket : (n : ℕ) → v.ticket ≡ Some n → (serving ≤ n) × (n < next)
    -- inside it has the ticket whose turn it is, has seen the whole history, and this has a call
    -- for each turn before, and one more once it has entered its own
    pub inside : v.inside ≡ true → (v.ticket ≡ Some serving) × (v.seen ≡ history) × (length history ≡ serving + cond v.entered 1 0)
    -- what it found of `next` and `count` where no ticket was left is at most what they are
    pub drawn : v.drawn ≤ next
    pub found : v.found ≤ length history
    -- the first pass knows how many were given; as many numbers were drawn, or one more while it
    -- has a number to give
    pub first_pass : v.number ≡ 0 → (v.given ≡ given) × (passes ≡ given + held v.to_give)
    -- the first pass alone may have a number to give, which is the next
    pub next_number : (n : ℕ) → v.to_give ≡ Some n → (v.number ≡ 0) × (n ≡ given)
    -- what the last join made one is a beginning of what it has seen
    pub before : All (Continues v.seen) v.before

  -- ---- all passes

  abbrev pub AreLive : T → ℕ → ℕ → ℕ → ℕ → List (Entry T E R) → List (View T E R) → Type 0
  AreLive start next serving given passes history views = (by : ℕ) (v : View T E R) → get_elem? views by ≡ some v → (v ≡ left_by_join) ⊎ IsLive start next serving given passes history v

  -- a machine in the slot stands at the end of the history, each turn before has its call, and no
  -- pass is inside; where the slot is empty a pass is inside
  abbrev pub IsSlot : T → ℕ → List (Entry T E R) → List (View T E R) → Maybe (Option T) → Type 0
  IsSlot start serving history views (some (Some x)) = (end_of start history ≡ x) × (length history ≡ serving) × ((by : ℕ) (v : View T E R) → get_elem? views by ≡ some v → v.inside ≡ false)
  IsSlot start serving history views (some None) = ⊥
  IsSlot start serving history views none = (by : ℕ) × (v : View T E R) × (get_elem? views by ≡ some v) × (v.inside ≡ true)

  -- no two passes have one ticket
  abbrev pub AreTicketsApart : List (View T E R) → Type 0
  AreTicketsApart views = (by other : ℕ) (v w : View T E R) (n : ℕ) → get_elem? views by ≡ some v → get_elem? views other ≡ some w → v.ticket ≡ Some n → w.ticket ≡ Some n → by ≡ other

  -- no two passes answer for one number
  abbrev pub AreNumbersApart : List (View T E R) → Type 0
  AreNumbersApart views = (by other : ℕ) (v w : View T E R) (n : ℕ) → get_elem? views by ≡ some v → get_elem? views other ≡ some w → Contains (numbers v) n → Contains (numbers w) n → by ≡ other

  -- some pass answers for the number
  abbrev pub IsAnswered : List (View T E R) → ℕ → Type 0
  IsAnswered views n = (by : ℕ) × (v : View T E R) × (get_elem? views by ≡ some v) × Contains (numbers v) n

  -- some pass that answers for a number has seen the whole history
  abbrev pub IsSeen : List (Entry T E R) → List (View T E R) → Type 0
  IsSeen history views = (by : ℕ) × (v : View T E R) × (get_elem? views by ≡ some v) × (0 < length (numbers v)) × (v.seen ≡ history)

  pub record Numbered (given : ℕ) (history : List (Entry T E R)) (views : List (View T E R)) : Type 0 where
    -- the passes answer for as many numbers as were given
    pub count : total (λ (v : View T E R). length (numbers v)) views ≡ given
    pub apart : AreNumbersApart views
    -- some pass answers for each call
    pub entries : All (λ (e : Entry T E R). IsAnswered views e.pass) history
    -- the history is the longest that was seen
    pub longest : IsSeen history views

  -- ---- the rule

  pub record Kept (relates : T → E → R → T → Type 0) (stands : T → Type 0) (start : T) (s : State (Option T) (View T E R)) : Type 0 where
    pub next : ℕ
    pub serving : ℕ
    pub given : ℕ
    pub passes : ℕ
    pub history : List (Entry T E R)
    pub home : Maybe (Option T)
    -- `count` is the length of the one history
    pub words : s.words ≡ next ∷ length history ∷ serving ∷ passes ∷ []
    pub homes : s.homes ≡ home ∷ []
    -- there are 2^63 tickets, and as many numbers of passes as a `u32` counts
    pub next_bound : next ≤ 2 ^ 63
    pub passes_bound : passes ≤ 4294967295
    pub given_bound : given ≤ passes
    -- as many tickets are out as from `serving` to `next`
    pub tickets : next ≡ serving + total (λ (v : View T E R). held v.ticket) s.views
    -- the history is legal, and the machine at its end stands
    pub legal : IsLegal relates start history
    pub standing : stands (end_of start history)
    pub slot : IsSlot start serving history s.views home
    pub views : AreLive start next serving given passes history s.views
    pub apart : AreTicketsApart s.views
    pub numbered : Numbered given history s.views

  -- before the machine lies in the slot, there is the first pass alone
  pub record Opens (s : State (Option T) (View T E R)) : Type 0 where
    pub words : s.words ≡ 0 ∷ 0 ∷ 0 ∷ 1 ∷ []
    pub stage : ((s.homes ≡ some None ∷ []) × (s.views ≡ newcomer ∷ [])) ⊎ ((s.homes ≡ none ∷ []) × (s.views ≡ opener ∷ []))

  abbrev pub Holds : (T → E → R → T → Type 0) → (T → Type 0) → T → State (Option T) (View T E R) → Type 0
  Holds relates stands start s = Opens s ⊎ Kept relates stands start s
