-- What the rule says of every moment between two steps.
use Rattle.std.specs.Prelude.{◌≡◌, ◌≢◌, ℕ, ◌-◌, ◌^◌, ◌<◌, List, length, slice_index, Option, Some}
use mathlib.Core.Option.{some}
use mathlib.Core.List.{IsPrefix}
use lib.ListN.{get_elem?}
use Rattle.atomic_table.specs.Table.{State}
use Rattle.ht_base.specs.History.{Entry, IsLegal, end_of}
use Rattle.ht_shared.specs.declared.view.View.{View}
use Rattle.ht_shared.specs.Rule.{IsSeen}

module _ {T E R : Type 0} where
  -- the machine x lies in the slot
  pub record Lies (relates : T → E → R → T → Type 0) (stands : T → Type 0) (start x : T) (s : State (Option T) (View T E R)) : Type 0 where
    -- there is one legal history, as long as the word `count` says
    pub history : List (Entry T E R)
    pub legal : IsLegal relates start history
    pub count : slice_index s.words 1 ≡ length history
    -- what each pass has seen is a beginning of it, and some pass has seen it all
    pub seen : (by : ℕ) (v : View T E R) → get_elem? s.views by ≡ some v → IsPrefix v.seen history
    pub longest : IsSeen history s.views
    -- the machine stands at its end
    pub end : end_of start history ≡ x
    pub standing : stands x

  -- the pass at this place has the last ticket
  pub record IsLast (s : State (Option T) (View T E R)) (by : ℕ) : Type 0 where
    -- the word `next` has come to its end, so that no more is drawn
    pub next : slice_index s.words 0 ≡ 2 ^ 63
    -- and every other ticket is an earlier one
    pub others : (other : ℕ) (w : View T E R) (n : ℕ) → other ≢ by → get_elem? s.views other ≡ some w → w.ticket ≡ Some n → n < 2 ^ 63 - 1
