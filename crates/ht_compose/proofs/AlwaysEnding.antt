-- The end of what is to be done is always reached.
use Rattle.std.proofs.Common.{ℕ, ◌+◌, ◌*◌, ◌<◌, ◌≤◌, zero, suc, List, [], ◌∷◌, arith}
use Rattle.std.specs.List.{AllByRecursion}
use Rattle.ht_base.specs.declared.moment.Moment.{Moment}
use Rattle.ht_compose.proofs.Ending.{first_and_rest}
use Rattle.ht_compose.proofs.InOrder.{StayInOrder, order_before, order_then}
use Rattle.ht_compose.proofs.Keeping.{Fit}
use Rattle.ht_compose.proofs.Stepping.{AreLight, rank, steps, weight}
use Rattle.ht_compose.specs.Agenda.{Ends}
use Rattle.ht_compose.specs.Agenda.Ends.{end}
use Rattle.ht_compose.specs.Items.{Does, Item}
use Rattle.ht_compose.specs.Items.Item.{Activate, Begin, Check, Close, Make, Next, Up}
use Rattle.ht_compose.specs.Work.{AlwaysEnds, CanEnd, ClosesForGood, work}
use Rattle.ht_tree.specs.Tables.{TablesOf}

pub record Reached (at : Moment) (u : TablesOf) (is : List Item) : Type 0 where
  pub new : TablesOf
  pub ends : Ends (Does at) u is new
  pub fit : Fit new
  pub less : work new ≤ work u
  pub order : StayInOrder u new

pub lighter : (old new : TablesOf) (n m : ℕ) (is : List Item) → work new ≤ work old → n ≤ m → AreLight old n is → AreLight new m is
lighter old new n m [] h g l = tt
lighter old new n m (i ∷ is) h g l = (l.0, let w = l.1 in omega (arith, w, h, g), lighter old new n m is h g l.2)

abbrev Reaches : Moment → ℕ → Type 0
Reaches at n = (u : TablesOf) (is : List Item) → Fit u → AreLight u n is → Reached at u is

none : (at : Moment) (u : TablesOf) → Fit u → Reached at u []
none at u fit = record { new = u; ends = end; fit = fit; less = omega arith; order = order_before u }

-- first what the first item puts, and then the rest
one_level_more : (at : Moment) (n : ℕ) → Reaches at n → Reaches at (suc n)
one_level_more at n below u [] fit light = none at u fit
one_level_more at n below u (i ∷ is) fit light =
    let s = steps at u i fit light.0 in
    let w = light.1 in
    let fallen = (s.falls).less in
    let first = below (s.done).tables (s.done).puts (s.falls).fit (lighter (s.done).tables (s.done).tables (weight u i) n (s.done).puts (omega arith) (omega (arith, w)) (s.falls).light) in
    let further = first.less in
    let rest = one_level_more at n below first.new is first.fit (lighter u first.new (suc n) (suc n) is (omega (arith, fallen, further)) (omega arith) light.2) in
    let last = rest.less in
    record {
      new = rest.new;
      ends = first_and_rest (Does at) u first.new rest.new i is s.done s.does first.ends rest.ends;
      fit = rest.fit;
      less = omega (arith, fallen, further, last);
      order = order_then u (s.done).tables rest.new (s.falls).order (order_then (s.done).tables first.new rest.new first.order rest.order);
    }

reaches : (at : Moment) (n : ℕ) → Reaches at n
reaches at zero u [] fit light = none at u fit
reaches at zero u (i ∷ is) fit light = absurd (let w = light.1 in omega (arith, w))
reaches at (suc n) u is fit light = one_level_more at n (reaches at n) u is fit light

rank_is_small : (i : Item) → rank i < 8
rank_is_small (Activate t) = omega arith
rank_is_small (Begin t) = omega arith
rank_is_small (Make t e) = omega arith
rank_is_small (Check t) = omega arith
rank_is_small (Close t state) = omega arith
rank_is_small (Up p c) = omega arith
rank_is_small (Next p c) = omega arith

all_light : (u : TablesOf) (is : List Item) → AllByRecursion ClosesForGood is → AreLight u (work u * 8 + 8) is
all_light u [] ends = tt
all_light u (i ∷ is) ends = (ends.0, let r = rank_is_small i in omega (arith, r), all_light u is ends.1)

-- there the rows stand at their numbers, and are in order as they were before
pub end_reached : (at : Moment) (u : TablesOf) (items : List Item) → CanEnd u items → Reached at u items
end_reached at u items can = reaches at (work u * 8 + 8) u items (record { numbered = can.numbered; sized = can.sized }) (all_light u items can.closings)

pub always_ends : (at : Moment) → AlwaysEnds at
always_ends at u items can = let r = end_reached at u items can in (r.new, r.ends)
