use Rattle.std.proofs.Common.{◌≡◌, ◌≤◌, filter, fold, map, take}
use Rattle.ht_lists.specs.Best.{Bounds, told, with_key}
use Rattle.ht_lists.specs.Keys.{key_of}
use Rattle.ht_lists.specs.Offering.{is_asked}
use Rattle.ht_lists.proofs.offering.offer_each.Given as goal

abbrev pub invariant-loop-before : goal.invariant-loop-before
invariant-loop-before l = record {
  offered : told l.best (l.walk).offers.total ≡ fold with_key (l.fn).best (map key_of (filter (is_asked (l.tables).tables l.person l.role l.which) (take l.before ((l.tables).tables).rows)));
  few : (l.walk).offers.total ≤ l.before;
  bounds : Bounds (l.best).limit (l.best).keys (l.walk).offers.bound;
}
