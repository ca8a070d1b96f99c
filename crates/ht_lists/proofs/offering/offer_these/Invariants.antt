use Rattle.std.proofs.Common.{◌≡◌, ◌+◌, ◌≤◌, fold, length}
use Rattle.ht_lists.specs.Best.{Bounds, told, with_key}
use Rattle.ht_lists.specs.Offering.{asked_keys}
use Rattle.ht_lists.proofs.offering.offer_these.Given as goal

abbrev pub invariant-found : goal.invariant-found
invariant-found l = record {
  offered : fold with_key (told l.best (l.walk).offers.total) (asked_keys (l.tables).tables l.person l.role l.which l.rest) ≡ fold with_key (l.fn).best (asked_keys (l.tables).tables l.person l.role l.which (l.tasks).tasks);
  few : (l.walk).offers.total + length l.rest ≤ ((l.fn).best).total + length (l.tasks).tasks;
  bounds : Bounds (l.best).limit (l.best).keys (l.walk).offers.bound;
}

abbrev pub decreases-found : goal.decreases-found
decreases-found l = length l.rest
