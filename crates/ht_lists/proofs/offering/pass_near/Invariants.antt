use Rattle.std.proofs.Common.{◌≡◌, ◌+◌, ◌≤◌, ◌∷◌, fold, length}
use Rattle.ht_lists.specs.Best.{told, with_key}
use Rattle.ht_lists.specs.Offering.{asked_keys}
use Rattle.ht_lists.proofs.offering.pass_near.Given as goal

abbrev pub invariant-near : goal.invariant-near
invariant-near l = record {
  offered : fold with_key (told l.best (((l.fn).walk).offers.total + l.behind)) (asked_keys (l.tables).tables l.person l.role l.which (l.id ∷ l.rest)) ≡ fold with_key (told l.best ((l.fn).walk).offers.total) (asked_keys (l.tables).tables l.person l.role l.which ((l.fn).first ∷ (l.fn).rest));
  few : l.behind + length l.rest ≤ length (l.fn).rest;
  offers : (l.walk).offers ≡ ((l.fn).walk).offers;
}

abbrev pub decreases-near : goal.decreases-near
decreases-near l = length l.rest
