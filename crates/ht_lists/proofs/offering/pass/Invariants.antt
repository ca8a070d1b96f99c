use Rattle.std.proofs.Common.{◌≡◌, ◌+◌, ◌≤◌, fold, length}
use Rattle.ht_lists.specs.Best.{told, with_key}
use Rattle.ht_lists.specs.Offering.{asked_keys}
use Rattle.ht_lists.proofs.offering.pass.Given as goal

abbrev pub invariant-parts : goal.invariant-parts
invariant-parts l = record {
  offered : fold with_key (told l.best (l.walk).offers.total) (asked_keys (l.tables).tables l.person l.role l.which l.rest) ≡ fold with_key (told l.best ((l.fn).walk).offers.total) (asked_keys (l.tables).tables l.person l.role l.which (l.fn).rest);
  few : (l.walk).offers.total + length l.rest ≤ ((l.fn).walk).offers.total + length (l.fn).rest;
  less : length l.rest ≤ length (l.fn).rest;
  bound : (l.walk).offers.bound ≡ ((l.fn).walk).offers.bound;
}

abbrev pub decreases-parts : goal.decreases-parts
decreases-parts l = length l.rest
