use Rattle.std.proofs.Common.{◌≡◌}
use Rattle.serde_json.specs.View.{members_view}
use Rattle.ht_api.specs.Fits.{parts_of}
use Rattle.ht_api.proofs.Fitting.{before}
use Rattle.ht_api.proofs.KeysAscend.{Follows}
use Rattle.ht_api.proofs.fits.parts_of.Given as goal

abbrev pub invariant-loop-key : goal.invariant-loop-key
invariant-loop-key l = record {
  found : parts_of (members_view l.fn.members.entries) ≡ before l.parts (parts_of (members_view l.key-iterator));
  follows : Follows l.parts l.key-iterator;
}
