use Rattle.std.proofs.Common.{◌≡◌, drop}
use Rattle.serde_json.specs.View.{items_view}
use Rattle.ht_api.specs.Fits.{names_of}
use Rattle.ht_api.proofs.Fitting.{before}
use Rattle.ht_api.proofs.fits.names_of.Given as goal

abbrev pub invariant-loop-item : goal.invariant-loop-item
invariant-loop-item l = names_of (items_view l.items) ≡ before l.names (names_of (items_view (drop l.item-index l.items)))
