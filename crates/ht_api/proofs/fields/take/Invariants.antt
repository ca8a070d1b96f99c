use Rattle.std.proofs.Common.{◌≡◌, drop}
use Rattle.serde_json.specs.View.{view}
use Rattle.ht_api.specs.Fields.{taken}
use Rattle.ht_api.proofs.fields.take.Given as goal

abbrev pub invariant-loop-key : goal.invariant-loop-key
invariant-loop-key l = taken l.rows (view l.body) l.fn.fields ≡ taken (drop l.key-index l.rows) (view l.body) l.fields
