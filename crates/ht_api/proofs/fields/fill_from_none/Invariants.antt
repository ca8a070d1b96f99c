use Rattle.std.proofs.Common.{◌≡◌, drop}
use Rattle.serde_json.specs.Data.{object, no_members}
use Rattle.ht_api.specs.Fields.{no_fields, taken}
use Rattle.ht_api.proofs.fields.fill_from_none.Given as goal

abbrev pub invariant-loop-key : goal.invariant-loop-key
invariant-loop-key l = taken l.rows (object no_members) no_fields ≡ taken (drop l.key-index l.rows) (object no_members) no_fields
