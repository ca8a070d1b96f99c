use Rattle.std.proofs.Common.{◌≡◌}
use Rattle.serde_json.specs.View.{members_view}
use Rattle.ht_api.specs.Fields.{all_known}
use Rattle.ht_api.proofs.fields.knows_all.Given as goal

abbrev pub invariant-loop-key : goal.invariant-loop-key
invariant-loop-key l = all_known l.rows (members_view l.fn.members.entries) ≡ all_known l.rows (members_view l.key-iterator)
