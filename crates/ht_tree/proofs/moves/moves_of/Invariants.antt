use Rattle.std.specs.Prelude.{take}
use Rattle.ht_tree.specs.Moves.{LeadOnOf}
use Rattle.ht_tree.specs.Plans.{planned}
use Rattle.ht_tree.proofs.moves.moves_of.Given as goal

abbrev pub invariant-loop-put : goal.invariant-loop-put
invariant-loop-put l = LeadOnOf l.tables.tables.rows (planned l.tables.tables l.plan).rows (take l.put-index l.plan.changes.rows) l.moves
