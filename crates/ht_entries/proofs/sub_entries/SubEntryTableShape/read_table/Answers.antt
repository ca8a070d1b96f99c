use Rattle.ht_entries.proofs.Pairs.{names_ascend}
use Rattle.ht_entries.proofs.sub_entries.SubEntryTableShape.read_table.Goals as goal

pub invariant_of-result : goal.invariant_of-result
invariant_of-result c = names_ascend _ c.in_ok-pairs_at.ensures.ascend
