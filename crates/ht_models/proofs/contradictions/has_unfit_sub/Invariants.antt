use Rattle.std.proofs.Common.{◌≡◌, drop, take}
use Rattle.std.specs.List.{list_any}
use Rattle.ht_models.specs.Contradictions.{misses_parts}
use Rattle.ht_models.specs.Expressions.{declared}
use Rattle.ht_entries.specs.SubEntries.{AreInOrder}
use Rattle.ht_models.proofs.contradictions.has_unfit_sub.Given as goal

abbrev pub invariant-loop-sub : goal.invariant-loop-sub
invariant-loop-sub l = record {
  rest : list_any (misses_parts l.entries (declared l.fn.entry)) l.fn.entry.subs ≡ list_any (misses_parts l.entries (declared l.fn.entry)) (drop l.sub-index l.fn.entry.subs);
  order : AreInOrder (take l.sub-index l.fn.entry.subs);
}
