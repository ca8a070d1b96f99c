use Rattle.std.proofs.Common.{All, take}
use Rattle.ht_models.specs.Contradictions.{is_contradicted}
use Rattle.ht_entries.specs.SubEntries.{AreInOrder}
use Rattle.ht_models.proofs.FirstOnes.{NoneBefore}
use Rattle.ht_models.proofs.contradictions.first_contradicted.Given as goal

abbrev pub invariant-loop-place : goal.invariant-loop-place
invariant-loop-place l = record {
  none : NoneBefore (is_contradicted l.entries) l.entries l.place;
  order : All (λ m. AreInOrder m.subs) (take l.place l.entries);
}
