use Rattle.std.proofs.Common.{All, map, take}
use Rattle.std.specs.List.{AllZip}
use Rattle.ht_models.specs.Kinded.{Ends}
use Rattle.ht_models.specs.Reading.{IsDeadline}
use Rattle.ht_models.specs.Shown.{deadline_of}
use Rattle.ht_models.proofs.reading.deadlines_of.Given as goal

abbrev pub invariant-loop-text : goal.invariant-loop-text
invariant-loop-text l = record {
  read : AllZip (IsDeadline l.kinds) (take l.text-index l.texts) (map deadline_of l.deadlines.items);
  kinds : All (Ends l.kinds) l.deadlines.items;
}
