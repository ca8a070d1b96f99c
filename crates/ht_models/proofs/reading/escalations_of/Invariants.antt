use Rattle.std.proofs.Common.{All, map, take}
use Rattle.std.specs.List.{AllZip}
use Rattle.ht_models.specs.Kinded.{Escalates}
use Rattle.ht_models.specs.Reading.{IsEscalation}
use Rattle.ht_models.specs.Shown.{escalation_of}
use Rattle.ht_models.proofs.reading.escalations_of.Given as goal

abbrev pub invariant-loop-text : goal.invariant-loop-text
invariant-loop-text l = record {
  read : AllZip (IsEscalation l.kinds) (take l.text-index l.texts) (map escalation_of l.escalations.items);
  kinds : All (Escalates l.kinds) l.escalations.items;
}
