use Rattle.std.proofs.Common.{◌≡◌, ◌++◌, All, map}
use Rattle.std.specs.List.{AllZip}
use Rattle.std.specs.Vec.Iter.{into_iter_items}
use Rattle.ht_models.specs.Kinded.{HasTruth}
use Rattle.ht_models.specs.Reading.{IsFinish}
use Rattle.ht_models.specs.Shown.{finish_of}
use Rattle.ht_models.proofs.reading.finishes_of.Given as goal

abbrev pub invariant-loop-text : goal.invariant-loop-text
invariant-loop-text l = record {
  next : (goal.iterator-loop-text).can_next l.text-iterator;
  ends : (goal.iterator-loop-text).is_finite l.text-iterator;
  all : l.yielded ++ into_iter_items l.text-iterator ≡ l.fn.texts.items;
  read : AllZip (IsFinish l.kinds) l.yielded (map finish_of l.finishes.items);
  kinds : All (HasTruth l.kinds) l.finishes.items;
}
