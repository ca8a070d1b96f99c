use Rattle.std.proofs.Common.{◌≡◌, ◌++◌, ℕ, Some, All, map}
use Rattle.std.specs.Prelude.{slice_get, slice_index_or}
use Rattle.std.specs.List.{AllZip}
use Rattle.std.specs.Vec.Iter.{into_iter_items}
use Rattle.ht_models.specs.Kinded.{SpeaksOfParts}
use Rattle.ht_models.specs.Model.{ModelOf}
use Rattle.ht_models.specs.Reading.{IsModel}
use Rattle.ht_models.specs.Shown.{model_of}
use Rattle.ht_models.proofs.reading.models_of.Given as goal

abbrev pub invariant-loop-entry : goal.invariant-loop-entry
invariant-loop-entry l = record {
  next : (goal.iterator-loop-entry).can_next l.entry-iterator;
  ends : (goal.iterator-loop-entry).is_finite l.entry-iterator;
  all : l.yielded ++ into_iter_items l.entry-iterator ≡ l.fn.entries.items;
  read : AllZip IsModel l.yielded (map model_of l.models.items);
  kinds : All SpeaksOfParts l.models.items;
  sizes : (place : ℕ) (m : ModelOf) → slice_get (map model_of l.models.items) place ≡ Some m → m.size ≡ slice_index_or l.trees.sizes place 0;
}
