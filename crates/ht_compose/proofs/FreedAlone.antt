-- A task that returns to its state before.
use Rattle.std.proofs.Common.{◌≡◌, Bool, true, false, if◌then◌else◌, length, None, refl, sym}
use Rattle.ht_base.specs.declared.operation.Op.TheVariants.{Resume}
use Rattle.ht_compose.specs.declared.reaching.Change.TheVariants as change
use Rattle.ht_compose.specs.Downward.{freed, moved_by}
use Rattle.ht_compose.proofs.Acted.{MayReplace}
use Rattle.ht_compose.proofs.Changed.{changed_sound, freed_ends}
use Rattle.ht_tree.proofs.PublicLaws.{filed_of}
use Rattle.ht_tree.specs.declared.row.Row.{Row}
use Rattle.ht_tree.specs.Soundness.{is_suspended}
use Rattle.ht_tree.specs.Tables.{TablesOf}

pub with_freed : (u : TablesOf) (row : Row) → MayReplace u row (freed row)
with_freed u row = record {
  filed = go (is_suspended row.state);
  ends = sym (freed_ends row);
  sound = changed_sound u.models (length u.people.persons) change.Free row tt;
}
  where
    go : (b : Bool) → filed_of (if b then record row { state = moved_by Resume row.state; until = None } else row) ≡ filed_of row
    go true = refl
    go false = refl
