-- Every image of a step is an office still.
use Rattle.std.proofs.Common.{⊎_elim, ℕ, List, [], ◌∷◌, ◌++◌, Option, Some, None, subst, refl}
use Rattle.ht_base.specs.declared.event.Event.{Event}
use Rattle.ht_base.specs.Records.{RecordOf, record_of}
use Rattle.ht_outside.specs.declared.disk.Disk.{Ghosts}
use Rattle.ht_tree.specs.Plans.{committed}
use Rattle.ht_tree.specs.Tables.{RoomyTables, TablesOf}
use Rattle.ht_desk.specs.declared.desk_state.DeskState.{DeskState}
use Rattle.ht_desk.specs.declared.doubt.Doubt.{Doubt}
use Rattle.ht_desk.specs.Keeping.{AreAwaited, IsAt}
use Rattle.ht_desk.specs.Moments.{FindsNew, IsOffice, MayFind}
use Rattle.ht_desk.specs.Records.{AreSpelled, FindsAlso}
use Rattle.ht_desk.specs.Replaying.{IsJournalOf, TextsOf}
use Rattle.ht_desk.specs.States.{State}
use Rattle.ht_desk.proofs.Finding.{spelled_push}
use Rattle.ht_desk.proofs.Judged.{applied}
use Rattle.ht_desk.proofs.Replayed.{office_push}

doubt_office : (texts : TextsOf) (t : RoomyTables) (w : Option Doubt) (o : Option RecordOf) (records : List RecordOf) (image : List ℕ) → AreAwaited t w o → AreSpelled records → IsJournalOf texts records t.tables → FindsAlso records o image → IsOffice texts image
doubt_office texts t w None records image awaited spelled office found = absurd found
doubt_office texts t None (Some r) records image awaited spelled office found = absurd awaited
doubt_office texts t (Some w) (Some r) records image awaited spelled office found =
    (records ++ r ∷ [], committed t.tables w.plan w.at.0, spelled_push records r spelled awaited.spelled, office_push texts records r t.tables _ office awaited.applies, found)

module _ {D : Type 0} (d : Ghosts D) (beside : ℕ) (texts : TextsOf) (s mid : State) (desk new : DeskState) (old now : D) (at : IsAt d beside texts s desk old) (upon : IsAt d beside texts mid new now) (e : Event) where
  new_office : (image : List ℕ) → FindsNew mid e image → IsOffice texts image
  new_office image (r, reply, u, decides, spelled, found) =
      (mid.records ++ record_of r ∷ [], u, spelled_push mid.records (record_of r) upon.spelled spelled, office_push texts mid.records (record_of r) mid.tables u upon.office (applied mid.tables u r r e reply decides refl), found)

  pub found_office : (image : List ℕ) → MayFind s mid e image → IsOffice texts image
  found_office image found = ⊎_elim
      (λ f. (s.records, s.tables, at.spelled, at.office, f))
      (λ rest. ⊎_elim
      (λ f. doubt_office texts desk.tables desk.doubt s.doubt s.records image at.awaited at.spelled (subst (λ (u : TablesOf). IsJournalOf texts s.records u) at.tables at.office) f)
      (λ rest. ⊎_elim
      (λ f. (mid.records, mid.tables, upon.spelled, upon.office, f))
      (λ f. new_office image f)
      rest)
      rest)
      found
