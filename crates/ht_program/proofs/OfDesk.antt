-- What a command did by a desk, the office did that is on its disk.
use Rattle.std.proofs.Common.{◌≡◌, ℕ, refl, sym, subst}
use Rattle.ht_desk.specs.declared.desk_state.DeskState.{DeskState}
use Rattle.ht_export.specs.Lines.{export_text}
use Rattle.ht_outside.specs.declared.disk.Disk.{Ghosts}
use Rattle.ht_serve.specs.declared.ending.Ending.{Ending}
use Rattle.ht_tree.specs.Tables.{TablesOf}
use Rattle.ht_program.specs.Running.{Streams}
use Rattle.ht_program.specs.Words.WorkOf.{exporting, loading}
use Rattle.ht_program.specs.Working.{DidOver, LoadsAndTells, Tells}

module _ {D : Type 0} (d : Ghosts D) (desk : DeskState) (old new : Streams) (e : Ending) (unread : new.input ≡ old.input) where
  pub exported : (disk : D) → Tells (export_text (desk.tables).tables) old.output new.output e → DidOver d exporting desk disk disk old new e
  exported disk tells = λ beside texts s at. (
    s,
    desk,
    record { same = refl; tells = subst (λ (t : TablesOf). Tells (export_text t) old.output new.output e) (sym at.tables) tells; unread = unread },
    at,
    (λ roomy. (refl, tt)),
  )

  pub loaded : (seed count : ℕ) (before after : D) → LoadsAndTells d seed count desk before after old.output new.output e → DidOver d (loading seed count) desk before after old new e
  loaded seed count before after made = λ beside texts s at.
      let all = made.loads beside texts s at in
      (all.0, made.last, record { sums = made.sums; loads = all.1; tells = made.tells; unread = unread }, all.2, all.3)
