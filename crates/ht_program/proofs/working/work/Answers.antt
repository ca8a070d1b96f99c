use Rattle.std.proofs.Common.{◌≡◌, refl, ap, Ok, Err, Some, None, Result, List, ℕ, []}
use Rattle.ht_desk.specs.declared.fault.OpenFault.{OpenFault}
use Rattle.ht_desk.specs.Replaying.{TextsOf}
use Rattle.ht_outside.specs.declared.disk.Disk.{Ghosts}
use Rattle.ht_serve.specs.declared.ending.Ending.{Ending}
use Rattle.ht_program.specs.Attaching.{Attaches, Disks, disks}
use Rattle.ht_program.specs.Office.{Runs, RunsOver}
use Rattle.ht_program.specs.Running.{Streams}
use Rattle.ht_program.specs.Words.{WordsOf}
use Rattle.ht_program.proofs.Ended.{attached, in_memory, none_in_memory, none_on_disks, not_attached, on_disks}
use Rattle.ht_program.proofs.working.work.Goals as goal

module _ {D R : Type 0} (d : Ghosts D) (r : Ghosts R) (said : WordsOf) (texts : TextsOf) where
  kept_in_memory : (disks : Disks D) (before after : R) (old new : Streams) (end : Result Ending OpenFault) → r.gives before ≡ Some [] → r.room before ≡ Some said.limit → r.faults before ≡ 0 → RunsOver r said texts before after old new end → Runs d None said texts disks disks old new end
  kept_in_memory disks before after old new (Ok ending) empty room unfailed runs = (in_memory r said texts before after old new empty room unfailed ending runs, refl)
  kept_in_memory disks before after old new (Err fault) empty room unfailed runs =
      let why = none_in_memory r said texts before after old new empty room unfailed fault runs in (why.0, why.1, refl)

kept_on_disks : {D : Type 0} (d : Ghosts D) (said : WordsOf) (texts : TextsOf) (name : List ℕ) (before mid after : Disks D) (old new : Streams) (end : Result Ending OpenFault) → Attaches d before.first mid.first (Ok tt) → Attaches d before.second after.second (Ok tt) → RunsOver d said texts mid.first after.first old new end → Runs d (Some name) said texts before after old new end
kept_on_disks d said texts name before mid after old new (Ok ending) first second runs = on_disks d said texts before mid after first second old new ending runs
kept_on_disks d said texts name before mid after old new (Err fault) first second runs = none_on_disks d said texts before mid after first second old new fault runs

pub returns-in-Ok : goal.returns-in-Ok
returns-in-Ok g c =
    let empty = c.in-Ok.ensures in
    rw c.in_default.is (kept_in_memory g.D.Disk _ _ _ _ _ _ _ _ c.work_over.result (ap (λ d. Some d.file) empty) (ap (λ d. Some d.room) empty) (ap (λ d. d.faults) empty) c.work_over.ensures)

pub returns-in-Ok-attach : goal.returns-in-Ok-attach
returns-in-Ok-attach g c =
    let both = attached g.D.Disk _ _ c.in-Ok-attach.field-0 c.in-Ok-attach.ensures in
    rw c.in-Some.is (kept_on_disks g.D.Disk _ _ c.in-Some.name.now (disks c.args.first.now c.args.second.now) (disks c.attach.new.first c.attach.new.second) (disks c.work_over-in-Ok-attach.new.disk c.attach.new.second) _ _ c.work_over-in-Ok-attach.result both.0 both.1 c.work_over-in-Ok-attach.ensures)

pub returns-in-Err-attach : goal.returns-in-Err-attach
returns-in-Err-attach g c = rw c.in-Some.is (not_attached g.D.Disk _ _ _ c.in-Err-attach.fault c.in-Err-attach.ensures, refl)
