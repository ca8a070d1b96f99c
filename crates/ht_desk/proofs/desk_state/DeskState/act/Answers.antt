use Rattle.std.proofs.Common.{◌⊎◌, inl, inr, ⊎_elim, ℕ, Some, ap, sym, ◌∙◌, subst}
use Rattle.ht_journal.specs.Rooms.{IsRoomy}
use Rattle.ht_journal.proofs.PublicLaws.{started, weaker}
use Rattle.ht_machine.specs.Deciding.{Decides}
use Rattle.ht_tree.specs.Plans.{committed}
use Rattle.ht_tree.specs.Tables.{TablesOf}
use Rattle.ht_desk.specs.Moments.{FindsNew}
use Rattle.ht_desk.specs.Records.{Finds, bodies_of}
use Rattle.ht_desk.specs.Staging.{IsStagedAs}
use Rattle.ht_desk.specs.declared.desk_state.DeskState.{DeskState}
use Rattle.ht_desk.proofs.Begun.{no_doubt}
use Rattle.ht_desk.proofs.Entered.{idle_acts, spent_acts, staged_at}
use Rattle.ht_desk.proofs.Finding.{certain_finds, none_by, reads_by}
use Rattle.ht_desk.proofs.desk_state.DeskState.act.Goals as goal

pub returns-in_default-clause-acts : goal.returns-in_default-clause-acts
returns-in_default-clause-acts g c beside texts s at =
    let none = none_by s.doubt (sym (no_doubt c.args.self.now.journal c.requires.certain.0) ∙ at.doubted) in
    let now = staged_at g.D.Disk beside texts s c.args.self.now c.stage.new.self c.args.disk.now at c.stage.ensures.same c.stage.ensures.tables c.requires.certain.1 none in
    spent_acts g.D.Disk beside texts s c.stage.new.self c.args.disk.now now c.args.event.now c.memory_reply.result none c.memory_reply.ensures

pub returns-in_default-clause-any_moment : goal.returns-in_default-clause-any_moment
returns-in_default-clause-any_moment g c beside texts s at tells =
    let disk = c.args.disk.now in
    let none = none_by s.doubt (sym (no_doubt c.args.self.now.journal c.requires.certain.0) ∙ at.doubted) in
    started g.D.Disk disk (λ image. Finds s.records image ⊎ FindsNew s c.args.event.now image)
    (λ image left. inl (certain_finds s.records s.doubt image none (reads_by s.records s.doubt _ image at.doubted (c.reads.ensures.images (bodies_of s.records) at.kept tells image (g.met.D.Disk.only_now disk image tells left)))))

pub returns-in_default-entry-clause-any_moment : goal.returns-in_default-entry-clause-any_moment
returns-in_default-entry-clause-any_moment g c beside texts s at tells =
    let disk = c.args.disk.now in
    let none = none_by s.doubt (sym (no_doubt c.args.self.now.journal c.requires.certain.0) ∙ at.doubted) in
    started g.D.Disk disk (λ image. Finds s.records image ⊎ FindsNew s c.args.event.now image)
    (λ image left. inl (certain_finds s.records s.doubt image none (reads_by s.records s.doubt _ image at.doubted (c.reads.ensures.images (bodies_of s.records) at.kept tells image (g.met.D.Disk.only_now disk image tells left)))))

pub returns-in_default-entry-clause-acts : goal.returns-in_default-entry-clause-acts
returns-in_default-entry-clause-acts g c beside texts s at =
    let none = none_by s.doubt (sym (no_doubt c.args.self.now.journal c.requires.certain.0) ∙ at.doubted) in
    let now = staged_at g.D.Disk beside texts s c.args.self.now c.stage.new.self c.args.disk.now at c.stage.ensures.same c.stage.ensures.tables c.requires.certain.1 none in
    idle_acts g.D.Disk beside texts s c.stage.new.self c.args.disk.now now c.args.event.now c.in-Ok.staged.reply none c.in-Ok.staged.entry c.in_default-entry.is c.in-Ok.ensures.staged

pub returns-clause-acts : goal.returns-clause-acts
returns-clause-acts g c beside texts s at =
    let none = none_by s.doubt (sym (no_doubt c.args.self.now.journal c.requires.certain.0) ∙ at.doubted) in
    let now = staged_at g.D.Disk beside texts s c.args.self.now c.stage.new.self c.args.disk.now at c.stage.ensures.same c.stage.ensures.tables c.requires.certain.1 none in
    let staged : IsStagedAs c.stage.new.self.tables c.args.event.now c.in-Ok.staged.reply (Some c.in-Some.entry) = subst (λ o. IsStagedAs c.stage.new.self.tables c.args.event.now c.in-Ok.staged.reply o) c.in-Some.is c.in-Ok.ensures.staged in
    c.keep.ensures.acts beside texts s c.args.event.now staged.0 now staged.1

pub returns-clause-any_moment : goal.returns-clause-any_moment
returns-clause-any_moment g c beside texts s at tells =
    let none = none_by s.doubt (sym (no_doubt c.args.self.now.journal c.requires.certain.0) ∙ at.doubted) in
    let now = staged_at g.D.Disk beside texts s c.args.self.now c.stage.new.self c.args.disk.now at c.stage.ensures.same c.stage.ensures.tables c.requires.certain.1 none in
    let staged : IsStagedAs c.stage.new.self.tables c.args.event.now c.in-Ok.staged.reply (Some c.in-Some.entry) = subst (λ o. IsStagedAs c.stage.new.self.tables c.args.event.now c.in-Ok.staged.reply o) c.in-Some.is c.in-Ok.ensures.staged in
    let after : TablesOf = committed c.stage.new.self.tables.tables c.in-Some.entry.doubt.plan c.in-Some.entry.doubt.at.0 in
    let decides : Decides s.tables c.args.event.now (Some staged.0) c.in-Ok.staged.reply after = subst (λ (t : TablesOf). Decides t c.args.event.now (Some staged.0) c.in-Ok.staged.reply after) (sym now.tables) staged.1.decides in
    weaker g.D.Disk c.args.disk.now c.keep.new.disk _ (λ image. Finds s.records image ⊎ FindsNew s c.args.event.now image)
    (c.keep.ensures.any_moment beside texts s c.args.event.now staged.0 now staged.1 tells)
    (λ image found. ⊎_elim (λ f. inl f) (λ f. inr (staged.0, c.in-Ok.staged.reply, after, decides, staged.1.awaits.spelled, f)) found)

pub returns-clause-in_room : goal.returns-clause-in_room
returns-clause-in_room g c roomy =
    let limit = ap (λ (d : DeskState). d.journal.limit) c.stage.ensures.same in
    c.keep.ensures.in_room (subst (λ (n : ℕ). IsRoomy (g.D.Disk.room c.args.disk.now) n) (sym limit) roomy)
