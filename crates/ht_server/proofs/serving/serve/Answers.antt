use Rattle.std.proofs.Common.{refl}
use Rattle.ht_program.specs.Attaching.{disks}
use Rattle.ht_program.specs.Named.{service_told, words_told}
use Rattle.ht_program.specs.OfficeTexts.{texts_seen}
use Rattle.ht_program.proofs.PublicLaws.{attached, none_kept_on, not_attached}
use Rattle.ht_server.proofs.OpenedThen.{served_on}
use Rattle.ht_server.proofs.serving.serve.Goals as goal

pub returns-in-Ok-open : goal.returns-in-Ok-open
returns-in-Ok-open g c =
    let both = attached g.D.Disk _ _ c.in-Ok.field-0 c.in-Ok.ensures in
    served_on g.D.Disk (service_told c.args.service.now) (words_told c.args.words.now) (texts_seen c.args.office.now) (disks c.args.first.now c.args.second.now) (disks c.attach.new.first c.attach.new.second) (disks c.serve_at.new.disk c.attach.new.second)
    both.0 both.1 c.open.new.disk c.in-Ok-open.desk (rw (c.models.ensures, c.people.ensures) at c.in-Ok-open.ensures.opens) c.crew_of.result _ _ _ _ c.serve_at.result c.crew_of.ensures c.serve_at.ensures
