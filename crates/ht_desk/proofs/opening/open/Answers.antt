use Rattle.std.proofs.Common.{◌≡◌, ◌∷◌, [], Err, ap, sym, ◌∙◌, subst, arith}
use Rattle.ht_journal.specs.Keeping.{IsKept}
use Rattle.ht_journal.specs.declared.state.JournalState.{JournalState}
use Rattle.ht_tree.specs.Tables.{RoomyTables, TablesOf}
use Rattle.ht_desk.specs.Records.{bodies_of}
use Rattle.ht_desk.specs.Replaying.{IsJournalOf, TextsOf, opening_of}
use Rattle.ht_desk.proofs.Answered.{it_stands, begun_found, begun_refused, read_found, read_refused, refused_journal}
use Rattle.ht_desk.proofs.opening.open.Goals as goal

pub returns-in-Err-open-clause-opens : goal.returns-in-Err-open-clause-opens
returns-in-Err-open-clause-opens g c =
    let texts : TextsOf = record { models = c.args.models.now; people = c.args.people.now } in
    let limit = c.requires.limit.0 in
    refused_journal g.D.Disk texts c.args.limit (omega (arith, limit)) c.args.disk.now c.open.new.disk c.in-Ok.tables.tables c.in-Ok.ensures.begins c.in-Err-open.fault c.in-Err-open.ensures c.told.result c.told.ensures

pub returns-in-Ok-begin-clause-opens : goal.returns-in-Ok-begin-clause-opens
returns-in-Ok-begin-clause-opens g c =
    let texts : TextsOf = record { models = c.args.models.now; people = c.args.people.now } in
    let w = c.in-Ok-begin.ensures in
    let at : c.opened.result.journal ≡ c.begin.new.journal = c.opened.ensures.journal in
    begun_found g.D.Disk texts c.args.limit c.args.disk.now c.open.new.disk c.begin.new.disk c.in-Ok-open.journal c.in-Ok-open.ensures c.in-Ok.tables.tables c.in-Ok.ensures.begins
    (sym c.count.ensures ∙ c.if-count-eq0.true) w.any_moment w.file w.room w.faults w.tells
    c.opened.result (subst (λ (j : JournalState). IsKept g.D.Disk (bodies_of (opening_of texts ∷ [])) j c.begin.new.disk) (sym at) w.kept) (ap (λ (j : JournalState). j.doubt) at ∙ w.certain) c.opened.ensures.certain c.opened.ensures.uncounted
    (ap (λ (j : JournalState). j.limit) at ∙ w.limit) w.spelled c.opened.ensures.sound (ap (λ (t : RoomyTables). t.tables) c.opened.ensures.tables) w.still

pub returns-in-Err-begin-clause-opens : goal.returns-in-Err-begin-clause-opens
returns-in-Err-begin-clause-opens g c =
    let texts : TextsOf = record { models = c.args.models.now; people = c.args.people.now } in
    let w = c.in-Err-begin.ensures in
    begun_refused g.D.Disk texts c.args.limit c.args.disk.now c.open.new.disk c.begin.new.disk c.in-Ok-open.journal c.in-Ok-open.ensures c.in-Ok.tables.tables c.in-Ok.ensures.begins
    (sym c.count.ensures ∙ c.if-count-eq0.true) w.any_moment w.file w.room w.faults w.tells
    c.in-Err-begin.fault w.fault (λ most e. w.in_room most (ap Err e))

pub returns-in-Ok-replay-clause-opens : goal.returns-in-Ok-replay-clause-opens
returns-in-Ok-replay-clause-opens g c =
    let texts : TextsOf = record { models = c.args.models.now; people = c.args.people.now } in
    let w = c.in-Ok-replay.ensures in
    let all = w.replayed in
    let desk = c.opened-in-Ok-replay in
    let at : desk.result.journal ≡ c.replay.new.journal = desk.ensures.journal in
    let tables : desk.result.tables.tables ≡ c.replay.new.tables.tables = ap (λ (t : RoomyTables). t.tables) desk.ensures.tables in
    read_found g.D.Disk texts c.args.limit c.args.disk.now c.open.new.disk c.replay.new.disk c.in-Ok-open.journal c.in-Ok-open.ensures c.in-Ok.tables.tables c.in-Ok.ensures.begins
    g.met.D.Disk.counts_now w.quiet w.faults
    desk.result all.0 (subst (λ (j : JournalState). IsKept g.D.Disk (bodies_of all.0) j c.replay.new.disk) (sym at) all.3) (ap (λ (j : JournalState). j.doubt) at ∙ w.same.1) desk.ensures.certain desk.ensures.uncounted
    (ap (λ (j : JournalState). j.limit) at ∙ w.same.0) all.2 desk.ensures.sound (subst (λ (t : TablesOf). IsJournalOf texts all.0 t) (sym tables) all.1) all.4 w.still

pub returns-in-Err-replay-clause-opens : goal.returns-in-Err-replay-clause-opens
returns-in-Err-replay-clause-opens g c =
    let texts : TextsOf = record { models = c.args.models.now; people = c.args.people.now } in
    let w = c.in-Err-replay.ensures in
    read_refused g.D.Disk texts c.args.limit c.args.disk.now c.open.new.disk c.replay.new.disk c.in-Ok-open.journal c.in-Ok-open.ensures c.in-Ok.tables.tables c.in-Ok.ensures.begins
    g.met.D.Disk.counts_now w.quiet w.faults
    c.in-Err-replay.fault w.fault (λ roomy e. w.in_room roomy (ap Err e))

pub returns-in-Ok-begin-clause-stands : goal.returns-in-Ok-begin-clause-stands
returns-in-Ok-begin-clause-stands g c =
    it_stands g.D.Disk (record { models = c.args.models.now; people = c.args.people.now }) c.args.limit c.args.disk.now c.begin.new.disk c.opened.result (returns-in-Ok-begin-clause-opens g c)

pub returns-in-Ok-replay-clause-stands : goal.returns-in-Ok-replay-clause-stands
returns-in-Ok-replay-clause-stands g c =
    it_stands g.D.Disk (record { models = c.args.models.now; people = c.args.people.now }) c.args.limit c.args.disk.now c.replay.new.disk c.opened-in-Ok-replay.result (returns-in-Ok-replay-clause-opens g c)
