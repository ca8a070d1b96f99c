use Rattle.std.proofs.Common.{slice_index_or, ap, ◌∙◌}
use Rattle.std.proofs.lemmas.Option.{slice_get-get_or}
use Rattle.ht_due.specs.declared.due.Due.{Due}
use Rattle.ht_due.specs.Dues.{has}
use Rattle.ht_due.proofs.Members.{absent_among}
use Rattle.ht_due.proofs.merging.put_all.Goals as goal

abbrev no_due : Due
no_due = record { at = record { 0 = 0 }; task = record { 0 = 0 }; kind = 0; place = 0 }

pub insert-requires-clause-absent : goal.insert-requires-clause-absent
insert-requires-clause-absent c =
    let news = c.args.news.now in
    let n = c.loop-due.due-index in
    let x : Due = slice_index_or news n no_due in
    ap (λ l. has x l) c.loop-due.invariant.dues ∙ absent_among news n x (c.args.queue.now).dues c.requires.news (slice_get-get_or news n no_due c.loop-due-test.true) c.requires.absent
