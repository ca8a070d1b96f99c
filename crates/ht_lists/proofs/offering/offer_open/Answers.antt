use Rattle.std.proofs.Common.{◌∙◌, ap, fold, length, arith}
use Rattle.ht_lists.specs.Best.{with_key}
use Rattle.ht_lists.specs.Offering.{asked_keys, asked_of_live}
use Rattle.ht_lists.proofs.Asked.{few_live, live_asked}
use Rattle.ht_lists.proofs.Results.{on_ok_then}
use Rattle.ht_lists.proofs.offering.offer_open.Goals as goal

pub offer_asked-requires-clause-few : goal.offer_asked-requires-clause-few
offer_asked-requires-clause-few c =
    let ids = ap length c.live_rows_of-tasks.ensures.value in
    let few = few_live c.args.person c.args.tables.now.tables.rows in
    omega (arith, ids, few, c.rows-tasks.ensures.value, c.rows-tasks.type_inv, c.requires.none_yet)

pub returns : goal.returns
returns c =
    let t = c.args.tables.now.tables in
    let keys = asked_keys t c.args.person c.args.role (asked_of_live c.args.which) in
    on_ok_then c.offer_asked.result c.offer_asked.ensures (λ is. is
    ∙ ap (λ w. fold with_key c.args.best.now (asked_keys t c.args.person c.args.role w c.live_rows_of-tasks.result.now.tasks)) c.asked_of_live.ensures
    ∙ ap (fold with_key c.args.best.now) (ap keys c.live_rows_of-tasks.ensures.value
    ∙ live_asked t c.args.person c.args.role c.args.which c.live_rows_of-tasks.ensures.sound c.requires.given c.requires.live))
