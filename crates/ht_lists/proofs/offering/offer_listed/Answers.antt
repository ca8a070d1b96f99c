use Rattle.std.proofs.Common.{◌≡◌, true, false, ◌∙◌, ap, fold, length, sym, arith}
use Rattle.ht_lists.specs.Best.{with_key}
use Rattle.ht_lists.specs.Offering.{asked_keys, is_operator, is_owner}
use Rattle.ht_lists.proofs.Asked.{each_asked, few_owned, few_rows, owned_asked}
use Rattle.ht_lists.proofs.Results.{on_ok_then}
use Rattle.ht_lists.proofs.offering.offer_listed.Goals as goal

pub offer_asked-requires-clause-few : goal.offer_asked-requires-clause-few
offer_asked-requires-clause-few c =
    let ids = ap length c.owned_by-tasks.ensures.value in
    let few = few_owned c.args.person c.args.tables.now.tables.rows in
    omega (arith, ids, few, c.rows-tasks.ensures.value, c.rows-tasks.type_inv, c.requires.none_yet)

pub offer_asked-requires-2-clause-few : goal.offer_asked-requires-2-clause-few
offer_asked-requires-2-clause-few c =
    let ids = ap length c.rows_of-tasks.ensures.value in
    let few = few_rows c.args.person c.args.tables.now.tables.rows in
    omega (arith, ids, few, c.rows-tasks.ensures.value, c.rows-tasks.type_inv, c.requires.none_yet)

pub returns-then-is_owner-clause-offered : goal.returns-then-is_owner-clause-offered
returns-then-is_owner-clause-offered c =
    let t = c.args.tables.now.tables in
    let keys = asked_keys t c.args.person c.args.role c.args.which in
    let own : is_owner c.args.role ≡ true = sym c.is_owner.ensures ∙ c.if-is_owner.true in
    on_ok_then c.offer_asked.result c.offer_asked.ensures (λ is. is
    ∙ ap (fold with_key c.args.best.now) (ap keys c.owned_by-tasks.ensures.value
    ∙ owned_asked t c.args.person c.args.role c.args.which c.rows-tasks.ensures.sound own))

pub returns-clause-offered : goal.returns-clause-offered
returns-clause-offered c =
    let t = c.args.tables.now.tables in
    let keys = asked_keys t c.args.person c.args.role c.args.which in
    let given : is_operator c.args.role ≡ false = sym c.is_operator.ensures ∙ c.if-is_operator.false in
    on_ok_then c.offer_asked-2.result c.offer_asked-2.ensures (λ is. is
    ∙ ap (fold with_key c.args.best.now) (ap keys c.rows_of-tasks.ensures.value
    ∙ each_asked t c.args.person c.args.role c.args.which c.rows-tasks.ensures.sound given))
