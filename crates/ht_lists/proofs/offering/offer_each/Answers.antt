use Rattle.std.proofs.Common.{filter, map, take, arith}
use Rattle.ht_lists.specs.Keys.{key_of}
use Rattle.ht_lists.specs.Offering.{is_asked}
use Rattle.ht_lists.proofs.Asked.{asked_row, walked_on}
use Rattle.ht_lists.proofs.offering.offer_each.Goals as goal

pub loop-before-preserved : goal.loop-before-preserved
loop-before-preserved c =
    let t = c.args.tables.now.tables in
    let i = c.loop-before.before in
    let before = map key_of (filter (is_asked t c.args.person c.args.role c.args.which) (take i t.rows)) in
    record {
      offered = walked_on c.args.best.now before _ c.in_ok-offer_one.ensures.offered c.loop-before.invariant.offered (asked_row t c.args.person c.args.role c.args.which i (omega arith));
      few = omega (arith, c.in_ok-offer_one.ensures.few, c.loop-before.invariant.few);
      bounds = c.in_ok-offer_one.ensures.bounds;
    }
