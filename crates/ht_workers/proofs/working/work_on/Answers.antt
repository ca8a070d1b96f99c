use Rattle.std.proofs.Common.{Some, ◌≡◌, arith}
use Rattle.ht_workers.specs.PassLaws.{of_then, pass_none, pass_more, same_then, stays_out}
use Rattle.ht_workers.proofs.Links.{ends_on, works_none, works_on}
use Rattle.ht_workers.proofs.working.work_on.Goals as goal

pub loop-number-init : goal.loop-number-init
loop-number-init g c = record { works = works_none _ _ _ (pass_none _ _); of = c.requires.pass }

pub returns-in_default : goal.returns-in_default
returns-in_default g c =
    let before = c.loop-number.invariant.works in
    record {
      ends = ends_on _ _ _ _ _ (pass_more _ _ _ _) (stays_out _ _ _) _ _ _ c.loop-number.number before (Some c.args.most) c.serve_one.result c.in_default.not-Done c.loop-number-test.true c.serve_one.ensures.ends;
      pass = same_then _ _ _ before.made.same c.serve_one.ensures.pass;
    }

pub loop-number-preserved : goal.loop-number-preserved
loop-number-preserved g c =
    let one = c.in-Done.ensures.ends in
    record {
      works = works_on _ _ _ _ _ (pass_more _ _ _ _) (stays_out _ _ _) _ _ _ c.loop-number.number c.loop-number.invariant.works 1 one;
      of = of_then _ _ _ c.loop-number.invariant.of c.serve_one.ensures.pass;
    }

pub returns-clause-ends : goal.returns-clause-ends
returns-clause-ends g c =
    let all : c.loop-number.number ≡ c.args.most = omega (arith, c.loop-number-test.false, c.loop-number.auto.number-end) in
    rw all at c.loop-number.invariant.works
