use Rattle.std.proofs.Common.{None, ◌+◌}
use Rattle.ht_workers.specs.PassLaws.{of_then, pass_none, pass_more, same_then, stays_out}
use Rattle.ht_workers.proofs.Links.{ends_on, works_none, works_on}
use Rattle.ht_workers.proofs.working.go_on.Goals as goal

pub loop-init : goal.loop-init
loop-init g c = record { works = (0, works_none _ _ _ (pass_none _ _)); of = c.requires.pass }

pub loop-preserved : goal.loop-preserved
loop-preserved g c =
    let one = c.in-Done.ensures.ends in
    let before = c.loop.invariant.works in
    record {
      works = (before.0 + 1, works_on _ _ _ _ _ (pass_more _ _ _ _) (stays_out _ _ _) _ _ _ before.0 before.1 1 one);
      of = of_then _ _ _ c.loop.invariant.of c.serve_one.ensures.pass;
    }

pub returns-in_default : goal.returns-in_default
returns-in_default g c =
    let before = c.loop.invariant.works in
    record {
      ends = ends_on _ _ _ _ _ (pass_more _ _ _ _) (stays_out _ _ _) _ _ _ before.0 before.1 None c.serve_one.result c.in_default.not-Done tt c.serve_one.ensures.ends;
      pass = same_then _ _ _ before.1.made.same c.serve_one.ensures.pass;
    }
