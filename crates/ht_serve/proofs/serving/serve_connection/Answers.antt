use Rattle.std.proofs.Common.{◌≡◌, arith}
use Rattle.ht_serve.proofs.Continuing.{goes_on, goes_ends, goes_follows}
use Rattle.ht_serve.proofs.Exchanging.{begun, ends_with, not_begun}
use Rattle.ht_serve.proofs.InputEndings.{ending_of_input}
use Rattle.ht_serve.proofs.serving.serve_connection.Goals as goal

pub returns-in_default-clause-served : goal.returns-in_default-clause-served
returns-in_default-clause-served g c = not_begun _ _ (g.met.Q.Caller.made_none _) _ _ _ _ _

pub loop-number-init : goal.loop-number-init
loop-number-init g c = record {
  goes = begun _ _ (g.met.Q.Caller.made_none _) _ _ _ _ _ _ c.requires.some c.in-Ok.ensures;
  kept = λ s. s;
  stands = c.requires.stands;
  same_caller = g.met.Q.Caller.same_self _;
  same = g.L.Link.same_self _;
}

pub returns-in-Some-clause-served : goal.returns-in-Some-clause-served
returns-in-Some-clause-served g c =
    goes_ends _ _ _ _ _ (g.met.Q.Caller.made_more _ _ _) c.serve_next-served.ensures.kept _ _ _ _ _ _ _ _ _ c.loop-number.invariant.goes _ c.in-Some.ensures.served

pub returns-in-Some-clause-exact : goal.returns-in-Some-clause-exact
returns-in-Some-clause-exact g c = ending_of_input _ _ _ _ _ _ _ (returns-in-Some-clause-served g c)

pub returns-in-Some-clause-same_caller : goal.returns-in-Some-clause-same_caller
returns-in-Some-clause-same_caller g c = g.met.Q.Caller.same_on _ _ _ c.loop-number.invariant.same_caller c.serve_next-served.ensures.same_caller

pub returns-in-Some-clause-same : goal.returns-in-Some-clause-same
returns-in-Some-clause-same g c = g.L.Link.same_on _ _ _ c.loop-number.invariant.same c.serve_next-served.ensures.same

pub loop-number-preserved : goal.loop-number-preserved
loop-number-preserved g c = record {
  goes = goes_on _ _ _ _ _ (g.met.Q.Caller.made_more _ _ _) c.serve_next-served.ensures.kept _ _ _ _ _ _ _ _ _ c.loop-number.invariant.goes _ _ c.in_default-served.ensures.served;
  kept = λ s. c.serve_next-served.ensures.kept (c.loop-number.invariant.kept s);
  stands = c.serve_next-served.ensures.stands;
  same_caller = g.met.Q.Caller.same_on _ _ _ c.loop-number.invariant.same_caller c.serve_next-served.ensures.same_caller;
  same = g.L.Link.same_on _ _ _ c.loop-number.invariant.same c.serve_next-served.ensures.same;
}

pub returns-clause-served : goal.returns-clause-served
returns-clause-served g c =
    let all : c.loop-number.number ≡ c.args.budget = omega (arith, c.loop-number-test.false, c.loop-number.auto.number-end) in
    ends_with _ _ _ _ _ _ _ _ _ _ _ _ c.what_follows.ensures.beside (goes_follows _ _ _ _ _ _ _ _ _ _ _ (rw all at c.loop-number.invariant.goes) _ c.what_follows.ensures.follows)

pub returns-clause-exact : goal.returns-clause-exact
returns-clause-exact g c = ending_of_input _ _ _ _ _ _ _ (returns-clause-served g c)

pub returns-clause-same : goal.returns-clause-same
returns-clause-same g c = g.L.Link.same_on _ _ _ c.loop-number.invariant.same c.what_follows.ensures.same
