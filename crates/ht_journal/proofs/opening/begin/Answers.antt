use Rattle.std.proofs.Common.{refl, inr, ◌≡◌, ◌≤◌, ◌++◌, ◌∷◌, [], length, Ok, arith}
use Rattle.ht_journal.specs.Files.{contents, header}
use Rattle.ht_journal.specs.Openings.{IsBegun, IsTornBeginning, beginning}
use Rattle.ht_journal.proofs.Begun.{begun_file, both_at_err, both_at_ok}
use Rattle.ht_journal.proofs.Moments.{weaker, both_weaker}
use Rattle.ht_journal.proofs.Scans.{begins, by_result, begin_torn, begin_held}
use Rattle.ht_journal.proofs.opening.begin.Goals as goal

pub returns-clause-any_moment : goal.returns-clause-any_moment
returns-clause-any_moment g c tells =
    weaker g.D.Disk c.args.disk.now c.stored.new.disk _ (λ f. contents f ≡ Ok []) (c.stored.ensures.any_moment tells) (λ f h. begins h.0 f _ (c.requires.images tells h.0 h.1) (omega arith) h.2)

pub returns-clause-written : goal.returns-clause-written
returns-clause-written g c =
    both_at_ok c.stored.result _ IsBegun (g.D.Disk.gives c.args.disk.now) (g.D.Disk.gives c.stored.new.disk) (λ f. length f ≤ 9) c.requires.short (λ d f short holds. begun_file d f beginning short refl holds) c.stored.ensures.written

pub returns-clause-torn : goal.returns-clause-torn
returns-clause-torn g c =
    both_at_err c.stored.result _ IsTornBeginning (g.D.Disk.gives c.args.disk.now) (g.D.Disk.gives c.stored.new.disk) (λ f. length f ≤ 9) c.requires.short (λ d f short t. inr (short, let l = t.no_longer in omega arith)) c.stored.ensures.torn

pub returns-clause-same : goal.returns-clause-same
returns-clause-same g c =
    let o = g.D.Disk.gives c.args.disk.now in
    let n = g.D.Disk.gives c.stored.new.disk in
    by_result c.stored.result c.stored.ensures.written c.stored.ensures.torn
    (λ written. both_weaker _ _ o n (λ f. length f ≤ 9) c.requires.short (λ d f short holds. begin_held d f (header ++ 0 ∷ []) (omega arith) short holds) written)
    (λ torn. both_weaker _ _ o n (λ f. length f ≤ 9) c.requires.short (λ d f short t. begin_torn d f 9 (omega arith) short t) torn)
