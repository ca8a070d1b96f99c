use Rattle.std.proofs.Common.{inr, refl}
use Rattle.ht_desk.proofs.Judged.{never_applied}
use Rattle.ht_desk.proofs.replaying.replay_record.Goals as goal

pub returns-then-not-branch-clause-refused : goal.returns-then-not-branch-clause-refused
returns-then-not-branch-clause-refused c = inr (never_applied c.args.tables.now.tables c.args.kept.now (c.in_ok-apply.ensures.refused c.if-not-branch.true), refl)
