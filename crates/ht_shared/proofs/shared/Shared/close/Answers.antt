use Rattle.std.proofs.Common.{subst, All, Contains, ◌∷◌}
use Rattle.ht_shared.proofs.shared.Shared.close.Goals as goal

pub returns-clause-entries : goal.returns-clause-entries
returns-clause-entries g c =
    subst (λ n. All (λ e. Contains (n ∷ c.args.pass.ended) e.pass) c.args.pass.seen) c.requires.first
    (subst (λ p. All (λ e. Contains (p.number ∷ p.ended) e.pass) p.seen) c.pass.view_is c.close_at.ensures.entries)
