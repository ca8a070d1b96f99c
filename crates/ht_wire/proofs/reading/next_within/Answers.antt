use Rattle.std.proofs.Common.{◌∙◌, inl, inr, subst, sym}
use Rattle.http_header.specs.Token.{IsToken}
use Rattle.ht_wire.specs.Requests.{IsUnfinished}
use Rattle.ht_wire.proofs.Giving.{found_head, unfinished_now}
use Rattle.ht_wire.proofs.Outcomes.{token_is}
use Rattle.ht_wire.proofs.reading.next_within.Goals as goal

pub give_out-requires-clause-token : goal.give_out-requires-clause-token
give_out-requires-clause-token g c = let seen = c.in-Ok.ensures.finds.1 in subst IsToken (sym seen.2.1.method) (token_is seen.2.0.method seen.2.1.reads.0.method)

pub returns-in-Ok-clause-reads : goal.returns-in-Ok-clause-reads
returns-in-Ok-clause-reads g c = found_head _ _ _ c.in-Ok.ensures.finds.1 _ _ _ _ _ _ c.in-Ok.ensures.finds.0 c.give_out.ensures.gives

pub returns-in-Ok-clause-buffered : goal.returns-in-Ok-clause-buffered
returns-in-Ok-clause-buffered g c =
    λ done.
    elim c.in-Ok.ensures.buffered [
      | inl same ↦ c.give_out.ensures.still (λ cut. done (subst IsUnfinished same.1 (unfinished_now _ _ _ c.in-Ok.ensures.finds.1 cut))) ∙ same.0
      | inr needed ↦ absurd (done needed)
    ]

pub returns-in-Err-clause-buffered : goal.returns-in-Err-clause-buffered
returns-in-Err-clause-buffered g c =
    λ done.
    elim c.in-Err.ensures.buffered [
      | inl same ↦ same.0
      | inr needed ↦ absurd (done needed)
    ]
