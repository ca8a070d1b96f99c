use Rattle.std.proofs.Common.{◌∙◌, arith}
use Rattle.ht_workers.specs.PassLaws.{pass_none}
use Rattle.ht_workers.proofs.Links.{rose_later, stops_none, stops_one, works_one}
use Rattle.ht_workers.proofs.working.serve_one.Goals as goal

pub returns-in_default-clause-ends : goal.returns-in_default-clause-ends
returns-in_default-clause-ends g c = ((0, omega arith, stops_none _ _ _ _ (pass_none _ _) c.in_default.ensures.links c.accept.ensures.back c.accept.ensures.cause.later), c.in_default.ensures.cause.failed)

pub returns-in-Memory-clause-ends : goal.returns-in-Memory-clause-ends
returns-in-Memory-clause-ends g c = (0, omega arith, stops_one _ _ _ _ _ _ _ _ _ c.serve_link-ending.ensures.served c.in-Ok.ensures.counted c.accept.ensures.back c.accept.ensures.cause.later)

pub returns-in-Ok-leave-clause-ends : goal.returns-in-Ok-leave-clause-ends
returns-in-Ok-leave-clause-ends g c =
    works_one _ _ _ _ _ _ _ _ _ _ c.in_default-ending.not-Memory c.in-Ok.ensures.fresh c.in-Ok.ensures.counted c.accept.ensures.back c.accept.ensures.cause.later
    c.serve_link-ending.ensures.served c.leave.ensures.links c.in-Ok-leave.ensures.added c.leave.ensures.cause.later

pub returns-in-Err-clause-ends : goal.returns-in-Err-clause-ends
returns-in-Err-clause-ends g c = (
  (
    0,
    omega arith,
    stops_one _ _ _ _ _ _ _ _ _ c.serve_link-ending.ensures.served (c.leave.ensures.links ∙ c.in-Ok.ensures.counted) (c.in-Err.ensures.back ∙ c.accept.ensures.back)
        (omega (arith, c.accept.ensures.cause.later, c.leave.ensures.cause.later)),
  ),
  rose_later _ _ _ c.accept.ensures.cause.later c.in-Err.ensures.cause.failed,
)
