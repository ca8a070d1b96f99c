use Rattle.std.proofs.Common.{◌≡◌, ◌||◌, drop}
use Rattle.ht_base.specs.Role.{no_roles}
use Rattle.ht_base.specs.State.{no_states}
use Rattle.ht_rules.proofs.judging.may.Given as goal
use Rattle.ht_rules.proofs.Gathering.{allowed_from, needed_from}
use Rattle.ht_rules.specs.Judging.{has_role}

abbrev pub invariant-loop-allowance : goal.invariant-loop-allowance
invariant-loop-allowance l = record {
  has_role : (l.has_role || has_role l.roles (drop l.allowance-index l.allowance-items)) ≡ has_role l.roles l.allowance-items;
  needed : needed_from l.needed (drop l.allowance-index l.allowance-items) ≡ needed_from no_roles l.allowance-items;
  allowed : allowed_from l.roles l.allowed (drop l.allowance-index l.allowance-items) ≡ allowed_from l.roles no_states l.allowance-items;
}
