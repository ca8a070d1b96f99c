-- What the two tables say together.
use Rattle.std.proofs.Common.{◌≡◌, Bool, true, false, is_some, refl, ap}
use Rattle.ht_base.specs.declared.operation.Op.{Op}
use Rattle.ht_base.specs.declared.operation.Op.TheVariants.{Claim, Start, Delegate}
use Rattle.ht_base.specs.declared.state.State.{State}
use Rattle.ht_base.specs.declared.state.State.TheVariants.{Created, Ready, Reserved, InProgress, SuspendedReady, SuspendedReserved, SuspendedInProgress, Completed, Failed, Error, Exited, Obsolete}
use Rattle.ht_base.specs.State.{contains_state}
use Rattle.ht_base.specs.declared.role.Roles.{Roles}
use Rattle.ht_rules.specs.declared.changes.OwnerAfter.{OwnerAfter}
use Rattle.ht_rules.specs.declared.changes.OwnerAfter.TheVariants as owner
use Rattle.ht_rules.specs.declared.judging.Verdict.{Verdict}
use Rattle.ht_rules.specs.declared.judging.Verdict.TheVariants.{Yes}
use Rattle.ht_rules.specs.Changes.{changing, next}
use Rattle.ht_rules.specs.Judging.{allowed, verdict}
use Rattle.ht_rules.specs.Sets.{every_role}

pub agree : (s : State) (op : Op) → contains_state (allowed op every_role) s ≡ is_some (next s op)
agree Created Claim = refl
agree Ready Claim = refl
agree Reserved Claim = refl
agree InProgress Claim = refl
agree SuspendedReady Claim = refl
agree SuspendedReserved Claim = refl
agree SuspendedInProgress Claim = refl
agree Completed Claim = refl
agree Failed Claim = refl
agree Error Claim = refl
agree Exited Claim = refl
agree Obsolete Claim = refl
agree s op = refl

-- ---- to whom a task goes

abbrev pub IsCaller : OwnerAfter → Type 0
IsCaller owner.Caller = Unit {0}
IsCaller _ = ⊥

abbrev pub IsNamed : OwnerAfter → Type 0
IsNamed owner.Named = Unit {0}
IsNamed _ = ⊥

abbrev is_yes : Verdict → Bool
is_yes Yes = true
is_yes _ = false

not_false : false ≡ true → ⊥
not_false h = cc

-- who gets a task by a call of one's own is a potential owner of it
pub caller_is_potential : (r : Roles) (s : State) (op : Op) → IsCaller (changing s op).owner → verdict op s r ≡ Yes → r.potential_owner ≡ true
caller_is_potential r s op = at s op r.potential_owner r.actual_owner refl
  where
    at : (s : State) (op : Op) (b c : Bool) → r.potential_owner ≡ b → IsCaller (changing s op).owner → verdict op s (record r { potential_owner = b; actual_owner = c }) ≡ Yes → r.potential_owner ≡ true
    at Ready Claim true c is owns may = is
    at Ready Claim false c is owns may = absurd (not_false (ap is_yes may))
    at Ready Start true c is owns may = is
    at Ready Start false true is owns may = absurd (not_false (ap is_yes may))
    at Ready Start false false is owns may = absurd (not_false (ap is_yes may))
    at Created Claim b c is owns may = absurd owns
    at Reserved Claim b c is owns may = absurd owns
    at InProgress Claim b c is owns may = absurd owns
    at SuspendedReady Claim b c is owns may = absurd owns
    at SuspendedReserved Claim b c is owns may = absurd owns
    at SuspendedInProgress Claim b c is owns may = absurd owns
    at Completed Claim b c is owns may = absurd owns
    at Failed Claim b c is owns may = absurd owns
    at Error Claim b c is owns may = absurd owns
    at Exited Claim b c is owns may = absurd owns
    at Obsolete Claim b c is owns may = absurd owns
    at s op b c is owns may = absurd owns

-- a person who is named gets a task by delegation alone
pub named_is_delegate : (s : State) (op : Op) → IsNamed (changing s op).owner → op ≡ Delegate
named_is_delegate Created Delegate named = refl
named_is_delegate Ready Delegate named = refl
named_is_delegate Reserved Delegate named = refl
named_is_delegate InProgress Delegate named = refl
named_is_delegate SuspendedReady Delegate named = refl
named_is_delegate SuspendedReserved Delegate named = refl
named_is_delegate SuspendedInProgress Delegate named = refl
named_is_delegate Completed Delegate named = refl
named_is_delegate Failed Delegate named = refl
named_is_delegate Error Delegate named = refl
named_is_delegate Exited Delegate named = refl
named_is_delegate Obsolete Delegate named = refl
named_is_delegate s op named = absurd named
