-- How an operation moves a task: its state and its owner by the table of changes
-- (WS-HumanTask 1.1, 4.10).
use Rattle.std.specs.Prelude.{ℕ, Bool, List, Option, Some, None, if◌then◌else◌}
use Rattle.ht_base.specs.declared.operation.Op.{Op}
use Rattle.ht_base.specs.declared.state.State.{State}
use Rattle.ht_rules.specs.declared.changes.After.{After}
use Rattle.ht_rules.specs.declared.changes.After.TheVariants as after
use Rattle.ht_rules.specs.declared.changes.Change.{Change}
use Rattle.ht_rules.specs.declared.changes.OwnerAfter.{OwnerAfter}
use Rattle.ht_rules.specs.declared.changes.OwnerAfter.TheVariants as owner
use Rattle.ht_rules.specs.Changes.{changing}
use Rattle.ht_tree.specs.declared.row.Row.{Row}
use Rattle.ht_tree.specs.Activation.{owner_by, state_by}
use Rattle.ht_base.specs.State.{is_final}
use Rattle.ht_tree.specs.Soundness.{is_created, is_suspended}

abbrev pub state_after : After → List ℕ → State → State
state_after (after.To state) owners old = state
state_after after.ByPeople owners old = state_by owners old
state_after after.Same owners old = old

abbrev pub owner_after : OwnerAfter → List ℕ → Option ℕ → ℕ → ℕ → Option ℕ
owner_after owner.Kept owners old caller named = old
owner_after owner.Cleared owners old caller named = None
owner_after owner.Caller owners old caller named = Some caller
owner_after owner.Named owners old caller named = Some named
owner_after owner.ByPeople owners old caller named = owner_by owners

abbrev pub only_if : {A : Type 0} → Bool → Option A → Option A
only_if b o = if b then o else None

-- in this state and of this owner: a task waits only while it is created, and its suspension ends
-- only while it is suspended
abbrev pub placed : State → Option ℕ → Row → Row
placed state owner row = record row {
  state = state;
  owner = owner;
  waits = only_if (is_created state) row.waits;
  until = only_if (is_suspended state) row.until;
}

abbrev pub changed : Change → ℕ → ℕ → Row → Row
changed c caller named row = placed (state_after c.after row.potential_owners row.state) (owner_after c.owner row.potential_owners row.owner caller named) row

-- by the caller, who may name a person
abbrev pub moved : Op → ℕ → ℕ → Row → Row
moved op caller named row = changed (changing row.state op) caller named row

-- ---- ends

abbrev pub end_of : After → Option State
end_of (after.To state) = if is_final state then Some state else None
end_of _ = None

-- the state in which the operation ends a task that is in this one, if it does
abbrev pub ending : State → Op → Option State
ending state op = end_of (changing state op).after
