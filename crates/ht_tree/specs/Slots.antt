-- The last numbered command of each device of a person, with the reply that is kept for it.
use Rattle.std.specs.Prelude.{◌≡◌, ◌<◌, ◌≤◌, ℕ, List, length, slice_get, slice_set, Option, None, IfSome, IsSome, IsTrue}
use Rattle.std.specs.List.{insert}
use Rattle.std.specs.declared.cmp.Ordering.{Ordering}
use Rattle.std.specs.Ordering.{nat_cmp, ordering_then}
use Rattle.ht_base.specs.declared.operation.Op.{Op}
use Rattle.ht_base.specs.declared.operation.Op.TheVariants as op
use Rattle.ht_base.specs.declared.task_id.TaskId.{TaskId}
use Rattle.ht_base.specs.Events.{IsRetry, suits}
use Rattle.ht_base.specs.Ordered.{found_by, placed_by}
use Rattle.ht_people.specs.Directory.{DirectoryOf, find}
use Rattle.ht_tree.specs.declared.slot.Kept.{Kept}
use Rattle.ht_tree.specs.declared.slot.Kept.TheVariants.{Done}
use Rattle.ht_tree.specs.declared.slot.Slot.{Slot}

-- slots stand in the order of their persons, and those of a person in that of the devices
abbrev pub slot_order : ℕ → ℕ → Slot → Ordering
slot_order person device s = ordering_then (nat_cmp s.person person) (nat_cmp s.device device)

abbrev pub slot_cmp : Slot → Slot → Ordering
slot_cmp a b = slot_order b.person b.device a

-- the slot of a person's device
abbrev pub slot_in : ℕ → ℕ → List Slot → Option Slot
slot_in person device slots = found_by (slot_order person device) slots

-- with this slot as that of its device
abbrev pub slots_with : List Slot → Slot → List Slot
slots_with slots slot = placed_by (slot_order slot.person slot.device) slot slots

-- ---- what is sound

-- a task of as many
abbrev pub IsOneOf : ℕ → TaskId → Type 0
IsOneOf tasks task = (1 ≤ task.0) × (task.0 ≤ tasks)

-- the operation is one that changes a task: of as many one that it may name
abbrev pub IsNamedBy : ℕ → Op → TaskId → Type 0
IsNamedBy tasks op.Get task = ⊥
IsNamedBy tasks o task = IsTrue (suits task.0 o) × (task.0 ≤ tasks)

-- the reply is about a task that is there, and names no owner but a person
abbrev pub IsSoundReply : DirectoryOf → ℕ → Kept → Type 0
IsSoundReply people tasks (Done task state owner) = IsOneOf tasks task × IfSome owner (λ name. IsSome (find name people))

-- of these persons, and of as many tasks
pub record IsSoundSlot (people : DirectoryOf) (tasks : ℕ) (s : Slot) : Type 0 where
  pub person : s.person < length people.persons
  pub numbered : IsRetry (record { device = s.device; number = s.number })
  pub task : IsNamedBy tasks s.op s.task
  pub kept : IsSoundReply people tasks s.kept

-- ---- places

-- the slot of a person's device stands at this place
pub record IsPresent (person device : ℕ) (slots : List Slot) (place : ℕ) : Type 0 where
  pub within : place < length slots
  pub found : slice_get slots place ≡ slot_in person device slots
  pub replaced : (slot : Slot) → slot.person ≡ person → slot.device ≡ device → slice_set slots place slot ≡ slots_with slots slot

-- there is none, and this is where it would stand
pub record IsAbsent (person device : ℕ) (slots : List Slot) (place : ℕ) : Type 0 where
  pub within : place ≤ length slots
  pub missed : slot_in person device slots ≡ None
  pub inserted : (slot : Slot) → slot.person ≡ person → slot.device ≡ device → insert slots place slot ≡ slots_with slots slot
