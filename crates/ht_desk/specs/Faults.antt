-- What a fault of an opening says, of whatever it is said.
use Rattle.std.specs.Prelude.{◌≡◌, ℕ}
use Rattle.ht_desk.specs.declared.fault.OpenFault.{OpenFault}
use Rattle.ht_desk.specs.declared.fault.OpenFault.TheVariants.{Models, People, Damaged, Store, Memory}
use Rattle.ht_journal.specs.declared.faults.JournalFault.{JournalFault}
use Rattle.ht_journal.specs.declared.faults.JournalFault.TheVariants as journal
use Rattle.ht_outside.specs.Causes.{Rose}

abbrev pub fault_of : JournalFault → OpenFault
fault_of (journal.Damaged at) = Damaged at
fault_of journal.Store = Store
fault_of journal.Memory = Memory

-- A fault of the journal comes: Store where the count of faults rose, Memory freely, and another where it is so. The count stays
-- but at Store. None is one of the texts
abbrev pub ComesWhere : (OpenFault → Type 0) → ℕ → ℕ → OpenFault → Type 0
ComesWhere Is before now (Models why) = ⊥
ComesWhere Is before now (People why) = ⊥
ComesWhere Is before now Store = Rose before now
ComesWhere Is before now Memory = now ≡ before
ComesWhere Is before now fault = Is fault × (now ≡ before)
