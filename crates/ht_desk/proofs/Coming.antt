-- Which faults come.
use Rattle.std.proofs.Common.{◌≡◌, ◌⊎◌, ⊎_elim, ℕ, List, sym, subst}
use Rattle.ht_codec.specs.declared.refusal.CodecRefusal.{CodecRefusal}
use Rattle.ht_codec.specs.declared.refusal.CodecRefusal.TheVariants as codec
use Rattle.ht_desk.specs.declared.fault.OpenFault.{OpenFault}
use Rattle.ht_desk.specs.declared.fault.OpenFault.TheVariants.{Models, People, Damaged, RecordRefused, TextsDiffer, Store, Memory}
use Rattle.ht_desk.specs.Faults.{ComesWhere, fault_of}
use Rattle.ht_desk.specs.Opening.{IsNoRecord, damage_of}
use Rattle.ht_journal.specs.declared.faults.JournalFault.{JournalFault}
use Rattle.ht_journal.specs.declared.faults.JournalFault.TheVariants as journal
use Rattle.ht_journal.specs.Reasons.{IsFault}

-- what is said of a fault may be said otherwise
pub comes_as : (Is Js : OpenFault → Type 0) (before now : ℕ) (fault : OpenFault) → ((f : OpenFault) → Is f → Js f) → ComesWhere Is before now fault → ComesWhere Js before now fault
comes_as Is Js before now (Models why) on is = absurd is
comes_as Is Js before now (People why) on is = absurd is
comes_as Is Js before now (Damaged at) on is = (on (Damaged at) is.0, is.1)
comes_as Is Js before now (RecordRefused n) on is = (on (RecordRefused n) is.0, is.1)
comes_as Is Js before now TextsDiffer on is = (on TextsDiffer is.0, is.1)
comes_as Is Js before now Store on is = is
comes_as Is Js before now Memory on is = is

-- a count that stayed until then
pub comes_since : (Is : OpenFault → Type 0) (before mid now : ℕ) (fault : OpenFault) → mid ≡ before → ComesWhere Is mid now fault → ComesWhere Is before now fault
comes_since Is before mid now fault same is = subst (λ m. ComesWhere Is m now fault) same is

module _ (Is : OpenFault → Type 0) (before now : ℕ) where
  at_fault : (x fault : OpenFault) → fault ≡ x → ComesWhere Is before now x → ComesWhere Is before now fault
  at_fault x fault e is = subst (λ f. ComesWhere Is before now f) (sym e) is

  -- of a journal that tells no damage
  pub of_journal : (why : JournalFault) (fault : OpenFault) → fault ≡ fault_of why → IsFault (λ _. ⊥) before now why → ComesWhere Is before now fault
  of_journal (journal.Damaged at) fault e is = absurd is.0
  of_journal journal.Store fault e is = at_fault Store fault e is
  of_journal journal.Memory fault e is = at_fault Memory fault e is

  no_record : (at : ℕ) (why : CodecRefusal) (fault : OpenFault) → fault ≡ damage_of at why → Is fault → now ≡ before → ComesWhere Is before now fault
  no_record at (codec.Short k) fault e is still = at_fault _ fault e (subst Is e is, still)
  no_record at (codec.Tag k) fault e is still = at_fault _ fault e (subst Is e is, still)
  no_record at (codec.Range k) fault e is still = at_fault _ fault e (subst Is e is, still)
  no_record at (codec.Trailing k) fault e is still = at_fault _ fault e (subst Is e is, still)
  no_record at codec.Memory fault e is still = at_fault Memory fault e still

  -- of a body that isn't read
  pub of_body : (at : ℕ) (body : List ℕ) (fault : OpenFault) → (fault ≡ Memory) ⊎ IsNoRecord at body fault → (IsNoRecord at body fault → Is fault) → now ≡ before → ComesWhere Is before now fault
  of_body at body fault why is still = ⊎_elim (λ e. at_fault Memory fault e still) (λ (w : IsNoRecord at body fault). no_record at w.0 fault w.2 (is w) still) why

  -- of a record that isn't left
  pub of_record : (n : ℕ) (A : Type 0) (fault : OpenFault) → (fault ≡ Memory) ⊎ (A × (fault ≡ RecordRefused n)) → (A → fault ≡ RecordRefused n → Is fault) → now ≡ before → ComesWhere Is before now fault
  of_record n A fault why is still = ⊎_elim (λ e. at_fault Memory fault e still) (λ (w : A × (fault ≡ RecordRefused n)). at_fault (RecordRefused n) fault w.1 (subst Is w.1 (is w.0 w.1), still)) why

  -- of a first record that is another
  pub of_first : (A B : Type 0) (fault : OpenFault) → (A × (fault ≡ RecordRefused 1)) ⊎ (B × (fault ≡ TextsDiffer)) → ((A × (fault ≡ RecordRefused 1)) ⊎ (B × (fault ≡ TextsDiffer)) → Is fault) → now ≡ before → ComesWhere Is before now fault
  of_first A B fault why is still = ⊎_elim
      (λ (w : A × (fault ≡ RecordRefused 1)). at_fault (RecordRefused 1) fault w.1 (subst Is w.1 (is why), still))
      (λ (w : B × (fault ≡ TextsDiffer)). at_fault TextsDiffer fault w.1 (subst Is w.1 (is why), still))
      why
