-- Which statuses come of a check.
use Rattle.std.proofs.Common.{◌≡◌, ◌≢◌, ℕ, inl, inr, arith, refl, Result, Ok, Err}
use Rattle.ht_desk.specs.declared.fault.OpenFault.{OpenFault}
use Rattle.ht_desk.specs.declared.fault.OpenFault.TheVariants as fault
use Rattle.ht_desk.specs.Replaying.{TextsOf}
use Rattle.ht_outside.specs.Causes.{Rose}
use Rattle.ht_outside.specs.Tells.{SinkState}
use Rattle.ht_serve.specs.declared.ending.Ending.{Ending}
use Rattle.ht_serve.specs.declared.ending.Ending.TheVariants as ending
use Rattle.ht_program.specs.Checking.{Checks}
use Rattle.ht_program.specs.Inputs.{IsAnswered}
use Rattle.ht_program.specs.Statuses.{end_status}

module _ (old new : SinkState) where
  pub data EndsCheck (status : ℕ) : Type 0 where
    done : status ≡ 0 → EndsCheck status
    refused : status ≡ 4 → EndsCheck status
    broke : status ≡ 7 → Rose old.faults new.faults → EndsCheck status
    wanting : status ≡ 8 → EndsCheck status

  of_check : (end : Result Ending OpenFault) (texts : TextsOf) → Checks texts old new end → EndsCheck (end_status end)
  of_check (Ok ending.Done) texts checks = done refl
  of_check (Ok (ending.Wire code)) texts checks = absurd (checks.2).wrote
  of_check (Ok ending.Budget) texts checks = absurd (checks.2).wrote
  of_check (Ok ending.ReadFault) texts checks = absurd (checks.2).wrote
  of_check (Ok ending.WriteFault) texts checks = broke refl (((checks.2).cause).failed refl)
  of_check (Ok ending.Memory) texts checks = wanting refl
  of_check (Err (fault.Models why)) texts checks = refused refl
  of_check (Err (fault.People why)) texts checks = refused refl
  of_check (Err (fault.Damaged at)) texts checks = absurd checks.0
  of_check (Err (fault.RecordRefused n)) texts checks = absurd checks.0
  of_check (Err fault.TextsDiffer) texts checks = absurd checks.0
  of_check (Err fault.Store) texts checks = absurd checks.0
  of_check (Err fault.Memory) texts checks = wanting refl

  not_of_journal : (status : ℕ) → EndsCheck status → (status ≢ 5) × (status ≢ 6)
  not_of_journal status (done is) = ((λ five. omega (arith, is, five)), (λ six. omega (arith, is, six)))
  not_of_journal status (refused is) = ((λ five. omega (arith, is, five)), (λ six. omega (arith, is, six)))
  not_of_journal status (broke is rose) = ((λ five. omega (arith, is, five)), (λ six. omega (arith, is, six)))
  not_of_journal status (wanting is) = ((λ five. omega (arith, is, five)), (λ six. omega (arith, is, six)))

  answered : (status : ℕ) → EndsCheck status → (Rose old.faults new.faults → ⊥) → IsAnswered status
  answered status (done is) write = inl is
  answered status (refused is) write = inr (inr (inl is))
  answered status (broke is rose) write = absurd (write rose)
  answered status (wanting is) write = inr (inr (inr (inr (inl is))))

  broken : (status : ℕ) → EndsCheck status → status ≡ 7 → Rose old.faults new.faults
  broken status (done is) seven = absurd (omega (arith, is, seven))
  broken status (refused is) seven = absurd (omega (arith, is, seven))
  broken status (broke is rose) seven = rose
  broken status (wanting is) seven = absurd (omega (arith, is, seven))

  -- ---- of the end

  module _ (end : Result Ending OpenFault) (texts : TextsOf) (checks : Checks texts old new end) where
    pub of_texts : (end_status end ≢ 5) × (end_status end ≢ 6)
    of_texts = not_of_journal (end_status end) (of_check end texts checks)

    pub answered_check : (Rose old.faults new.faults → ⊥) → IsAnswered (end_status end)
    answered_check write = answered (end_status end) (of_check end texts checks) write

    pub broken_check : end_status end ≡ 7 → Rose old.faults new.faults
    broken_check seven = broken (end_status end) (of_check end texts checks) seven
