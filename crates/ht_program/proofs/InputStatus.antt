-- The status of a run says how its input ended, since the ending of its connection does.
use Rattle.std.proofs.Common.{◌≡◌, ◌≢◌, ℕ, refl, false, arith, Option, Some, None}
use Rattle.ht_outside.specs.Tells.{Flow}
use Rattle.ht_desk.specs.States.{State}
use Rattle.ht_serve.specs.declared.ending.Ending.{Ending}
use Rattle.ht_serve.specs.declared.ending.Ending.TheVariants as ending
use Rattle.ht_serve.specs.Inputs.{IsEndingOf}
use Rattle.ht_serve.proofs.PublicLaws.{ending_of_input}
use Rattle.ht_program.specs.Inputs.{IsStatusOf}
use Rattle.ht_program.specs.Running.{Ran, Streams}
use Rattle.ht_program.specs.Statuses.{ending_status}

module _ (most : ℕ) (flow : Flow) (status : ℕ) where
  zero : IsEndingOf false most (Some flow) ending.Done → status ≡ 0 → IsStatusOf most (Some flow) status
  zero of is = (
    ((λ _. of.0.0 refl), (λ _. is)),
    ((λ one. absurd (omega (arith, is, one))), (λ broken. absurd (let wire = (of.1.1 broken).1 in cc))),
    ((λ nine. absurd (omega (arith, is, nine))), (λ much. absurd (let budget = of.2.1 much in cc))),
  )

  one : (code : ℕ) → IsEndingOf false most (Some flow) (ending.Wire code) → status ≡ 1 → IsStatusOf most (Some flow) status
  one code of is = (
    ((λ none. absurd (omega (arith, is, none))), (λ whole. absurd (let done = of.0.1 whole in cc))),
    ((λ _. of.1.0 (code, refl)), (λ _. is)),
    ((λ nine. absurd (omega (arith, is, nine))), (λ much. absurd (let budget = of.2.1 much in cc))),
  )

  nine : IsEndingOf false most (Some flow) ending.Budget → status ≡ 9 → IsStatusOf most (Some flow) status
  nine of is = (
    ((λ none. absurd (omega (arith, is, none))), (λ whole. absurd (let done = of.0.1 whole in cc))),
    ((λ once. absurd (omega (arith, is, once))), (λ broken. absurd (let wire = (of.1.1 broken).1 in cc))),
    ((λ _. of.2.0 refl), (λ _. is)),
  )

  told : (e : Ending) → (e ≢ ending.ReadFault → e ≢ ending.WriteFault → e ≢ ending.Memory → IsEndingOf false most (Some flow) e) → status ≡ ending_status e → (status ≡ 7 → ⊥) → (status ≡ 8 → ⊥) → IsStatusOf most (Some flow) status
  told ending.Done of is no_fault enough = zero (of (λ e. cc) (λ e. cc) (λ e. cc)) is
  told (ending.Wire code) of is no_fault enough = one code (of (λ e. cc) (λ e. cc) (λ e. cc)) is
  told ending.Budget of is no_fault enough = nine (of (λ e. cc) (λ e. cc) (λ e. cc)) is
  told ending.ReadFault of is no_fault enough = absurd (no_fault is)
  told ending.WriteFault of is no_fault enough = absurd (no_fault is)
  told ending.Memory of is no_fault enough = absurd (enough is)

by_flow : (most : ℕ) (flow : Option Flow) (e : Ending) (status : ℕ) → (e ≢ ending.ReadFault → e ≢ ending.WriteFault → e ≢ ending.Memory → IsEndingOf false most flow e) → status ≡ ending_status e → (status ≡ 7 → ⊥) → (status ≡ 8 → ⊥) → IsStatusOf most flow status
by_flow most None e status of is no_fault enough = tt
by_flow most (Some flow) e status of is no_fault enough = told most flow status e of is no_fault enough

pub status_of_input : (moment : ℕ → ℕ) (most : ℕ) (s t : State) (old new : Streams) (e : Ending) (status : ℕ) → Ran moment most s t old new e → status ≡ ending_status e → (status ≡ 7 → ⊥) → (status ≡ 8 → ⊥) → IsStatusOf most old.input.flow status
status_of_input moment most s t old new e status a = by_flow most old.input.flow e status (ending_of_input _ _ false most _ _ e a.served)
