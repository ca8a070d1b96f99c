-- A line that is written by pieces.
use Rattle.std.proofs.Common.{◌≡◌, ◌∙◌, inl, inr, ℕ, ◌≤◌, Bool, true, false, List, ◌++◌, append_assoc, Result, Ok, Err, is_err, ap, sym, arith}
use Rattle.ht_outside.specs.Causes.{HasCause, Rose}
use Rattle.ht_outside.specs.Tells.{SinkState, WriteGrows}
use Rattle.ht_outside.proofs.PublicLaws.{Grows-trans}
use Rattle.ht_program.specs.Running.{Complains}

later_rose : (a b n : ℕ) → a ≤ b → Rose b n → Rose a n
later_rose a b n h r = omega arith

module _ {E : Type 0} where
  pub failed : (old new : SinkState) (r : Result (Unit {0}) E) (piece later : List ℕ) (b : Bool) → b ≡ is_err r → b ≡ true → WriteGrows old.written new.written r piece → HasCause old.faults new.faults r → Complains old new (piece ++ later)
  failed old new (Ok u) piece later b is err grows cause = absurd (let wrong : true ≡ false = sym err ∙ is in no wrong)
    where
      no : true ≡ false → ⊥
      no e = cc
  failed old new (Err e) piece later b is err part cause = record {
    front = part.0;
    rest = part.1 ++ later;
    line_is = ap (λ (l : List ℕ). l ++ later) part.2 ∙ append_assoc part.0 part.1 later;
    wrote = part.3;
    whole = inr cause.failed;
  }

  pub went_on : (old mid new : SinkState) (r : Result (Unit {0}) E) (piece line : List ℕ) (b : Bool) → b ≡ is_err r → b ≡ false → WriteGrows old.written mid.written r piece → HasCause old.faults mid.faults r → Complains mid new line → Complains old new (piece ++ line)
  went_on old mid new (Err e) piece line b is ok grows cause c = absurd (let wrong : false ≡ true = sym ok ∙ is in no wrong)
    where
      no : false ≡ true → ⊥
      no e = cc
  went_on old mid new (Ok x) piece line b is ok grows cause c = record {
    front = piece ++ c.front;
    rest = c.rest;
    line_is = ap (λ (l : List ℕ). piece ++ l) c.line_is ∙ sym (append_assoc piece c.front c.rest);
    wrote = Grows-trans old.written mid.written new.written piece c.front grows c.wrote;
    whole = elim c.whole [ inl e ↦ inl e | inr rose ↦ inr (later_rose old.faults mid.faults new.faults cause.later rose) ];
  }
