-- Turns one behind another.
use Rattle.std.proofs.Common.{◌≡◌, inl, inr, ℕ, ◌+◌, ◌≤◌, arith, List, [], ◌∷◌, ◌++◌, length, length-append, refl, sym, ap, subst, ◌∙◌, Option, Bool, true, false, not, MatchBool}
use Rattle.ht_base.specs.Moment.{last_moment}
use Rattle.ht_base.specs.declared.event.Event.TheVariants.{Turn}
use Rattle.ht_outside.specs.Clocks.{IsNext, later}
use Rattle.ht_outside.specs.Causes.{next_count}
use Rattle.ht_serve.specs.Calls.{Call}
use Rattle.ht_workers.specs.Counts.{Rises}
use Rattle.ht_workers.specs.Timing.{AreTurns, EndsTimer, Timed, TimerState, after}

-- ---- counts

pub rises_none : (n : ℕ) → Rises n n 0
rises_none n low = omega arith

pub rises_one : (n m : ℕ) → m ≡ next_count n → Rises n m 1
rises_one n m is low = is ∙ omega (arith, low)

pub rises_on : (n m k p q l : ℕ) → l ≡ p + q → Rises n m p → Rises m k q → Rises n k l
rises_on n m k p q l is a b low = let first : m ≡ n + p = a (omega (arith, low, is)) in let second : k ≡ m + q = b (omega (arith, low, is, first)) in omega (arith, first, second, is)

-- ---- turns

turns_on : (clock : Option (ℕ → ℕ)) (xs ys : List Call) → AreTurns clock xs → AreTurns (after xs clock) ys → AreTurns clock (xs ++ ys)
turns_on clock [] ys a b = b
turns_on clock (x ∷ xs) ys a b = (a.0, turns_on (later clock) xs ys a.1 b)

after_on : (clock : Option (ℕ → ℕ)) (xs ys : List Call) → after (xs ++ ys) clock ≡ after ys (after xs clock)
after_on clock [] ys = refl
after_on clock (x ∷ xs) ys = after_on (later clock) xs ys

module _ (Made : List Call → Type 0) where
  pub timed_none : (s : TimerState) → Made [] → Timed Made s s
  timed_none s none = record { calls = []; made = none; are = tt; clock = refl; counted = rises_none s.turns; asked = rises_none s.asked }

  pub timed_one : (s t : TimerState) (x : Call) (at : ℕ) → Made (x ∷ []) → x.event ≡ Turn (record { 0 = at }) → IsNext s.clock at → at ≤ last_moment → t.clock ≡ later s.clock → t.turns ≡ next_count s.turns → t.asked ≡ next_count s.asked → Timed Made s t
  timed_one s t x at made is next low clock counted asked = record {
    calls = x ∷ [];
    made = made;
    are = ((at, is, next, low), tt);
    clock = clock;
    counted = rises_one s.turns t.turns counted;
    asked = rises_one s.asked t.asked asked;
  }

module _ (A B M : List Call → Type 0) (made_more : (xs ys : List Call) → A xs → B ys → M (xs ++ ys)) (s t : TimerState) where
  pub timed_on : (u : TimerState) → Timed A s t → Timed B t u → Timed M s u
  timed_on u a b =
      let l = length-append a.calls b.calls in
      record {
        calls = a.calls ++ b.calls;
        made = made_more a.calls b.calls a.made b.made;
        are = turns_on s.clock a.calls b.calls a.are (subst (λ (x : Option (ℕ → ℕ)). AreTurns x b.calls) a.clock b.are);
        clock = b.clock ∙ ap (λ x. after b.calls x) a.clock ∙ sym (after_on s.clock a.calls b.calls);
        counted = rises_on s.turns t.turns u.turns (length a.calls) (length b.calls) _ l a.counted b.counted;
        asked = rises_on s.asked t.asked u.asked (length a.calls) (length b.calls) _ l a.asked b.asked;
      }

  pub ends_on : (P : Type 0) (u : TimerState) (last : Bool) → Timed A s t → EndsTimer B P t u last → EndsTimer M P s u last
  ends_on P u last a (inl b) = inl (record { timed = timed_on u a b.timed; told = b.told; some_turn = b.some_turn })
  ends_on P u last a (inr b) = inr (record { before = b.before; timed = timed_on b.before a b.timed; new_is = b.new_is; spent = b.spent })

-- ---- one turn

-- it was made, and this was the answer to the question behind it
pub one_turn : (Made : List Call → Type 0) (Spent : Type 0) (s t : TimerState) (x : Call) (at : ℕ) (last answer : Bool) → Made (x ∷ []) → x.event ≡ Turn (record { 0 = at }) → IsNext s.clock at → at ≤ last_moment → t.clock ≡ later s.clock → t.turns ≡ next_count s.turns → t.asked ≡ next_count s.asked
    → last ≡ answer → MatchBool (not answer) (Timed Made s t) (EndsTimer Made Spent s t last)
one_turn Made Spent s t x at last false made is next low clock counted asked told = timed_one Made s t x at made is next low clock counted asked
one_turn Made Spent s t x at last true made is next low clock counted asked told = inl (record {
  timed = timed_one Made s t x at made is next low clock counted asked;
  told = told;
  some_turn = omega (arith, counted);
})

-- no ticket was left for it
pub no_turn_left : (Made : List Call → Type 0) (Spent : Type 0) (from to : Option (ℕ → ℕ)) (asked turns : ℕ) (last : Bool) → Made [] → Spent → to ≡ later from → EndsTimer Made Spent (record { clock = from; asked = asked; turns = turns }) (record { clock = to; asked = asked; turns = turns }) last
no_turn_left Made Spent from to asked turns last none spent is = inr (record {
  before = record { clock = from; asked = asked; turns = turns };
  timed = timed_none Made (record { clock = from; asked = asked; turns = turns }) none;
  new_is = (λ i. record { clock = is i; asked = asked; turns = turns });
  spent = spent;
})
