-- What was written without a fault, and with memory for each reply, is the fold over the requests.
use Rattle.std.proofs.Common.{◌≡◌, ◌≢◌, ◌⊎◌, inl, inr, ℕ, ◌+◌, Bool, true, false, List, [], ◌∷◌, ◌++◌, length, append-nil, refl, sym, subst, ◌∙◌, arith, Option, Some, None, Result, Ok, Err}
use Rattle.std.proofs.lemmas.List.{length-map}
use Rattle.ht_base.specs.declared.event.Event.{Event}
use Rattle.ht_base.specs.declared.reply.Reply.{Reply}
use Rattle.ht_base.specs.History.{Entry, IsLegal}
use Rattle.ht_desk.specs.Moves.{DeskHistory}
use Rattle.ht_desk.specs.States.{State}
use Rattle.ht_desk.specs.Steps.{Steps}
use Rattle.ht_outside.specs.Tells.{Grows}
use Rattle.ht_wire.specs.declared.request.Request.{Request}
use Rattle.ht_wire.specs.Heads.{IsEnd}
use Rattle.ht_wire.specs.Reading.{EndsAt}
use Rattle.ht_wire.specs.Replies.{reply_bytes}
use Rattle.ht_api.specs.declared.refusal.ApiRefusal.{ApiRefusal}
use Rattle.ht_api.specs.declared.refusal.ApiRefusal.TheVariants as refusal
use Rattle.ht_api.specs.Events.{event_due}
use Rattle.ht_api.specs.Refusals.{Gives, refusal_of}
use Rattle.ht_api.specs.Statuses.{refusal_status}
use Rattle.ht_serve.specs.declared.ending.Ending.{Ending}
use Rattle.ht_serve.specs.declared.ending.Ending.TheVariants as ending
use Rattle.ht_serve.specs.Calls.{Call, StepsMade, call_of, calls_in}
use Rattle.ht_serve.specs.Closing.{Close, GoOn, closes_at}
use Rattle.ht_serve.specs.Exchanges.{AreExchanges, Exchange, HasAway, IsAway, IsOutcome, Outcome, answered, calls, calls_of, closings, not_shown, refused, replies, requests, spelled, status_of, text_of, turned_away}
use Rattle.ht_serve.specs.Serving.{EndsAs, IsClosed, Served, sides}
use Rattle.ht_serve.specs.Texts.{refusal_bytes}
use Rattle.ht_program.specs.Folding.{Decided, Folds, IsBehind, IsOutput, RepliesTo, office_of}
use Rattle.ht_program.specs.Inputs.{lasts}
use Rattle.ht_program.specs.Running.{AreDecided, IsSettled, Ran, Streams}
use Rattle.ht_program.proofs.Told.{told_of}

-- ---- which replies close a connection that isn't to be closed

by_last : (most k : ℕ) (last : Bool) → closes_at false most k last ≡ last
by_last most k true = refl
by_last most k false = refl

pub closings_are : (most k : ℕ) (clock : Option (ℕ → ℕ)) (xs : List Exchange) → AreExchanges false most clock k xs → closings xs ≡ lasts (requests xs)
closings_are most k clock [] numbered = refl
closings_are most k clock (x ∷ xs) numbered =
    let first : x.closes ≡ x.request.last = numbered.2 ∙ by_last most k x.request.last in
    (λ i. first i ∷ closings_are most (k + 1) _ xs numbered.4 i)

-- ---- one request

abbrev bytes : Request → Outcome → List ℕ
bytes r o = reply_bytes (status_of o) (text_of o) r.last

-- it is replied as the office decides, and the calls that come later are those of the rest of the history
record IsReplied (s : State) (r : Request) (m : ℕ) (o : Outcome) (later : List Call) : Type 0 where
  after : State
  replies : RepliesTo (Decided s.limit) (office_of s) r (event_due r m) (bytes r o) (office_of after)
  certain : after.doubt ≡ None
  limited : after.limit ≡ s.limit
  rest : DeskHistory
  legal : IsLegal Steps after rest
  rest_are : calls_in rest ≡ later

module _ (s : State) (r : Request) (m : ℕ) (sure : s.doubt ≡ None) where
  gives_due : (due : Result Event ApiRefusal) (why : ApiRefusal) → Gives due (Err why) → refusal_status (refusal_of why) ≢ 500 → Err why ≡ due
  gives_due due refusal.Route is memory = is
  gives_due due refusal.Method is memory = is
  gives_due due refusal.Json is memory = is
  gives_due due (refusal.Field key) is memory = is
  gives_due due refusal.Person is memory = is
  gives_due due refusal.Memory is memory = absurd (memory refl)

  by_step : (e : Entry State Event Reply) (es : DeskHistory) (later : List Call) → Ok e.event ≡ event_due r m → IsLegal Steps e.after es → calls_in es ≡ later
      → status_of (answered (call_of e)) ≢ 500 → status_of (answered (call_of e)) ≢ 503 → Steps s e.event e.reply e.after → IsReplied s r m (answered (call_of e)) later
  by_step e es later event legal rest memory store step =
      let told = told_of e.event e.reply memory store s e.after step sure in
      record {
        after = e.after;
        replies = subst (λ (d : Result Event ApiRefusal). RepliesTo (Decided s.limit) (office_of s) r d (bytes r (answered (call_of e))) (office_of e.after)) event (e.reply, told.decides, refl);
        certain = told.certain;
        limited = told.limited;
        rest = es;
        legal = legal;
        rest_are = rest;
      }

  by_call : (c : Call) (later : List Call) (h : DeskHistory) → Ok c.event ≡ event_due r m → IsLegal Steps s h → calls_in h ≡ c ∷ later → status_of (answered c) ≢ 500 → status_of (answered c) ≢ 503 → IsReplied s r m (answered c) later
  by_call c later [] due legal are memory store = absurd (cc)
  by_call c later (e ∷ es) due legal are memory store =
      let same : c ≡ call_of e = cc in
      let rest : calls_in es ≡ later = cc in
      subst (λ (d : Call). IsReplied s r m (answered d) later) (sym same)
      (by_step e es later (subst (λ (d : Call). Ok d.event ≡ event_due r m) same due) legal.1 rest (subst (λ (d : Call). status_of (answered d) ≢ 500) same memory) (subst (λ (d : Call). status_of (answered d) ≢ 503) same store) legal.0)

  replied : (o : Outcome) (later : List Call) (h : DeskHistory) → IsOutcome (event_due r m) o → (IsAway o → ⊥) → IsLegal Steps s h → calls_in h ≡ calls_of o ++ later → status_of o ≢ 500 → status_of o ≢ 503 → IsReplied s r m o later
  replied (refused why) later h is here legal are memory store = record {
    after = s;
    replies = subst (λ (d : Result Event ApiRefusal). RepliesTo (Decided s.limit) (office_of s) r d (bytes r (refused why)) (office_of s)) (gives_due (event_due r m) why is memory) (refl, refl);
    certain = sure;
    limited = refl;
    rest = h;
    legal = legal;
    rest_are = are;
  }
  replied (answered c) later h is here legal are memory store = by_call c later h is legal are memory store
  replied (not_shown c) later h is here legal are memory store = absurd (memory refl)
  replied (turned_away e) later h is here legal are memory store = absurd (here tt)

-- ---- all of them

folded : (most k : ℕ) (moment : ℕ → ℕ) (s : State) (xs : List Exchange) (h : DeskHistory) → s.doubt ≡ None → AreExchanges false most (Some moment) k xs → (HasAway xs → ⊥) → IsLegal Steps s h → calls_in h ≡ calls xs → AreDecided xs → Folds (Decided s.limit) moment (office_of s) (requests xs) (replies xs)
folded most k moment s [] h sure numbered here legal are decided = refl
folded most k moment s (x ∷ xs) h sure numbered here legal are decided =
    let one = replied s x.request x.moment sure x.outcome (calls xs) h numbered.3 (λ away. here (inl away)) legal are decided.0 decided.1 in
    let closes : x.request.last ≡ x.closes = sym (numbered.2 ∙ by_last most k x.request.last) in
    let told = subst (λ (b : Bool). RepliesTo (Decided s.limit) (office_of s) x.request (event_due x.request x.moment) (reply_bytes (status_of x.outcome) (text_of x.outcome) b) (office_of one.after)) closes one.replies in
    let mine = subst (λ (m : ℕ). RepliesTo (Decided s.limit) (office_of s) x.request (event_due x.request m) (spelled x) (office_of one.after)) numbered.0 told in
    let others = folded most (k + 1) (λ j. moment (j + 1)) one.after xs one.rest one.certain numbered.4 (λ away. here (inr away)) one.legal one.rest_are decided.2 in
    (spelled x, office_of one.after, replies xs, mine, subst (λ (n : ℕ). Folds (Decided n) (λ j. moment (j + 1)) (office_of one.after) (requests xs) (replies xs)) one.limited others, refl)

-- ---- the run

module _ (moment : ℕ → ℕ) (most : ℕ) (s u : State) (old new : Streams) (clock : Option (ℕ → ℕ)) (e : Ending) (served : Served (StepsMade Steps s u) ⊥ false most 0 (sides old.input old.output (Some moment)) (sides new.input new.output clock) [] e) (sure : s.doubt ≡ None) (decided : AreDecided served.exchanges) where
  abbrev xs : List Exchange
  xs = served.exchanges

  abbrev Written : Type 0
  Written = (out : List ℕ) × IsOutput (Decided s.limit) moment most (office_of s) served.taken out × Grows old.output.written new.output.written out

  counted : length (requests xs) ≡ length xs
  counted = length-map xs (λ (x : Exchange). x.request)

  same : closings xs ≡ lasts (requests xs)
  same = closings_are most 0 (Some moment) xs served.serves.numbered

  open_still : GoOn (closings xs) → GoOn (lasts (requests xs))
  open_still going = subst GoOn same going

  whole : (tail : List ℕ) → IsBehind most (requests xs) served.rest tail → IsOutput (Decided s.limit) moment most (office_of s) served.taken (replies xs ++ tail)
  whole tail behind = record {
    asked = requests xs;
    rest = served.rest;
    stand = served.serves.stand;
    replies = replies xs;
    folds = folded most 0 moment s xs (served.serves.made).history sure served.serves.numbered served.serves.away (served.serves.made).legal (served.serves.made).calls_are decided;
    tail = tail;
    behind = behind;
    all = refl;
  }

  alone : IsBehind most (requests xs) served.rest [] → Grows old.output.written new.output.written (replies xs) → Written
  alone behind wrote = (replies xs, subst (λ (out : List ℕ). IsOutput (Decided s.limit) moment most (office_of s) served.taken out) (append-nil (replies xs)) (whole [] behind), wrote)

  ended : IsClosed (sides old.input old.output (Some moment)) (sides new.input new.output clock) [] xs ⊎ (GoOn (closings xs) × EndsAt new.input.flow served.rest) → Close (lasts (requests xs)) ⊎ (GoOn (lasts (requests xs)) × IsEnd served.rest)
  ended (inl closed) = inl (subst Close same closed.closes)
  ended (inr both) = inr (open_still both.0, both.1.1)

  pub written_as : (e : Ending) → EndsAs false most (0 + length xs) e (sides old.input old.output (Some moment)) (sides new.input new.output clock) [] served.rest xs → IsSettled e → Written
  written_as ending.Done ends settled = alone (inl (refl, inl ((let n = counted in let few = ends.1 in omega (arith, n, few)), ended ends.0))) ends.2
  written_as (ending.Wire code) ends settled = (
    replies xs ++ refusal_bytes code,
    whole (refusal_bytes code) (inr (open_still (ends.0).open_still, (let n = counted in let few = (ends.0).few in omega (arith, n, few)), (code, ((ends.0).refused).0, refl))),
    ends.1,
  )
  written_as ending.Budget ends settled = alone (inl (refl, inr (open_still ends.1, (let n = counted in let all = ends.2 in omega (arith, n, all))))) ends.4
  written_as ending.ReadFault ends settled = absurd settled
  written_as ending.WriteFault ends settled = absurd settled
  written_as ending.Memory ends settled = absurd settled

abbrev pub ran : (moment : ℕ → ℕ) (most : ℕ) (s u : State) (old new : Streams) (clock : Option (ℕ → ℕ)) (e : Ending) → Served (StepsMade Steps s u) ⊥ false most 0 (sides old.input old.output (Some moment)) (sides new.input new.output clock) [] e → Ran moment most s u old new e
ran moment most s u old new clock e served = record {
  clock = clock;
  served = served;
  written = λ sure settled decided. written_as moment most s u old new clock e served sure decided e served.ends settled;
}
