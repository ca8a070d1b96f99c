-- One exchange, and none.
use Rattle.std.proofs.Common.{◌≡◌, inl, inr, ⊎_elim, ◌||◌, ◌&&◌, ◌==◌, ℕ, ◌+◌, ◌<◌, ◌≤◌, arith, Bool, true, false, List, [], ◌∷◌, ◌++◌, refl, sym, ap, subst, ◌∙◌, append-nil, Option, Some, None, Result, Ok, Err}
use Rattle.std.specs.Result.{IsErr}
use Rattle.std.proofs.lemmas.Bool.Decides.{nat_tests}
use Rattle.ht_base.specs.declared.event.Event.{Event}
use Rattle.ht_base.specs.declared.reply.Answer.TheVariants.{Refused}
use Rattle.ht_base.specs.declared.reply.Refusal.{Refusal}
use Rattle.ht_base.specs.declared.reply.Refusal.TheVariants as told_refusal
use Rattle.ht_base.specs.declared.reply.Reply.{Reply}
use Rattle.ht_base.specs.Moment.{last_moment}
use Rattle.ht_outside.proofs.PublicLaws.{Takes-none}
use Rattle.ht_outside.specs.Causes.{Rose}
use Rattle.ht_outside.specs.Clocks.{IsNext, later as next_on}
use Rattle.ht_outside.specs.Tells.{Flow, SourceState, SinkState, Takes, Grows, GrowsPart}
use Rattle.ht_wire.proofs.PublicLaws.{reason_code, request_on, request_or_end, request_or_unfinished}
use Rattle.ht_wire.specs.declared.reading.Next.{Next}
use Rattle.ht_wire.specs.declared.reading.Next.TheVariants as next
use Rattle.ht_wire.specs.declared.request.Request.{Request}
use Rattle.ht_wire.specs.Reading.{Reads, EndsAt, Finds, LastReadWhere, RefusedAt}
use Rattle.ht_wire.specs.Replies.{IsReplyStatus, reply_bytes}
use Rattle.ht_wire.specs.Requests.{IsRefusalCode, IsRequest, IsUnfinished}
use Rattle.ht_api.specs.declared.refusal.ApiRefusal.{ApiRefusal}
use Rattle.ht_api.specs.declared.refusal.ApiRefusal.TheVariants as refusal
use Rattle.ht_api.specs.Events.{event_due}
use Rattle.ht_api.specs.Refusals.{Gives, refusal_of}
use Rattle.ht_api.specs.Replies.{IsTold, answer_text}
use Rattle.ht_api.specs.Statuses.{refusal_status}
use Rattle.ht_serve.specs.declared.ending.Ending.{Ending}
use Rattle.ht_serve.specs.declared.ending.Ending.TheVariants as ending
use Rattle.ht_serve.specs.Answering.{Answers}
use Rattle.ht_serve.specs.Calls.{Call}
use Rattle.ht_serve.specs.Closing.{closes_at}
use Rattle.ht_serve.specs.Exchanges.{Exchange, IsAway, answered, calls_of, not_shown, refused, replies, spelled, status_of, turned_away}
use Rattle.ht_serve.specs.Serving.{AreLater, AreNotWhole, AreUnfinished, EndsAs, Follows, FollowsAs, Goes, IsMoreAt, IsRefusedBehind, Served, Serves, Sides, sides}
use Rattle.ht_serve.specs.Texts.{memory_text, refusal_bytes, reply_status, status_or, text_or}

module _ (Made : List Call → Type 0) (Spent : Type 0) where
  -- ---- the call of an event

  abbrev call_made : Event → Reply → Call
  call_made e reply = record { event = e; reply = reply }

  pub answers_shown : (e : Event) (reply : Reply) (status : ℕ) (text : List ℕ) → Made (call_made e reply ∷ []) → status ≡ reply_status e reply.answer → text ≡ answer_text reply.answer → Answers Made Spent (Ok e) status text
  answers_shown e reply status text made status_is text_is = record {
    outcome = answered (call_made e reply);
    may = refl;
    made = made;
    away = λ a. absurd a;
    status_is = status_is;
    text_is = text_is;
  }

  pub answers_unshown : {E : Type 0} (e : Event) (reply : Reply) (result : Result ℕ E) (text : List ℕ) → Made (call_made e reply ∷ []) → IsErr result → IsTold reply.answer → Answers Made Spent (Ok e) (status_or result) (text_or result text)
  answers_unshown e reply (Ok status) text made err sheet = absurd (cc)
  answers_unshown e reply (Err x) text made err sheet = record {
    outcome = not_shown (call_made e reply);
    may = (refl, sheet);
    made = made;
    away = λ a. absurd a;
    status_is = refl;
    text_is = refl;
  }

  pub answers_away : {E : Type 0} (e : Event) (result : Result ℕ E) (text : List ℕ) → Made [] → Spent → result ≡ Ok (refusal_status told_refusal.Spent) → text ≡ answer_text (Refused told_refusal.Spent) → Answers Made Spent (Ok e) (status_or result) (text_or result text)
  answers_away e result text made spent status_is text_is = record {
    outcome = turned_away e;
    may = refl;
    made = made;
    away = λ _. spent;
    status_is = ap (λ x. status_or x) status_is;
    text_is = ap (λ x. text_or x text) status_is ∙ text_is;
  }

  -- ---- no call

  answers_refusal : (due : Result Event ApiRefusal) (status : ℕ) (text : List ℕ) (why : ApiRefusal) → Made [] → Gives due (Err why) → status ≡ refusal_status (refusal_of why) → text ≡ answer_text (Refused (refusal_of why)) → Answers Made Spent due status text
  answers_refusal due status text why none gives status_is text_is = record {
    outcome = refused why;
    may = gives;
    made = none;
    away = λ a. absurd a;
    status_is = status_is;
    text_is = text_is;
  }

  -- the request makes no event
  pub answers_refused : {E : Type 0} (due : Result Event ApiRefusal) (result : Result ℕ E) (text : List ℕ) (why : ApiRefusal) (told : Refusal) → Made [] → Gives due (Err why)
      → told ≡ refusal_of why → result ≡ Ok (refusal_status told) → text ≡ answer_text (Refused told) → Answers Made Spent due (status_or result) (text_or result text)
  answers_refused due result text why told none gives told_is status_is text_is =
      answers_refusal due (status_or result) (text_or result text) why none gives
      (ap (λ x. status_or x) status_is ∙ ap refusal_status told_is)
      (ap (λ x. text_or x text) status_is ∙ text_is ∙ ap (λ x. answer_text (Refused x)) told_is)

  -- there was no memory for the text of an answer
  pub answers_none : {E : Type 0} (due : Result Event ApiRefusal) (result : Result ℕ E) (text : List ℕ) → Made [] → IsErr result → Answers Made Spent due (status_or result) (text_or result text)
  answers_none due (Ok status) text none err = absurd (cc)
  answers_none due (Err e) text none err = answers_refusal due 500 memory_text refusal.Memory none tt refl refl

  -- what is due is this event
  pub answers_event : (due : Result Event ApiRefusal) (e : Event) (status : ℕ) (text : List ℕ) → Ok e ≡ due → Answers Made Spent (Ok e) status text → Answers Made Spent due status text
  answers_event due e status text is answers = subst (λ (d : Result Event ApiRefusal). Answers Made Spent d status text) is answers

-- ---- the exchange of one request

no_request : (r : Request) (bytes : List ℕ) → IsUnfinished bytes → AreNotWhole (r ∷ []) bytes
no_request r bytes none rest are = request_or_unfinished bytes r are.0 are.1 none

needed_for : (r : Request) (f g : Option Flow) (old : List ℕ) → LastReadWhere IsUnfinished f g old → LastReadWhere (AreNotWhole (r ∷ [])) f g old
needed_for r None None old needed = tt
needed_for r None (Some g) old needed = absurd needed
needed_for r (Some f) None old needed = absurd needed
needed_for r (Some f) (Some g) old (inl same) = inl same
needed_for r (Some f) (Some g) old (inr read) = inr (read.0, read.1, no_request r (old ++ read.0) read.2)

module _ (Made : List Call → Type 0) (Spent : Type 0) (closing : Bool) (most k : ℕ) (old new : Sides) (p q : List ℕ) (r : Request) (m : ℕ) (closes : Bool) (status : ℕ) (text : List ℕ)
    (reads : Reads old.input.flow new.input.flow p q (next.Request r)) (later : AreLater old new) (at : IsNext old.clock m) (valid : m ≤ last_moment) (clock : new.clock ≡ next_on old.clock)
    (closes_is : closes ≡ closes_at closing most k r.last) (answers : Answers Made Spent (event_due r m) status text) where
  abbrev made : Exchange
  made = record { request = r; moment = m; closes = closes; outcome = answers.outcome }

  serves_one : Serves Made Spent closing most k old.clock (p ++ reads.taken) q (made ∷ [])
  serves_one = record {
    stand = (q, reads.finds, (λ last. refl), refl);
    numbered = (at, valid, closes_is, answers.may, tt);
    made = subst (λ (cs : List Call). Made cs) (sym (append-nil (calls_of answers.outcome))) answers.made;
    away = λ h. ⊎_elim (λ (a : IsAway answers.outcome). answers.away a) (λ (b : ⊥). absurd b) h;
  }

  needed_one : LastReadWhere (AreNotWhole (r ∷ [])) old.input.flow new.input.flow p
  needed_one = needed_for r old.input.flow new.input.flow p reads.needed

  bytes_one : reply_bytes status text closes ≡ spelled made
  bytes_one = ap (λ s. reply_bytes s text closes) answers.status_is ∙ ap (λ s. reply_bytes (status_of answers.outcome) s closes) answers.text_is

  wrote_one : Grows old.output.written new.output.written (reply_bytes status text closes) → Grows old.output.written new.output.written (replies (made ∷ []))
  wrote_one wrote = subst (λ (b : List ℕ). Grows old.output.written new.output.written b) (bytes_one ∙ sym (append-nil (spelled made))) wrote

  or_right : (b c : Bool) → (b || c) ≡ false → c ≡ false
  or_right true c e = absurd (cc)
  or_right false c e = e

  short_one : k < most → closes ≡ false → closing ≡ true → k + 1 < most
  short_one few going shut =
      let last : (closing && (k + 1 == most)) ≡ false = or_right r.last _ (sym closes_is ∙ going) in
      let other : (k + 1 == most) ≡ false = subst (λ (b : Bool). (b && (k + 1 == most)) ≡ false) shut last in
      let apart : k + 1 ≡ most → ⊥ = λ e. absurd (grind (arith, nat_tests)) in omega (arith, few, apart)

  pub one_more : k < most → closes ≡ false → Grows old.output.written new.output.written (reply_bytes status text closes) → Goes Made Spent closing most k (k + 1) old new p q
  one_more few going wrote = record {
    exchanges = made ∷ [];
    counted = refl;
    short = short_one few going;
    taken = reads.taken;
    takes = reads.takes;
    serves = serves_one;
    clock = clock;
    open_still = (going, tt);
    wrote = wrote_one wrote;
    needed = needed_one;
    later = later;
  }

  ends_one : (e : Ending) → EndsAs closing most (k + 1) e old new p q (made ∷ []) → Served Made Spent closing most k old new p e
  ends_one e ends = record {
    exchanges = made ∷ [];
    taken = reads.taken;
    takes = reads.takes;
    rest = q;
    serves = serves_one;
    clock = clock;
    ends = ends;
    later = later;
  }

  pub one_last : k < most → closes ≡ true → Grows old.output.written new.output.written (reply_bytes status text closes) → Served Made Spent closing most k old new p ending.Done
  one_last few last wrote = ends_one ending.Done (inl (record { closes = last; needed = needed_one }), omega (arith, few), wrote_one wrote)

  pub one_broken : k < most → Rose old.output.faults new.output.faults → GrowsPart old.output.written new.output.written (reply_bytes status text closes) → Served Made Spent closing most k old new p ending.WriteFault
  one_broken few rose part = ends_one ending.WriteFault (
    omega (arith, few),
    record {
      rose = rose;
      whole = [];
      cut = spelled made;
      last = inl (record { earlier = []; last = made; they_are = refl; needed = needed_one; whole_is = refl; cut_is = refl });
      front = part.0;
      back = part.1;
      cut_is = sym bytes_one ∙ part.2;
      wrote = part.3;
    },
  )

-- ---- no request came

-- behind no requests bytes were needed
needed_none : (f g : Option Flow) (old : List ℕ) → LastReadWhere IsUnfinished f g old → LastReadWhere (AreUnfinished []) f g old
needed_none None None old needed = tt
needed_none None (Some g) old needed = absurd needed
needed_none (Some f) None old needed = absurd needed
needed_none (Some f) (Some g) old (inl same) = inl same
needed_none (Some f) (Some g) old (inr read) = inr (read.0, read.1, inr (old ++ read.0, refl, read.2))

module _ (Made : List Call → Type 0) (Spent : Type 0) (none : Made []) (closing : Bool) (most k : ℕ) (input more : SourceState) (output written : SinkState) (clock : Option (ℕ → ℕ)) (p q : List ℕ)
    (read_later : input.faults ≤ more.faults) (write_later : output.faults ≤ written.faults) where
  ends_none : (e : Ending) (taken : List ℕ) → Takes input.flow more.flow taken → q ≡ p ++ taken → EndsAs closing most (k + 0) e (sides input output clock) (sides more written clock) p q [] → Served Made Spent closing most k (sides input output clock) (sides more written clock) p e
  ends_none e taken takes is ends = record {
    exchanges = [];
    taken = taken;
    takes = takes;
    rest = q;
    serves = record { stand = sym is; numbered = tt; made = none; away = λ a. absurd a };
    clock = refl;
    ends = ends;
    later = record { input = read_later; output = write_later };
  }

  refused_here : k < most → (code : ℕ) → Reads input.flow more.flow p q (next.Refused code) → IsRefusedBehind most (k + 0) (sides input output clock) (sides more written clock) p q [] code
  refused_here few code reads = record {
    open_still = tt;
    few = omega (arith, few);
    refused = subst (λ (b : List ℕ). RefusedAt more.flow b code) (sym reads.finds.0) reads.finds.1;
    needed = needed_none input.flow more.flow p reads.needed;
  }

  pub none_refused : k < most → (code : ℕ) → Reads input.flow more.flow p q (next.Refused code) → Grows output.written written.written (refusal_bytes code) → Served Made Spent closing most k (sides input output clock) (sides more written clock) p (ending.Wire code)
  none_refused few code reads wrote = ends_none (ending.Wire code) reads.taken reads.takes reads.finds.0 (refused_here few code reads, wrote)

  pub none_broken : k < most → (code : ℕ) → Reads input.flow more.flow p q (next.Refused code) → Rose output.faults written.faults → GrowsPart output.written written.written (refusal_bytes code) → Served Made Spent closing most k (sides input output clock) (sides more written clock) p ending.WriteFault
  none_broken few code reads rose part = ends_none ending.WriteFault reads.taken reads.takes reads.finds.0 (
    omega (arith, few),
    record {
      rose = rose;
      whole = [];
      cut = refusal_bytes code;
      last = inr (record { code = code; refused = refused_here few code reads; whole_is = refl; cut_is = refl });
      front = part.0;
      back = part.1;
      cut_is = part.2;
      wrote = part.3;
    },
  )

Grows-none : (w : Option (List ℕ)) → Grows w w []
Grows-none None = tt
Grows-none (Some w) = sym (append-nil w)

-- and nothing was written
module _ (Made : List Call → Type 0) (Spent : Type 0) (none : Made []) (closing : Bool) (most k : ℕ) (input more : SourceState) (output : SinkState) (clock : Option (ℕ → ℕ)) (p q : List ℕ)
    (read_later : input.faults ≤ more.faults) (few : k < most) where
  unwritten : (e : Ending) (taken : List ℕ) → Takes input.flow more.flow taken → q ≡ p ++ taken → EndsAs closing most (k + 0) e (sides input output clock) (sides more output clock) p q [] → Served Made Spent closing most k (sides input output clock) (sides more output clock) p e
  unwritten e taken takes is ends = ends_none Made Spent none closing most k input more output output clock p q read_later (omega arith) e taken takes is ends

  pub none_done : Reads input.flow more.flow p q next.End → Served Made Spent closing most k (sides input output clock) (sides more output clock) p ending.Done
  none_done reads = unwritten ending.Done reads.taken reads.takes reads.finds.0 (inr (tt, subst (λ (b : List ℕ). EndsAt more.flow b) (sym reads.finds.0) reads.finds.1), omega (arith, few), Grows-none output.written)

  pub none_fault : Rose input.faults more.faults → Reads input.flow more.flow p q next.ReadFault → Served Made Spent closing most k (sides input output clock) (sides more output clock) p ending.ReadFault
  none_fault rose reads = unwritten ending.ReadFault reads.taken reads.takes reads.finds.0 (tt, omega (arith, few), subst IsUnfinished (sym reads.finds.0) reads.finds.1, rose, Grows-none output.written)

  pub none_memory : Reads input.flow more.flow p q next.Memory → Served Made Spent closing most k (sides input output clock) (sides more output clock) p ending.Memory
  none_memory reads = unwritten ending.Memory reads.taken reads.takes reads.finds (tt, omega (arith, few), Grows-none output.written)

-- ---- nothing was read yet

module _ (Made : List Call → Type 0) (Spent : Type 0) (none : Made []) (closing : Bool) (most : ℕ) (input : SourceState) (output : SinkState) (clock : Option (ℕ → ℕ)) where
  pub not_begun : Served Made Spent closing most 0 (sides input output clock) (sides input output clock) [] ending.Memory
  not_begun =
      ends_none Made Spent none closing most 0 input input output output clock [] [] (omega arith) (omega arith) ending.Memory [] (Takes-none input.flow) refl (tt, omega arith, Grows-none output.written)

  pub begun : (p : List ℕ) → 1 ≤ most → p ≡ [] → Goes Made Spent closing most 0 0 (sides input output clock) (sides input output clock) [] p
  begun p some buffer = record {
    exchanges = [];
    counted = refl;
    short = λ _. omega (arith, some);
    taken = [];
    takes = Takes-none input.flow;
    serves = record { stand = sym buffer; numbered = tt; made = none; away = λ a. absurd a };
    clock = refl;
    open_still = tt;
    wrote = Grows-none output.written;
    needed = unread input.flow;
    later = record { input = omega arith; output = omega arith };
  }
    where
      unread : (f : Option Flow) → LastReadWhere (AreNotWhole []) f f []
      unread None = tt
      unread (Some f) = inl refl

-- ---- the two ends of a link, of which a call leaves one

pub reads_at : (f : Option Flow) (a b : SourceState) (p q : List ℕ) (n : Next) → b ≡ a → Reads f a.flow p q n → Reads f b.flow p q n
reads_at f a b p q n same r = subst (λ (x : SourceState). Reads f x.flow p q n) (sym same) r

pub grows_at : (a b : SinkState) (w : Option (List ℕ)) (bs : List ℕ) → b ≡ a → Grows b.written w bs → Grows a.written w bs
grows_at a b w bs same r = subst (λ (x : SinkState). Grows x.written w bs) same r

pub part_at : (a b : SinkState) (w : Option (List ℕ)) (bs : List ℕ) → b ≡ a → GrowsPart b.written w bs → GrowsPart a.written w bs
part_at a b w bs same r = subst (λ (x : SinkState). GrowsPart x.written w bs) same r

pub rose_at : (a b : SinkState) (now : ℕ) → b ≡ a → Rose b.faults now → Rose a.faults now
rose_at a b now same r = subst (λ (x : SinkState). Rose x.faults now) same r

pub read_still : (n : ℕ) (a b : SourceState) → b ≡ a → n ≤ a.faults → n ≤ b.faults
read_still n a b same later = subst (λ (x : SourceState). n ≤ x.faults) (sym same) later

pub write_still : (a b : SinkState) (n : ℕ) → b ≡ a → b.faults ≤ n → a.faults ≤ n
write_still a b n same later = subst (λ (x : SinkState). x.faults ≤ n) same later

pub ends_with : (A : List Call → Type 0) (P : Type 0) (closing : Bool) (most k : ℕ) (old : Sides) (input : SourceState) (o w : SinkState) (clock : Option (ℕ → ℕ)) (p : List ℕ) (e : Ending) → w ≡ o
    → Served A P closing most k old (sides input o clock) p e → Served A P closing most k old (sides input w clock) p e
ends_with A P closing most k old input o w clock p e same ends = subst (λ (x : SinkState). Served A P closing most k old (sides input x clock) p e) (sym same) ends

-- ---- what stands behind the last request that may be answered

abbrev pub after_last : Next → Ending
after_last (next.Request r) = ending.Budget
after_last next.End = ending.Done
after_last (next.Refused code) = ending.Budget
after_last next.ReadFault = ending.ReadFault
after_last next.Memory = ending.Memory

more_request : (g : Option Flow) (bytes : List ℕ) (r : Request) (rest : List ℕ) → IsRequest bytes r rest → IsMoreAt g bytes
more_request None bytes r rest is = tt
more_request (Some g) bytes r rest is = λ end. request_or_end (bytes ++ g.left) r (rest ++ g.left) (request_on bytes g.left r rest is) end

more_refused : (g : Option Flow) (bytes : List ℕ) (code : ℕ) → RefusedAt g bytes code → IsMoreAt g bytes
more_refused None bytes code is = tt
more_refused (Some g) bytes code is = (is.1).more

module _ (f g : SourceState) (p q : List ℕ) where
  pub follows : (n : Next) (e : Ending) → Reads f.flow g.flow p q n → f.faults ≤ g.faults → (n ≡ next.ReadFault → Rose f.faults g.faults) → e ≡ after_last n → Follows f g p e
  follows n e reads later cause is = record { taken = reads.taken; takes = reads.takes; follows = subst (λ (x : Ending). FollowsAs x f g (p ++ reads.taken)) (sym is) (by_answer n reads.finds cause); later = later }
    where
      by_answer : (n : Next) → Finds (p ++ reads.taken) g.flow q n → (n ≡ next.ReadFault → Rose f.faults g.faults) → FollowsAs (after_last n) f g (p ++ reads.taken)
      by_answer (next.Request r) finds cause = more_request g.flow (p ++ reads.taken) r q finds
      by_answer next.End finds cause = finds.1
      by_answer (next.Refused code) finds cause = more_refused g.flow (p ++ reads.taken) code finds.1
      by_answer next.ReadFault finds cause = (finds.1, cause refl)
      by_answer next.Memory finds cause = tt

-- every refused connection gets a status of the replies
refusal_known : (code : ℕ) → IsRefusalCode code → IsReplyStatus code
refusal_known code (inl e) = rw e refl
refusal_known code (inr (inl e)) = rw e refl
refusal_known code (inr (inr (inl e))) = rw e refl
refusal_known code (inr (inr (inr e))) = rw e refl

pub refused_known : (g : Option Flow) (bytes : List ℕ) (code : ℕ) → RefusedAt g bytes code → IsReplyStatus code
refused_known g bytes code is = refusal_known code (reason_code bytes code (is.0).why)
