-- What an event leaves to be kept.
use Rattle.std.proofs.Common.{◌≡◌, ◌≤◌, ◌⊎◌, ℕ, zero, suc, List, [], ◌∷◌, length, Option, None, Some, inl, inr, refl, ap, sym, subst, ◌∙◌, arith}
use Rattle.ht_base.specs.declared.event.Command.{Command}
use Rattle.ht_base.specs.declared.event.Event.{Event}
use Rattle.ht_base.specs.declared.event.Event.TheVariants.{Ask, Read, Turn}
use Rattle.ht_base.specs.declared.moment.Moment.{Moment}
use Rattle.ht_base.specs.declared.record.Record.{Record}
use Rattle.ht_base.specs.declared.record.Record.TheVariants as record_of
use Rattle.ht_base.specs.declared.record.Record.TheVariants.{Asked}
use Rattle.ht_base.specs.declared.reply.Answer.{Answer}
use Rattle.ht_base.specs.declared.reply.Answer.TheVariants.{Turned}
use Rattle.ht_base.specs.declared.reply.Reply.{Reply}
use Rattle.ht_base.specs.declared.retry.Retry.{Retry}
use Rattle.ht_base.specs.declared.task_id.TaskId.{TaskId}
use Rattle.ht_base.specs.Events.{IsValid, op_of}
use Rattle.ht_base.specs.Moment.{last_moment}
use Rattle.ht_due.specs.declared.due.Due.{Due}
use Rattle.ht_machine.specs.Commands.{Consequence, accepted, refused}
use Rattle.ht_machine.specs.declared.sending.Sending.{Sending}
use Rattle.ht_machine.specs.declared.sending.Sending.TheVariants as sending
use Rattle.ht_machine.specs.declared.sending.Sending.TheVariants.{New, Answered}
use Rattle.ht_machine.specs.Deciding.{Asks, AsksAs, Behind, Decides, Doing, IsIdle, Rests, Settles, effective, last_after, left_with, moment_of}
use Rattle.ht_machine.specs.History.{Applies, IsLeftAt, event_of}
use Rattle.ht_machine.specs.Turning.{Takings}
use Rattle.ht_machine.specs.Turning.Takings.{end, on}
use Rattle.ht_machine.proofs.OneOutcome.{same}
use Rattle.ht_tree.specs.Tables.{TablesOf}

-- ---- a command itself

-- it leaves its own record, or none and the tables as they are
abbrev OneOrNone : Record → TablesOf → Option Record → TablesOf → Type 0
OneOrNone asked u left after = (left ≡ Some asked) ⊎ IsIdle u left after

asked_leaves : (u : TablesOf) (moment : ℕ) (caller : List ℕ) (retry : Option Retry) (task : TaskId) (c : Command) (left : Option Record) (answer : Answer) (after : TablesOf) → Asks u moment caller retry task c left answer after → OneOrNone (Asked (record { 0 = moment }) caller retry task c) u left after
asked_leaves u moment caller retry task c left answer after asks = go asks.sending asks.asks
  where
    settled : (person : ℕ) (o : Consequence) → Settles u person retry (op_of c) task (Asked (record { 0 = moment }) caller retry task c) o left answer after → OneOrNone (Asked (record { 0 = moment }) caller retry task c) u left after
    settled person (accepted v about) (reply, shows, kept, is, told) = inl kept
    settled person (refused why) (idle, told) = inr idle

    go : (known : Sending) → AsksAs u moment retry task c (Asked (record { 0 = moment }) caller retry task c) known left answer after → OneOrNone (Asked (record { 0 = moment }) caller retry task c) u left after
    go (New person) (o, comes, settles) = settled person o settles
    go (Answered reply) (idle, told) = inr idle
    go (sending.Refused why) (idle, told) = inr idle

-- ---- behind a turn

-- of what leaves no record itself
from_turn : (moment n : ℕ) (own : Option Record) (k : Record) → own ≡ None → Some k ≡ left_with moment n own → k ≡ record_of.Turn (record { 0 = moment })
from_turn moment n (Some x) k none is = absurd cc
from_turn moment zero None k none is = absurd cc
from_turn moment (suc n) None k none is = cc

from_itself : (moment n : ℕ) (own : Option Record) (k asked : Record) → own ≡ Some asked → Some k ≡ left_with moment n own → k ≡ asked
from_itself moment n None k asked is left = absurd cc
from_itself moment n (Some x) k asked is left = cc

nothing_due : (moment n : ℕ) (own : Option Record) → None ≡ left_with moment n own → (n ≡ 0) × (own ≡ None)
nothing_due moment n (Some x) is = absurd cc
nothing_due moment zero None is = (refl, refl)
nothing_due moment (suc n) None is = absurd cc

none_taken : (by : ℕ) (u v : TablesOf) (ds : List Due) → Takings by u ds v → length ds ≡ 0 → v ≡ u
none_taken by u v [] end none = refl
none_taken by u v (d ∷ ds) (on first takes rest) none = absurd (omega arith)

not_both : (o : Option Record) (k : Record) → o ≡ None → o ≡ Some k → ⊥
not_both o k none some = cc

module _ (t : TablesOf) (moment : ℕ) (Does : Doing) (r : Reply) (u : TablesOf) where
  unchanged : (d : Behind t moment Does None r u) → ((d.own ≡ None) → d.acted ≡ d.turned) → u ≡ t
  unchanged d idle =
      let none = nothing_due moment (length d.dues) d.own d.left_is in
      d.after_is ∙ idle none.1 ∙ none_taken moment t d.turned d.dues (d.turn).takings none.0

idle_of : (asked : Record) (u : TablesOf) (own : Option Record) (acted : TablesOf) → OneOrNone asked u own acted → own ≡ None → acted ≡ u
idle_of asked u own acted (inl some) none = absurd (not_both own asked none some)
idle_of asked u own acted (inr idle) none = idle.1

pub nothing_changes : (t : TablesOf) (e : Event) (r : Reply) (u : TablesOf) → Decides t e None r u → u ≡ t
nothing_changes t (Turn at) r u d = unchanged t (effective t at.0) Rests r u d (λ none. d.does.0.1)
nothing_changes t (Ask at caller retry task c) r u d =
    let moment = effective t at.0 in
    unchanged t moment (λ v. Asks v moment caller retry task c) r u d (λ none. idle_of (Asked (record { 0 = moment }) caller retry task c) d.turned d.own d.acted (asked_leaves d.turned moment caller retry task c d.own r.answer d.acted d.does) none)
nothing_changes t (Read caller what) r u d = d.0.1

-- ---- the record that is left

abbrev now : TablesOf → Event → Moment
now t e = record { 0 = moment_of t e }

left_of : (t : TablesOf) (e : Event) (k : Record) (r : Reply) (u : TablesOf) → Decides t e (Some k) r u → IsLeftAt (now t e) e k
left_of t (Turn at) k r u d = inl (from_turn (effective t at.0) (length d.dues) d.own k d.does.0.0 d.left_is)
left_of t (Ask at caller retry task c) k r u d = go (asked_leaves d.turned (effective t at.0) caller retry task c d.own r.answer d.acted d.does)
  where
    go : OneOrNone (Asked (record { 0 = effective t at.0 }) caller retry task c) d.turned d.own d.acted → IsLeftAt (now t (Ask at caller retry task c)) (Ask at caller retry task c) k
    go (inl own) = inr (from_itself (effective t at.0) (length d.dues) d.own k _ own d.left_is)
    go (inr idle) = inl (from_turn (effective t at.0) (length d.dues) d.own k idle.0 d.left_is)
left_of t (Read caller what) k r u d = absurd (not_both (Some k) k d.0.0 refl)

its_moment : (acted : TablesOf) (at : Moment) (e : Event) (k : Record) → IsLeftAt at e k → last_after acted (Some k) ≡ at.0
its_moment acted at e k (inl is) = ap (λ (x : Record). last_after acted (Some x)) is
its_moment acted at (Turn when) k (inr is) = ap (λ (x : Record). last_after acted (Some x)) is
its_moment acted at (Ask when caller retry task c) k (inr is) = ap (λ (x : Record). last_after acted (Some x)) is
its_moment acted at (Read caller what) k (inr is) = ap (λ (x : Record). last_after acted (Some x)) is

-- its moment becomes the last one
becomes_last : (t : TablesOf) (e : Event) (k : Record) (r : Reply) (u : TablesOf) → Decides t e (Some k) r u → u.last ≡ moment_of t e
becomes_last t (Turn at) k r u d = ap (λ (x : TablesOf). x.last) d.after_is ∙ its_moment d.acted (now t (Turn at)) (Turn at) k (left_of t (Turn at) k r u d)
becomes_last t (Ask at caller retry task c) k r u d =
    let e = Ask at caller retry task c in
    ap (λ (x : TablesOf). x.last) d.after_is ∙ its_moment d.acted (now t e) e k (left_of t e k r u d)
becomes_last t (Read caller what) k r u d = absurd (not_both (Some k) k d.0.0 refl)

-- and is no earlier than that was
no_earlier : (t : TablesOf) (e : Event) → t.last ≤ moment_of t e
no_earlier t (Turn at) = omega arith
no_earlier t (Ask at caller retry task c) = omega arith
no_earlier t (Read caller what) = omega arith

-- what an event leaves is of its moment
pub record IsOfItsMoment (t : TablesOf) (e : Event) (k : Record) (u : TablesOf) : Type 0 where
  pub left : IsLeftAt (record { 0 = moment_of t e }) e k
  pub later : t.last ≤ moment_of t e
  pub last : u.last ≡ moment_of t e

pub of_its_moment : (t : TablesOf) (e : Event) (k : Record) (r : Reply) (u : TablesOf) → Decides t e (Some k) r u → IsOfItsMoment t e k u
of_its_moment t e k r u d = record { left = left_of t e k r u d; later = no_earlier t e; last = becomes_last t e k r u d }

-- ---- its own event

the_event : (k x : Record) (own e : Event) → k ≡ x → event_of k ≡ Some own → event_of x ≡ Some e → own ≡ e
the_event k x own e is of its = let one : Some own ≡ Some e = sym of ∙ ap event_of is ∙ its in cc

within : (t : TablesOf) (e : Event) → IsValid e → t.last ≤ last_moment → moment_of t e ≤ last_moment
within t (Turn at) valid low = omega arith
within t (Ask at caller retry task c) valid low = let early = valid.0 in omega arith
within t (Read caller what) valid low = low

-- is valid
valid_at : (t : TablesOf) (e : Event) (k : Record) (own : Event) → IsValid e → t.last ≤ last_moment → IsLeftAt (now t e) e k → event_of k ≡ Some own → IsValid own
valid_at t e k own valid low (inl is) of =
    let V : Event → Type 0 = λ x. IsValid x in
    subst V (sym (the_event k _ own _ is of refl)) (within t e valid low)
valid_at t (Turn at) k own valid low (inr is) of =
    let V : Event → Type 0 = λ x. IsValid x in
    subst V (sym (the_event k _ own _ is of refl)) (within t (Turn at) valid low)
valid_at t (Ask at caller retry task c) k own valid low (inr is) of =
    let V : Event → Type 0 = λ x. IsValid x in
    subst V (sym (the_event k _ own _ is of refl)) (within t (Ask at caller retry task c) valid low, valid.1, valid.2, valid.3)
valid_at t (Read caller what) k own valid low (inr is) of =
    let V : Event → Type 0 = λ x. IsValid x in
    subst V (sym (the_event k _ own _ is of refl)) low

pub its_event_is_valid : (t : TablesOf) (e : Event) (k : Record) (r : Reply) (u : TablesOf) (own : Event) → IsValid e → t.last ≤ last_moment → Decides t e (Some k) r u → event_of k ≡ Some own → IsValid own
its_event_is_valid t e k r u own valid low d of = valid_at t e k own valid low (left_of t e k r u d) of

-- and leads to the same tables
again : (t : TablesOf) (n : ℕ) → effective t n ≡ effective t (effective t n)
again t n = omega arith

module _ (t : TablesOf) (n : ℕ) (k : Record) (r : Reply) (u : TablesOf) where
  turn_again : Behind t (effective t n) Rests (Some k) r u → k ≡ record_of.Turn (record { 0 = effective t n }) → Applies t k u
  turn_again d is =
      let D : ℕ → Type 0 = λ m. Behind t m Rests (Some k) r u in
      (Turn (record { 0 = effective t n }), r, ap event_of is, subst D (again t n) d)

module _ (t : TablesOf) (at : Moment) (caller : List ℕ) (retry : Option Retry) (task : TaskId) (c : Command) (k : Record) (r : Reply) (u : TablesOf) (d : Decides t (Ask at caller retry task c) (Some k) r u) where
  asked_again : OneOrNone (Asked (record { 0 = effective t at.0 }) caller retry task c) d.turned d.own d.acted → Applies t k u
  asked_again (inl own) =
      let D : ℕ → Type 0 = λ m. Behind t m (λ v. Asks v m caller retry task c) (Some k) r u in
      let is = from_itself (effective t at.0) (length d.dues) d.own k _ own d.left_is in
      (Ask (record { 0 = effective t at.0 }) caller retry task c, r, ap event_of is, subst D (again t at.0) d)
  asked_again (inr idle) =
      let moment = effective t at.0 in
      turn_again t at.0 k (record { taken = r.taken; answer = Turned }) u (record {
        turned = d.turned;
        dues = d.dues;
        turn = d.turn;
        taken = d.taken;
        own = None;
        acted = d.acted;
        does = ((refl, idle.1), refl);
        left_is = d.left_is ∙ ap (λ (o : Option Record). left_with moment (length d.dues) o) idle.0;
        after_is = d.after_is;
      }) (from_turn moment (length d.dues) d.own k idle.0 d.left_is)

pub applies_again : (t : TablesOf) (e : Event) (k : Record) (r : Reply) (u : TablesOf) → Decides t e (Some k) r u → Applies t k u
applies_again t (Turn at) k r u d = turn_again t at.0 k r u d (from_turn (effective t at.0) (length d.dues) d.own k d.does.0.0 d.left_is)
applies_again t (Ask at caller retry task c) k r u d =
    let moment = effective t at.0 in
    asked_again t at caller retry task c k r u d (asked_leaves d.turned moment caller retry task c d.own r.answer d.acted d.does)
applies_again t (Read caller what) k r u d = absurd (not_both (Some k) k d.0.0 refl)

-- a record is applied in one way
pub applied_once : (t : TablesOf) (k : Record) (u v : TablesOf) → Applies t k u → Applies t k v → u ≡ v
applied_once t k u v (e, r, is, d) (f, s, js, g) =
    let one : Some f ≡ Some e = sym js ∙ is in
    let same_event : f ≡ e = cc in
    let D : Event → Type 0 = λ x. Decides t x (Some k) s v in
    (same t e (Some k) (Some k) r s u v d (subst D same_event g)).after
