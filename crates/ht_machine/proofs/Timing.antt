-- When the timer runs, and whether, makes no difference to what commands are answered.
use Rattle.std.proofs.Common.{◌≡◌, ◌≤◌, ℕ, zero, suc, Bool, true, false, not, List, [], ◌∷◌, ◌++◌, length, filter, map, if◌then◌else◌, Option, None, Some, refl, ap, sym, subst, ◌∙◌, inl, inr, arith}
use Rattle.ht_base.specs.declared.event.Command.{Command}
use Rattle.ht_base.specs.declared.event.Event.{Event}
use Rattle.ht_base.specs.declared.event.Event.TheVariants.{Ask, Read, Turn}
use Rattle.ht_base.specs.declared.query.Query.{Query}
use Rattle.ht_base.specs.declared.moment.Moment.{Moment}
use Rattle.ht_base.specs.declared.record.Record.{Record}
use Rattle.ht_base.specs.declared.record.Record.TheVariants.{Asked}
use Rattle.ht_base.specs.declared.reply.Answer.{Answer}
use Rattle.ht_base.specs.declared.reply.Reply.{Reply}
use Rattle.ht_base.specs.declared.retry.Retry.{Retry}
use Rattle.ht_base.specs.declared.task_id.TaskId.{TaskId}
use Rattle.ht_base.specs.Events.{op_of}
use Rattle.ht_base.specs.History.{end_of}
use Rattle.ht_due.specs.declared.due.Due.{Due}
use Rattle.ht_machine.specs.declared.sending.Sending.{Sending}
use Rattle.ht_machine.specs.declared.sending.Sending.TheVariants as sending
use Rattle.ht_machine.specs.declared.sending.Sending.TheVariants.{New, Answered}
use Rattle.ht_machine.specs.Commands.{Consequence, accepted, refused}
use Rattle.ht_machine.specs.Deciding.{Asks, AsksAs, Behind, Decides, Doing, Rests, Settles, effective, kept_at, last_after, left_with}
use Rattle.ht_machine.specs.History.{History, IsHistory, IsStep}
use Rattle.ht_machine.specs.Timer.{AreAlike, AddsTurns, HadMemory, IsTimely, NeverFall, answers_of, events_of, is_command, moment_of_last, moment_after}
use Rattle.ht_machine.specs.Timer.AddsTurns.{both, none as alone, turn as added}
use Rattle.ht_machine.specs.Turning.{IsTurn}
use Rattle.ht_machine.proofs.LastMoment.{asks_with_last, turn_with_last}
use Rattle.ht_machine.proofs.OneOutcome.{same_asked}
use Rattle.ht_machine.proofs.OneTurn.{one_turn, turn_keeps}
use Rattle.ht_machine.proofs.TurnsApart.{turn_then}
use Rattle.ht_tree.specs.Tables.{TablesOf, at_moment}

-- but for the moment of the last record
abbrev bare : TablesOf → TablesOf
bare t = at_moment t 0

pub alike : (u v : TablesOf) → bare u ≡ bare v → AreAlike u v
alike u v same = ap (λ (t : TablesOf). at_moment t v.last) (sym same)

bare_turn : (by : ℕ) (u v : TablesOf) (ds : List Due) → IsTurn by u ds v → IsTurn by (bare u) ds (bare v)
bare_turn by u v ds turn = turn_with_last 0 by u v ds turn

-- ---- tables that turns bring together

-- from both of these moments on
abbrev Meet : ℕ → ℕ → TablesOf → TablesOf → Type 0
Meet f g s t = (n : ℕ) (ds es : List Due) (u v : TablesOf) → f ≤ n → g ≤ n → IsTurn n (bare s) ds u → IsTurn n (bare t) es v → u ≡ v

meet_back : (f g : ℕ) (s t : TablesOf) → Meet f g s t → Meet g f t s
meet_back f g s t meet n ds es u v low high a b = sym (meet n es ds v u high low b a)

same_meet : (f g : ℕ) (s t : TablesOf) → bare s ≡ bare t → Meet f g s t
same_meet f g s t same n ds es u v low high a b =
    let T : TablesOf → Type 0 = λ x. IsTurn n x ds u in
    (one_turn n (bare t) u v ds es (subst T same a) b).after

-- also where one of them was turned before
turned_meet : (f g h : ℕ) (s t turned after : TablesOf) (ds : List Due) → g ≤ h → Meet f g s t → IsTurn h t ds turned → bare after ≡ bare turned → Meet f h s after
turned_meet f g h s t turned after ds up meet turn same n es fs u v low high a b =
    let T : TablesOf → Type 0 = λ x. IsTurn n x fs v in
    let whole = turn_then h n (bare t) (bare turned) v ds fs high (bare_turn h t turned ds turn) (subst T same b) in
    meet n es (ds ++ fs) u v low (omega arith) a whole

-- ---- what an event leaves

same_last : (u v : TablesOf) → v ≡ u → v.last ≡ u.last
same_last u v is = ap (λ (t : TablesOf). t.last) is

-- what leaves no record, leaves the last moment
no_record : (u : TablesOf) (moment : ℕ) (own : Option Record) (acted : TablesOf) → u.last ≤ moment → own ≡ None → acted ≡ u → last_after acted own ≤ moment
no_record u moment own acted low none is =
    let last = same_last u acted is in
    subst (λ (o : Option Record). last_after acted o ≤ moment) (sym none) (omega arith)

low_rests : (u : TablesOf) (moment : ℕ) (own : Option Record) (answer : Answer) (acted : TablesOf) → u.last ≤ moment → Rests u own answer acted → last_after acted own ≤ moment
low_rests u moment own answer acted low ((none, is), told) = no_record u moment own acted low none is

low_asks : (u : TablesOf) (moment : ℕ) (caller : List ℕ) (retry : Option Retry) (task : TaskId) (c : Command) (own : Option Record) (answer : Answer) (acted : TablesOf) → u.last ≤ moment → Asks u moment caller retry task c own answer acted → last_after acted own ≤ moment
low_asks u moment caller retry task c own answer acted low asks = go asks.sending asks.asks
  where
    settled : (person : ℕ) (o : Consequence) → Settles u person retry (op_of c) task (Asked (record { 0 = moment }) caller retry task c) o own answer acted → last_after acted own ≤ moment
    settled person (accepted v about) (reply, shows, kept, is, told) = subst (λ (k : Option Record). last_after acted k ≤ moment) (sym kept) (omega arith)
    settled person (refused why) ((none, is), told) = no_record u moment own acted low none is

    go : (known : Sending) → AsksAs u moment retry task c (Asked (record { 0 = moment }) caller retry task c) known own answer acted → last_after acted own ≤ moment
    go (New person) (o, comes, settles) = settled person o settles
    go (Answered reply) ((none, is), told) = no_record u moment own acted low none is
    go (sending.Refused why) ((none, is), told) = no_record u moment own acted low none is

low_left : (moment n : ℕ) (own : Option Record) (acted : TablesOf) → last_after acted own ≤ moment → last_after acted (left_with moment n own) ≤ moment
low_left moment n (Some k) acted low = low
low_left moment zero None acted low = low
low_left moment (suc n) None acted low = omega arith

low_behind : (t : TablesOf) (moment : ℕ) (Does : Doing) (left : Option Record) (r : Reply) (after : TablesOf) → ((u acted : TablesOf) (own : Option Record) (answer : Answer) → u.last ≤ moment → Does u own answer acted → last_after acted own ≤ moment) → t.last ≤ moment → Behind t moment Does left r after → after.last ≤ moment
low_behind t moment Does left r after each low d =
    let turned : (d.turned).last ≡ t.last = ap (λ (w : TablesOf). w.last) (turn_keeps moment t d.turned d.dues d.turn) in
    let acted = each d.turned d.acted d.own r.answer (omega arith) d.does in
    let L : Option Record → Type 0 = λ k. last_after d.acted k ≤ moment in
    let kept : last_after d.acted left ≤ moment = subst L (sym d.left_is) (low_left moment (length d.dues) d.own d.acted acted) in
    let last = same_last (kept_at left d.acted) after d.after_is in
    omega arith

low_turned : (t : TablesOf) (moment : ℕ) (left : Option Record) (r : Reply) (after : TablesOf) → t.last ≤ moment → Behind t moment Rests left r after → after.last ≤ moment
low_turned t moment left r after low d = low_behind t moment Rests left r after (λ u acted own answer up rests. low_rests u moment own answer acted up rests) low d

-- a Turn event leaves what its turn leaves
turned_by : (t : TablesOf) (moment : ℕ) (left : Option Record) (r : Reply) (after : TablesOf) → (d : Behind t moment Rests left r after) → bare after ≡ bare d.turned
turned_by t moment left r after d = ap bare d.after_is ∙ ap bare d.does.0.1

-- a command on tables that turns bring together
pub record IsSameAsk (r q : Reply) (u v : TablesOf) : Type 0 where
  pub answer : r.answer ≡ q.answer
  pub after : bare u ≡ bare v

-- a command as it acts at a moment
abbrev AsksAt : TablesOf → ℕ → List ℕ → Option Retry → TaskId → Command → Option Record → Reply → TablesOf → Type 0
AsksAt t moment caller retry task c left r after = Behind t moment (λ u. Asks u moment caller retry task c) left r after

module _ (moment : ℕ) (caller : List ℕ) (retry : Option Retry) (task : TaskId) (c : Command) where
  low_asked : (t : TablesOf) (left : Option Record) (r : Reply) (after : TablesOf) → t.last ≤ moment → AsksAt t moment caller retry task c left r after → after.last ≤ moment
  low_asked t left r after low d = low_behind t moment (λ u. Asks u moment caller retry task c) left r after (λ u acted own answer up asks. low_asks u moment caller retry task c own answer acted up asks) low d

  same_ask : (f g : ℕ) (s t : TablesOf) (k l : Option Record) (r q : Reply) (u v : TablesOf) → f ≤ moment → g ≤ moment → Meet f g s t → AsksAt s moment caller retry task c k r u → AsksAt t moment caller retry task c l q v → IsSameAsk r q u v
  same_ask f g s t k l r q u v low low_too meet a b =
      let turned = meet moment a.dues b.dues (bare a.turned) (bare b.turned) low low_too (bare_turn moment s a.turned a.dues a.turn) (bare_turn moment t b.turned b.dues b.turn) in
      let x = asks_with_last 0 a.turned moment caller retry task c a.own r.answer a.acted a.does in
      let y = asks_with_last 0 b.turned moment caller retry task c b.own q.answer b.acted b.does in
      let L : TablesOf → Type 0 = λ w. Asks w moment caller retry task c a.own r.answer x.0 in
      let same = same_asked (bare b.turned) moment caller retry task c a.own b.own r.answer q.answer x.0 y.0 (subst L turned x.1) y.1 in
      let first : bare u ≡ bare x.0 = ap bare a.after_is ∙ x.2 in
      let second : bare v ≡ bare y.0 = ap bare b.after_is ∙ y.2 in
      record { answer = same.answer; after = first ∙ ap bare same.after ∙ sym second }

-- ---- histories

abbrev is_turn : Event → Bool
is_turn (Turn at) = true
is_turn _ = false

abbrev without_turns : List Event → List Event
without_turns events = filter (λ e. not (is_turn e)) events

-- the events without Turn events, the answers of the commands, and the last moment and tables
data Timed : ℕ → TablesOf → List Event → List Answer → ℕ → TablesOf → Type 0 where
  stop : {f : ℕ} {s : TablesOf} → Timed f s [] [] f s
  turn : {f g : ℕ} {s t u : TablesOf} {es : List Event} {xs : List Answer} {at : Moment} {left : Option Record} {r : Reply} → f ≤ at.0 → Decides s (Turn at) left r t → Timed at.0 t es xs g u → Timed f s es xs g u
  ask : {f g : ℕ} {s t u : TablesOf} {es : List Event} {xs : List Answer} {at : Moment} {caller : List ℕ} {retry : Option Retry} {task : TaskId} {c : Command} {left : Option Record} {r : Reply} → f ≤ at.0 → Decides s (Ask at caller retry task c) left r t → Timed at.0 t es xs g u → Timed f s (Ask at caller retry task c ∷ es) (r.answer ∷ xs) g u
  read : {f g : ℕ} {s u : TablesOf} {es : List Event} {xs : List Answer} {caller : List ℕ} {what : Query} → Timed f s es xs g u → Timed f s (Read caller what ∷ es) xs g u

timed : (f : ℕ) (s : TablesOf) (h : History) → IsHistory s h → HadMemory h → NeverFall f (events_of h) → Timed f s (without_turns (events_of h)) (answers_of h) (moment_of_last f (events_of h)) (end_of s h)
timed f s [] legal memory moments = stop
timed f s (e ∷ es) (step, legal) (plenty, memory) (up, moments) = at e.event step up (timed (moment_after f e.event) e.after es legal memory moments)
  where
    commands : History
    commands = filter (λ k. is_command k.event) es

    at : {g : ℕ} {u : TablesOf} → (x : Event) → IsStep s x e.reply e.after → f ≤ moment_after f x → Timed (moment_after f x) e.after (without_turns (events_of es)) (answers_of es) g u → Timed f s (without_turns (x ∷ events_of es)) (map (λ k. (k.reply).answer) (if is_command x then e ∷ commands else commands)) g u
    at (Turn moment) (inl (left, d)) up rest = turn up d rest
    at (Ask moment caller retry task c) (inl (left, d)) up rest = ask up d rest
    at {g = g} {u = u} (Read caller what) (inl (left, ((none, is), told))) up rest =
        let T : TablesOf → Type 0 = λ x. Timed f x (without_turns (events_of es)) (answers_of es) g u in
        read (subst T is rest)
    at x (inr (short, is)) up rest = absurd (plenty short)

at_own : (t : TablesOf) (n : ℕ) → t.last ≤ n → effective t n ≡ n
at_own t n low = omega arith

rests_at : (t : TablesOf) (n : ℕ) (left : Option Record) (r : Reply) (after : TablesOf) → t.last ≤ n → Behind t (effective t n) Rests left r after → Behind t n Rests left r after
rests_at t n left r after low d =
    let D : ℕ → Type 0 = λ m. Behind t m Rests left r after in
    subst D (at_own t n low) d

asks_at : (t : TablesOf) (n : ℕ) (caller : List ℕ) (retry : Option Retry) (task : TaskId) (c : Command) (left : Option Record) (r : Reply) (after : TablesOf) → t.last ≤ n → AsksAt t (effective t n) caller retry task c left r after → AsksAt t n caller retry task c left r after
asks_at t n caller retry task c left r after low d =
    let D : ℕ → Type 0 = λ m. AsksAt t m caller retry task c left r after in
    subst D (at_own t n low) d

-- the turns of a history in front of a stop, a read and a command

record Stops (f : ℕ) (s : TablesOf) (ys : List Answer) (q : ℕ) (v : TablesOf) : Type 0 where
  pub none : ys ≡ []
  pub meet : Meet f q s v
  pub low : v.last ≤ q

record Reads (f : ℕ) (s : TablesOf) (es : List Event) (ys : List Answer) (q : ℕ) (v : TablesOf) : Type 0 where
  pub g : ℕ
  pub t : TablesOf
  pub meet : Meet f g s t
  pub low : t.last ≤ g
  pub rest : Timed g t es ys q v

record Acts (f : ℕ) (s : TablesOf) (at : Moment) (caller : List ℕ) (retry : Option Retry) (task : TaskId) (c : Command) (es : List Event) (ys : List Answer) (q : ℕ) (v : TablesOf) : Type 0 where
  pub g : ℕ
  pub t : TablesOf
  pub meet : Meet f g s t
  pub low : t.last ≤ g
  pub up : g ≤ at.0
  pub left : Option Record
  pub reply : Reply
  pub after : TablesOf
  pub here : AsksAt t at.0 caller retry task c left reply after
  pub more : List Answer
  pub answers : ys ≡ reply.answer ∷ more
  pub rest : Timed at.0 after es more q v

-- what a turn leaves of the second
record Turned (f h : ℕ) (s t : TablesOf) : Type 0 where
  pub meet : Meet f h s t
  pub low : t.last ≤ h

turned : (f g : ℕ) (s t mid : TablesOf) (at : Moment) (k : Option Record) (r : Reply) → t.last ≤ g → g ≤ at.0 → Meet f g s t → Decides t (Turn at) k r mid → Turned f at.0 s mid
turned f g s t mid at k r low up meet here =
    let d = rests_at t at.0 k r mid (omega arith) here in
    record { meet = turned_meet f g at.0 s t d.turned mid d.dues up meet d.turn (turned_by t at.0 k r mid d); low = low_turned t at.0 k r mid (omega arith) d }

module _ (f : ℕ) (s : TablesOf) where
  stops : (g : ℕ) (t : TablesOf) (ys : List Answer) (q : ℕ) (v : TablesOf) → t.last ≤ g → Meet f g s t → Timed g t [] ys q v → Stops f s ys q v
  stops g t [] q v low meet stop = record { none = refl; meet = meet; low = low }
  stops g t ys q v low meet (turn {t = mid} {at = at} {left = k} {r = r} up here rest) =
      let next = turned f g s t mid at k r low up meet here in
      stops at.0 mid ys q v next.low next.meet rest

  reads : (caller : List ℕ) (what : Query) (es : List Event) (g : ℕ) (t : TablesOf) (ys : List Answer) (q : ℕ) (v : TablesOf) → t.last ≤ g → Meet f g s t → Timed g t (Read caller what ∷ es) ys q v → Reads f s es ys q v
  reads caller what es g t ys q v low meet (read rest) = record { g = g; t = t; meet = meet; low = low; rest = rest }
  reads caller what es g t ys q v low meet (turn {t = mid} {at = at} {left = k} {r = r} up here rest) =
      let next = turned f g s t mid at k r low up meet here in
      reads caller what es at.0 mid ys q v next.low next.meet rest

  acts : (at : Moment) (caller : List ℕ) (retry : Option Retry) (task : TaskId) (c : Command) (es : List Event) (g : ℕ) (t : TablesOf) (ys : List Answer) (q : ℕ) (v : TablesOf) → t.last ≤ g → Meet f g s t → Timed g t (Ask at caller retry task c ∷ es) ys q v → Acts f s at caller retry task c es ys q v
  acts at caller retry task c es g t (y ∷ ys) q v low meet (ask {t = after} {left = k} {r = r} up here rest) = record {
    g = g;
    t = t;
    meet = meet;
    low = low;
    up = up;
    left = k;
    reply = r;
    after = after;
    here = asks_at t at.0 caller retry task c k r after (omega arith) here;
    more = ys;
    answers = refl;
    rest = rest;
  }
  acts at caller retry task c es g t ys q v low meet (turn {t = mid} {at = now} {left = k} {r = r} up here rest) =
      let next = turned f g s t mid now k r low up meet here in
      acts at caller retry task c es now.0 mid ys q v next.low next.meet rest

-- the answers are the same, and turns bring the tables together
pub record Together (xs ys : List Answer) (p q : ℕ) (u v : TablesOf) : Type 0 where
  pub answers : xs ≡ ys
  pub meet : Meet p q u v
  pub low : u.last ≤ p
  pub low_too : v.last ≤ q

together : (es : List Event) (f g : ℕ) (s t : TablesOf) (xs ys : List Answer) (p q : ℕ) (u v : TablesOf) → s.last ≤ f → t.last ≤ g → Meet f g s t → Timed f s es xs p u → Timed g t es ys q v → Together xs ys p q u v
together [] f g s t [] ys p q u v low low_too meet stop b =
    let next = stops f s g t ys q v low_too meet b in
    record { answers = sym next.none; meet = next.meet; low = low; low_too = next.low }
together es f g s t xs ys p q u v low low_too meet (turn {t = mid} {at = at} {left = k} {r = r} up here rest) b =
    let next = turned g f t s mid at k r low up (meet_back f g s t meet) here in
    together es at.0 g mid t xs ys p q u v next.low low_too (meet_back g at.0 t mid next.meet) rest b
together (Read caller what ∷ es) f g s t xs ys p q u v low low_too meet (read a) b =
    let next = reads f s caller what es g t ys q v low_too meet b in
    together es f next.g s next.t xs ys p q u v low next.low next.meet a next.rest
together (Ask at caller retry task c ∷ es) f g s t (x ∷ xs) ys p q u v low low_too meet (ask {t = mid} {left = k} {r = r} up here a) b =
    let next = acts f s at caller retry task c es g t ys q v low_too meet b in
    let d = asks_at s at.0 caller retry task c k r mid (omega arith) here in
    let same = same_ask at.0 caller retry task c f next.g s next.t k next.left r next.reply mid next.after up next.up next.meet d next.here in
    let first_low = low_asked at.0 caller retry task c s k r mid (omega arith) d in
    let next_low = next.low in
    let next_up = next.up in
    let second_low = low_asked at.0 caller retry task c next.t next.left next.reply next.after (omega arith) next.here in
    let rest = together es at.0 at.0 mid next.after xs next.more p q u v first_low second_low (same_meet at.0 at.0 mid next.after same.after) a next.rest in
    record {
      answers = ap (λ (z : Answer). z ∷ xs) same.answer ∙ ap (λ (zs : List Answer). (next.reply).answer ∷ zs) rest.answers ∙ sym next.answers;
      meet = rest.meet;
      low = rest.low;
      low_too = rest.low_too;
    }

-- ---- Turn events that are added

same_others : (few more : List Event) → AddsTurns few more → without_turns few ≡ without_turns more
same_others [] [] alone = refl
same_others (e ∷ few) [] adds = elim adds [ ]
same_others (e ∷ few) (x ∷ more) (both rest) = at e (same_others few more rest)
  where
    at : (x : Event) → without_turns few ≡ without_turns more → without_turns (x ∷ few) ≡ without_turns (x ∷ more)
    at (Turn moment) is = is
    at (Ask moment caller retry task c) is = ap (λ (es : List Event). Ask moment caller retry task c ∷ es) is
    at (Read caller what) is = ap (λ (es : List Event). Read caller what ∷ es) is
same_others few (Turn at ∷ more) (added rest) = same_others few more rest

-- the last moment is no lower with them
no_lower : (f g : ℕ) (few more : List Event) → f ≤ g → AddsTurns few more → NeverFall g more → moment_of_last f few ≤ moment_of_last g more
no_lower f g [] [] low alone up = low
no_lower f g (e ∷ few) [] low adds up = elim adds [ ]
no_lower f g (e ∷ few) (x ∷ more) low (both rest) (up, later) = no_lower (moment_after f e) (moment_after g e) few more (at e) rest later
  where
    at : (x : Event) → moment_after f x ≤ moment_after g x
    at (Turn moment) = omega arith
    at (Ask moment caller retry task c) = omega arith
    at (Read caller what) = low
no_lower f g few (Turn at ∷ more) low (added rest) (up, later) = no_lower f at.0 few more (omega (arith, low, up)) rest later

-- ---- two histories of the same events, to one of which Turn events are added

module _ (t : TablesOf) (few more : History) (a : IsTimely t few) (b : IsTimely t more) (adds : AddsTurns (events_of few) (events_of more)) where
  compared : Together (answers_of few) (answers_of more) (moment_of_last t.last (events_of few)) (moment_of_last t.last (events_of more)) (end_of t few) (end_of t more)
  compared =
      let T : List Event → Type 0 = λ es. Timed t.last t es (answers_of few) (moment_of_last t.last (events_of few)) (end_of t few) in
      together (without_turns (events_of more)) t.last t.last t t (answers_of few) (answers_of more) (moment_of_last t.last (events_of few)) (moment_of_last t.last (events_of more)) (end_of t few) (end_of t more) (omega arith) (omega arith) (same_meet t.last t.last t t refl) (subst T (same_others (events_of few) (events_of more) adds) (timed t.last t few a.legal a.memory a.moments)) (timed t.last t more b.legal b.memory b.moments)

  pub same_answers : answers_of few ≡ answers_of more
  same_answers = compared.answers

  pub same_ends : (at : Moment) (k l : Option Record) (r q : Reply) (u v : TablesOf) → moment_of_last t.last (events_of more) ≤ at.0 → Decides (end_of t few) (Turn at) k r u → Decides (end_of t more) (Turn at) l q v → AreAlike u v
  same_ends at k l r q u v late here there =
      let s = end_of t few in
      let w = end_of t more in
      let earlier = no_lower t.last t.last (events_of few) (events_of more) (omega arith) adds b.moments in
      let first_low = compared.low in
      let second_low = compared.low_too in
      let d = rests_at s at.0 k r u (omega arith) here in
      let e = rests_at w at.0 l q v (omega arith) there in
      let same = compared.meet at.0 d.dues e.dues (bare d.turned) (bare e.turned) (omega arith) late (bare_turn at.0 s d.turned d.dues d.turn) (bare_turn at.0 w e.turned e.dues e.turn) in
      alike u v (turned_by s at.0 k r u d ∙ same ∙ sym (turned_by w at.0 l q v e))
