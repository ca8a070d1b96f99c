-- Which records are applied: those that their event leaves again.
use Rattle.std.proofs.Common.{◌≡◌, ◌==◌, ℕ, true, false, Option, Some, None, IfSome, ap, sym, ◌∙◌, subst, refl}
use Rattle.std.proofs.lemmas.Bool.{eq-eqb, eqb-true}
use Rattle.ht_base.specs.declared.event.Event.{Event}
use Rattle.ht_base.specs.declared.event.Event.TheVariants.{Ask, Turn}
use Rattle.ht_base.specs.declared.moment.Moment.{Moment}
use Rattle.ht_base.specs.declared.record.Record.{Record}
use Rattle.ht_base.specs.declared.record.Record.TheVariants as records
use Rattle.ht_base.specs.declared.reply.Reply.{Reply}
use Rattle.ht_machine.specs.declared.leaving.Left.{Left}
use Rattle.ht_machine.specs.declared.leaving.Left.TheVariants as left
use Rattle.ht_machine.specs.declared.asking.CommandAt.{CommandAt}
use Rattle.ht_machine.specs.Deciding.{Asks, Behind, Decides, effective, last_after}
use Rattle.ht_machine.specs.History.{Applies, event_of}
use Rattle.ht_machine.specs.Planning.{Plans, PlansBehindTurn, is_of, record_as, record_by, record_in}
use Rattle.ht_machine.proofs.OneOutcome.{same}
use Rattle.ht_tree.specs.Plans.{PlanOf, committed}
use Rattle.ht_tree.specs.Soundness.{IsSound}
use Rattle.ht_tree.specs.Tables.{TablesOf}

same_moment : (a b : Moment) → (a.0 == b.0) ≡ true → a ≡ b
same_moment a b e = ap (λ n. moment_at n) (eqb-true a.0 b.0 e)
  where
    moment_at : ℕ → Moment
    moment_at n = record { 0 = n }

apart : (a b : Moment) → a ≡ b → (a.0 == b.0) ≡ false → ⊥
apart a b e negative =
    let alike : (a.0 == b.0) ≡ true = eq-eqb a.0 b.0 (ap (λ (m : Moment). m.0) e) in
    let clash : true ≡ false = sym alike ∙ negative in
    absurd (cc)

-- ---- which record it is

pub this_one : (l : Left) (k : Record) → is_of l k ≡ true → (e : Event) × (event_of k ≡ Some e) × (record_in e l ≡ Some k)
this_one left.Nothing k is = absurd (cc)
this_one (left.Turned by) (records.Opening models people) is = absurd (cc)
this_one (left.Turned by) (records.Turn at) is = (Turn at, refl, ap (λ m. Some (records.Turn m)) (same_moment by at is))
this_one (left.Turned by) (records.Asked at caller retry task command) is = absurd (cc)
this_one (left.Commanded by) (records.Opening models people) is = absurd (cc)
this_one (left.Commanded by) (records.Turn at) is = (Turn at, refl, ap (λ m. Some (records.Turn m)) (same_moment by at is))
this_one (left.Commanded by) (records.Asked at caller retry task command) is = (Ask at caller retry task command, refl, ap (λ m. Some (records.Asked m caller retry task command)) (same_moment by at is))

-- another record, or none
other_one : (l : Left) (k : Record) → is_of l k ≡ false → (e : Event) → event_of k ≡ Some e → record_in e l ≡ Some k → ⊥
other_one l (records.Opening models people) other e is alike = absurd (cc)
other_one left.Nothing k other e is alike = absurd (cc)
other_one (left.Turned by) (records.Turn at) other e is alike = apart by at (let m : by ≡ at = cc in m) other
other_one (left.Turned by) (records.Asked at caller retry task command) other e is alike = absurd (cc)
other_one (left.Commanded by) (records.Turn at) other e is alike =
    let turned : Turn at ≡ e = cc in
    apart by at (turn_at by at (subst (λ (x : Event). record_in x (left.Commanded by) ≡ Some (records.Turn at)) (sym turned) alike)) other
  where
    turn_at : (x y : Moment) → Some (records.Turn x) ≡ Some (records.Turn y) → x ≡ y
    turn_at x y e = cc
other_one (left.Commanded by) (records.Asked at caller retry task command) other e is alike =
    let asked : Ask at caller retry task command ≡ e = cc in
    apart by at (asked_at by at (subst (λ (x : Event). record_in x (left.Commanded by) ≡ Some (records.Asked at caller retry task command)) (sym asked) alike)) other
  where
    asked_at : (x y : Moment) → Some (records.Asked x caller retry task command) ≡ Some (records.Asked y caller retry task command) → x ≡ y
    asked_at x y e = cc

-- ---- what is planned of its event

abbrev pub PlansKept : TablesOf → PlanOf → Record → Left → Type 0
PlansKept t p k l = IfSome (event_of k) (λ e. (reply : Reply) × Plans t p e (record_in e l) reply)

pub asked_plans : (t : TablesOf) (p : PlanOf) (a : CommandAt) (at : Moment) (l : Left) (reply : Reply) → a.at.0 ≡ effective t at.0 → PlansBehindTurn t p a (record_by (record_as a) l) reply → Plans t p (Ask at a.caller a.retry a.task a.command.now) (record_in (Ask at a.caller a.retry a.task a.command.now) l) reply
asked_plans t p a at l reply is plans =
    let left = record_by (record_as a) l in
    let B : ℕ → Type 0 = λ m. Behind t m (λ u. Asks u m a.caller a.retry a.task a.command.now) left reply plans.after in
    record { after = plans.after; decides = subst B is plans.decides; leaves = plans.leaves }

-- the tables behind it are sound, and the record is applied
pub record IsApplied (t : TablesOf) (k : Record) (u : TablesOf) : Type 0 where
  pub sound : IsSound u
  pub applies : Applies t k u

pub it_applies : (t : TablesOf) (p : PlanOf) (l : Left) (k : Record) → is_of l k ≡ true → PlansKept t p k l → (at : ℕ) → at ≡ last_after t (Some k) → IsApplied t k (committed t p at)
it_applies t p l k is plans at last = go (this_one l k is)
  where
    go : (e : Event) × (event_of k ≡ Some e) × (record_in e l ≡ Some k) → IsApplied t k (committed t p at)
    go (e, its, left) =
        let P : Option Event → Type 0 = λ o. IfSome o (λ x. (reply : Reply) × Plans t p x (record_in x l) reply) in
        let planned = subst P its plans in
        let reply = planned.0 in
        let after = planned.1.after in
        let D : Option Record → Type 0 = λ o. Decides t e o reply after in
        let L : Option Record → Type 0 = λ o. committed t p (last_after t o) ≡ after in
        let makes : committed t p at ≡ after = ap (committed t p) last ∙ subst L left (planned.1.leaves).makes in
        let A : TablesOf → Type 0 = λ u. IsApplied t k u in
        subst A (sym makes) (record { sound = (planned.1.leaves).sound; applies = (e, reply, its, subst D left planned.1.decides) })

-- ---- what is decided of its event

pub never_applies : (t : TablesOf) (p : PlanOf) (l : Left) (k : Record) → is_of l k ≡ false → PlansKept t p k l → (v : TablesOf) → Applies t k v → ⊥
never_applies t p l k other plans v (e, s, its, g) =
    let P : Option Event → Type 0 = λ o. IfSome o (λ x. (reply : Reply) × Plans t p x (record_in x l) reply) in
    let planned = subst P its plans in
    other_one l k other e its (same t e (record_in e l) (Some k) planned.0 s planned.1.after v planned.1.decides g).left
