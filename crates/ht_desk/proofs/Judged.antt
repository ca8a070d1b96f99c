-- What is decided of a record's event: it is applied, or never is.
use Rattle.std.proofs.Common.{◌≡◌, ◌≤◌, inl, inr, Some, ap, sym, subst}
use Rattle.ht_base.specs.declared.event.Event.{Event}
use Rattle.ht_base.specs.declared.event.Event.TheVariants.{Ask, Read, Turn}
use Rattle.ht_base.specs.declared.moment.Moment.{Moment}
use Rattle.ht_base.specs.declared.record.Record.{Record}
use Rattle.ht_base.specs.declared.record.Record.TheVariants as records
use Rattle.ht_base.specs.declared.reply.Reply.{Reply}
use Rattle.ht_base.specs.Events.{IsValid}
use Rattle.ht_base.specs.Moment.{last_moment}
use Rattle.ht_base.specs.Records.{record_of}
use Rattle.ht_codec.specs.Records.{IsRecord}
use Rattle.ht_machine.specs.declared.deciding.Decision.{Decision}
use Rattle.ht_machine.specs.Deciding.{Decides, moment_of}
use Rattle.ht_machine.specs.History as machine
use Rattle.ht_machine.specs.History.{IsLeftAt, event_of}
use Rattle.ht_machine.specs.Planning.{IsDecided}
use Rattle.ht_machine.proofs.PublicLaws.{applies_again, its_event_is_valid, of_its_moment}
use Rattle.ht_tree.specs.Tables.{RoomyTables, TablesOf}
use Rattle.ht_desk.specs.Replaying.{Applies}

-- ---- the event of a record

some_same : {A : Type 0} (x y : A) → Some x ≡ Some y → x ≡ y
some_same x y e = cc

-- a record that is of an event is known by its bytes
pub same_kept : (k l : Record) (e : Event) → event_of k ≡ Some e → record_of k ≡ record_of l → k ≡ l
same_kept (records.Opening models people) l e is alike = absurd (cc)
same_kept (records.Turn at) (records.Opening models people) e is alike = absurd (cc)
same_kept (records.Turn at) (records.Turn by) e is alike = ap records.Turn (let m : at ≡ by = cc in m)
same_kept (records.Turn at) (records.Asked by caller retry task command) e is alike = absurd (cc)
same_kept (records.Asked at caller retry task command) (records.Opening models people) e is alike = absurd (cc)
same_kept (records.Asked at caller retry task command) (records.Turn by) e is alike = absurd (cc)
same_kept (records.Asked at caller retry task command) (records.Asked by asker number asked what) e is alike =
    let m : at ≡ by = cc in
    let w : caller ≡ asker = cc in
    let n : retry ≡ number = cc in
    let t : task ≡ asked = cc in
    let c : command ≡ what = cc in
    cc

-- is one that may be kept, where its event is valid
record_valid : (k : Record) (e : Event) → event_of k ≡ Some e → IsValid e → IsRecord (record_of k)
record_valid (records.Opening models people) e is valid = absurd (cc)
record_valid (records.Turn at) e is valid = subst IsValid (sym (some_same (Turn at) e is)) valid
record_valid (records.Asked at caller retry task command) e is valid = subst IsValid (sym (some_same (Ask at caller retry task command) e is)) valid

-- what is left is of an event
left_of_event : (at : Moment) (e : Event) (k : Record) → IsLeftAt at e k → (own : Event) × (event_of k ≡ Some own)
left_of_event at e k (inl is) = (Turn at, ap event_of is)
left_of_event at (Turn when) k (inr is) = (Turn at, ap event_of is)
left_of_event at (Ask when caller retry task command) k (inr is) = (Ask at caller retry task command, ap event_of is)
left_of_event at (Read caller what) k (inr is) = (Turn at, ap event_of is)

-- ---- what is decided

-- what is left may be kept
pub left_valid : (t : RoomyTables) (e : Event) (d : Decision) → IsDecided t e d → (k : Record) → d.left ≡ Some k → IsValid e → (t.tables).last ≤ last_moment → IsRecord (record_of k)
left_valid t e d w k left valid low =
    let decides : Decides t.tables e (Some k) d.reply w.after = subst (λ o. Decides t.tables e o d.reply w.after) left w.decides in
    let own = left_of_event (record { 0 = moment_of t.tables e }) e k (of_its_moment t.tables e k d.reply w.after decides).left in
    record_valid k own.0 own.1 (its_event_is_valid t.tables e k d.reply w.after own.0 valid low decides own.1)

-- the record that is left is the one that is kept
pub applied : (t u : TablesOf) (kept left : Record) (e : Event) (reply : Reply) → Decides t e (Some left) reply u → record_of left ≡ record_of kept → Applies t (record_of kept) u
applied t u kept left e reply d is = (left, is, applies_again t e left reply u d)

-- a record that its event doesn't leave is never applied
pub never_applied : (t : TablesOf) (kept : Record) → ((u : TablesOf) → machine.Applies t kept u → ⊥) → (v : TablesOf) → Applies t (record_of kept) v → ⊥
never_applied t kept never v (k, one, on) = go on
  where
    go : machine.Applies t k v → ⊥
    go (e, reply, its, d) = never v (subst (λ (r : Record). machine.Applies t r v) (same_kept k kept e its one) (e, reply, its, d))
