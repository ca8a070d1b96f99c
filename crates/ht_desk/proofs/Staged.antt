-- An entry is of what was decided.
use Rattle.std.proofs.Common.{◌≡◌, ◌≢◌, true, false, ◌≤◌, Bool, Some, ap, sym, ◌∙◌, subst, refl, Option}
use Rattle.ht_base.specs.Bytes.{BytesOf}
use Rattle.ht_base.specs.declared.event.Event.{Event}
use Rattle.ht_base.specs.declared.moment.Moment.{Moment}
use Rattle.ht_base.specs.declared.record.Record.{Record}
use Rattle.ht_base.specs.Records.{record_of}
use Rattle.ht_codec.specs.Records.{Spells}
use Rattle.ht_machine.specs.declared.deciding.Decision.{Decision}
use Rattle.ht_machine.specs.Deciding.{Decides, last_after}
use Rattle.ht_machine.specs.Planning.{IsDecided}
use Rattle.ht_tree.specs.Plans.{committed}
use Rattle.ht_tree.specs.Soundness.{IsSound}
use Rattle.ht_tree.specs.Tables.{RoomyTables, TablesOf}
use Rattle.ht_desk.specs.Staging.{IsEntryOf}
use Rattle.ht_base.specs.declared.reply.Answer.{Answer}
use Rattle.ht_base.specs.declared.reply.Reply.{Reply}
use Rattle.ht_machine.specs.Itself.{AnswersItself}
use Rattle.ht_machine.proofs.PublicLaws.{answers_itself}
use Rattle.ht_desk.specs.States.{is_asking}
use Rattle.ht_desk.specs.Steps.{store_reply}
use Rattle.ht_desk.proofs.Judged.{applied}

pub staged_by : (t : RoomyTables) (e : Event) (d : Decision) → IsDecided t e d → (r : Record) → d.left ≡ Some r → (body : BytesOf) → Spells (record_of r) body.items → (at : Moment) → at.0 ≡ last_after t.tables (Some r)
    → (asked : Bool) → asked ≡ is_asking (record_of r) → (x : Record) × IsEntryOf t e d.reply x body (record { plan = d.plan; at = at; asked = asked })
staged_by t e d w r left body spells at moment asked is =
    let last : at.0 ≡ last_after t.tables d.left = moment ∙ ap (last_after t.tables) (sym left) in
    let makes : committed t.tables d.plan at.0 ≡ w.after = ap (committed t.tables d.plan) last ∙ (w.leaves).makes in
    let found : Decides t.tables e (Some r) d.reply w.after = subst (λ o. Decides t.tables e o d.reply w.after) left w.decides in
    let decides : Decides t.tables e (Some r) d.reply (committed t.tables d.plan at.0) = subst (λ (u : TablesOf). Decides t.tables e (Some r) d.reply u) (sym makes) found in (
      r,
      record {
        decides = decides;
        body_is = spells.1;
        awaits = record {
          fits = (w.leaves).fits;
          prepared = w.prepared;
          sound = subst IsSound (sym makes) (w.leaves).sound;
          later = subst (λ n. (t.tables).last ≤ n) (sym last) (w.leaves).later;
          applies = applied t.tables (committed t.tables d.plan at.0) r r e d.reply decides refl;
          asked = is;
          spelled = spells.0;
        };
      },
    )

-- the machine itself refuses nothing for a disk
pub not_of_a_disk : (t : TablesOf) (e : Event) (left : Option Record) (reply : Reply) (u : TablesOf) → Decides t e left reply u → reply.answer ≢ store_reply.answer
not_of_a_disk t e left reply u decides told =
    let A : Answer → Type 0 = λ x. AnswersItself x in
    let own : false ≡ true = subst A told (answers_itself t e left reply u decides) in
    absurd (cc)
