-- A load whose answers are all decided is one of the task machine.
use Rattle.std.proofs.Common.{◌≡◌, ◌≢◌, ◌⊎◌, inl, inr, ⊎_elim, [], ◌∷◌, map, Option, Some, None, ap, sym, subst}
use Rattle.ht_base.specs.declared.event.Event.{Event}
use Rattle.ht_base.specs.declared.reply.Reply.{Reply}
use Rattle.ht_base.specs.History.{IsLegal}
use Rattle.ht_base.specs.Records.{RecordOf}
use Rattle.ht_desk.specs.Moves.{DeskHistory, IsStepOrNone, of_tables}
use Rattle.ht_desk.specs.Replaying.{Applies}
use Rattle.ht_desk.specs.States.{State}
use Rattle.ht_desk.specs.Steps.{Acts, Settles, Steps, store_reply}
use Rattle.ht_tree.specs.Tables.{TablesOf}
use Rattle.ht_load.specs.Answers.{AreDecided, IsDecided}
use Rattle.ht_load.specs.Loads.{Decided}

not_some : (o : Option RecordOf) (r : RecordOf) → o ≡ None → o ≡ Some r → ⊥
not_some o r none some = cc

-- the machine's own step, where the event was decided and what that leaves was kept
own : (t : TablesOf) (e : Event) (reply : Reply) (u : TablesOf) → IsDecided reply.answer → IsStepOrNone t e reply u → Decided t e reply u
own t e reply u is (inl (inl decides)) = decides
own t e reply u is (inl (inr (told, same))) = absurd (is.0 (ap (λ (r : Reply). r.answer) told))
own t e reply u is (inr (same, inl told)) = absurd (is.1 (ap (λ (r : Reply). r.answer) told))
own t e reply u is (inr (same, inr told)) = absurd (is.2 (ap (λ (r : Reply). r.answer) told))

-- by the laws of a desk's steps
module _ (settled : (s mid : State) → Settles s mid → (mid.tables ≡ s.tables) ⊎ ((r : RecordOf) × (s.doubt ≡ Some r) × Applies s.tables r mid.tables))
    (acted : (mid : State) (e : Event) (reply : Reply) (t : State) → Acts mid e reply t → IsStepOrNone mid.tables e reply t.tables)
    (certain : (s : State) (e : Event) (reply : Reply) (t : State) → Steps s e reply t → reply ≢ store_reply → t.doubt ≡ None) where
  same_tables : (s mid : State) → s.doubt ≡ None → Settles s mid → mid.tables ≡ s.tables
  same_tables s mid none settles = ⊎_elim (λ same. same) (λ has. absurd (not_some s.doubt has.0 none has.1)) (settled s mid settles)

  decided_step : (s : State) (e : Event) (reply : Reply) (t : State) → s.doubt ≡ None → Steps s e reply t → IsDecided reply.answer → Decided s.tables e reply t.tables
  decided_step s e reply t none p is =
      let one : Decided (p.mid).tables e reply (p.acted).tables = own (p.mid).tables e reply (p.acted).tables is (acted p.mid e reply p.acted p.acts) in
      let counted : Decided (p.mid).tables e reply t.tables = subst (λ (x : State). Decided (p.mid).tables e reply x.tables) (sym p.counted) one in
      subst (λ (x : TablesOf). Decided x e reply t.tables) (same_tables s p.mid none p.settles) counted

  pub all_decided : (s : State) (h : DeskHistory) → IsLegal Steps s h → s.doubt ≡ None → AreDecided h → IsLegal Decided s.tables (map of_tables h)
  all_decided s [] legal none are = tt
  all_decided s (e ∷ es) legal none are =
      let after : (e.after).doubt ≡ None = certain s e.event e.reply e.after legal.0 (λ told. (are.0).1 (ap (λ (r : Reply). r.answer) told)) in
      (decided_step s e.event e.reply e.after none legal.0 are.0, all_decided e.after es legal.1 after are.1)
