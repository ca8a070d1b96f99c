-- Commands that are sent again to a desk, by the machine's law of its own histories.
use Rattle.std.proofs.Common.{◌≡◌, ◌⊎◌, inl, inr, [], ◌∷◌, ◌++◌, Some, sym, subst, refl}
use Rattle.ht_base.specs.declared.event.Event.{Event}
use Rattle.ht_base.specs.declared.reply.Reply.{Reply}
use Rattle.ht_base.specs.History.{Entry, IsLegal, end_of}
use Rattle.ht_base.specs.Records.{RecordOf}
use Rattle.ht_machine.specs.History.{History, IsHistory, IsStep}
use Rattle.ht_machine.specs.Once.{IsOf, IsRepeat, IsSame, IsSince, Remembers}
use Rattle.ht_tree.specs.declared.slot.Slot.{Slot}
use Rattle.ht_tree.specs.Tables.{TablesOf}
use Rattle.ht_desk.specs.Moves.{DeskHistory, IsNotKept, IsStepOrNone, RemembersOver}
use Rattle.ht_desk.specs.Replaying.{Applies}
use Rattle.ht_desk.specs.States.{State}
use Rattle.ht_desk.specs.Steps.{Steps}
use Rattle.ht_desk.proofs.Turned.{first_moves, second_moves}

-- ---- histories of the machine, one behind another

both_legal : (t : TablesOf) (few more : History) → IsHistory t few → IsHistory (end_of t few) more → IsHistory t (few ++ more)
both_legal t [] more first next = next
both_legal t (e ∷ few) more first next = (first.0, both_legal e.after few more first.1 next)

end_behind : (t : TablesOf) (few more : History) → end_of t (few ++ more) ≡ end_of (end_of t few) more
end_behind t [] more = refl
end_behind t (e ∷ few) more = end_behind e.after few more

remembers_behind : (slot : Slot) (t : TablesOf) (few more : History) → Remembers slot t (few ++ more) → Remembers slot (end_of t few) more
remembers_behind slot t [] more all = all
remembers_behind slot t (e ∷ few) more all = remembers_behind slot e.after few more all.1

-- a history that leads from the first tables to these
record LeadsTo (first t : TablesOf) : Type 0 where
  pub moves : History
  pub legal : IsHistory first moves
  pub at_end : end_of first moves ≡ t

-- and one step further
one_more : (first t : TablesOf) → LeadsTo first t → (e : Event) (reply : Reply) (u : TablesOf) → IsStep t e reply u → LeadsTo first u
one_more first t so_far e reply u step =
    let entry : Entry TablesOf Event Reply = record { pass = 0; event = e; reply = reply; after = u } in
    let S : TablesOf → Type 0 = λ x. IsStep x e reply u in
    record {
      moves = so_far.moves ++ entry ∷ [];
      legal = both_legal first so_far.moves (entry ∷ []) so_far.legal (subst S (sym so_far.at_end) step, tt);
      at_end = end_behind first so_far.moves (entry ∷ []);
    }

leads_on : (first t u : TablesOf) → LeadsTo first t → u ≡ t → LeadsTo first u
leads_on first t u so_far same = subst (λ (x : TablesOf). LeadsTo first x) (sym same) so_far

-- ---- and those of a desk

settled_leads : (first : TablesOf) (s mid : State) → LeadsTo first s.tables → (mid.tables ≡ s.tables) ⊎ ((r : RecordOf) × (s.doubt ≡ Some r) × Applies s.tables r mid.tables) → LeadsTo first mid.tables
settled_leads first s mid so_far (inl same) = leads_on first s.tables mid.tables so_far same
settled_leads first s mid so_far (inr (r, has, (kept, is, (e, reply, its, decides)))) = one_more first s.tables so_far e reply mid.tables (inl (Some kept, decides))

acted_leads : (first t : TablesOf) → LeadsTo first t → (e : Event) (reply : Reply) (u : TablesOf) → IsStepOrNone t e reply u → LeadsTo first u
acted_leads first t so_far e reply u (inl step) = one_more first t so_far e reply u step
acted_leads first t so_far e reply u (inr (same, told)) = leads_on first t u so_far same

module _ (remembered : (slot : Slot) (t : TablesOf) (history : History) → IsSince slot t → IsHistory t history → Remembers slot t history) (slot : Slot) (first : TablesOf) (since : IsSince slot first) where
  repeats : (t : TablesOf) → LeadsTo first t → (e : Event) (reply : Reply) (u : TablesOf) → IsStepOrNone t e reply u → IsOf t slot slot.number e → IsSame slot e → IsRepeat slot t e u reply.answer ⊎ IsNotKept t reply u
  unfolding one_more
  repeats t so_far e reply u (inl step) of same =
      let entry : Entry TablesOf Event Reply = record { pass = 0; event = e; reply = reply; after = u } in
      let on = one_more first t so_far e reply u step in
      let all = remembers_behind slot first so_far.moves (entry ∷ []) (remembered slot first on.moves since on.legal) in
      let R : TablesOf → Type 0 = λ x. Remembers slot x (entry ∷ []) in
      inl ((subst R so_far.at_end all).0 of same)
  repeats t so_far e reply u (inr none) of same = inr none

  go_on : (s : State) (history : DeskHistory) → LeadsTo first s.tables → (legal : IsLegal Steps s history) → RemembersOver slot s history legal
  go_on s [] so_far legal = tt
  go_on s (e ∷ es) so_far legal =
      let p = legal.0 in
      let T : State → Type 0 = λ x. IsStepOrNone (p.mid).tables e.event e.reply x.tables in
      let own = subst T (sym p.counted) (second_moves p.mid e.event e.reply p.acted p.acts) in
      let settled = settled_leads first s p.mid so_far (first_moves s p.mid p.settles) in
      (repeats (p.mid).tables settled e.event e.reply (e.after).tables own, go_on e.after es (acted_leads first (p.mid).tables settled e.event e.reply (e.after).tables own) legal.1)

pub desk_remembers : ((slot : Slot) (t : TablesOf) (history : History) → IsSince slot t → IsHistory t history → Remembers slot t history) → (slot : Slot) (s : State) (history : DeskHistory) → IsSince slot s.tables → (legal : IsLegal Steps s history) → RemembersOver slot s history legal
desk_remembers remembered slot s history since legal = go_on remembered slot s.tables since s history (record { moves = []; legal = tt; at_end = refl }) legal
