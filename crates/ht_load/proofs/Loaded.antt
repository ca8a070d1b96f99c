-- What a load comes to at its end.
use Rattle.std.proofs.Common.{◌≡◌, ◌≢◌, ◌⊎◌, ℕ, length, Some, None, ap, sym, refl, ◌∙◌}
use Rattle.ht_base.specs.declared.event.Event.{Event}
use Rattle.ht_base.specs.declared.reply.Reply.{Reply}
use Rattle.ht_base.specs.History.{end_of}
use Rattle.ht_base.specs.Records.{RecordOf}
use Rattle.ht_desk.specs.declared.desk_state.DeskState.{DeskState}
use Rattle.ht_desk.specs.Moves.{IsStepOrNone}
use Rattle.ht_desk.specs.Replaying.{Applies}
use Rattle.ht_desk.specs.States.{State}
use Rattle.ht_desk.specs.Steps.{Acts, Settles, Steps, store_reply}
use Rattle.ht_outside.specs.Causes.{together}
use Rattle.ht_outside.specs.declared.disk.Disk.{Ghosts}
use Rattle.ht_tree.specs.Tables.{TablesOf}
use Rattle.ht_load.specs.declared.answered.Answered.{Answered}
use Rattle.ht_load.specs.declared.sums.Sums.{Sums}
use Rattle.ht_load.specs.Loads.{LoadsOver}
use Rattle.ht_load.proofs.Deciding.{all_decided}
use Rattle.ht_load.proofs.Histories.{Goes}

-- these sums are told of what was counted, and of the tables at the end
pub record AreOf (count : ℕ) (answered : Answered) (desk : DeskState) (sums : Sums) : Type 0 where
  pub requests : sums.requests ≡ count
  pub accepted : sums.accepted ≡ answered.accepted
  pub refused : sums.refused ≡ answered.refused
  pub tasks : sums.tasks ≡ length ((desk.tables).tables).rows

-- by the laws of a desk's steps
module _ (settled : (s mid : State) → Settles s mid → (mid.tables ≡ s.tables) ⊎ ((r : RecordOf) × (s.doubt ≡ Some r) × Applies s.tables r mid.tables))
    (acted : (mid : State) (e : Event) (reply : Reply) (t : State) → Acts mid e reply t → IsStepOrNone mid.tables e reply t.tables)
    (certain : (s : State) (e : Event) (reply : Reply) (t : State) → Steps s e reply t → reply ≢ store_reply → t.doubt ≡ None) where
  pub loaded : {D : Type 0} (d : Ghosts D) (seed count x : ℕ) (first desk : DeskState) (before disk : D) (answered : Answered) (sums : Sums) → Goes d seed count x first desk before disk answered → AreOf count answered desk sums → LoadsOver d seed count first desk before disk sums
  loaded d seed count x first desk before disk answered sums g are = λ beside texts s at.
      let l = g.loading beside texts s at in
      let there = l.at in (
        end_of s l.history,
        record {
          load = record { history = l.history; legal = l.legal; ends = refl; drawn = l.drawn; many = l.many };
          decided = all_decided settled acted certain s l.history l.legal;
          requests = are.requests;
          accepted = are.accepted ∙ l.accepted;
          refused = are.refused ∙ l.refused;
          tasks = are.tasks ∙ ap (λ (t : TablesOf). length t.rows) (sym there.tables);
        },
        there,
        (λ roomy. (there.failures ∙ ap (λ n. together n beside) (l.still roomy).0 ∙ sym at.failures, (l.still roomy).1)),
      )
