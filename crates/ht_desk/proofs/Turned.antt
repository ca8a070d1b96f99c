-- What the machine does in a step of a desk.
use Rattle.std.proofs.Common.{◌≡◌, ◌⊎◌, inl, inr, ⊎_elim, ℕ, true, List, Option, Some, None, ap, sym, ◌∙◌, subst}
use Rattle.ht_base.specs.declared.event.Event.{Event}
use Rattle.ht_base.specs.declared.event.Event.TheVariants.{Turn}
use Rattle.ht_base.specs.declared.moment.Moment.{Moment}
use Rattle.ht_base.specs.declared.record.Record.{Record}
use Rattle.ht_base.specs.declared.reply.Answer.{Answer}
use Rattle.ht_base.specs.declared.reply.Answer.TheVariants.{Refused, Turned}
use Rattle.ht_base.specs.declared.reply.Refusal.{Refusal}
use Rattle.ht_base.specs.declared.reply.Reply.{Reply}
use Rattle.ht_base.specs.Records.{RecordOf}
use Rattle.ht_due.specs.declared.due.Due.{Due}
use Rattle.ht_machine.specs.Deciding.{Decides, effective, last_after}
use Rattle.ht_machine.specs.TakenOnce.{AreNumbered, WasTaken, is_among}
use Rattle.ht_machine.specs.Timer.{AreAlike}
use Rattle.ht_machine.specs.Turning.{IsTurn}
use Rattle.ht_tree.specs.RowDues.{first_due}
use Rattle.ht_machine.proofs.PublicLaws.{nothing_changes}
use Rattle.ht_tree.specs.Tables.{TablesOf, at_moment}
use Rattle.ht_desk.specs.Moves.{IsStepOrNone}
use Rattle.ht_desk.specs.Replaying.{Applies}
use Rattle.ht_desk.specs.States.{State}
use Rattle.ht_desk.specs.Steps.{Acts, Settles, Steps}
use Rattle.ht_desk.specs.Steps.Acts.{done, failed, full, nothing_left, out_of_memory, unsettled}
use Rattle.ht_desk.specs.Steps.Settles.{certain, dropped, joined, undecided}
use Rattle.ht_desk.specs.Turns.{HasTurned}

-- ---- the machine's own steps

-- the first part of a step is none of the machine, or the one of the record that was in doubt
pub first_moves : (s mid : State) → Settles s mid → (mid.tables ≡ s.tables) ⊎ ((r : RecordOf) × (s.doubt ≡ Some r) × Applies s.tables r mid.tables)
first_moves s mid (certain none same) = inl (ap (λ (m : State). m.tables) same)
first_moves s mid (dropped r has same) = inl (ap (λ (m : State). m.tables) same)
first_moves s mid (joined r u has on same) =
    let A : State → Type 0 = λ m. Applies s.tables r m.tables in
    inr (r, has, subst A (sym same) on)
first_moves s mid (undecided r has same rose) = inl (ap (λ (m : State). m.tables) same)

-- the second part is one of the machine, or none where it isn't kept
pub second_moves : (mid : State) (e : Event) (reply : Reply) (t : State) → Acts mid e reply t → IsStepOrNone mid.tables e reply t.tables
second_moves mid e reply t (unsettled r has told same) = inr (ap (λ (m : State). m.tables) same, inl told)
second_moves mid e reply t (out_of_memory none told same) = inl (inr (told, ap (λ (m : State). m.tables) same))
second_moves mid e reply t (nothing_left u none decides same) =
    let D : TablesOf → Type 0 = λ x. Decides mid.tables e None reply x in
    inl (inl (None, subst D (nothing_changes mid.tables e reply u decides ∙ sym (ap (λ (m : State). m.tables) same)) decides))
second_moves mid e reply t (full r d u none decides over told same) = inr (ap (λ (m : State). m.tables) same, inr told)
second_moves mid e reply t (done r u none decides fits same) =
    let D : State → Type 0 = λ m. Decides mid.tables e (Some r) reply m.tables in
    inl (inl (Some r, subst D (sym same) decides))
second_moves mid e reply t (failed r d u none decides fits told rose which) =
    inr (⊎_elim (λ same. ap (λ (m : State). m.tables) same) (λ same. ap (λ (m : State). m.tables) same) which, inl told)

-- ---- turns

turned_alike : (turned acted u : TablesOf) (n : ℕ) → acted ≡ turned → u ≡ at_moment acted n → AreAlike turned u
turned_alike turned acted u n same is =
    let made : u ≡ at_moment turned n = is ∙ ap (λ (x : TablesOf). at_moment x n) same in
    let last : u.last ≡ n = ap (λ (x : TablesOf). x.last) made in
    made ∙ ap (λ k. at_moment turned k) (sym last)

decided_turn : (t : TablesOf) (at : Moment) (left : Option Record) (reply : Reply) (u : TablesOf) → Decides t (Turn at) left reply u → HasTurned t (effective t at.0) reply u
decided_turn t at left reply u d =
    let like : AreAlike d.turned u = turned_alike d.turned d.acted u (last_after d.acted left) d.does.0.1 d.after_is in
    record {
      dues = d.dues;
      turned = d.turned;
      turn = d.turn;
      taken = d.taken;
      alike = like;
      ended = ap (λ (x : TablesOf). first_due x (effective t at.0)) like ∙ (d.turn).ended;
    }

not_turned : (answer : Answer) (why : Refusal) → answer ≡ Refused why → answer ≡ Turned → ⊥
not_turned answer why told is = let e : Refused why ≡ Turned = sym told ∙ is in cc

stepped_turn : (t : TablesOf) (at : Moment) (reply : Reply) (u : TablesOf) → reply.answer ≡ Turned → IsStepOrNone t (Turn at) reply u → HasTurned t (effective t at.0) reply u
stepped_turn t at reply u is (inl (inl (left, decides))) = decided_turn t at left reply u decides
stepped_turn t at reply u is (inl (inr (told, same))) = absurd (not_turned reply.answer _ (ap (λ (x : Reply). x.answer) told) is)
stepped_turn t at reply u is (inr (same, inl told)) = absurd (not_turned reply.answer _ (ap (λ (x : Reply). x.answer) told) is)
stepped_turn t at reply u is (inr (same, inr told)) = absurd (not_turned reply.answer _ (ap (λ (x : Reply). x.answer) told) is)

pub has_turned : (s : State) (at : Moment) (reply : Reply) (t : State) (p : Steps s (Turn at) reply t) → reply.answer ≡ Turned → HasTurned (p.mid).tables (effective (p.mid).tables at.0) reply t.tables
has_turned s at reply t p is =
    let H : State → Type 0 = λ x. HasTurned (p.mid).tables (effective (p.mid).tables at.0) reply x.tables in
    subst H (sym p.counted) (stepped_turn (p.mid).tables at reply (p.acted).tables is (second_moves p.mid (Turn at) reply p.acted p.acts))

-- ---- deadlines

abbrev pub Stays : Type 0
Stays = (t : TablesOf) (e : Event) (k : Option Record) (r : Reply) (after : TablesOf) (task place : ℕ) → AreNumbered t.rows → Decides t e k r after → WasTaken t task place → WasTaken after task place

module _ (stays : Stays) (task place : ℕ) where
  abbrev W : TablesOf → Type 0
  W t = WasTaken t task place

  still_same : (t u : TablesOf) → u ≡ t → W t → W u
  still_same t u same taken = subst (λ (x : TablesOf). WasTaken x task place) (sym same) taken

  pub settled_stays : (s mid : State) → Settles s mid → AreNumbered (s.tables).rows → W s.tables → W mid.tables
  settled_stays s mid settles numbered taken = ⊎_elim
      (λ same. still_same s.tables mid.tables same taken)
      (λ moved. by_record moved.0 moved.2)
      (first_moves s mid settles)
    where
      by_record : (r : RecordOf) → Applies s.tables r mid.tables → W mid.tables
      by_record r (kept, is, (e, reply, its, decides)) = stays s.tables e (Some kept) reply mid.tables task place numbered decides taken

  acted_stays : (t : TablesOf) (e : Event) (reply : Reply) (u : TablesOf) → IsStepOrNone t e reply u → AreNumbered t.rows → W t → W u
  acted_stays t e reply u (inl (inl (left, decides))) numbered taken = stays t e left reply u task place numbered decides taken
  acted_stays t e reply u (inl (inr (told, same))) numbered taken = still_same t u same taken
  acted_stays t e reply u (inr (same, told)) numbered taken = still_same t u same taken

  pub stepped_stays : (s : State) (e : Event) (reply : Reply) (t : State) (p : Steps s e reply t) → AreNumbered (s.tables).rows → AreNumbered ((p.mid).tables).rows → W s.tables → W t.tables
  stepped_stays s e reply t p low mid taken =
      let acted = acted_stays (p.mid).tables e reply (p.acted).tables (second_moves p.mid e reply p.acted p.acts) mid (settled_stays s p.mid p.settles low taken) in
      let T : State → Type 0 = λ x. WasTaken x.tables task place in
      subst T (sym p.counted) acted

-- what a turn took counts as taken
pub taken_after : ((by : ℕ) (t after : TablesOf) (dues : List Due) (task place : ℕ) → AreNumbered t.rows → IsTurn by t dues after → is_among task place dues ≡ true → WasTaken after task place)
    → (t : TablesOf) (moment : ℕ) (reply : Reply) (after : TablesOf) (w : HasTurned t moment reply after) (task place : ℕ) → AreNumbered t.rows → is_among task place w.dues ≡ true → WasTaken after task place
taken_after law t moment reply after w task place numbered among =
    let T : TablesOf → Type 0 = λ x. WasTaken x task place in
    subst T (sym w.alike) (law moment t w.turned w.dues task place numbered w.turn among)
