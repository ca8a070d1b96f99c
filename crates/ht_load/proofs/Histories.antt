-- A load grows by one request.
use Rattle.std.proofs.Common.{◌≡◌, ◌≢◌, ℕ, ◌+◌, ◌≤◌, Bool, true, false, cond, not, [], ◌∷◌, ◌++◌, length, length-append, refl, sym, ap, subst, ◌∙◌, arith}
use Rattle.std.proofs.lemmas.List.Sums.{sum_by_push}
use Rattle.ht_base.specs.declared.event.Event.{Event}
use Rattle.ht_base.specs.declared.reply.Reply.{Reply}
use Rattle.ht_base.specs.History.{Entry, IsLegal, end_of}
use Rattle.ht_desk.specs.declared.desk_state.DeskState.{DeskState}
use Rattle.ht_desk.specs.Keeping.{IsAt}
use Rattle.ht_desk.specs.Moves.{DeskHistory}
use Rattle.ht_desk.specs.Replaying.{TextsOf}
use Rattle.ht_desk.specs.States.{State}
use Rattle.ht_desk.specs.Stepping.{Stands}
use Rattle.ht_desk.specs.Steps.{Steps, store_reply}
use Rattle.ht_journal.specs.Rooms.{IsRoomy}
use Rattle.ht_outside.specs.declared.disk.Disk.{Ghosts}
use Rattle.ht_tree.specs.Tables.{TablesOf}
use Rattle.ht_load.specs.declared.answered.Answered.{Answered}
use Rattle.ht_load.specs.Answers.{NoneFailed, accepted_in, is_done, refused_in}
use Rattle.ht_load.specs.Loads.{AreDrawn, Makes}
use Rattle.ht_load.specs.Requests.{request, thrice}

abbrev Step : Type 0
Step = Entry State Event Reply

-- where drawing comes to
abbrev pub drawn_by : ℕ → DeskHistory → ℕ
drawn_by x [] = x
drawn_by x (e ∷ es) = drawn_by (thrice x) es

-- ---- a history with one entry more

legal_more : (s : State) (h : DeskHistory) (e : Step) → IsLegal Steps s h → Steps (end_of s h) e.event e.reply e.after → IsLegal Steps s (h ++ e ∷ [])
legal_more s [] e legal step = (step, tt)
legal_more s (x ∷ h) e legal step = (legal.0, legal_more x.after h e legal.1 step)

ends_more : (s : State) (h : DeskHistory) (e : Step) → end_of s (h ++ e ∷ []) ≡ e.after
ends_more s [] e = refl
ends_more s (x ∷ h) e = ends_more x.after h e

drawn_more : (x : ℕ) (h : DeskHistory) (e : Step) → drawn_by x (h ++ e ∷ []) ≡ thrice (drawn_by x h)
drawn_more x [] e = refl
drawn_more x (y ∷ h) e = drawn_more (thrice x) h e

are_more : (x k n : ℕ) (s : State) (h : DeskHistory) (e : Step) → n ≡ k + length h → AreDrawn x k s h → e.event ≡ request (drawn_by x h) n (length ((end_of s h).tables).rows) → AreDrawn x k s (h ++ e ∷ [])
are_more x k n s [] e is drawn here =
    let same : n ≡ k = omega arith in
    (here ∙ ap (λ m. request x m (length (s.tables).rows)) same, tt)
are_more x k n s (y ∷ h) e is drawn here = (drawn.0, are_more (thrice x) (k + 1) n y.after h e (omega arith) drawn.1 here)

none_more : (h : DeskHistory) (e : Step) → NoneFailed h → (e.reply).answer ≢ store_reply.answer → NoneFailed (h ++ e ∷ [])
none_more [] e none one = (one, tt)
none_more (x ∷ h) e none one = (none.0, none_more h e none.1 one)

-- ---- so far

-- the requests that were made since the desk was in this state, and where drawing has come to
pub record Loading {D : Type 0} (d : Ghosts D) (beside : ℕ) (texts : TextsOf) (s : State) (before : D) (seed k x : ℕ) (desk : DeskState) (disk : D) (answered : Answered) : Type 0 where
  pub history : DeskHistory
  pub legal : IsLegal Steps s history
  pub drawn : AreDrawn seed 0 s history
  pub many : length history ≡ k
  pub to : x ≡ drawn_by seed history
  pub accepted : answered.accepted ≡ accepted_in history
  pub refused : answered.refused ≡ refused_in history
  pub at : IsAt d beside texts (end_of s history) desk disk
  pub room : d.room disk ≡ d.room before
  pub limit : (desk.journal).limit ≡ s.limit
  pub still : IsRoomy (d.room before) s.limit → (d.faults disk ≡ d.faults before) × NoneFailed history

-- in whichever state it was
pub record Goes {D : Type 0} (d : Ghosts D) (seed k x : ℕ) (first desk : DeskState) (before disk : D) (answered : Answered) : Type 0 where
  pub stands : Stands d desk disk
  pub accepted_few : answered.accepted ≤ k
  pub refused_few : answered.refused ≤ k
  pub loading : (beside : ℕ) (texts : TextsOf) (s : State) → IsAt d beside texts s first before → Loading d beside texts s before seed k x desk disk answered

module _ {D : Type 0} (d : Ghosts D) (seed : ℕ) (first : DeskState) (before : D) where
  pub goes_none : (answered : Answered) → answered.accepted ≡ 0 → answered.refused ≡ 0 → Stands d first before → Goes d seed 0 seed first first before before answered
  goes_none answered a r stands = record {
    stands = stands;
    accepted_few = omega arith;
    refused_few = omega arith;
    loading = λ beside texts s at. record {
      history = [];
      legal = tt;
      drawn = tt;
      many = refl;
      to = refl;
      accepted = a;
      refused = r;
      at = at;
      room = refl;
      limit = sym at.limited;
      still = λ roomy. (refl, tt);
    };
  }

  roomy_still : (limit : ℕ) (desk : DeskState) (disk : D) → d.room disk ≡ d.room before → (desk.journal).limit ≡ limit → IsRoomy (d.room before) limit → IsRoomy (d.room disk) (desk.journal).limit
  roomy_still limit desk disk same is roomy = record { most = roomy.most; is = same ∙ roomy.is; enough = subst (λ (n : ℕ). n ≤ roomy.most) (sym is) roomy.enough }

  module _ (k x y : ℕ) (desk new_desk : DeskState) (disk new : D) (old_answered answered : Answered) where
    loading_more : (beside : ℕ) (texts : TextsOf) (s : State) → Loading d beside texts s before seed k x desk disk old_answered → Makes d x k desk new_desk disk new old_answered answered → y ≡ thrice x → Loading d beside texts s before seed (k + 1) y new_desk new answered
    loading_more beside texts s l m next =
        let h = l.history in
        let many = l.many in
        let made = (m.answers).steps beside texts (end_of s h) l.at in
        let rows = length ((desk.tables).tables).rows in
        let e : Step = record { pass = 0; event = request x k rows; reply = m.reply; after = made.0 } in
        let event : e.event ≡ request (drawn_by seed h) k (length ((end_of s h).tables).rows) =
        ap (λ n. request n k rows) l.to ∙ ap (λ (t : TablesOf). request (drawn_by seed h) k (length t.rows)) (sym (l.at).tables) in
        let safe : IsRoomy (d.room before) s.limit → (m.reply).answer ≢ store_reply.answer = λ roomy. (m.answers).in_room (roomy_still s.limit desk disk l.room l.limit roomy) in
        record {
          history = h ++ e ∷ [];
          legal = legal_more s h e l.legal made.1;
          drawn = are_more seed 0 k s h e (omega arith) l.drawn event;
          many = length-append h (e ∷ []) ∙ ap (λ n. n + 1) many;
          to = next ∙ ap thrice l.to ∙ sym (drawn_more seed h e);
          accepted = m.accepted ∙ ap (λ n. n + cond (is_done (m.reply).answer) 1 0) l.accepted ∙ sym (sum_by_push (λ (z : Step). cond (is_done (z.reply).answer) 1 0) h e);
          refused = m.refused ∙ ap (λ n. n + cond (not (is_done (m.reply).answer)) 1 0) l.refused ∙ sym (sum_by_push (λ (z : Step). cond (not (is_done (z.reply).answer)) 1 0) h e);
          at = subst (λ (t : State). IsAt d beside texts t new_desk new) (sym (ends_more s h e)) made.2;
          room = (m.answers).room ∙ l.room;
          limit = (m.answers).limit ∙ l.limit;
          still = λ roomy. ((m.answers).still (safe roomy) ∙ (l.still roomy).0, none_more h e (l.still roomy).1 (safe roomy));
        }

    one_or_none : (b : Bool) → cond b 1 0 ≤ 1
    one_or_none true = omega arith
    one_or_none false = omega arith

    pub goes_more : Goes d seed k x first desk before disk old_answered → Makes d x k desk new_desk disk new old_answered answered → y ≡ thrice x → Stands d new_desk new → Goes d seed (k + 1) y first new_desk before new answered
    goes_more g m next stands = record {
      stands = stands;
      accepted_few = omega (arith, g.accepted_few, m.accepted, one_or_none (is_done (m.reply).answer));
      refused_few = omega (arith, g.refused_few, m.refused, one_or_none (not (is_done (m.reply).answer)));
      loading = λ beside texts s at. loading_more beside texts s (g.loading beside texts s at) m next;
    }
