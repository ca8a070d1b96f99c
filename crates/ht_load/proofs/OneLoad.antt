-- Two loads of one seed are the same.
use Rattle.std.proofs.Common.{◌≡◌, ℕ, ◌+◌, cond, not, [], ◌∷◌, length, map, None, refl, sym, ap, subst, ◌∙◌, arith}
use Rattle.std.proofs.lemmas.List.Sums.{sum_by-cons}
use Rattle.ht_base.specs.declared.event.Event.{Event}
use Rattle.ht_base.specs.declared.reply.Reply.{Reply}
use Rattle.ht_base.specs.History.{Entry, IsLegal, end_of}
use Rattle.ht_desk.specs.Moves.{DeskHistory, of_tables}
use Rattle.ht_desk.specs.States.{State}
use Rattle.ht_machine.specs.Deciding.{Decides}
use Rattle.ht_machine.proofs.PublicLaws.{same}
use Rattle.ht_tree.specs.Tables.{TablesOf}
use Rattle.ht_load.specs.declared.sums.Sums.{Sums}
use Rattle.ht_load.specs.Answers.{AreDecided, accepted_in, is_done, refused_in}
use Rattle.ht_load.specs.Loads.{AreDrawn, Decided, Loads}
use Rattle.ht_load.specs.Requests.{request, thrice}

-- as many are accepted, as many are refused, and the tables are the same at the end
record AreAlike (s u : State) (h i : DeskHistory) : Type 0 where
  accepted : accepted_in h ≡ accepted_in i
  refused : refused_in h ≡ refused_in i
  after : (end_of s h).tables ≡ (end_of u i).tables

counted : (f : Entry State Event Reply → ℕ) (e j : Entry State Event Reply) (h i : DeskHistory) (m n o p : ℕ) → m ≡ f e + n → o ≡ f j + p → f e ≡ f j → n ≡ p → m ≡ o
counted f e j h i m n o p first second here rest = omega (arith, first, second, here, rest)

alike : (x k : ℕ) (s u : State) (h i : DeskHistory) → length h ≡ length i → s.tables ≡ u.tables → IsLegal Decided s.tables (map of_tables h) → IsLegal Decided u.tables (map of_tables i) → AreDrawn x k s h → AreDrawn x k u i → AreAlike s u h i
alike x k s u [] [] many tables p q a b = record { accepted = refl; refused = refl; after = tables }
alike x k s u [] (j ∷ i) many tables p q a b = absurd (omega (arith, many))
alike x k s u (e ∷ h) [] many tables p q a b = absurd (omega (arith, many))
alike x k s u (e ∷ h) (j ∷ i) many tables p q a b =
    let event : e.event ≡ j.event = a.0 ∙ ap (λ (t : TablesOf). request x k (length t.rows)) tables ∙ sym b.0 in
    let here = subst (λ (t : TablesOf). Decides t e.event (p.0).0 e.reply (e.after).tables) tables (p.0).1 in
    let mine : Decides u.tables j.event (p.0).0 e.reply (e.after).tables = subst (λ (v : Event). Decides u.tables v (p.0).0 e.reply (e.after).tables) event here in
    let is = same u.tables j.event (p.0).0 (q.0).0 e.reply j.reply (e.after).tables (j.after).tables mine (q.0).1 in
    let rest = alike (thrice x) (k + 1) e.after j.after h i (omega (arith, many)) is.after p.1 q.1 a.1 b.1 in
    let yes : Entry State Event Reply → ℕ = λ z. cond (is_done (z.reply).answer) 1 0 in
    let other : Entry State Event Reply → ℕ = λ z. cond (not (is_done (z.reply).answer)) 1 0 in
    record {
      accepted = counted yes e j h i _ _ _ _ (sum_by-cons yes e h) (sum_by-cons yes j i) (ap (λ (r : Reply). cond (is_done r.answer) 1 0) is.reply) rest.accepted;
      refused = counted other e j h i _ _ _ _ (sum_by-cons other e h) (sum_by-cons other j i) (ap (λ (r : Reply). cond (not (is_done r.answer)) 1 0) is.reply) rest.refused;
      after = rest.after;
    }

same_sums : (a b : Sums) → a.requests ≡ b.requests → a.accepted ≡ b.accepted → a.refused ≡ b.refused → a.tasks ≡ b.tasks → a ≡ b
same_sums a b requests accepted refused tasks = λ i. record { requests = requests i; accepted = accepted i; refused = refused i; tasks = tasks i }

pub one_load : (seed count : ℕ) (s t u v : State) (a b : Sums) (l : Loads seed count s t a) (m : Loads seed count u v b) → s.tables ≡ u.tables → s.doubt ≡ None → u.doubt ≡ None → AreDecided (l.load).history → AreDecided (m.load).history → a ≡ b
one_load seed count s t u v a b l m tables none no_other decided also =
    let x = l.load in
    let y = m.load in
    let are = alike seed 0 s u x.history y.history (x.many ∙ sym y.many) tables (l.decided none decided) (m.decided no_other also) x.drawn y.drawn in
    let rows : State → ℕ = λ z. length (z.tables).rows in
    let told : length (t.tables).rows ≡ length (v.tables).rows = ap rows (sym x.ends) ∙ ap (λ (w : TablesOf). length w.rows) are.after ∙ ap rows y.ends in
    same_sums a b (l.requests ∙ sym m.requests) (l.accepted ∙ are.accepted ∙ sym m.accepted) (l.refused ∙ are.refused ∙ sym m.refused) (l.tasks ∙ told ∙ sym m.tasks)
