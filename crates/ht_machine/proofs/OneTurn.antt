-- A turn has one end, and changes rows and notifications alone.
use Rattle.std.proofs.Common.{◌≡◌, ℕ, zero, suc, List, [], ◌∷◌, None, refl, ap, sym, subst, ◌∙◌}
use Rattle.ht_base.specs.declared.moment.Moment.{Moment}
use Rattle.ht_compose.proofs.PublicLaws.{determined, ends_rows, frees_rows, one_end}
use Rattle.ht_compose.specs.Agenda.{Ends}
use Rattle.ht_compose.specs.Downward.{freed, freeing}
use Rattle.ht_compose.specs.Freeing.{Resumes, checks_of}
use Rattle.ht_compose.specs.Items.{Does, Item}
use Rattle.ht_compose.specs.Items.Item.{Activate}
use Rattle.ht_due.specs.declared.due.Due.{Due}
use Rattle.ht_escalate.proofs.PublicLaws.{one_taking as one_deadline}
use Rattle.ht_machine.specs.Turning.{IsTurn, Takes, TakesKind, Takings}
use Rattle.ht_machine.specs.Turning.Takings.{end, on}
use Rattle.ht_machine.proofs.Rows.{one}
use Rattle.ht_tree.specs.declared.notice.Notice.{Notice}
use Rattle.ht_tree.specs.declared.row.Row.{Row}
use Rattle.ht_tree.specs.RowDues.{first_due}
use Rattle.ht_tree.specs.Tables.{TablesOf, task_row, with_row, with_rows}

-- ---- one end

pub same_end : (at : Moment) (u v w : TablesOf) (is : List Item) → Ends (Does at) u is v → Ends (Does at) u is w → v ≡ w
same_end at u v w is a b = one_end (Does at) (determined at) u v w is a b

one_resumption : (at : Moment) (task : ℕ) (u v w : TablesOf) → Resumes at task u v → Resumes at task u w → v ≡ w
one_resumption at task u v w (r, there, a) (s, found, b) =
    let row : r ≡ s = one (task_row u task) r s there found in
    let start : Row → TablesOf = λ x. let m = with_row u (freed x) in with_rows m (freeing task m.rows) in
    let items : Row → List Item = λ x. checks_of task (with_row u (freed x)).rows in
    let A : Row → Type 0 = λ x. Ends (Does at) (start x) (items x) v in
    same_end at (start s) v w (items s) (subst A row a) b

pub one_taking : (u v w : TablesOf) (due : Due) → Takes u due v → Takes u due w → v ≡ w
one_taking u v w due = go due.kind
  where
    go : (k : ℕ) → TakesKind k due.at due.task.0 due.place u v → TakesKind k due.at due.task.0 due.place u w → v ≡ w
    go zero a b = same_end due.at u v w (Activate due.task.0 ∷ []) a b
    go (suc zero) a b = one_resumption due.at due.task.0 u v w a b
    go (suc (suc n)) a b = one_deadline due.at due.task.0 due.place u v w a b

pub record IsSameEnd (ds es : List Due) (v w : TablesOf) : Type 0 where
  pub dues : ds ≡ es
  pub after : v ≡ w

ended_here : (by : ℕ) (u v : TablesOf) (ds : List Due) → first_due u by ≡ None → Takings by u ds v → (ds ≡ []) × (v ≡ u)
ended_here by u v [] none end = (refl, refl)
ended_here by u v (d ∷ ds) none (on first takes rest) = absurd cc

one_takings : (by : ℕ) (u v w : TablesOf) (ds es : List Due) → Takings by u ds v → first_due v by ≡ None → Takings by u es w → first_due w by ≡ None → IsSameEnd ds es v w
one_takings by u v w [] es end none b last = let here = ended_here by u w es none b in record { dues = sym here.0; after = sym here.1 }
one_takings by u v w (d ∷ ds) [] a none end last = let here = ended_here by u v (d ∷ ds) last a in absurd (let e = here.0 in cc)
one_takings by u v w (d ∷ ds) (e ∷ es) (on {v = x} first takes rest) none (on {v = y} first_too takes_too rest_too) last =
    let due : d ≡ e = one (first_due u by) d e first first_too in
    let T : Due → Type 0 = λ z. Takes u z x in
    let mid : x ≡ y = one_taking u x y e (subst T due takes) takes_too in
    let R : TablesOf → Type 0 = λ z. Takings by z ds v in
    let same = one_takings by y v w ds es (subst R mid rest) none rest_too last in
    record { dues = ap (λ (z : Due). z ∷ ds) due ∙ ap (λ (l : List Due). e ∷ l) same.dues; after = same.after }

pub one_turn : (by : ℕ) (u v w : TablesOf) (ds es : List Due) → IsTurn by u ds v → IsTurn by u es w → IsSameEnd ds es v w
one_turn by u v w ds es a b = one_takings by u v w ds es a.takings a.ended b.takings b.ended

-- ---- what stays

-- rows and notifications alone
abbrev pub KeepsOthers : TablesOf → TablesOf → Type 0
KeepsOthers u v = v ≡ record u { rows = v.rows; notices = v.notices }

rows_alone : (u v : TablesOf) → v ≡ with_rows u v.rows → KeepsOthers u v
rows_alone u v is = is ∙ ap (λ (l : List Notice). record u { rows = v.rows; notices = l }) (sym (ap (λ (w : TablesOf). w.notices) is))

pub taking_keeps : (u v : TablesOf) (due : Due) → Takes u due v → KeepsOthers u v
taking_keeps u v due takes = go due.kind takes
  where
    go : (k : ℕ) → TakesKind k due.at due.task.0 due.place u v → KeepsOthers u v
    go zero ends = rows_alone u v (ends_rows due.at u v (Activate due.task.0 ∷ []) ends)
    go (suc zero) (row, there, frees) = rows_alone u v (frees_rows due.at due.task.0 (with_row u (freed row)) v frees)
    go (suc (suc n)) (row, m, d, there, of, listed, is) =
        is ∙ ap (λ (w : TablesOf). record u { rows = w.rows; notices = w.notices }) (sym is)

takings_keep : (by : ℕ) (u v : TablesOf) (ds : List Due) → Takings by u ds v → KeepsOthers u v
takings_keep by u v [] end = refl
takings_keep by u v (d ∷ ds) (on {v = w} first takes rest) =
    let later = takings_keep by w v ds rest in
    let sooner = taking_keeps u w d takes in
    later ∙ ap (λ (x : TablesOf). record x { rows = v.rows; notices = v.notices }) sooner

pub turn_keeps : (by : ℕ) (u v : TablesOf) (ds : List Due) → IsTurn by u ds v → KeepsOthers u v
turn_keeps by u v ds turn = takings_keep by u v ds turn.takings
