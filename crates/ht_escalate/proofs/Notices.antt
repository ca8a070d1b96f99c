-- That the notifications of a deadline are sound, and that a plan goes on by them.
use Rattle.std.proofs.Common.{◌≡◌, ◌≤◌, ◌&&◌, ◌∙◌, ℕ, suc, Bool, true, false, if◌then◌else◌, List, [], ◌∷◌, append_assoc, bytes_eq, filter, length, Option, None, Some, ap, refl, sym, subst}
use Rattle.std.specs.Prelude.{filter_map, slice_get}
use Rattle.std.specs.List.{AllByRecursion, list_any}
use Rattle.std.specs.Option.{option_map_or}
use Rattle.std.proofs.lemmas.List.{append-nil}
use Rattle.std.proofs.lemmas.Map.Keys.{any_passes_from_place}
use Rattle.std.proofs.lemmas.Slice.Eq.{bytes_eq-Decides}
use Rattle.ht_base.specs.declared.moment.Moment.{Moment}
use Rattle.ht_base.specs.Moment.{last_moment}
use Rattle.ht_escalate.specs.Escalating.{is_triggered, notice_of, notices_of, with_notices}
use Rattle.ht_escalate.specs.Seeing.{telling}
use Rattle.ht_expr.specs.Assignments.{Assignment}
use Rattle.ht_models.specs.Model.{DeadlineOf, EscalationOf, ModelOf}
use Rattle.ht_people.specs.Membership.{everybody}
use Rattle.ht_tree.specs.declared.notice.Notice.{Notice}
use Rattle.ht_tree.specs.declared.row.Row.{Row}
use Rattle.ht_finding.specs.Assigning.{Sight, is_found}
use Rattle.ht_tree.specs.Plans.{Goes, PlanOf, planned}
use Rattle.ht_tree.specs.Rows.{row_at}
use Rattle.ht_tree.specs.Soundness.{IsSound, IsSoundNotice, has_escalation}
use Rattle.ht_tree.specs.Tables.{TablesOf, directory, model_of, with_notice}
use Rattle.ht_finding.proofs.PublicLaws.{selected_ascends}
use Rattle.ht_tree.proofs.PublicLaws.{all_selected, notice_sound}

-- ---- the tables are sound with them

pub all_told : (t : TablesOf) (more : List Notice) → IsSound t → AllByRecursion (IsSoundNotice t.models (length t.people.persons) t.rows) more → IsSound (with_notices t more)
all_told t [] sound all = let P : List Notice → Type 0 = λ l. IsSound (record t { notices = l }) in subst P (sym (append-nil t.notices)) sound
all_told t (n ∷ more) sound all =
    let P : List Notice → Type 0 = λ l. IsSound (record t { notices = l }) in
    subst P (append_assoc t.notices (n ∷ []) more) (all_told (with_notice t n) more (notice_sound t n sound all.0) all.1)

-- ---- each of a deadline's is sound

bytes_same : (xs : List ℕ) → bytes_eq xs xs ≡ true
bytes_same xs = (bytes_eq-Decides xs xs).1 refl

module _ (t : TablesOf) (row : Row) (m : ModelOf) (d : DeadlineOf) (place : ℕ) (at : Moment) (s : Sight) (there : row_at row.task.0 t.rows ≡ Some row) (of : model_of t row ≡ Some m) (listed : slice_get m.deadlines place ≡ Some d) (early : at.0 ≤ last_moment) where
  abbrev IsFine : Notice → Type 0
  IsFine n = IsSoundNotice t.models (length t.people.persons) t.rows n

  one_sound : (i : ℕ) (e : EscalationOf) (a : Assignment) → slice_get d.escalations i ≡ Some e → IsFine (record { task = row.task; deadline = d.name; escalation = e.name; moment = at; recipients = filter (is_found (directory t) s a) (everybody (directory t)) })
  one_sound i e a has_e = record {
    row = row;
    there = there;
    escalation = ap (λ (o : Option ModelOf). option_map_or (λ (x : ModelOf). has_escalation x.deadlines n) o false) of ∙ any_passes_from_place is_of m.deadlines place d listed here;
    recipients = all_selected t (is_found (directory t) s a);
    recipients_ascend = selected_ascends (is_found (directory t) s a) (length t.people.persons);
    moment_within = early;
  }
    where
      n : Notice
      n = record { task = row.task; deadline = d.name; escalation = e.name; moment = at; recipients = filter (is_found (directory t) s a) (everybody (directory t)) }

      is_of : DeadlineOf → Bool
      is_of x = bytes_eq x.name d.name && list_any (λ (y : EscalationOf). bytes_eq y.name e.name) x.escalations

      here : is_of d ≡ true
      here = rw (bytes_same d.name) (any_passes_from_place (λ (y : EscalationOf). bytes_eq y.name e.name) d.escalations i e has_e (bytes_same e.name))

  each_sound : (es : List EscalationOf) → ((i : ℕ) (e : EscalationOf) → slice_get es i ≡ Some e → (k : ℕ) × (slice_get d.escalations k ≡ Some e)) → AllByRecursion IsFine (filter_map (notice_of (directory t) s row.task d.name at) (filter (is_triggered s) es))
  each_sound [] among = tt
  each_sound (e ∷ es) among = go (is_triggered s e) (each_sound es (λ i x h. among (suc i) x h))
    where
      told : List Notice
      told = filter_map (notice_of (directory t) s row.task d.name at) (filter (is_triggered s) es)

      -- it tells somebody, or gives the task to somebody
      tells : (o : Option Assignment) → e.notify ≡ o → AllByRecursion IsFine told → AllByRecursion IsFine (filter_map (notice_of (directory t) s row.task d.name at) (e ∷ filter (is_triggered s) es))
      tells None is rest = rw is rest
      tells (Some a) is rest = rw is (one_sound (among 0 e refl).0 e a (among 0 e refl).1, rest)

      go : (b : Bool) → AllByRecursion IsFine told → AllByRecursion IsFine (filter_map (notice_of (directory t) s row.task d.name at) (if b then e ∷ filter (is_triggered s) es else filter (is_triggered s) es))
      go true rest = tells e.notify refl rest
      go false rest = rest

  pub told_sound : AllByRecursion IsFine (notices_of (directory t) s row.task d at)
  told_sound = each_sound d.escalations (λ i e h. (i, h))

-- ---- a plan that tells them

pub telling_goes : (t : TablesOf) (old p new : PlanOf) (more : List Notice) (u v : TablesOf) → Goes t old p u v → new ≡ telling p more → Goes t old new u (with_notices v more)
telling_goes t old p new more u v goes is =
    let P : PlanOf → Type 0 = λ q. Goes t old q u (with_notices v more) in
    subst P (sym is) (record {
      from = goes.from;
      to = ap (λ (l : List Notice). record (planned t p) { notices = l }) (sym (append_assoc t.notices (p.changes).notices more)) ∙ ap (λ (w : TablesOf). with_notices w more) goes.to;
      fits = record { changes_fit = goes.fits.changes_fit; changes_counted = goes.fits.changes_counted; marked_fit = goes.fits.marked_fit; marked_counted = goes.fits.marked_counted; marked_filed = goes.fits.marked_filed; changes_filed = goes.fits.changes_filed };
      slot = goes.slot;
      marked = goes.marked;
    })
