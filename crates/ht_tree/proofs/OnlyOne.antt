-- Plans from which the only row behind the mark is taken, to be put again.
use Rattle.ht_tree.proofs.Filing.{file_of, file_there, files_itself, no_file}
use Rattle.std.proofs.Common.{◌≡◌, ℕ, Bool, if◌then◌else◌, List, [], ◌∷◌, ◌++◌, fold, take, Some, refl, ap, sym, ◌∙◌, subst, arith, eq-eqb, Option, None}
use Rattle.std.proofs.Math.Seq.{take-append_seam, take-length}
use Rattle.ht_tree.specs.declared.notice.Notice.{Notice}
use Rattle.ht_tree.specs.declared.plan.Noted.{Noted}
use Rattle.ht_tree.specs.declared.row.Row.{Row}
use Rattle.ht_tree.specs.Places.{IsOnly}
use Rattle.ht_tree.specs.Plans.{AreCounted, changes_of, Follow, IsNext, IsPlanOf, KeepFiles, KeepsFile, planned, PlanOf}
use Rattle.ht_tree.specs.Rows.{put_in, row_at}
use Rattle.ht_tree.specs.Soundness.{Fits}
use Rattle.ht_tree.specs.Tables.{TablesOf}
use Rattle.ht_tree.proofs.Planning.{IsTaken, plan_with}
use Rattle.ht_tree.proofs.Putting.{fold_push, put_twice, row_at-put_in}

-- the last of the rows that follow
last_follows : (t : TablesOf) (rows puts : List Row) (row : Row) → Follow t rows (puts ++ row ∷ []) → IsNext (fold put_in rows puts) row × Fits t row
last_follows t rows [] row f = (f.0, f.1)
last_follows t rows (p ∷ puts) row f = last_follows t (put_in rows p) puts row f.2

module _ (t : TablesOf) (old : PlanOf) (rows news : List Row) (mark : ℕ) (noted marked : Noted) (told told_before : List Notice) (view : plan_with rows mark noted marked told told_before ≡ old) (fit : IsPlanOf t old) (task : ℕ) (row : Row) (only : IsOnly mark rows news task row) where
  fits_only : IsPlanOf t (plan_with rows mark noted marked told told_before)
  fits_only = let P : PlanOf → Type 0 = λ p. IsPlanOf t p in subst P (sym view) fit

  -- what is noted is that of the mark
  abbrev pub noted_there : Noted
  noted_there = record noted { totals = marked.totals }

  seam : take mark (news ++ row ∷ []) ≡ news
  seam = ap (λ (n : ℕ). take n (news ++ row ∷ [])) (sym only.front) ∙ take-append_seam news (row ∷ [])

  front : take mark rows ≡ news
  front = ap (λ (l : List Row). take mark l) only.rest ∙ seam

  all : take mark news ≡ news
  all = ap (λ (n : ℕ). take n news) (sym only.front) ∙ take-length news

  last : IsNext (fold put_in t.rows news) row × Fits t row
  last =
      let F : List Row → Type 0 = λ l. Follow t t.rows l in
      last_follows t t.rows news row (subst F only.rest fits_only.changes_fit)

  after : fold put_in t.rows rows ≡ put_in (fold put_in t.rows news) row
  after = ap (λ (l : List Row). fold put_in t.rows l) only.rest ∙ fold_push t.rows news row

  row_is : row_at task (fold put_in t.rows rows) ≡ Some row
  row_is =
      ap (λ (l : List Row). row_at task l) after
      ∙ row_at-put_in (fold put_in t.rows news) row task last.0
      ∙ ap (λ (b : Bool). if b then Some row else row_at task (fold put_in t.rows news)) (eq-eqb row.task.0 task only.own)

  fits_there : IsPlanOf t (plan_with news mark noted_there marked told told_before)
  fits_there =
      let F : List Row → Type 0 = λ l. Follow t t.rows l in
      let C : List Row → Type 0 = λ l. AreCounted t l marked.totals in
      let K : List Row → Type 0 = λ l. KeepFiles t.rows (fold put_in t.rows l) in
      let S : List Row → Type 0 = λ l. KeepFiles (fold put_in t.rows l) (fold put_in t.rows news) in
      record {
        changes_fit = subst F front fits_only.marked_fit;
        changes_counted = subst C front fits_only.marked_counted;
        marked_fit = subst F (front ∙ sym all) fits_only.marked_fit;
        marked_counted = subst C (front ∙ sym all) fits_only.marked_counted;
        marked_filed = subst K (front ∙ sym all) fits_only.marked_filed;
        changes_filed = subst S (sym all) (files_itself (fold put_in t.rows news));
      }

  next_there : (r : Row) → r.task.0 ≡ task → IsNext (fold put_in t.rows rows) r → IsNext (fold put_in t.rows news) r
  next_there r same next =
      let high = (last.0).1 in
      let own = only.own in
      (next.0, omega arith)

  file_there_too : (r : Row) → r.task.0 ≡ task → KeepsFile (fold put_in t.rows rows) r → KeepsFile (fold put_in t.rows news) r
  file_there_too r same file = before (row_at task (fold put_in t.rows news)) refl
    where
      before : (o : Option Row) → row_at task (fold put_in t.rows news) ≡ o → KeepsFile (fold put_in t.rows news) r
      before None at = no_file (fold put_in t.rows news) r task same at
      before (Some b) at =
          let F : List Row → Type 0 = λ l. KeepFiles (fold put_in t.rows l) (fold put_in t.rows rows) in
          let last = subst F front fits_only.changes_filed task b at in
          let this : Some last.0 ≡ Some row = sym last.1 ∙ row_is in
          let is : last.0 ≡ row = cc in
          let old = file_there (fold put_in t.rows rows) r row task same row_is file in
          file_of (fold put_in t.rows news) r b task same at (old.0 ∙ sym (ap (λ (x : Row). x.parent) is) ∙ last.2) (old.1 ∙ sym (ap (λ (x : Row). x.model) is) ∙ last.3)

  taken_with : IsTaken t (plan_with rows mark noted marked told told_before) (plan_with news mark noted_there marked told told_before) task row
  taken_with = record {
    there = row_is;
    fits = last.1;
    lends = record {
      fits = fits_there;
      slot = refl;
      marked = ap (λ (l : List Row). changes_of l told_before marked.totals marked.slot) (all ∙ sym front);
      next = next_there;
      file = file_there_too;
      again = λ r same next.
          ap (λ (l : List Row). record (planned t (plan_with news mark noted_there marked told told_before)) { rows = l }) (sym (ap (λ (l : List Row). put_in l r) after ∙ put_twice (fold put_in t.rows news) row r last.0 (same ∙ sym only.own)));
    };
  }

  pub taken_only : IsTaken t old (plan_with news mark noted_there marked told told_before) task row
  taken_only = let P : PlanOf → Type 0 = λ p. IsTaken t p (plan_with news mark noted_there marked told told_before) task row in subst P view taken_with
