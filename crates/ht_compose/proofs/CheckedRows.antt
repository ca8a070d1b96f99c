-- What is done where a task is checked or gathers its results, and plans that go on by it.
use Rattle.ht_models.specs.Contradictions.{is_automatic}
use Rattle.std.proofs.Common.{◌≡◌, ℕ, ◌&&◌, Bool, true, false, List, [], ◌∷◌, length, map, Option, Some, None, if◌then◌else◌, refl, ap, sym, subst, ◌∙◌}
use Rattle.std.specs.Option.{option_or}
use Rattle.std.specs.Prelude.{find}
use Rattle.ht_base.specs.declared.moment.Moment.{Moment}
use Rattle.ht_base.specs.declared.state.State.TheVariants.{Completed}
use Rattle.ht_base.specs.declared.values.Values.{Values}
use Rattle.ht_compose.specs.declared.item.Item.{Item as Task}
use Rattle.ht_compose.proofs.Acted.{IsTaken, MayReplace, again, again_fits, again_next, goes_again}
use Rattle.ht_compose.proofs.OneRow.{one}
use Rattle.ht_compose.proofs.ResultsHeld.{found_sound}
use Rattle.ht_compose.specs.Downward.{skipping}
use Rattle.ht_compose.specs.Finding.{Finds}
use Rattle.ht_compose.specs.Finishes.{all_ended, applies, chosen, default}
use Rattle.ht_compose.specs.Gathering.{GathersBy, IsGathered}
use Rattle.ht_compose.specs.Items.{Checks, Finishes, OnModel, OnTask, Step, finished, has_ended, has_sub_ended, is_checked, is_in_progress, still}
use Rattle.ht_compose.specs.Items.Item.{Check, Close}
use Rattle.ht_compose.specs.Reaching.{IsTask}
use Rattle.ht_compose.specs.Running.{Acts, item_of}
use Rattle.ht_models.specs.Kinded.{parts_of}
use Rattle.ht_models.specs.Model.{FinishOf, ModelOf}
use Rattle.ht_models.specs.SetOutputs.{SetsOutputs}
use Rattle.ht_tree.proofs.PublicLaws.{goes_then}
use Rattle.ht_tree.specs.declared.row.Row.{Row}
use Rattle.ht_tree.specs.Creating.{sees}
use Rattle.ht_tree.specs.Plans.{Goes, IsNext, PlanOf, planned}
use Rattle.ht_tree.specs.Rows.{put_in, row_at}
use Rattle.ht_tree.specs.Soundness.{Fits, IsSound}
use Rattle.ht_tree.specs.Tables.{TablesOf, model_of, task_row, with_row, with_rows}

-- ---- what is done

-- none of no finishes is chosen
pub none_chosen : (rows : List Row) (m : ModelOf) (row : Row) → m.finishes ≡ [] → chosen rows m row ≡ None
none_chosen rows m row none =
    ap (λ (fs : List FinishOf). option_or (find (applies (parts_of m.input m.output) (sees rows row)) fs) (if all_ended row.task.0 (length m.subs) rows then default fs else None)) none
    ∙ go (all_ended row.task.0 (length m.subs) rows)
  where
    go : (b : Bool) → (if b then default [] else None) ≡ None
    go true = refl
    go false = refl

pub no_task : (u : TablesOf) (t : ℕ) → None ≡ task_row u t → OnTask u (Checks u) (task_row u t) (still u)
no_task u t none = let R : Option Row → Type 0 = λ o. OnTask u (Checks u) o (still u) in subst R none refl

module _ (u : TablesOf) (t : ℕ) (row : Row) (m : ModelOf) (there : task_row u t ≡ Some row) (of_model : model_of u row ≡ Some m) where
  on_checked : (d : Step) → Checks u row m d → OnTask u (Checks u) (task_row u t) d
  on_checked d checks =
      let M : Option ModelOf → Type 0 = λ o. OnModel u row (Checks u) o d in
      let R : Option Row → Type 0 = λ o. OnTask u (Checks u) o d in
      subst R (sym there) (subst M (sym of_model) checks)

  pub not_checked : is_checked u row m ≡ false → OnTask u (Checks u) (task_row u t) (still u)
  not_checked unmet =
      let F : Bool → Type 0 = λ b. Finishes u row m (if b then chosen u.rows m row else None) (still u) in
      on_checked (still u) (subst F (sym unmet) refl)

  pub not_finished : chosen u.rows m row ≡ None → OnTask u (Checks u) (task_row u t) (still u)
  not_finished none = on_checked (still u) (go (is_checked u row m))
    where
      go : (b : Bool) → Finishes u row m (if b then chosen u.rows m row else None) (still u)
      go true = let F : Option FinishOf → Type 0 = λ o. Finishes u row m o (still u) in subst F (sym none) refl
      go false = refl

  -- one of these isn't so
  pub not_ended : has_sub_ended u.rows row.task.0 ≡ false → OnTask u (Checks u) (task_row u t) (still u)
  not_ended none = not_checked (go (is_in_progress row.state) (is_automatic m.completion))
    where
      go : (a b : Bool) → (a && b && has_ended u row) ≡ false
      go true true = none
      go true false = refl
      go false b = refl

  pub may_not : (is_in_progress row.state && is_automatic m.completion) ≡ false → OnTask u (Checks u) (task_row u t) (still u)
  may_not unmet = not_checked (go (is_in_progress row.state) (is_automatic m.completion) unmet)
    where
      go : (a b : Bool) → (a && b) ≡ false → (a && b && has_ended u row) ≡ false
      go true true h = absurd cc
      go true false h = refl
      go false b h = refl

  pub is_finished : (output : Values) → is_checked u row m ≡ true → Finds u row m (Some output) → OnTask u (Checks u) (task_row u t) (finished u row output)
  is_finished output checked finds =
      let B : Bool → Type 0 = λ b. Finishes u row m (if b then chosen u.rows m row else None) (finished u row output) in
      let F : Option FinishOf → Type 0 = λ o. Finishes u row m o (finished u row output) in
      on_checked (finished u row output) (subst B (sym checked) (subst F (sym finds.1) (output, finds.2, refl)))

-- ---- the plan goes on

both_and : (a b c : Bool) → (a && b) ≡ true → c ≡ true → (a && b && c) ≡ true
both_and true true c h k = k
both_and true false c h k = h
both_and false b c h k = h

-- an output that was found for a task
pub record IsFound (u : TablesOf) (t : ℕ) (row : Row) (m : ModelOf) (output : Values) : Type 0 where
  pub there : task_row u t ≡ Some row
  pub of_model : model_of u row ≡ Some m
  pub finds : Finds u row m (Some output)
  pub settable : SetsOutputs m

pub found : (u : TablesOf) (t : ℕ) (row : Row) (m : ModelOf) (o : Option Values) (output : Values) → Some row ≡ task_row u t → model_of u row ≡ Some m → Finds u row m o → SetsOutputs m → o ≡ Some output → IsFound u t row m output
found u t row m o output there of_model finds settable is =
    let F : Option Values → Type 0 = λ x. Finds u row m x in
    record { there = sym there; of_model = of_model; finds = subst F is finds; settable = settable }

-- a task that finishes by itself
pub checks : (u : TablesOf) (t : ℕ) (row : Row) (m : ModelOf) → IsSound u → Some row ≡ task_row u t → (is_in_progress row.state && is_automatic m.completion) ≡ true → has_sub_ended u.rows t ≡ true → is_checked u row m ≡ true
checks u t row m sound there may ended =
    let number = sound.numbered t row (sym there) in
    both_and (is_in_progress row.state) (is_automatic m.completion) (has_ended u row) may (ap (λ (k : ℕ). has_sub_ended u.rows k) number ∙ ended)

module _ {t : TablesOf} {old taken : PlanOf} {task : ℕ} {seen row : Row} {m : ModelOf} {output : Values} (is : IsTaken t old taken task row) (found_so : IsFound (planned t old) task seen m output) where
  same : seen ≡ row
  same = one (task_row (planned t old) task) seen row found_so.there is.there

  its : IsFound (planned t old) task row m output
  its =
      let P : Row → Type 0 = λ r. IsFound (planned t old) task r m output in
      subst P same found_so

  may : MayReplace (planned t old) row (record row { output = output })
  may =
      let u = planned t old in
      let at : task_row u row.task.0 ≡ Some row = ap (λ (k : ℕ). row_at k u.rows) ((is.sound).numbered task row is.there) ∙ is.there in
      record { filed = refl; ends = refl; sound = λ s. found_sound u is.sound row m output at its.of_model its.settable its.finds }

  pub output_next : IsNext (planned t taken).rows (record row { output = output })
  output_next = again_next is may

  pub output_fits : Fits t (record row { output = output })
  output_fits = again_fits is may

  module _ (mid : PlanOf) (put : Goes t taken mid (planned t taken) (with_row (planned t taken) (record row { output = output }))) where
    first : Goes t old mid (planned t old) (with_row (planned t old) (record row { output = output }))
    first = goes_again is may mid put

    pub sound_between : IsSound (planned t mid)
    sound_between = let S : TablesOf → Type 0 = λ v. IsSound v in subst S (sym first.to) ((again is may).keeps is.sound)

    pub still_task : IsTask (planned t mid) task
    still_task =
        let T : TablesOf → Type 0 = λ v. task_row v task ≡ Some (record row { output = output }) in
        record { row = record row { output = output }; there = subst T (sym first.to) (again is may).found; number = (again is may).number }

    pub acts_finished : is_checked (planned t old) seen m ≡ true → (new : PlanOf) (at : Moment) (puts : List Task) → Goes t mid new (planned t mid) (with_rows (planned t mid) (skipping task (planned t mid).rows)) → IsSound (planned t new) → map item_of puts ≡ Close task Completed ∷ [] → Acts t old new at (Check task) puts
    acts_finished checked new at puts skip sound are =
        let u = planned t old in
        let C : Row → Type 0 = λ r. is_checked u r m ≡ true in
        let number : row.task.0 ≡ task = (is.sound).numbered task row is.there in
        let K : TablesOf → Type 0 = λ v. Goes t mid new (planned t mid) (with_rows v (skipping task v.rows)) in
        let N : ℕ → Type 0 = λ n. Goes t old new u (with_rows u (skipping n (put_in u.rows (record row { output = output })))) in
        let S : TablesOf → Type 0 = λ v. IsSound v in
        let all = subst N (sym number) (goes_then t old mid new u (with_row u (record row { output = output })) (with_rows u (skipping task (put_in u.rows (record row { output = output })))) first (subst K first.to skip)) in
        record {
          done = finished u row output;
          does = is_finished u task row m its.there its.of_model output (subst C same checked) its.finds;
          goes = all;
          sound = subst S all.to sound;
          puts_are = are ∙ ap (λ (n : ℕ). Close n Completed ∷ []) (sym number);
        }

    -- and where it is only gathered
    pub gathered : is_automatic m.completion ≡ false → IsGathered t old mid task
    gathered manual =
        let u = planned t old in
        let after = with_row u (record row { output = output }) in
        let B : Bool → Type 0 = λ b. GathersBy u row m (if b then None else chosen u.rows m row) after in
        let F : Option FinishOf → Type 0 = λ o. GathersBy u row m o after in
        let by = subst B (sym manual) (subst F (sym (its.finds).1) (output, (its.finds).2, refl)) in
        record { after = after; gathers = (row, m, its.there, its.of_model, by); goes = first; sound = (again is may).keeps is.sound }
