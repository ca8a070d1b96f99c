use Rattle.std.proofs.Common.{true, is_some, ◌∷◌, [], ◌++◌, length, ◌≡◌, ℕ, ◌+◌, ◌≤◌, List, Option, Some, None, ap, sym, ◌∙◌, subst, arith}
use Rattle.std.specs.Option.{option_map_or}
use Rattle.std.specs.Prelude.{slice_get}
use Rattle.ht_base.specs.declared.limits.TheConstants.{MOST_TASKS}
use Rattle.ht_models.specs.Model.{ModelOf}
use Rattle.ht_models.specs.Shown.{model_of}
use Rattle.ht_tree.specs.declared.row.Row.{Row}
use Rattle.ht_tree.specs.Creating.{new_row}
use Rattle.ht_tree.specs.Plans.{Goes, planned}
use Rattle.ht_models.specs.TreeSizes.{AreSized, size_at}
use Rattle.ht_tree.specs.Families.{MayCome}
use Rattle.ht_tree.specs.Sizes.{total_size}
use Rattle.ht_tree.specs.Soundness.{Fits, IsSound, IsSoundRow}
use Rattle.ht_tree.specs.Tables.{TablesOf, model_at, with_row}
use Rattle.ht_tree.proofs.Filing.{next_file}
use Rattle.ht_tree.proofs.Fitting.{new_row_fits, new_row_sound, parent_fits}
use Rattle.ht_tree.proofs.Putting.{put_new}
use Rattle.ht_tree.proofs.Coming.{new_sound, parent_sound}
use Rattle.ht_tree.proofs.Families.{new_small}
use Rattle.ht_tree.proofs.creating.create.Goals.{else-is_none-via-then-is_none+else-size-gt-MOST_TASKS, else-is_none-via-else-is_none}
use Rattle.ht_tree.proofs.creating.create.Goals as goal

not_both : {A : Type 0} (o : Option A) → o ≡ None → is_some o ≡ true → ⊥
not_both None e h = cc
not_both (Some x) e h = cc

pub put-requires-clause-file : goal.put-requires-clause-file
put-requires-clause-file c =
    let t = c.args.tables.now.tables in
    let u = planned t c.args.plan.now in
    let m : ModelOf = model_of c.model.result.now in
    let at : model_at t c.args.model ≡ Some m = ap (λ (ms : List ModelOf). slice_get ms c.args.model) (sym c.models.ensures.value) ∙ c.model.ensures.value in
    let is : c.in_ok-row.row ≡ new_row u m c.args.model c.args.parent c.args.initiator c.args.input c.args.waits c.args.at = rw at at c.in_ok-row.ensures in
    next_file u.rows c.in_ok-row.row (ap (λ (r : Row). r.task.0) is)

pub put-requires-clause-fits : goal.put-requires-clause-fits
put-requires-clause-fits c =
    let t = c.args.tables.now.tables in
    let u = planned t c.args.plan.now in
    let m : ModelOf = model_of c.model.result.now in
    let at : model_at t c.args.model ≡ Some m = ap (λ (ms : List ModelOf). slice_get ms c.args.model) (sym c.models.ensures.value) ∙ c.model.ensures.value in
    let is : c.in_ok-row.row ≡ new_row u m c.args.model c.args.parent c.args.initiator c.args.input c.args.waits c.args.at = rw at at c.in_ok-row.ensures in
    let P : Row → Type 0 = λ r. Fits t r in
    subst P (sym is) (new_row_fits u m c.args.model c.args.parent c.args.initiator c.args.input c.args.waits c.args.at c.requires.model c.requires.initiator c.requires.parent (parent_fits t c.args.plan.now c.args.parent c.models.ensures.sound c.requires.plan) c.requires.input)

pub returns-clause-goes : goal.returns-clause-goes
returns-clause-goes c =
    let t = c.args.tables.now.tables in
    let u = planned t c.args.plan.now in
    let m : ModelOf = model_of c.model.result.now in
    let at : model_at t c.args.model ≡ Some m = ap (λ (ms : List ModelOf). slice_get ms c.args.model) (sym c.models.ensures.value) ∙ c.model.ensures.value in
    let is : c.in_ok-row.row ≡ new_row u m c.args.model c.args.parent c.args.initiator c.args.input c.args.waits c.args.at = rw at at c.in_ok-row.ensures in
    let P : Row → Type 0 = λ r. Goes t c.args.plan.now c.put.new.self u (with_row u r) in
    (m, at, subst P is c.in_ok-put.ensures.goes)

pub returns-clause-sound : goal.returns-clause-sound
returns-clause-sound c = λ may early soon sound.
    let t = c.args.tables.now.tables in
    let u = planned t c.args.plan.now in
    let row = c.in_ok-row.row in
    let m : ModelOf = model_of c.model.result.now in
    let known : model_at t c.args.model ≡ Some m = ap (λ (ms : List ModelOf). slice_get ms c.args.model) (sym c.models.ensures.value) ∙ c.model.ensures.value in
    let is : row ≡ new_row u m c.args.model c.args.parent c.args.initiator c.args.input c.args.waits c.args.at = rw known at c.in_ok-row.ensures in
    let parent : row.parent ≡ c.args.parent = ap (λ (r : Row). r.parent) is in
    let model : row.model ≡ c.args.model = ap (λ (r : Row). r.model) is in
    let number : row.task.0 ≡ length u.rows + 1 = ap (λ (r : Row). r.task.0) is in
    let size : size_at t.models row.model ≡ m.size = ap (λ (k : ℕ). size_at t.models k) model ∙ ap (λ (o : Option ModelOf). option_map_or (λ (x : ModelOf). x.size) o 0) known in
    let room : c.args.parent ≡ None → total_size t.models u.rows + size_at t.models row.model ≤ MOST_TASKS = λ none.
    elim c.else-is_none.branch [
      | else-is_none-via-then-is_none+else-size-gt-MOST_TASKS w ↦
          let value = w.size.ensures.value in
          let most = w.if-size-gt-MOST_TASKS.false in
          let one = c.from-size.ensures in
          omega arith
      | else-is_none-via-else-is_none w ↦ absurd (not_both c.args.parent none w.if-is_none.ensures)
    ] in
    let P : Row → Type 0 = λ r. IsSoundRow t r in
    let fine : IsSoundRow t row = subst P (sym is) (new_row_sound u m c.args.model c.args.parent c.args.initiator c.args.input c.args.waits c.args.at c.requires.model c.requires.initiator c.requires.parent (parent_sound u c.args.parent sound) early soon c.requires.input) in
    let trees : AreSized t.models = subst AreSized c.models.ensures.value c.model.ensures.trees in
    let small = new_small t.models (u.rows ++ row ∷ []) row m (ap (λ (k : ℕ). slice_get t.models k) model ∙ known) (trees c.args.model m known).counted in
    let M : ℕ → Type 0 = λ k. MayCome t.models u.rows k c.args.parent in
    let behind : planned t c.put.new.self ≡ record u { rows = u.rows ++ row ∷ [] } =
    c.in_ok-put.ensures.goes.to ∙ ap (λ (l : List Row). record u { rows = l }) (put_new u.rows row (omega arith)) in
    let Q : TablesOf → Type 0 = λ v. IsSound v in
    subst Q (sym behind) (new_sound u row c.args.parent parent (subst M (sym model) may) sound number fine small room)
