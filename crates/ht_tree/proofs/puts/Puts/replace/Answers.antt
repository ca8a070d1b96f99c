use Rattle.std.proofs.Common.{◌≡◌, List, drop, length, slice_get, slice_set, Some, option_map, refl, sym, ap, subst, ◌∙◌}
use Rattle.std.proofs.lemmas.Option.{slice_get_read}
use Rattle.ht_tree.specs.declared.row.Row.{Row}
use Rattle.ht_tree.specs.Places.{last_place, tasks_of}
use Rattle.ht_tree.proofs.Places.{drop_set, none_of_other, there_within}
use Rattle.ht_tree.proofs.puts.Puts.replace.Goals as goal

pub invariant_of-self : goal.invariant_of-self
invariant_of-self c =
    let rows = c.self.inside.rows.items in
    let T : List Row → Type 0 = λ l. option_map (λ r. r.task.0) (slice_get l c.args.place) ≡ Some c.args.row.task.0 in
    let there = subst T (sym c.self.view_is) c.requires in
    record {
      others =
          c.self.invariant.others
          ∙ sym (drop_set rows 4 c.args.place c.args.row there)
          ∙ ap (λ (r : Row). tasks_of (drop 4 (slice_set rows c.args.place r))) (sym c.replace.ensures.after);
      highest = λ task behind. ap (λ (r : Row). last_place task (tasks_of (slice_set rows c.args.place r))) c.replace.ensures.after ∙ none_of_other c.self.inside.highest rows c.args.place c.args.row there c.self.invariant.highest task behind;
    }

pub returns-clause-there : goal.returns-clause-there
returns-clause-there c =
    let rows = c.self.inside.rows.items in
    let T : List Row → Type 0 = λ l. option_map (λ r. r.task.0) (slice_get l c.args.place) ≡ Some c.args.row.task.0 in
    let low = there_within rows c.args.place c.args.row.task.0 (subst T (sym c.self.view_is) c.requires) in
    ap (λ (l : List Row). slice_get l c.args.place) (sym c.self.view_is)
    ∙ slice_get_read rows (length rows) c.args.place c.index_mut.result.now refl low c.index_mut.ensures.value
    ∙ ap (λ (r : Row). Some r) (sym c.replace.ensures.value)
