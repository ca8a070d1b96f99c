use Rattle.std.proofs.Common.{List, drop, length, slice_get, slice_set, Option, option_map, refl, sym, ap, ◌∙◌}
use Rattle.std.proofs.lemmas.Option.{slice_get_read}
use Rattle.ht_tree.specs.declared.row.Row.{Row}
use Rattle.ht_tree.specs.Activation.{activated_to}
use Rattle.ht_tree.specs.Places.{last_place, tasks_of}
use Rattle.ht_tree.proofs.Places.{drop_set, none_of_other}
use Rattle.ht_tree.proofs.puts.Puts.activate_at.Goals as goal

pub invariant_of-self : goal.invariant_of-self
invariant_of-self c =
    let rows = c.self.inside.rows.items in
    let low = ap (λ (l : List Row). length l) c.self.view_is in
    let there = slice_get_read rows (length rows) c.args.place c.index_mut.result.now refl (rw low c.requires) c.index_mut.ensures.value in
    let row = activated_to c.args.state c.args.owner c.index_mut.result.now in
    let own = ap (λ (o : Option Row). option_map (λ r. r.task.0) o) there in
    record {
      others =
          c.self.invariant.others
          ∙ sym (drop_set rows 4 c.args.place row own)
          ∙ ap (λ (r : Row). tasks_of (drop 4 (slice_set rows c.args.place r))) (sym c.activate_row.ensures);
      highest = λ task behind. ap (λ (r : Row). last_place task (tasks_of (slice_set rows c.args.place r))) c.activate_row.ensures ∙ none_of_other c.self.inside.highest rows c.args.place row own c.self.invariant.highest task behind;
    }

pub returns : goal.returns
returns c =
    let rows = c.self.inside.rows.items in
    let low = ap (λ (l : List Row). length l) c.self.view_is in
    let there = slice_get_read rows (length rows) c.args.place c.index_mut.result.now refl (rw low c.requires) c.index_mut.ensures.value in
    (c.index_mut.result.now, ap (λ (l : List Row). slice_get l c.args.place) (sym c.self.view_is) ∙ there, rw (c.activate_row.ensures, c.self.view_is) refl)
