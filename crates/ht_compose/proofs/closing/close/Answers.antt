use Rattle.std.proofs.Common.{◌≡◌, ℕ, Bool, List, [], ◌∷◌, map, Option, if◌then◌else◌, ap, sym, subst, ◌∙◌}
use Rattle.std.specs.Option.{option_map_or}
use Rattle.ht_base.specs.declared.task_id.TaskId.{TaskId}
use Rattle.ht_compose.specs.declared.item.Item.{Item as Task}
use Rattle.ht_compose.specs.Downward.{closing}
use Rattle.ht_compose.specs.Items.{closes, does, still, ups}
use Rattle.ht_compose.specs.Items.Item.{Up}
use Rattle.ht_compose.specs.Running.{item_of}
use Rattle.ht_compose.proofs.Acted.{on_this_row}
use Rattle.ht_compose.proofs.closing.close.Goals as goal
use Rattle.ht_tree.specs.Plans.{planned}
use Rattle.ht_tree.specs.Soundness.{IsSound}
use Rattle.ht_tree.specs.Tables.{TablesOf, with_rows}

pub returns-in-None-clause-acts : goal.returns-in-None-clause-acts
returns-in-None-clause-acts c = λ at.
    let t = c.args.tables.now.tables in
    let u = planned t c.args.plan.now in
    let row = c.in-Some.row.now in
    let v = with_rows u (closing c.args.end c.args.task.0 u.rows) in
    let S : TablesOf → Type 0 = λ w. IsSound w in
    let number = c.requires.plan.sound.numbered c.args.task.0 row (sym c.in-Some.ensures.value) in
    let none : ups row ≡ [] = ap (λ (o : Option (TaskId × ℕ)). option_map_or (λ p. Up p.0.0 row.task.0 ∷ []) o []) c.in-None.is in
    record {
      done = does v [];
      does =
          ap (λ (n : ℕ). does (with_rows u (closing c.args.end n u.rows)) []) (sym number)
          ∙ ap (λ l. does (with_rows u (closing c.args.end row.task.0 u.rows)) l) (sym none)
          ∙ ap (λ (b : Bool). if b then still u else does (with_rows u (closing c.args.end row.task.0 u.rows)) (ups row)) (sym (sym c.is_final.ensures ∙ c.if-is_final.false))
          ∙ on_this_row u (closes u c.args.end) c.args.task.0 row (sym c.in-Some.ensures.value);
      goes = c.in_ok-close_family.ensures.goes;
      sound = subst S c.in_ok-close_family.ensures.goes.to c.in_ok-close_family.ensures.sound;
      puts_are = ap (λ (l : List Task). map item_of l) c.new-in-None.ensures.items;
    }
