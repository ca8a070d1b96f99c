use Rattle.ht_tree.specs.Rows.{model_in}
use Rattle.std.proofs.Common.{rules, ◌≡◌, List, length, vec_len, Some, ap, sym, ◌∙◌, arith}
use Rattle.ht_models.specs.Model.{ModelOf}
use Rattle.ht_models.specs.Shown as shown
use Rattle.ht_tree.specs.declared.row.Row.{Row}
use Rattle.ht_tree.specs.Plans.{planned}
use Rattle.ht_tree.specs.Tables.{model_of}
use Rattle.ht_tree.proofs.FewSubs.{few_subs}
use Rattle.ht_tree.proofs.SubTasks.{none_of_none}
use Rattle.ht_tree.proofs.family.most_subs.Goals as goal

pub returns-in-Some : goal.returns-in-Some
returns-in-Some c =
    let u = planned c.args.tables.now.tables c.args.plan.now in
    let m : ModelOf = shown.model_of c.model.result.now in
    let row = c.in-Some.row.now in
    let of_model : model_of u row ≡ Some m = ap (λ (ms : List ModelOf). model_in ms row) (sym c.models.ensures.value) ∙ c.model.ensures.value in
    let count : vec_len c.model.result.now.subs ≡ length m.subs = search rules in
    let few = few_subs u c.requires.plan.sound c.args.task.0 row m (sym c.in-Some.ensures.value) of_model in
    omega arith

pub returns-in-None : goal.returns-in-None
returns-in-None c =
    let none = ap (λ (l : List Row). length l) (none_of_none (planned c.args.tables.now.tables c.args.plan.now) c.requires.plan.sound c.args.task.0 (sym c.in-None.ensures.value)) in
    omega arith
