use Rattle.std.proofs.Common.{sym, ◌∙◌, ap}
use Rattle.ht_tree.specs.declared.row.Row.{Row}
use Rattle.ht_tree.specs.Activation.{activated_to}
use Rattle.ht_tree.proofs.InPlace.{copy_file, copy_goes, copy_next}
use Rattle.ht_tree.proofs.plan.Plan.activate_copy.Goals as goal

pub put-requires-clause-next : goal.put-requires-clause-next
put-requires-clause-next c =
    let is = c.activated.ensures ∙ ap (λ (r : Row). activated_to c.args.state c.args.owner r) c.in_ok-copy.ensures in
    copy_next c.args.tables.now.tables c.args.self.now c.args.id.0 c.in-Some.row.now c.requires.plan.sound (sym c.in-Some.ensures.value) c.args.state c.args.owner c.activated.result is

pub returns-clause-goes : goal.returns-clause-goes
returns-clause-goes c =
    let is = c.activated.ensures ∙ ap (λ (r : Row). activated_to c.args.state c.args.owner r) c.in_ok-copy.ensures in
    copy_goes c.args.tables.now.tables c.args.self.now c.args.id.0 c.in-Some.row.now c.requires.plan.sound (sym c.in-Some.ensures.value) c.args.state c.args.owner c.activated.result is c.put.result c.put.new.self c.put.ensures.goes

pub put-requires-clause-file : goal.put-requires-clause-file
put-requires-clause-file c =
    let is = c.activated.ensures ∙ ap (λ (r : Row). activated_to c.args.state c.args.owner r) c.in_ok-copy.ensures in
    copy_file c.args.tables.now.tables c.args.self.now c.args.id.0 c.in-Some.row.now c.requires.plan.sound (sym c.in-Some.ensures.value) c.args.state c.args.owner c.activated.result is
