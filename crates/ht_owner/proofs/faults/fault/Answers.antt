use Rattle.std.proofs.Common.{◌∙◌, ap, sym, [], ◌∷◌, Option}
use Rattle.ht_base.specs.declared.event.Command.{Command}
use Rattle.ht_base.specs.declared.reply.Refusal.{Refusal}
use Rattle.ht_models.specs.Model.{ModelOf}
use Rattle.ht_models.specs.Shown as shown
use Rattle.ht_owner.specs.Faults.{fault, first_of}
use Rattle.ht_owner.proofs.faults.fault.Goals as goal
use Rattle.ht_tree.specs.Plans.{planned}

pub returns-in-Activate : goal.returns-in-Activate
returns-in-Activate c =
    let u = planned c.args.tables.now.tables c.args.plan.now in
    let m : ModelOf = shown.model_of c.args.model.now in
    c.first-in-Activate.ensures
    ∙ ap (λ (o : Option Refusal). first_of (o ∷ [])) (c.no_owners.ensures u)
    ∙ ap (λ (a : Command). fault u m c.args.at c.args.row.now a) (sym c.in-Activate.is)
