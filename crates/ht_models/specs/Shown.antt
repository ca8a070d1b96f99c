-- What a contract sees of a model: its trees without the addresses of their boxes, and what is meant
-- where none is kept.
use Rattle.std.specs.Prelude.{true, map, option_map, Option, Some, None}
use Rattle.ht_expr.specs.Nodes.{ExprOf}
use Rattle.ht_expr.specs.Shown.{shown}
use Rattle.ht_expr.specs.Trees.{Tree, integer, truth}
use Rattle.ht_models.specs.declared.model.Deadline.{Deadline}
use Rattle.ht_models.specs.declared.model.Escalation.{Escalation}
use Rattle.ht_models.specs.declared.model.Finish.{Finish}
use Rattle.ht_models.specs.declared.model.Model.{Model}
use Rattle.ht_models.specs.Model.{DeadlineOf, EscalationOf, FinishOf, ModelOf}

-- the tree of an expression, or this one where there is none
abbrev pub tree_or : Tree → Option ExprOf → Tree
tree_or missing None = missing
tree_or missing (Some e) = e.tree

abbrev pub escalation_of : Escalation → EscalationOf
escalation_of e = record {
  name = e.name;
  when = tree_or (truth true) e.when;
  notify = option_map shown e.notify;
  reassign = option_map shown e.reassign;
}

abbrev pub deadline_of : Deadline → DeadlineOf
deadline_of d = record {
  name = d.name;
  kind = d.kind;
  period = d.period;
  at = d.at;
  part = d.part;
  escalations = map escalation_of d.escalations.items;
}

abbrev pub finish_of : Finish → FinishOf
finish_of f = record { when = option_map (λ e. e.tree) f.when; settings = f.settings.items }

abbrev pub model_of : Model → ModelOf
model_of m = record {
  name = m.name;
  priority = tree_or (integer 5) m.priority;
  skipable = m.skipable;
  owner_required = m.owner_required;
  delegation = m.delegation;
  delegatees = option_map shown m.delegatees;
  potential_owners = shown m.potential_owners;
  excluded_owners = shown m.excluded_owners;
  administrators = option_map shown m.administrators;
  stakeholders = option_map shown m.stakeholders;
  composition = m.composition;
  instantiation = m.instantiation;
  completion = m.completion;
  input = m.input.items;
  output = m.output.items;
  subs = m.subs.items;
  deadlines = map deadline_of m.deadlines.items;
  finishes = map finish_of m.finishes.items;
  size = m.size;
}
