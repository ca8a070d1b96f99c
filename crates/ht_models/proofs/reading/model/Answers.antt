use Rattle.std.proofs.Common.{refl, ap, ◌∙◌}
use Rattle.std.proofs.lemmas.Result.{err_from_is_err_and}
use Rattle.ht_base.specs.declared.kind.Kind.TheVariants.{Int}
use Rattle.ht_expr.specs.Trees.{integer}
use Rattle.ht_models.specs.Expressions.{expression}
use Rattle.ht_entries.specs.ModelEntries.{ModelEntry}
use Rattle.ht_models.proofs.ModelLists.{by_administrators, by_deadlines, by_delegatees, by_excluded_owners, by_finishes, by_potential_owners, by_stakeholders}
use Rattle.ht_models.proofs.Spellings.{or_of_if_any}
use Rattle.ht_models.proofs.reading.model.Goals as goal

pub returns-in_err-assignment_if_any-clause-refused : goal.returns-in_err-assignment_if_any-clause-refused
returns-in_err-assignment_if_any-clause-refused c =
    let back = c.from_residual-in_err-assignment_if_any in
    let p = err_from_is_err_and back.result back.ensures.1 in
    rw (p.1, p.2) (λ some. by_delegatees c.args.entry c.in_ok-kinds.kinds c.in_ok-kinds.ensures c.entry.inside.delegatees (ap (λ (m : ModelEntry). m.delegatees) c.entry.view_is) (c.in_err-assignment_if_any.ensures.refused some))

pub returns-in_err-assignment_or_nobody-clause-refused : goal.returns-in_err-assignment_or_nobody-clause-refused
returns-in_err-assignment_or_nobody-clause-refused c =
    let back = c.from_residual-in_err-assignment_or_nobody in
    let p = err_from_is_err_and back.result back.ensures.1 in
    rw (p.1, p.2) (λ some. by_potential_owners c.args.entry c.in_ok-kinds.kinds c.in_ok-kinds.ensures c.entry.inside.potential_owners (ap (λ (m : ModelEntry). m.potential_owners) c.entry.view_is) (c.in_err-assignment_or_nobody.ensures.refused some))

pub returns-in_err-assignment_or_nobody-2-clause-refused : goal.returns-in_err-assignment_or_nobody-2-clause-refused
returns-in_err-assignment_or_nobody-2-clause-refused c =
    let back = c.from_residual-in_err-assignment_or_nobody-2 in
    let p = err_from_is_err_and back.result back.ensures.1 in
    rw (p.1, p.2) (λ some. by_excluded_owners c.args.entry c.in_ok-kinds.kinds c.in_ok-kinds.ensures c.entry.inside.excluded_owners (ap (λ (m : ModelEntry). m.excluded_owners) c.entry.view_is) (c.in_err-assignment_or_nobody-2.ensures.refused some))

pub returns-in_err-assignment_if_any-2-clause-refused : goal.returns-in_err-assignment_if_any-2-clause-refused
returns-in_err-assignment_if_any-2-clause-refused c =
    let back = c.from_residual-in_err-assignment_if_any-2 in
    let p = err_from_is_err_and back.result back.ensures.1 in
    rw (p.1, p.2) (λ some. by_administrators c.args.entry c.in_ok-kinds.kinds c.in_ok-kinds.ensures c.entry.inside.administrators (ap (λ (m : ModelEntry). m.administrators) c.entry.view_is) (c.in_err-assignment_if_any-2.ensures.refused some))

pub returns-in_err-assignment_if_any-3-clause-refused : goal.returns-in_err-assignment_if_any-3-clause-refused
returns-in_err-assignment_if_any-3-clause-refused c =
    let back = c.from_residual-in_err-assignment_if_any-3 in
    let p = err_from_is_err_and back.result back.ensures.1 in
    rw (p.1, p.2) (λ some. by_stakeholders c.args.entry c.in_ok-kinds.kinds c.in_ok-kinds.ensures c.entry.inside.stakeholders (ap (λ (m : ModelEntry). m.stakeholders) c.entry.view_is) (c.in_err-assignment_if_any-3.ensures.refused some))

pub returns-in_err-deadlines_of-clause-refused : goal.returns-in_err-deadlines_of-clause-refused
returns-in_err-deadlines_of-clause-refused c =
    let back = c.from_residual-in_err-deadlines_of in
    let p = err_from_is_err_and back.result back.ensures.1 in
    rw (p.1, p.2) (λ some. by_deadlines c.args.entry c.in_ok-kinds.kinds c.in_ok-kinds.ensures c.deref.result.now (c.deref.ensures.value ∙ ap (λ (m : ModelEntry). m.deadlines) c.entry.view_is) (c.in_err-deadlines_of.ensures.refused some))

pub returns-in_err-finishes_of-clause-refused : goal.returns-in_err-finishes_of-clause-refused
returns-in_err-finishes_of-clause-refused c =
    let back = c.from_residual-in_err-finishes_of in
    let p = err_from_is_err_and back.result back.ensures.1 in
    rw (p.1, p.2) (λ some. by_finishes c.args.entry c.in_ok-kinds.kinds c.in_ok-kinds.ensures c.entry.inside.finishes.items (ap (λ (m : ModelEntry). m.finishes) c.entry.view_is) (c.in_err-finishes_of.ensures.refused some))

pub returns-clause-ok : goal.returns-clause-ok
returns-clause-ok c = rw (← c.entry.view_is) (record {
  name = refl;
  priority = or_of_if_any _ (expression Int) (integer 5) c.entry.inside.priority c.in_ok-expression_if_any.field-0 (rw (c.in_ok-kinds.ensures, ← c.entry.view_is) at c.in_ok-expression_if_any.ensures.ok);
  skipable = refl;
  owner_required = refl;
  delegation = c.unwrap_or.ensures;
  delegatees = rw (c.in_ok-kinds.ensures, ← c.entry.view_is) at c.in_ok-assignment_if_any.ensures.ok;
  potential_owners = rw (c.in_ok-kinds.ensures, ← c.entry.view_is) at c.in_ok-assignment_or_nobody.ensures.ok;
  excluded_owners = rw (c.in_ok-kinds.ensures, ← c.entry.view_is) at c.in_ok-assignment_or_nobody-2.ensures.ok;
  administrators = rw (c.in_ok-kinds.ensures, ← c.entry.view_is) at c.in_ok-assignment_if_any-2.ensures.ok;
  stakeholders = rw (c.in_ok-kinds.ensures, ← c.entry.view_is) at c.in_ok-assignment_if_any-3.ensures.ok;
  composition = refl;
  instantiation = refl;
  completion = refl;
  input = refl;
  output = refl;
  subs = refl;
  deadlines = rw (c.in_ok-kinds.ensures, ← c.entry.view_is, c.deref.ensures.value) at c.in_ok-deadlines_of.ensures.ok;
  finishes = rw (c.in_ok-kinds.ensures, ← c.entry.view_is) at c.in_ok-finishes_of.ensures.ok;
})
