use Rattle.std.proofs.Common.{◌<◌, ◌≤◌, ℕ, ap, inl, inr}
use Rattle.std.proofs.lemmas.Bool.{cases_lt}
use Rattle.std.proofs.lemmas.Result.{err_from_is_err_and}
use Rattle.toml.specs.View.{table_view}
use Rattle.ht_people.specs.PeopleText.{PeopleTextOf}
use Rattle.ht_people.specs.Refusals.{IsTooMuch}
use Rattle.ht_people.proofs.Closed.{closed_at, directory_is, group_names_are}
use Rattle.ht_people.proofs.Passing.{cycle_told, field_told, is_read, limit_told, twice_told, unknown_told}
use Rattle.ht_people.proofs.directory.Directory.read.Goals as goal

few_of : {most n : ℕ} → (most < n → ⊥) → n ≤ most
few_of {most} {n} not = elim (cases_lt most n) [ inl h ↦ absurd (not h) | inr h ↦ h ]

pub returns-in_err-text : goal.returns-in_err-text
returns-in_err-text c =
    let p = err_from_is_err_and c.from_residual-in_err-text.result c.from_residual-in_err-text.ensures.1 in
    rw (p.1, p.2) (field_told c.args.text.now (table_view c.in_ok-document.document) c.in_ok-document.ensures.ok _ c.in_err-text.ensures.passes)

pub returns-in_err-places : goal.returns-in_err-places
returns-in_err-places c =
    let p = err_from_is_err_and c.from_residual-in_err-places.result c.from_residual-in_err-places.ensures.1 in
    rw (p.1, p.2) (twice_told c.args.text.now (table_view c.in_ok-document.document) c.in_ok-document.ensures.ok c.in_ok-text.text c.in_ok-text.ensures.ok _ c.in_err-places.ensures.passes)

pub returns-in_err-groups : goal.returns-in_err-groups
returns-in_err-groups c =
    let p = err_from_is_err_and c.from_residual-in_err-groups.result c.from_residual-in_err-groups.ensures.1 in
    rw (p.1, p.2) (unknown_told c.args.text.now (table_view c.in_ok-document.document) c.in_ok-document.ensures.ok c.in_ok-text.text c.in_ok-text.ensures.ok c.in_ok-places.ensures.passes _ c.in_err-groups.ensures.passes)

pub check_cycles-requires : goal.check_cycles-requires
check_cycles-requires c = closed_at c.in_ok-text.text _ (directory_is c.in_ok-text.text c.text.inside.persons.items c.in_ok-groups.groups.items (ap (λ (t : PeopleTextOf). t.persons) c.text.view_is) c.in_ok-groups.ensures.ok)

pub check_limits-requires : goal.check_limits-requires
check_limits-requires c = closed_at c.in_ok-text.text _ (directory_is c.in_ok-text.text c.text.inside.persons.items c.in_ok-groups.groups.items (ap (λ (t : PeopleTextOf). t.persons) c.text.view_is) c.in_ok-groups.ensures.ok)

pub returns-in_err-check_cycles : goal.returns-in_err-check_cycles
returns-in_err-check_cycles c =
    let same = directory_is c.in_ok-text.text c.text.inside.persons.items c.in_ok-groups.groups.items (ap (λ (t : PeopleTextOf). t.persons) c.text.view_is) c.in_ok-groups.ensures.ok in
    let p = err_from_is_err_and c.from_residual-in_err-check_cycles.result c.from_residual-in_err-check_cycles.ensures.1 in
    rw (p.1, p.2) (cycle_told c.args.text.now (table_view c.in_ok-document.document) c.in_ok-document.ensures.ok c.in_ok-text.text c.in_ok-text.ensures.ok c.in_ok-places.ensures.passes c.in_ok-groups.ensures.passes _ same _ c.in_err-check_cycles.ensures)

pub returns-in_err-check_limits : goal.returns-in_err-check_limits
returns-in_err-check_limits c =
    let same = directory_is c.in_ok-text.text c.text.inside.persons.items c.in_ok-groups.groups.items (ap (λ (t : PeopleTextOf). t.persons) c.text.view_is) c.in_ok-groups.ensures.ok in
    let p = err_from_is_err_and c.from_residual-in_err-check_limits.result c.from_residual-in_err-check_limits.ensures.1 in
    rw (p.1, p.2) (limit_told c.args.text.now (table_view c.in_ok-document.document) c.in_ok-document.ensures.ok c.in_ok-text.text c.in_ok-text.ensures.ok c.in_ok-places.ensures.passes c.in_ok-groups.ensures.passes _ same c.in_ok-check_cycles.ensures _ c.in_err-check_limits.ensures)

pub returns : goal.returns
returns c =
    let same = directory_is c.in_ok-text.text c.text.inside.persons.items c.in_ok-groups.groups.items (ap (λ (t : PeopleTextOf). t.persons) c.text.view_is) c.in_ok-groups.ensures.ok in
    is_read c.args.text.now (table_view c.in_ok-document.document) c.in_ok-document.ensures.ok c.in_ok-text.text c.in_ok-text.ensures.ok c.in_ok-places.ensures.passes c.in_ok-groups.ensures.passes _ same c.in_ok-check_cycles.ensures c.in_ok-check_limits.ensures

pub invariant_of-result : goal.invariant_of-result
invariant_of-result c =
    let t = c.in_ok-text.text in
    let persons = ap (λ (t : PeopleTextOf). t.persons) c.text.view_is in
    let few : IsTooMuch (record { persons = c.text.inside.persons.items; groups = c.in_ok-groups.groups.items }) → ⊥ = c.in_ok-check_limits.ensures 0 in
    record {
      persons_few = few_of (λ h. few (inl h));
      groups_few = few_of (λ h. few (inr (inl h)));
      closed = closed_at t _ (directory_is c.in_ok-text.text c.text.inside.persons.items c.in_ok-groups.groups.items (ap (λ (t : PeopleTextOf). t.persons) c.text.view_is) c.in_ok-groups.ensures.ok);
      short = λ long. few (inr (inr long));
      indexed = rw (persons, group_names_are t c.in_ok-groups.groups.items c.in_ok-groups.ensures.ok) c.in_ok-places.ensures.ok;
      persons_distinct = rw persons (λ i r. c.in_ok-places.ensures.passes i (inl r));
    }
