use Rattle.std.proofs.Common.{◌≡◌, ◌∙◌, ◌+◌, ◌↔◌, ℕ, List, false, true, None, IfOk, ap, arith, filter, length, map, subst, sym}
use Rattle.std.specs.List.{range_with_len}
use Rattle.std.specs.Prelude.{slice_index_or}
use Rattle.std.proofs.lemmas.List.{length-map}
use Rattle.ht_base.proofs.PublicLaws.{found_within}
use Rattle.ht_base.specs.Places.{place_in}
use Rattle.ht_graph.specs.Graphs.{IsReached}
use Rattle.ht_people.specs.Directory.{DirectoryOf, members_at}
use Rattle.ht_people.specs.Membership.{members}
use Rattle.ht_people.proofs.Membership.{members_marked, no_group, of_group}
use Rattle.ht_people.proofs.directory.Directory.members.Goals as goal

pub returns-in_default : goal.returns-in_default
returns-in_default c =
    let d = c.self.inside.people in
    let none : place_in c.args.group (map (λ g. g.name) d.groups) ≡ None = sym (c.self.invariant.indexed.groups_are c.args.group) ∙ sym c.in_default.ensures.value in
    c.new.ensures ∙ sym (no_group d c.args.group none) ∙ ap (λ (d : DirectoryOf). members d c.args.group) c.self.view_is

pub overflow_add-place : goal.overflow_add-place
overflow_add-place c =
    let d = c.self.inside.people in
    let low = found_within c.args.group (map (λ g. g.name) d.groups) c.in-Some.i.now (sym (c.in-Some.ensures.value ∙ c.self.invariant.indexed.groups_are c.args.group)) in
    let names = length-map d.groups (λ g. g.name) in
    let few = c.self.invariant.groups_few in
    let small = c.self.invariant.persons_few in
    let count = c.person_count.ensures in
    omega arith

pub returns : goal.returns
returns c =
    let d = c.self.inside.people in
    let i = c.in-Some.i.now in
    let there = sym (c.in-Some.ensures.value ∙ c.self.invariant.indexed.groups_are c.args.group) in
    let reached = subst (λ (n : ℕ). (place : ℕ) → (slice_index_or c.in_ok-reached.reached.items place false ≡ true) ↔ IsReached (members_at d) (n + i) place) c.person_count.ensures c.in_ok-reached.ensures.reached in
    let is : filter (λ person. slice_index_or c.deref.result.now person false) (range_with_len 0 c.person_count-2.result) ≡ members c.args.self.now c.args.group =
    rw (c.deref.ensures.value, c.person_count-2.ensures) (members_marked d c.self.invariant.short (length d.persons + i) c.in_ok-reached.reached.items reached ∙ sym (of_group d c.args.group i there) ∙ ap (λ (d : DirectoryOf). members d c.args.group) c.self.view_is) in
    subst (λ (ps : List ℕ). IfOk c.marked_persons.result (λ persons. persons ≡ ps)) is c.marked_persons.ensures
