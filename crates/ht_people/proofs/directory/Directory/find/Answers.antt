use Rattle.std.proofs.Common.{◌∙◌, ap, arith, length, map, sym}
use Rattle.std.proofs.lemmas.List.{length-map}
use Rattle.ht_base.proofs.PublicLaws.{found_within}
use Rattle.ht_people.specs.Directory.{DirectoryOf}
use Rattle.ht_people.proofs.directory.Directory.find.Goals as goal

pub overflow_cast-result : goal.overflow_cast-result
overflow_cast-result c =
    let low = found_within c.args.name (map (λ p. p.name) c.self.inside.people.persons) c.in-Some.place.now (sym (c.in-Some.ensures.value ∙ c.self.invariant.indexed.persons_are c.args.name)) in
    let names = length-map c.self.inside.people.persons (λ p. p.name) in
    let few = c.self.invariant.persons_few in
    omega arith

pub returns-in-Some-clause-within : goal.returns-in-Some-clause-within
returns-in-Some-clause-within c =
    let low = found_within c.args.name (map (λ p. p.name) c.self.inside.people.persons) c.in-Some.place.now (sym (c.in-Some.ensures.value ∙ c.self.invariant.indexed.persons_are c.args.name)) in
    let names = length-map c.self.inside.people.persons (λ p. p.name) in
    let persons = ap (λ (d : DirectoryOf). length d.persons) c.self.view_is in
    omega arith
