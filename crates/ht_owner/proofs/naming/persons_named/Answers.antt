use Rattle.std.proofs.Common.{◌≡◌, ℕ, nat_lt, ◌&&◌, List, length, take, ap, ◌∙◌, arith}
use Rattle.std.proofs.lemmas.List.{take_all}
use Rattle.ht_owner.specs.Naming.{is_named}
use Rattle.ht_finding.proofs.PublicLaws.{selected}
use Rattle.ht_owner.proofs.naming.persons_named.Goals as goal

pub returns : goal.returns
returns c =
    let d = c.args.people.now in
    let names : List (List ℕ) = c.args.names.now in
    let i = c.loop-name.name-index in
    let all : take i names ≡ names = take_all i names (omega arith) in
    selected (is_named d names) (length d.persons) c.loop-name.persons c.loop-name.invariant.0 (λ p. c.loop-name.invariant.1 p ∙ ap (λ (ns : List (List ℕ)). nat_lt p (length d.persons) && is_named d ns p) all)
