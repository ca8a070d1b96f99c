use Rattle.std.proofs.Common.{◌≡◌, ℕ, nat_lt, Bool, ◌&&◌, ◌||◌, not, List, length, ap, ◌∙◌}
use Rattle.ht_base.specs.Persons.{has}
use Rattle.ht_owner.specs.Effects.{is_forwarder}
use Rattle.ht_owner.specs.Naming.{is_named}
use Rattle.ht_finding.proofs.PublicLaws.{below_has, joined_by, rest_below, either_of, if_ok}
use Rattle.ht_owner.proofs.naming.forwarded.Goals as goal

pub returns : goal.returns
returns c =
    let d = c.args.people.now in
    let n = length d.persons in
    let row = c.args.row.now in
    let stays : ℕ → Bool = λ p. has p row.potential_owners && not (is_forwarder c.args.caller row.state row.owner p) in
    let rest : (p : ℕ) → has p c.in_ok-rest.rest ≡ stays p =
    λ p. c.in_ok-rest.ensures.set p ∙ ap (λ (b : Bool). has p row.potential_owners && not b) (c.in_ok-forwarder.ensures p) in
    let below : (p : ℕ) → stays p ≡ (nat_lt p n && stays p) =
    λ p. rest_below (nat_lt p n) (has p row.potential_owners) (is_forwarder c.args.caller row.state row.owner p) (below_has n row.potential_owners p c.requires) in
    let set = if_ok (λ (l : List ℕ). (p : ℕ) → has p l ≡ (has p c.in_ok-rest.rest || has p c.in_ok-named.named)) (λ (l : List ℕ). (p : ℕ) → has p l ≡ (stays p || has p c.in_ok-named.named)) c.union.result
    (λ l e p. e p ∙ ap (λ (b : Bool). b || has p c.in_ok-named.named) (rest p)) c.union.ensures.set in
    joined_by (λ x y. x || y) either_of stays (is_named d c.args.names.now) n c.in_ok-named.named below c.in_ok-named.ensures c.union.result set c.union.ensures.ascends
