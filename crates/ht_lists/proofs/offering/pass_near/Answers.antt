use Rattle.std.proofs.Common.{◌≡◌, ◌+◌, [], ◌∷◌, ℕ, List, Option, fold, length, ap, sym, ◌∙◌, arith}
use Rattle.ht_base.specs.declared.query.Which.{Which}
use Rattle.ht_base.specs.declared.role.Role.{Role}
use Rattle.ht_base.specs.declared.task_id.TaskId.{TaskId}
use Rattle.ht_lists.specs.declared.keys.Key.{Key}
use Rattle.ht_lists.specs.Best.{BestOf, told, with_key}
use Rattle.ht_lists.specs.Offering.{asked_keys}
use Rattle.ht_lists.proofs.Asked.{none_on, one_on}
use Rattle.ht_lists.proofs.offering.pass_near.Goals as goal
use Rattle.ht_lists.proofs.offering.pass_near.Goals.{in-Behind, in-Unasked}
use Rattle.ht_tree.specs.Tables.{TablesOf}

-- with one task more that was seen
module _ (t : TablesOf) (person : ℕ) (role : Option Role) (which : Which) (best : BestOf) (total was now : ℕ) (id : TaskId) (later : List TaskId) where
  abbrev keys : List TaskId → List Key
  keys = asked_keys t person role which

  abbrev Seen : Type 0
  Seen = fold with_key (told best (total + now)) (keys later) ≡ fold with_key (told best (total + was)) (keys (id ∷ later))

  behind_on : now ≡ was + 1 → told best (total + was + 1) ≡ fold with_key (told best (total + was)) (keys (id ∷ [])) → Seen
  behind_on one more =
      let next : total + now ≡ total + was + 1 = omega (arith, one) in
      ap (λ (k : ℕ). fold with_key (told best k) (keys later)) next ∙ one_on t person role which (told best (total + was)) (told best (total + was + 1)) id later more

  unasked_on : now ≡ was → keys (id ∷ []) ≡ [] → Seen
  unasked_on none unasked =
      ap (λ (k : ℕ). fold with_key (told best (total + k)) (keys later)) none ∙ none_on t person role which (told best (total + was)) id later unasked

pub returns-in_default-clause-offered : goal.returns-in_default-clause-offered
returns-in_default-clause-offered c =
    let a = c.args in
    let t = a.tables.now.tables in
    let best = a.best.now in
    let total : ℕ = a.walk.now.offers.total in
    let behind : ℕ = c.match-look.behind in
    let keys = asked_keys t a.person a.role a.which in
    let counted : c.count-in_default.new.self.total ≡ total + behind =
    c.count-in_default.ensures.total ∙ ap (λ o. o.total + behind) (c.look.ensures.offers ∙ c.near.invariant.offers) in
    ap (λ (k : ℕ). fold with_key (told best k) (keys c.next_near.new.self)) counted
    ∙ ap (λ (l : List TaskId). fold with_key (told best (total + behind)) (keys l)) c.in_default.ensures.none
    ∙ elim c.match-look.branch [
      | in-Behind w ↦ behind_on t a.person a.role a.which best total c.near.behind behind c.near.id c.near.rest w.behind-is (c.look.ensures.behind w.in-Behind.is (total + c.near.behind))
      | in-Unasked w ↦ unasked_on t a.person a.role a.which best total c.near.behind behind c.near.id c.near.rest w.behind-is (c.look.ensures.unasked w.in-Unasked.is)
    ]
    ∙ c.near.invariant.offered

pub near-preserved : goal.near-preserved
near-preserved c =
    let a = c.args in
    let t = a.tables.now.tables in
    let best = a.best.now in
    let total : ℕ = a.walk.now.offers.total in
    let behind : ℕ = c.match-look.behind in
    let rest = c.in-Some.ensures.some in
    record {
      offered =
          ap (λ (l : List TaskId). fold with_key (told best (total + behind)) (asked_keys t a.person a.role a.which l)) (sym rest)
          ∙ elim c.match-look.branch [
            | in-Behind w ↦ behind_on t a.person a.role a.which best total c.near.behind behind c.near.id c.near.rest w.behind-is (c.look.ensures.behind w.in-Behind.is (total + c.near.behind))
            | in-Unasked w ↦ unasked_on t a.person a.role a.which best total c.near.behind behind c.near.id c.near.rest w.behind-is (c.look.ensures.unasked w.in-Unasked.is)
          ]
          ∙ c.near.invariant.offered;
      few = elim c.match-look.branch [
        | in-Behind w ↦ omega (arith, w.behind-is, ap length rest, c.near.invariant.few)
        | in-Unasked w ↦ omega (arith, w.behind-is, ap length rest, c.near.invariant.few)
      ];
      offers = c.look.ensures.offers ∙ c.near.invariant.offers;
    }
