use Rattle.std.proofs.Common.{rules, ◌≡◌, List, [], length, sym, subst, ap, ◌∙◌, arith}
use Rattle.std.proofs.lemmas.List.{nil_from_length}
use Rattle.std.specs.Vec.Iter.{into_iter_items}
use Rattle.ht_compose.specs.declared.item.Item.{Item as Task}
use Rattle.ht_compose.specs.Running.{item_of}
use Rattle.ht_compose.proofs.Going.{IsGoing, goes_further, goes_off, has_gone}
use Rattle.ht_compose.proofs.running.+run.Goals as goal

pub loop-put-init : goal.loop-put-init
loop-put-init t c =
    let ts = c.args.tables.now.tables in
    let old = c.args.plan.now in
    let item = item_of c.args.item in
    let G : List Task → Type 0 = λ l. IsGoing ts old c.act.new.plan c.args.at item l in
    let all : into_iter_items c.into_iter-put-iterator.result ≡ c.in_ok-put-items.put-items.items = search rules in
    record {
      next = tt;
      ends = tt;
      left = search rules;
      going = subst G (sym all) (goes_off ts old c.act.new.plan c.args.at item c.in_ok-put-items.put-items.items c.count_models.ensures.sized c.requires.plan.sound c.requires.closes c.in_ok-put-items.ensures.acts);
    }

pub loop-put-preserved : goal.loop-put-preserved
loop-put-preserved t c =
    let ts = c.args.tables.now.tables in
    let old = c.args.plan.now in
    let item = item_of c.args.item in
    let G : List Task → Type 0 = λ l. IsGoing ts old c.loop-put.plan c.args.at item l in
    record {
      next = tt;
      ends = tt;
      left = let was = c.loop-put.invariant.left in let gone = c.in-Some.ensures.steps.1 in let short = ap (λ (l : List Task). length l) c.in-Some.ensures.steps.0 in omega arith;
      going = goes_further ts old c.loop-put.plan c.run.new.plan c.args.at item c.in-Some.put (into_iter_items c.next.new.self) (subst G c.in-Some.ensures.steps.0 c.loop-put.invariant.going) c.in_ok-run.ensures.runs;
    }

pub returns-clause-runs : goal.returns-clause-runs
returns-clause-runs t c =
    let ts = c.args.tables.now.tables in
    let old = c.args.plan.now in
    let item = item_of c.args.item in
    let G : List Task → Type 0 = λ l. IsGoing ts old c.loop-put.plan c.args.at item l in
    let none : into_iter_items c.loop-put.put-iterator ≡ [] = nil_from_length (into_iter_items c.loop-put.put-iterator) (sym c.loop-put.invariant.left ∙ c.in-None.ensures.steps.0) in
    has_gone ts old c.loop-put.plan c.args.at item (subst G none c.loop-put.invariant.going)
