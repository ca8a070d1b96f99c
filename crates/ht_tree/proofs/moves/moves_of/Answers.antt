use Rattle.std.proofs.Common.{◌≡◌, ◌<◌, ◌≤◌, ◌++◌, [], ◌∷◌, List, length, take, get_or, option_map, ap, sym, subst, ◌∙◌}
use Rattle.std.proofs.lemmas.List.{take_all, take_more}
use Rattle.ht_tree.specs.declared.row.Row.{Row}
use Rattle.ht_index.specs.declared.moves.Move.{Move}
use Rattle.ht_tree.specs.declared.listed_by.ListedBy.{ListedBy}
use Rattle.ht_tree.specs.declared.listed_by.ListedBy.TheVariants as by
use Rattle.ht_tree.specs.ListedBy.{Adds, AreMoves, AreMovesOf, stands_under}
use Rattle.ht_tree.specs.Moves.{LeadOnOf}
use Rattle.ht_tree.specs.Plans.{planned}
use Rattle.ht_tree.proofs.KnownSubs.{keep_on, keeps_parent}
use Rattle.ht_tree.proofs.ListsInStep.{not_put}
use Rattle.ht_tree.proofs.Moving.{all_moves, more_moves}
use Rattle.ht_tree.proofs.moves.moves_of.Goals as goal

pub add_moves-requires : goal.add_moves-requires
add_moves-requires c =
    let t = c.args.tables.now.tables in
    let p = c.args.plan.now in
    keeps_parent t.rows (planned t p).rows c.put-item.result.task.0 _ _ c.row-was.ensures.value c.row-is.ensures.value (keep_on t p c.requires)

pub loop-put-preserved : goal.loop-put-preserved
loop-put-preserved c =
    let t = c.args.tables.now.tables in
    let p = c.args.plan.now in
    let u = (planned t p).rows in
    let puts = (p.changes).rows in
    let i = c.loop-put.put-index in
    let put = c.put-item.result in
    let same : c.puts-put-items.result.now ≡ puts = c.puts-put-items.ensures in
    let low = c.loop-put-test.true in
    let within : i < length puts = subst (λ (l : List Row). i < length l) same low in
    let row : Row = get_or puts i put in
    let is : put ≡ row = c.put-item.is ∙ ap (λ (l : List Row). get_or l i put) same in
    let P : List Row → Type 0 = λ l. LeadOnOf t.rows u l c.add_moves.new.moves in
    let adds = c.in_ok-add_moves.ensures in
    let before = c.loop-put.invariant in
    let old = c.loop-put.moves in
    let new = c.add_moves.new.moves in
    let more : (kind : ListedBy) (a b : List Move) → AreMovesOf kind t.rows u (take i puts) a → Adds put.task (λ key. stands_under kind key (option_map (λ r. r.now) c.row-was.result)) (λ key. stands_under kind key (option_map (λ r. r.now) c.row-is.result)) a b → AreMovesOf kind t.rows u (take i puts ++ row ∷ []) b =
    λ kind a b are add. more_moves kind t.rows u (take i puts) row put.task a b (λ key. stands_under kind key (option_map (λ r. r.now) c.row-was.result)) (λ key. stands_under kind key (option_map (λ r. r.now) c.row-is.result)) (ap (λ (r : Row). r.task) (sym is)) (λ key. ap (λ o. stands_under kind key o) c.row-was.ensures.value) (λ key. ap (λ o. stands_under kind key o) c.row-is.ensures.value) are add in
    subst P (sym (take_more puts i put within)) (record {
      subs = more by.Parent old.subs.items new.subs.items before.subs adds.subs;
      persons = more by.Person old.persons.items new.persons.items before.persons adds.persons;
      live = more by.Live old.live.items new.live.items before.live adds.live;
      owners = more by.Owner old.owners.items new.owners.items before.owners adds.owners;
    })

pub returns : goal.returns
returns c =
    let t = c.args.tables.now.tables in
    let p = c.args.plan.now in
    let u = (planned t p).rows in
    let puts = (p.changes).rows in
    let same : c.puts-put-items.result.now ≡ puts = c.puts-put-items.ensures in
    let over : length puts ≤ c.loop-put.put-index = subst (λ (l : List Row). length l ≤ c.loop-put.put-index) same c.loop-put-test.false in
    let P : List Row → Type 0 = λ l. LeadOnOf t.rows u l c.loop-put.moves in
    let are = subst P (take_all c.loop-put.put-index puts over) c.loop-put.invariant in
    let all : (kind : ListedBy) (moves : List Move) → AreMovesOf kind t.rows u puts moves → AreMoves kind t.rows u moves =
    λ kind moves of. all_moves kind t.rows u puts moves (λ task none. not_put t t.rows puts c.requires.changes_fit task none) of in
    record {
      subs = all by.Parent (c.loop-put.moves).subs.items are.subs;
      persons = all by.Person (c.loop-put.moves).persons.items are.persons;
      live = all by.Live (c.loop-put.moves).live.items are.live;
      owners = all by.Owner (c.loop-put.moves).owners.items are.owners;
    }
