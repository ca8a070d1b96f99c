use Rattle.std.proofs.Common.{◌≡◌, ◌++◌, ◌≤◌, ℕ, List, ap, arith, fold, length, length-append, rules, sym, subst, vec_len, ◌∙◌}
use Rattle.std.specs.List.{flat_map}
use Rattle.ht_due.specs.declared.due.Due.{Due}
use Rattle.ht_due.specs.Dues.{AreNew, Ascends, has, merged, in_order}
use Rattle.ht_tree.specs.declared.notice.Notice.{Notice}
use Rattle.ht_tree.specs.declared.row.Row.{Row}
use Rattle.ht_tree.specs.declared.tables.Tables.TheInside.{Inside}
use Rattle.ht_tree.specs.Kept.{IsKept, most_notices, roomy, tables_in}
use Rattle.ht_index.specs.Indexes.{IndexOf, list_of, moved}
use Rattle.ht_tree.specs.declared.listed_by.ListedBy.{ListedBy}
use Rattle.ht_tree.specs.declared.listed_by.ListedBy.TheVariants as by
use Rattle.ht_tree.specs.ListedBy.{AreInStep, AreMoves}
use Rattle.ht_tree.specs.Plans.{AreDuesPrepared, AreListsPrepared, Follow, IsPlanOf, PlanOf, committed, planned}
use Rattle.ht_tree.specs.Puts.{CanPut}
use Rattle.ht_tree.specs.RowDues.{row_dues}
use Rattle.ht_tree.specs.Rows.{put_in}
use Rattle.ht_tree.specs.Soundness.{IsSound}
use Rattle.ht_tree.specs.Tables.{RoomyTables}
use Rattle.ht_tree.proofs.DuesInStep.{ChangesDues, changes_dues}
use Rattle.ht_tree.proofs.ListsInStep.{in_step}
use Rattle.ht_tree.proofs.Putting.{can_put}
use Rattle.ht_tree.proofs.tables.Tables.commit.Goals as goal

pub put_all-requires-clause-puts : goal.put_all-requires-clause-puts
put_all-requires-clause-puts c =
    let puts : List Row = (c.args.plan.changes).rows in
    let P : RoomyTables → Type 0 = λ t. Follow t.tables (t.tables).rows puts in
    let Q : List Row → Type 0 = λ l. CanPut c.self.inside.rows.items l in
    subst Q (sym c.into_changes-rows.ensures.rows) (can_put (tables_in c.self.inside) c.self.inside.rows.items puts (subst P (sym c.self.view_is) c.requires.fits.changes_fit))

-- how the dues change, by what holds of the tables as they are kept
changes : (t : Inside) (now : RoomyTables) (plan : PlanOf) (at : ℕ) → roomy t ≡ now → IsKept t → IsPlanOf now.tables plan → IsSound (committed now.tables plan at) → AreDuesPrepared now plan → ChangesDues (roomy t) plan (t.queue).dues
changes t now plan at view kept fit sound prepared =
    let P : RoomyTables → Type 0 = λ r. IsPlanOf r.tables plan in
    let S : RoomyTables → Type 0 = λ r. IsSound (committed r.tables plan at) in
    let D : RoomyTables → Type 0 = λ r. AreDuesPrepared r plan in
    changes_dues (roomy t) plan at (t.queue).dues (subst P (sym view) fit) kept.sound (subst S (sym view) sound) (subst D (sym view) prepared) kept.due

-- how many notifications there will be
few_notices : (t : Inside) (now : RoomyTables) (plan : PlanOf) (after : List Notice) → roomy t ≡ now → IsKept t → vec_len t.notices ≡ length t.notices.items → length (plan.changes).notices ≤ now.notice_room → after ≡ t.notices.items ++ (plan.changes).notices → length after ≤ most_notices
few_notices t now plan after view kept len room is =
    let P : RoomyTables → Type 0 = λ r. length (plan.changes).notices ≤ r.notice_room in
    let within = subst P (sym view) room in
    let few = kept.notices_few in
    let long = ap (λ (l : List Notice). length l) is ∙ length-append t.notices.items (plan.changes).notices in
    omega arith

-- the lists of tasks are in step with the rows, once the moves are made
lists : (kind : ListedBy) (t : Inside) (now : RoomyTables) (plan : PlanOf) (at : ℕ) (before after : IndexOf) (rows : List Row) → roomy t ≡ now → IsKept t → IsSound (committed now.tables plan at) → AreMoves kind t.rows.items (planned (tables_in t) plan).rows before.moves → AreInStep kind t.rows.items before → ((key : ℕ) → list_of key after ≡ fold (moved key) (list_of key before) before.moves) → rows ≡ fold put_in t.rows.items (plan.changes).rows → AreInStep kind rows after
lists kind t now plan at before after rows view kept sound moves step then_ are =
    let S : RoomyTables → Type 0 = λ r. IsSound (committed r.tables plan at) in
    let P : List Row → Type 0 = λ l. AreInStep kind l after in
    subst P (sym are) (in_step kind t.rows.items (planned (tables_in t) plan).rows (kept.sound).numbered (subst S (sym view) sound).numbered before after step moves then_)

prepared : (t : Inside) (now : RoomyTables) (plan : PlanOf) → roomy t ≡ now → AreListsPrepared now plan → AreListsPrepared (roomy t) plan
prepared t now plan view are = let P : RoomyTables → Type 0 = λ r. AreListsPrepared r plan in subst P (sym view) are

pub exchange-requires-clause-ascend : goal.exchange-requires-clause-ascend
exchange-requires-clause-ascend c = (changes c.self.inside c.args.self.now c.args.plan c.args.at.0 c.self.view_is c.self.invariant c.requires.fits c.requires.sound c.requires.prepared.dues).ascend

pub exchange-requires-clause-gone : goal.exchange-requires-clause-gone
exchange-requires-clause-gone c = subst Ascends (sym c.deref.ensures.value) (changes c.self.inside c.args.self.now c.args.plan c.args.at.0 c.self.view_is c.self.invariant c.requires.fits c.requires.sound c.requires.prepared.dues).gone

pub exchange-requires-clause-news : goal.exchange-requires-clause-news
exchange-requires-clause-news c = subst Ascends (sym c.deref-2.ensures.value) (changes c.self.inside c.args.self.now c.args.plan c.args.at.0 c.self.view_is c.self.invariant c.requires.fits c.requires.sound c.requires.prepared.dues).news

pub exchange-requires-clause-there : goal.exchange-requires-clause-there
exchange-requires-clause-there c =
    let change = changes c.self.inside c.args.self.now c.args.plan c.args.at.0 c.self.view_is c.self.invariant c.requires.fits c.requires.sound c.requires.prepared.dues in
    λ due h. change.there due (ap (has due) (sym c.deref.ensures.value) ∙ h)

pub exchange-requires-clause-absent : goal.exchange-requires-clause-absent
exchange-requires-clause-absent c =
    let change = changes c.self.inside c.args.self.now c.args.plan c.args.at.0 c.self.view_is c.self.invariant c.requires.fits c.requires.sound c.requires.prepared.dues in
    let G : List Due → Type 0 = λ gone. AreNew c.self.inside.news.items gone c.self.inside.queue.dues in
    let N : List Due → Type 0 = λ news. AreNew news c.deref.result.now c.self.inside.queue.dues in
    subst N (sym c.deref-2.ensures.value) (subst G (sym c.deref.ensures.value) change.absent)

pub invariant_of-self : goal.invariant_of-self
invariant_of-self c =
    let change = changes c.self.inside c.args.self.now c.args.plan c.args.at.0 c.self.view_is c.self.invariant c.requires.fits c.requires.sound c.requires.prepared.dues in
    let dues = c.self.inside.queue.dues in
    let moves = prepared c.self.inside c.args.self.now c.args.plan c.self.view_is c.requires.prepared.lists in
    let rows : c.put_all.new.rows.items ≡ fold put_in c.self.inside.rows.items (c.args.plan.changes).rows = c.put_all.ensures ∙ ap (λ (l : List Row). fold put_in c.self.inside.rows.items l) c.into_changes-rows.ensures.rows in
    record {
      sound = search rules;
      counted = search rules;
      notices_few =
          few_notices c.self.inside c.args.self.now c.args.plan c.tell.new.notices.items c.self.view_is c.self.invariant (search rules) c.requires.prepared.notices
          (c.tell.ensures ∙ ap (λ (l : List Notice). c.self.inside.notices.items ++ l) c.into_changes-rows.ensures.notices);
      due =
          c.exchange.ensures
          ∙ ap (λ (gone : List Due). merged dues gone c.deref-2.result.now) c.deref.ensures.value
          ∙ ap (λ (news : List Due). merged dues c.self.inside.gone.items news) c.deref-2.ensures.value
          ∙ change.due
          ∙ ap (λ (l : List Row). in_order (flat_map (row_dues c.self.inside.models) l)) (sym rows);
      subs = lists by.Parent c.self.inside c.args.self.now c.args.plan c.args.at.0 c.self.inside.subs c.make_moves.new.self c.put_all.new.rows.items c.self.view_is c.self.invariant c.requires.sound moves.subs c.self.invariant.subs c.make_moves.ensures.lists rows;
      persons = lists by.Person c.self.inside c.args.self.now c.args.plan c.args.at.0 c.self.inside.persons c.make_moves-2.new.self c.put_all.new.rows.items c.self.view_is c.self.invariant c.requires.sound moves.persons c.self.invariant.persons c.make_moves-2.ensures.lists rows;
      live = lists by.Live c.self.inside c.args.self.now c.args.plan c.args.at.0 c.self.inside.live c.make_moves-3.new.self c.put_all.new.rows.items c.self.view_is c.self.invariant c.requires.sound moves.live c.self.invariant.live c.make_moves-3.ensures.lists rows;
      owners = lists by.Owner c.self.inside c.args.self.now c.args.plan c.args.at.0 c.self.inside.owners c.make_moves-4.new.self c.put_all.new.rows.items c.self.view_is c.self.invariant c.requires.sound moves.owners c.self.invariant.owners c.make_moves-4.ensures.lists rows;
    }

pub invariant_of-self-in_default : goal.invariant_of-self-in_default
invariant_of-self-in_default c =
    let change = changes c.self.inside c.args.self.now c.args.plan c.args.at.0 c.self.view_is c.self.invariant c.requires.fits c.requires.sound c.requires.prepared.dues in
    let dues = c.self.inside.queue.dues in
    let moves = prepared c.self.inside c.args.self.now c.args.plan c.self.view_is c.requires.prepared.lists in
    let rows : c.put_all.new.rows.items ≡ fold put_in c.self.inside.rows.items (c.args.plan.changes).rows = c.put_all.ensures ∙ ap (λ (l : List Row). fold put_in c.self.inside.rows.items l) c.into_changes-rows.ensures.rows in
    record {
      sound = search rules;
      counted = search rules;
      notices_few =
          few_notices c.self.inside c.args.self.now c.args.plan c.tell.new.notices.items c.self.view_is c.self.invariant (search rules) c.requires.prepared.notices
          (c.tell.ensures ∙ ap (λ (l : List Notice). c.self.inside.notices.items ++ l) c.into_changes-rows.ensures.notices);
      due =
          c.exchange.ensures
          ∙ ap (λ (gone : List Due). merged dues gone c.deref-2.result.now) c.deref.ensures.value
          ∙ ap (λ (news : List Due). merged dues c.self.inside.gone.items news) c.deref-2.ensures.value
          ∙ change.due
          ∙ ap (λ (l : List Row). in_order (flat_map (row_dues c.self.inside.models) l)) (sym rows);
      subs = lists by.Parent c.self.inside c.args.self.now c.args.plan c.args.at.0 c.self.inside.subs c.make_moves.new.self c.put_all.new.rows.items c.self.view_is c.self.invariant c.requires.sound moves.subs c.self.invariant.subs c.make_moves.ensures.lists rows;
      persons = lists by.Person c.self.inside c.args.self.now c.args.plan c.args.at.0 c.self.inside.persons c.make_moves-2.new.self c.put_all.new.rows.items c.self.view_is c.self.invariant c.requires.sound moves.persons c.self.invariant.persons c.make_moves-2.ensures.lists rows;
      live = lists by.Live c.self.inside c.args.self.now c.args.plan c.args.at.0 c.self.inside.live c.make_moves-3.new.self c.put_all.new.rows.items c.self.view_is c.self.invariant c.requires.sound moves.live c.self.invariant.live c.make_moves-3.ensures.lists rows;
      owners = lists by.Owner c.self.inside c.args.self.now c.args.plan c.args.at.0 c.self.inside.owners c.make_moves-4.new.self c.put_all.new.rows.items c.self.view_is c.self.invariant c.requires.sound moves.owners c.self.invariant.owners c.make_moves-4.ensures.lists rows;
    }
