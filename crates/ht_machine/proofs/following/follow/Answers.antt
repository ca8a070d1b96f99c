use Rattle.std.proofs.Common.{[], ◌∷◌, OnOk, refl, subst, sym, if◌then◌else◌}
use Rattle.std.proofs.lemmas.Result.{on_ok_weaker}
use Rattle.ht_compose.specs.Downward.{held}
use Rattle.ht_compose.specs.Families.{is_above}
use Rattle.ht_compose.specs.Items.Item.{Activate, Begin, Close}
use Rattle.ht_machine.specs.Following.{IsFollowed}
use Rattle.ht_machine.proofs.Followed.{freed_follows, rows_follow, runs_follow}
use Rattle.ht_machine.proofs.following.follow.Goals as goal
use Rattle.ht_owner.specs.declared.follow.Follow.{Follow}
use Rattle.ht_owner.specs.declared.follow.Follow.TheVariants as follow
use Rattle.ht_tree.specs.declared.row.Row.{Row}
use Rattle.ht_tree.specs.Plans.{planned}

pub returns-in-Began : goal.returns-in-Began
returns-in-Began c =
    let t = c.args.tables.now.tables in
    let task = c.args.task.0 in
    let P : Follow → Type 0 = λ f. OnOk c.begin.result (IsFollowed t c.args.plan.now c.begin.new.plan c.args.at task f) in
    subst P (sym c.in-Began.is) (on_ok_weaker c.begin.result (runs_follow t c.args.plan.now c.begin.new.plan c.args.at task follow.Began (Begin task ∷ []) c.requires.there (λ v e. e)) c.begin.ensures.runs)

pub returns-in-Activate : goal.returns-in-Activate
returns-in-Activate c =
    let t = c.args.tables.now.tables in
    let task = c.args.task.0 in
    let P : Follow → Type 0 = λ f. OnOk c.activate.result (IsFollowed t c.args.plan.now c.activate.new.plan c.args.at task f) in
    subst P (sym c.in-Activate.is) (on_ok_weaker c.activate.result (runs_follow t c.args.plan.now c.activate.new.plan c.args.at task follow.Activate (Activate task ∷ []) c.requires.there (λ v e. e)) c.activate.ensures.runs)

pub returns-in-Held : goal.returns-in-Held
returns-in-Held c =
    let t = c.args.tables.now.tables in
    let rows = (planned t c.args.plan.now).rows in
    let task = c.args.task.0 in
    let f : Row → Row = λ row. if is_above rows task row then held row else row in
    let P : Follow → Type 0 = λ f. OnOk c.hold.result (IsFollowed t c.args.plan.now c.hold.new.plan c.args.at task f) in
    subst P (sym c.in-Held.is) (rows_follow t c.args.plan.now c.hold.new.plan c.args.at task follow.Held f c.hold.result c.requires.there refl c.hold.ensures.goes c.hold.ensures.sound)

pub returns-in-Freed : goal.returns-in-Freed
returns-in-Freed c =
    let t = c.args.tables.now.tables in
    let P : Follow → Type 0 = λ f. OnOk c.free.result (IsFollowed t c.args.plan.now c.free.new.plan c.args.at c.args.task.0 f) in
    subst P (sym c.in-Freed.is) (on_ok_weaker c.free.result (freed_follows t c.args.plan.now c.free.new.plan c.args.at c.args.task.0 c.requires.there) c.free.ensures.frees)

pub returns-in-Close : goal.returns-in-Close
returns-in-Close c =
    let t = c.args.tables.now.tables in
    let task = c.args.task.0 in
    let end = c.in-Close.end in
    let P : Follow → Type 0 = λ f. OnOk c.close.result (IsFollowed t c.args.plan.now c.close.new.plan c.args.at task f) in
    subst P (sym c.in-Close.is) (on_ok_weaker c.close.result (runs_follow t c.args.plan.now c.close.new.plan c.args.at task (follow.Close end) (Close task end ∷ []) c.requires.there (λ v e. e)) c.close.ensures.runs)
