use Rattle.std.proofs.Common.{◌≡◌, List, true, None, Some, sym, subst, inr}
use Rattle.ht_due.specs.declared.due.Due.{Due}
use Rattle.ht_due.specs.Dues.{has}
use Rattle.ht_machine.specs.Ahead.{IsFirstAhead, in_either}
use Rattle.ht_machine.proofs.Firsts.{before_is, not_before}
use Rattle.ht_machine.proofs.Coursing.{goes_on, is_first, none_ahead, none_then, passes}
use Rattle.ht_machine.proofs.OldAndNew.{HasAged}
use Rattle.ht_machine.proofs.Taken.{taken_gone, takes_ages, takes_models, no_fewer}
use Rattle.ht_machine.proofs.course.Course.goes_on.Goals as goal
use Rattle.ht_tree.proofs.PublicLaws.{all_dues_ascend}
use Rattle.ht_tree.specs.Plans.{planned}
use Rattle.ht_tree.specs.RowDues.{all_dues}

pub returns-in_default-clause-over : goal.returns-in_default-clause-over
returns-in_default-clause-over c = λ is.
    let kept = all_dues c.args.tables.now.tables in
    let news = c.args.self.now.news.dues in
    let F : List Due → Type 0 = λ l. IsFirstAhead (in_either l news) c.args.self.now.passed None in
    none_ahead kept (planned c.args.tables.now.tables c.args.plan.now) news c.args.self.now.passed c.requires.course c.args.at.0 (subst F c.due.ensures.value c.in_default.ensures)

pub returns-then-lt-clause-over : goal.returns-then-lt-clause-over
returns-then-lt-clause-over c = λ is.
    let kept = all_dues c.args.tables.now.tables in
    let news = c.args.self.now.news.dues in
    let F : List Due → Type 0 = λ l. IsFirstAhead (in_either l news) c.args.self.now.passed (Some c.in-Some.due) in
    none_then kept (planned c.args.tables.now.tables c.args.plan.now) news c.args.self.now.passed c.requires.course c.args.at.0 c.in-Some.due (subst F c.due.ensures.value c.in-Some.ensures) (before_is c.args.at.0 c.in-Some.due.at.0 c.if-lt.ensures)

pub returns-then-not-is_due-clause-course : goal.returns-then-not-is_due-clause-course
returns-then-not-is_due-clause-course c =
    let kept = all_dues c.args.tables.now.tables in
    let news = c.args.self.now.news.dues in
    let F : List Due → Type 0 = λ l. IsFirstAhead (in_either l news) c.args.self.now.passed (Some c.in-Some.due) in
    passes kept (planned c.args.tables.now.tables c.args.plan.now) news c.args.self.now.passed c.requires.course c.in-Some.due (subst F c.due.ensures.value c.in-Some.ensures) (sym c.if-not-is_due.ensures)

pub returns-clause-course : goal.returns-clause-course
returns-clause-course c =
    let t = c.args.tables.now.tables in
    let u = planned t c.args.plan.now in
    let v = planned t c.take.new.plan in
    let due = c.in-Some.due in
    let taken = c.in_ok-take.ensures.taken in
    let ages = takes_ages u v due (c.requires.plan.sound).numbered taken.takes in
    let aged : HasAged due.at u v = record { models = takes_models u v due taken.takes; age = ages; before = c.requires.plan.sound; after = taken.sound } in
    let news = c.args.self.now.news.dues in
    let F : List Due → Type 0 = λ l. IsFirstAhead (in_either l news) c.args.self.now.passed (Some c.in-Some.due) in
    let first = subst F c.due.ensures.value c.in-Some.ensures in
    let still : has due (all_dues u) ≡ true = sym c.if-not-is_due.ensures in
    goes_on (all_dues t) u news c.args.self.now.passed c.requires.course due v c.take.new.self.news.dues first aged still (taken_gone u v due c.requires.plan.sound taken.sound still taken.takes) c.in_ok-take.ensures.in_order c.in_ok-take.ensures.news (no_fewer due.at u v ages)

pub returns-clause-on : goal.returns-clause-on
returns-clause-on c =
    let t = c.args.tables.now.tables in
    let u = planned t c.args.plan.now in
    let due = c.in-Some.due in
    let news = c.args.self.now.news.dues in
    let F : List Due → Type 0 = λ l. IsFirstAhead (in_either l news) c.args.self.now.passed (Some c.in-Some.due) in
    let still : has due (all_dues u) ≡ true = sym c.if-not-is_due.ensures in
    inr (
      record {
        due = due;
        first = is_first (all_dues t) u news c.args.self.now.passed c.requires.course c.args.at.0 due (all_dues_ascend u) (subst F c.due.ensures.value c.in-Some.ensures) still (not_before c.args.at.0 due.at.0 c.if-lt.ensures);
        taken = c.in_ok-take.ensures.taken;
      },
      c.in_ok-take.ensures.count,
    )
