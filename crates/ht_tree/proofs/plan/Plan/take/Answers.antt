use Rattle.std.proofs.Common.{List, subst, take}
use Rattle.ht_tree.specs.declared.row.Row.{Row}
use Rattle.ht_tree.specs.Places.{IsLent}
use Rattle.ht_tree.proofs.OnlyOne.{taken_only}
use Rattle.ht_tree.proofs.Planning.{taken}
use Rattle.ht_tree.proofs.plan.Plan.take.Goals as goal

pub returns-in-Some-clause-row : goal.returns-in-Some-clause-row
returns-in-Some-clause-row c =
    let x = c.self.inside in
    (taken_only c.args.tables.now.tables c.args.self.now x.puts c.take_only.new.self x.mark x.noted x.marked x.notices.items (take x.notice_mark x.notices.items) c.self.view_is c.requires.plan c.args.id.0 c.in-Some.row c.in-Some.ensures).there

pub returns-in-Some-clause-lends : goal.returns-in-Some-clause-lends
returns-in-Some-clause-lends c =
    let x = c.self.inside in
    (taken_only c.args.tables.now.tables c.args.self.now x.puts c.take_only.new.self x.mark x.noted x.marked x.notices.items (take x.notice_mark x.notices.items) c.self.view_is c.requires.plan c.args.id.0 c.in-Some.row c.in-Some.ensures).lends

pub returns-in-Some-clause-fits : goal.returns-in-Some-clause-fits
returns-in-Some-clause-fits c =
    let x = c.self.inside in
    (taken_only c.args.tables.now.tables c.args.self.now x.puts c.take_only.new.self x.mark x.noted x.marked x.notices.items (take x.notice_mark x.notices.items) c.self.view_is c.requires.plan c.args.id.0 c.in-Some.row c.in-Some.ensures).fits

pub returns-in-Some-lend-clause-row : goal.returns-in-Some-lend-clause-row
returns-in-Some-lend-clause-row c =
    let x = c.self.inside in
    let L : List Row → Type 0 = λ l. IsLent x.mark l c.lend.new.self c.args.id.0 c.in-Some-lend.row in
    (taken c.args.tables.now.tables c.args.self.now x.puts c.lend.new.self x.mark x.noted x.marked x.notices.items (take x.notice_mark x.notices.items) c.self.view_is c.requires.plan c.args.id.0 c.in-Some-lend.row (subst L c.in_default.ensures c.in-Some-lend.ensures)).there

pub returns-in-Some-lend-clause-lends : goal.returns-in-Some-lend-clause-lends
returns-in-Some-lend-clause-lends c =
    let x = c.self.inside in
    let L : List Row → Type 0 = λ l. IsLent x.mark l c.lend.new.self c.args.id.0 c.in-Some-lend.row in
    (taken c.args.tables.now.tables c.args.self.now x.puts c.lend.new.self x.mark x.noted x.marked x.notices.items (take x.notice_mark x.notices.items) c.self.view_is c.requires.plan c.args.id.0 c.in-Some-lend.row (subst L c.in_default.ensures c.in-Some-lend.ensures)).lends

pub returns-in-Some-lend-clause-fits : goal.returns-in-Some-lend-clause-fits
returns-in-Some-lend-clause-fits c =
    let x = c.self.inside in
    let L : List Row → Type 0 = λ l. IsLent x.mark l c.lend.new.self c.args.id.0 c.in-Some-lend.row in
    (taken c.args.tables.now.tables c.args.self.now x.puts c.lend.new.self x.mark x.noted x.marked x.notices.items (take x.notice_mark x.notices.items) c.self.view_is c.requires.plan c.args.id.0 c.in-Some-lend.row (subst L c.in_default.ensures c.in-Some-lend.ensures)).fits
