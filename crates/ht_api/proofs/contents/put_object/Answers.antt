use Rattle.std.proofs.Common.{◌<◌, [], ◌∷◌, rules}
use Rattle.json.specs.Token.{begin_object, end_object}
use Rattle.json.specs.Tree.{room}
use Rattle.ht_api.specs.Contents.{rows_of}
use Rattle.ht_api.specs.Writing.{rows_then}
use Rattle.ht_api.proofs.Going.{begun, ended, for_rows, then_full, then_put}
use Rattle.ht_api.proofs.contents.put_object.Goals as goal

pub returns : goal.returns
returns c =
    let rs = rows_of c.args.first.now in
    let ss = rows_of c.args.middle.now in
    let us = rows_of c.args.last.now in
    let start = c.args.writer.now in
    let end = end_object ∷ [] in
    let all = begin_object ∷ rows_then rs (rows_then ss (rows_then us end)) in
    let o = c.in_ok-open_object.ensures in
    let p = c.in_ok-put_members.ensures in
    let q = c.in_ok-put_members-2.ensures in
    let r = c.in_ok-put_members-3.ensures in
    let opened = then_put start start c.open_object.new.writer all (begin_object ∷ []) _ (begun start all) o.ok o.before o.spare in
    let first = then_put start c.open_object.new.writer c.put_members.new.writer all _ _ (for_rows _ _ _ rs _ opened) p.ok p.before p.spare in
    let middle = then_put start c.put_members.new.writer c.put_members-2.new.writer all _ _ (for_rows _ _ _ ss _ first) q.ok q.before q.spare in
    let last = then_put start c.put_members-2.new.writer c.put_members-3.new.writer all _ _ (for_rows _ _ _ us _ middle) r.ok r.before r.spare in
    ended start c.put_members-3.new.writer c.close_object.new.writer all _ end last c.close_object.ensures

pub returns-in_err-put_members : goal.returns-in_err-put_members
returns-in_err-put_members c =
    let rs = rows_of c.args.first.now in
    let ss = rows_of c.args.middle.now in
    let us = rows_of c.args.last.now in
    let start = c.args.writer.now in
    let end = end_object ∷ [] in
    let all = begin_object ∷ rows_then rs (rows_then ss (rows_then us end)) in
    let o = c.in_ok-open_object.ensures in
    let opened = then_put start start c.open_object.new.writer all (begin_object ∷ []) _ (begun start all) o.ok o.before o.spare in
    let full : start.spare < room all = then_full start c.open_object.new.writer c.put_members.new.writer all _ _ (for_rows _ _ _ rs _ opened) c.in_err-put_members.ensures.full in
    search rules

pub returns-in_err-put_members-2 : goal.returns-in_err-put_members-2
returns-in_err-put_members-2 c =
    let rs = rows_of c.args.first.now in
    let ss = rows_of c.args.middle.now in
    let us = rows_of c.args.last.now in
    let start = c.args.writer.now in
    let end = end_object ∷ [] in
    let all = begin_object ∷ rows_then rs (rows_then ss (rows_then us end)) in
    let o = c.in_ok-open_object.ensures in
    let opened = then_put start start c.open_object.new.writer all (begin_object ∷ []) _ (begun start all) o.ok o.before o.spare in
    let p = c.in_ok-put_members.ensures in
    let first = then_put start c.open_object.new.writer c.put_members.new.writer all _ _ (for_rows _ _ _ rs _ opened) p.ok p.before p.spare in
    let full : start.spare < room all = then_full start c.put_members.new.writer c.put_members-2.new.writer all _ _ (for_rows _ _ _ ss _ first) c.in_err-put_members-2.ensures.full in
    search rules

pub returns-in_err-put_members-3 : goal.returns-in_err-put_members-3
returns-in_err-put_members-3 c =
    let rs = rows_of c.args.first.now in
    let ss = rows_of c.args.middle.now in
    let us = rows_of c.args.last.now in
    let start = c.args.writer.now in
    let end = end_object ∷ [] in
    let all = begin_object ∷ rows_then rs (rows_then ss (rows_then us end)) in
    let o = c.in_ok-open_object.ensures in
    let opened = then_put start start c.open_object.new.writer all (begin_object ∷ []) _ (begun start all) o.ok o.before o.spare in
    let p = c.in_ok-put_members.ensures in
    let first = then_put start c.open_object.new.writer c.put_members.new.writer all _ _ (for_rows _ _ _ rs _ opened) p.ok p.before p.spare in
    let q = c.in_ok-put_members-2.ensures in
    let middle = then_put start c.put_members.new.writer c.put_members-2.new.writer all _ _ (for_rows _ _ _ ss _ first) q.ok q.before q.spare in
    let full : start.spare < room all = then_full start c.put_members-2.new.writer c.put_members-3.new.writer all _ _ (for_rows _ _ _ us _ middle) c.in_err-put_members-3.ensures.full in
    search rules
