use Rattle.std.proofs.Common.{[], ◌∷◌, arith}
use Rattle.json.specs.Token.{end_object}
use Rattle.ht_api.specs.Contents.{comment_data}
use Rattle.ht_api.specs.Writing.{tokens_of}
use Rattle.ht_api.proofs.Going.{begun, ended, one_put}
use Rattle.ht_api.proofs.contents.put_comment.Goals as goal

pub returns : goal.returns
returns c =
    let start = c.args.writer.now in
    let all = tokens_of (comment_data c.args.comment.now) in
    let a = c.in_ok-begin_object.ensures in
    let b = c.in_ok-key.ensures in
    let d = c.in_ok-u64.ensures in
    let e = c.in_ok-key-2.ensures in
    let f = rw c.as_str.ensures.value at c.in_ok-string.ensures in
    let g = c.in_ok-key-3.ensures in
    let h = rw c.as_str-2.ensures at c.in_ok-string-2.ensures in
    let i = c.in_ok-end_object.ensures in
    let opened = one_put start start c.begin_object.new.self all _ _ (begun start all) a.ok a.room.0 a.room.1 in
    let moment = one_put start c.begin_object.new.self c.key.new.self all _ _ opened b.ok b.room.0 b.room.1 in
    let at = one_put start c.key.new.self c.u64.new.self all _ _ moment d.ok d.room.0 d.room.1 in
    let person = one_put start c.u64.new.self c.key-2.new.self all _ _ at e.ok e.room.0 e.room.1 in
    let who = one_put start c.key-2.new.self c.string.new.self all _ _ person f.ok f.room.0 f.room.1 in
    let text = one_put start c.string.new.self c.key-3.new.self all _ _ who g.ok g.room.0 g.room.1 in
    let what = one_put start c.key-3.new.self c.string-2.new.self all _ _ text h.ok h.room.0 h.room.1 in
    ended start c.string-2.new.self c.end_object.new.self all _ (end_object ∷ []) what (record { ok = i.ok; before = i.room.0; spare = omega (arith, i.room.1); full = tt })
