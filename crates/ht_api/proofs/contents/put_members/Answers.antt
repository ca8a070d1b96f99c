use Rattle.std.proofs.Common.{◌≡◌, ◌∙◌, ap, sym, ℕ, ◌+◌, ◌<◌, List, [], ◌∷◌, drop, Bor, arith, rules}
use Rattle.std.proofs.lemmas.List.{drop_more}
use Rattle.json.specs.Token.{key}
use Rattle.json.specs.Tree.{room}
use Rattle.ht_api.specs.declared.contents.Content.{Content}
use Rattle.ht_api.specs.Contents.{content_data, rows_of}
use Rattle.ht_api.specs.Writing.{rows_then, tokens_of}
use Rattle.ht_api.proofs.Going.{row_full, row_put}
use Rattle.ht_api.proofs.contents.put_members.Goals as goal

pub loop-key-preserved : goal.loop-key-preserved
loop-key-preserved c =
    let l = c.loop-key in
    let left = λ (ms : List (Bor (List ℕ) × Content)). rows_then (rows_of ms) [] in
    let xs = c.args.members.now in
    let m = c.loop-key-item.result in
    let here : drop l.key-index xs ≡ m ∷ drop (l.key-index + 1) xs = drop_more xs l.key-index m (omega arith) ∙ ap (λ y. y ∷ drop (l.key-index + 1) xs) (sym c.loop-key-item.is) in
    let k = c.in_ok-key.ensures in
    let v = c.in_ok-put_content.ensures in
    row_put _ l.writer c.key.new.self c.put_content.new.writer _ _ (key m.0.now) (tokens_of (content_data m.1)) (left (drop (l.key-index + 1) xs))
    (ap left here) l.invariant k.ok k.room.0 k.room.1 v.ok v.before v.spare

pub returns-in_err-put_content : goal.returns-in_err-put_content
returns-in_err-put_content c =
    let l = c.loop-key in
    let left = λ (ms : List (Bor (List ℕ) × Content)). rows_then (rows_of ms) [] in
    let xs = c.args.members.now in
    let m = c.loop-key-item.result in
    let here : drop l.key-index xs ≡ m ∷ drop (l.key-index + 1) xs = drop_more xs l.key-index m (omega arith) ∙ ap (λ y. y ∷ drop (l.key-index + 1) xs) (sym c.loop-key-item.is) in
    let full : c.args.writer.now.spare < room (rows_then (rows_of xs) []) =
    row_full _ l.writer c.key.new.self c.put_content.new.writer _ _ (key m.0.now) (tokens_of (content_data m.1)) (left (drop (l.key-index + 1) xs))
    (ap left here) l.invariant c.in_ok-key.ensures.room.1 c.in_err-put_content.ensures.full in
    search rules
