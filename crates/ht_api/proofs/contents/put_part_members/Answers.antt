use Rattle.std.proofs.Common.{◌≡◌, ◌∙◌, ap, sym, ℕ, ◌+◌, ◌<◌, List, [], ◌∷◌, drop, arith, rules}
use Rattle.std.proofs.lemmas.List.{drop_more}
use Rattle.json.specs.Token.{key}
use Rattle.json.specs.Tree.{room}
use Rattle.ht_base.specs.declared.scalar.Scalar.{Scalar}
use Rattle.ht_api.specs.Contents.{part_rows, scalar_data}
use Rattle.ht_api.specs.Writing.{rows_then, tokens_of}
use Rattle.ht_api.proofs.Going.{row_full, row_put}
use Rattle.ht_api.proofs.contents.put_part_members.Goals as goal

pub loop-name-preserved : goal.loop-name-preserved
loop-name-preserved c =
    let l = c.loop-name in
    let left = λ (ps : List (List ℕ × Scalar)). rows_then (part_rows ps) [] in
    let ps = c.args.parts.now in
    let p = c.loop-name-item.result in
    let here : drop l.name-index ps ≡ p ∷ drop (l.name-index + 1) ps = drop_more ps l.name-index p (omega arith) ∙ ap (λ y. y ∷ drop (l.name-index + 1) ps) (sym c.loop-name-item.is) in
    let k = rw c.as_str.ensures.value at c.in_ok-key.ensures in
    let v = c.in_ok-put_scalar.ensures in
    row_put _ l.writer c.key.new.self c.put_scalar.new.writer _ _ (key p.0) (tokens_of (scalar_data p.1)) (left (drop (l.name-index + 1) ps))
    (ap left here) l.invariant k.ok k.room.0 k.room.1 v.ok v.before v.spare

pub returns-in_err-put_scalar : goal.returns-in_err-put_scalar
returns-in_err-put_scalar c =
    let l = c.loop-name in
    let left = λ (ps : List (List ℕ × Scalar)). rows_then (part_rows ps) [] in
    let ps = c.args.parts.now in
    let p = c.loop-name-item.result in
    let here : drop l.name-index ps ≡ p ∷ drop (l.name-index + 1) ps = drop_more ps l.name-index p (omega arith) ∙ ap (λ y. y ∷ drop (l.name-index + 1) ps) (sym c.loop-name-item.is) in
    let full : c.args.writer.now.spare < room (rows_then (part_rows ps) []) =
    row_full _ l.writer c.key.new.self c.put_scalar.new.writer _ _ (key p.0) (tokens_of (scalar_data p.1)) (left (drop (l.name-index + 1) ps))
    (ap left here) l.invariant (rw c.as_str.ensures.value at c.in_ok-key.ensures).room.1 c.in_err-put_scalar.ensures.full in
    search rules
