use Rattle.std.proofs.Common.{◌<◌, [], ◌∷◌, List, subst, rules}
use Rattle.json.specs.Token.{Token, begin_object, end_object}
use Rattle.json.specs.Tree.{room}
use Rattle.ht_api.specs.Contents.{part_rows}
use Rattle.ht_api.specs.Writing.{Puts, object_tokens}
use Rattle.ht_api.proofs.Going.{begun, ended, for_rows, then_full, then_put, tokens_of_object}
use Rattle.ht_api.proofs.contents.put_parts.Goals as goal

pub returns : goal.returns
returns c =
    let rs = part_rows c.args.parts.now in
    let start = c.args.writer.now in
    let end = end_object ∷ [] in
    let all = object_tokens rs in
    let o = c.in_ok-open_object.ensures in
    let p = c.in_ok-put_part_members.ensures in
    let opened = then_put start start c.open_object.new.writer all (begin_object ∷ []) _ (begun start all) o.ok o.before o.spare in
    let put = then_put start c.open_object.new.writer c.put_part_members.new.writer all _ _ (for_rows _ _ _ rs _ opened) p.ok p.before p.spare in
    subst (λ (ts : List Token). Puts c.close_object.result start c.close_object.new.writer ts) (tokens_of_object rs)
    (ended start c.put_part_members.new.writer c.close_object.new.writer all _ end put c.close_object.ensures)

pub returns-in_err-put_part_members : goal.returns-in_err-put_part_members
returns-in_err-put_part_members c =
    let rs = part_rows c.args.parts.now in
    let start = c.args.writer.now in
    let all = object_tokens rs in
    let o = c.in_ok-open_object.ensures in
    let opened = then_put start start c.open_object.new.writer all (begin_object ∷ []) _ (begun start all) o.ok o.before o.spare in
    let short : start.spare < room all = then_full start c.open_object.new.writer c.put_part_members.new.writer all _ _ (for_rows _ _ _ rs _ opened) c.in_err-put_part_members.ensures.full in
    let full = subst (λ (ts : List Token). start.spare < room ts) (tokens_of_object rs) short in
    search rules
