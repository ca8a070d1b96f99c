use Rattle.std.proofs.Common.{◌≡◌, cond, [], ◌∷◌, fold, map, Some, true, ap, sym, ◌∙◌}
use Rattle.ht_lists.specs.Best.{told, with_key}
use Rattle.ht_lists.specs.Keys.{key_of}
use Rattle.ht_lists.specs.Offering.{is_asked}
use Rattle.ht_tree.specs.Tables.{task_row}
use Rattle.ht_lists.proofs.Asked.{one_asked}
use Rattle.ht_lists.proofs.offering.look.Goals as goal

pub returns-then-passes-clause-behind : goal.returns-then-passes-clause-behind
returns-then-passes-clause-behind c = λ is total.
    let t = c.args.tables.now.tables in
    let row = c.in-Some.row.now in
    let at : task_row t c.args.id.0 ≡ Some row = sym c.in-Some.ensures.value in
    let asked : is_asked t c.args.person c.args.role c.args.which row ≡ true = sym c.is_asked.ensures ∙ c.if-not-is_asked.false in
    c.passes.ensures c.if-passes.true total
    ∙ sym (ap (λ l. fold with_key (told c.args.best.now total) l) (one_asked t c.args.person c.args.role c.args.which c.args.id.0 row at ∙ ap (λ b. map key_of (cond b (row ∷ []) [])) asked))
