use Rattle.std.proofs.Common.{◌≡◌, ◌+◌, ◌<◌, ◌++◌, List, [], ◌∷◌, All, length, take, ap, sym, subst, ◌∙◌, arith}
use Rattle.std.proofs.lemmas.List.{take_more}
use Rattle.ht_aggregate.specs.Aggregates.{IsAggregate}
use Rattle.ht_base.specs.declared.value.Value.{Value}
use Rattle.ht_base.specs.declared.values.Values.{Values}
use Rattle.ht_base.specs.Kinds.{kind_of_how, kind_of_value}
use Rattle.ht_compose.specs.Finding.{rows_of}
use Rattle.ht_compose.specs.Finishes.{Sets, values_for}
use Rattle.ht_compose.proofs.Settings.{kinds_for, one_more_set}
use Rattle.ht_compose.proofs.finishing.results.Goals as goal
use Rattle.ht_entries.specs.Finishes.{Setting, setting}
use Rattle.ht_tree.specs.declared.row.Row.{Row}
use Rattle.ht_tree.specs.Plans.{planned}

pub aggregate-requires : goal.aggregate-requires
aggregate-requires c =
    let subs : List Row = rows_of (planned c.args.tables.now.tables c.args.plan.now) c.args.subs.now in
    let s : Setting = setting c.setting.inside.part c.setting.inside.from c.setting.inside.how in
    let values = c.in_ok-values.ensures ∙ ap (λ (x : Setting). values_for x.how x.from subs) (sym c.setting.view_is) in
    let P : List Value → Type 0 = λ vs. All (λ v. kind_of_value v ≡ kind_of_how s.how) vs in
    subst P (sym values) (kinds_for s.how s.from subs)

pub loop-setting-preserved : goal.loop-setting-preserved
loop-setting-preserved c =
    let subs : List Row = rows_of (planned c.args.tables.now.tables c.args.plan.now) c.args.subs.now in
    let s : Setting = setting c.setting.inside.part c.setting.inside.from c.setting.inside.how in
    let values = c.in_ok-values.ensures ∙ ap (λ (x : Setting). values_for x.how x.from subs) (sym c.setting.view_is) in
    let ss : List Setting = c.args.settings.now in
    let i = c.loop-setting.setting-index in
    let more : i < length ss = omega arith in
    let next : take (i + 1) ss ≡ take i ss ++ s ∷ [] = take_more ss i c.setting-item.result more ∙ ap (λ (x : Setting). take i ss ++ x ∷ []) (sym (c.setting.view_is ∙ c.setting-item.is)) in
    let A : List Value → Type 0 = λ vs. IsAggregate s.how vs c.in_ok-result.result in
    let set = one_more_set subs (take i ss) s c.args.output c.loop-setting.output c.in_ok-result.result c.loop-setting.invariant (subst A values c.in_ok-result.ensures.value) in
    let P : List Setting → Type 0 = λ xs. Sets subs xs c.args.output c.put_result.new.output in
    let Q : Values → Type 0 = λ vs. Sets subs (take i ss ++ s ∷ []) c.args.output vs in
    subst P (sym next) (subst Q (sym c.in_ok-put_result.ensures) set)
