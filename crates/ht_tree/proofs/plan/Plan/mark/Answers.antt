use Rattle.std.proofs.Common.{◌≡◌, ℕ, List, length, rules, vec_len, ap, sym, subst, take, ◌∙◌}
use Rattle.std.proofs.Math.Seq.{take-length}
use Rattle.ht_tree.specs.declared.notice.Notice.{Notice}
use Rattle.ht_tree.specs.declared.row.Row.{Row}
use Rattle.ht_tree.specs.Kept.{plan_in}
use Rattle.ht_tree.specs.Plans.{IsPlanOf, PlanOf, changes_of}
use Rattle.ht_tree.proofs.Steps.{marked_fits}
use Rattle.ht_tree.proofs.plan.Plan.mark.Goals as goal

pub returns-clause-fits : goal.returns-clause-fits
returns-clause-fits c = λ t fit.
    let x = c.self.inside in
    let all : take c.len-self-inside.result x.puts ≡ x.puts = ap (λ (n : ℕ). take n x.puts) c.len-self-inside.ensures ∙ take-length x.puts in
    let count : vec_len x.notices ≡ length x.notices.items = search rules in
    let told : take c.len-self-inside-2.result x.notices.items ≡ x.notices.items = ap (λ (n : ℕ). take n x.notices.items) (c.len-self-inside-2.ensures ∙ count) ∙ take-length x.notices.items in
    let F : PlanOf → Type 0 = λ p. IsPlanOf t p in
    let M : List Row → List Notice → Type 0 = λ rows notices. IsPlanOf t (record (plan_in x) { marked = changes_of rows notices (x.noted).totals (x.noted).slot }) in
    let now : M x.puts x.notices.items = marked_fits t (plan_in x) (subst F (sym c.self.view_is) fit) in
    subst (λ (l : List Row). M l (take c.len-self-inside-2.result x.notices.items)) (sym all) (subst (λ (l : List Notice). M x.puts l) (sym told) now)
