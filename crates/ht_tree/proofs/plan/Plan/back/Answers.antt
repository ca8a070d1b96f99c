use Rattle.std.proofs.Common.{◌≡◌, ℕ, zero, suc, List, [], ◌∷◌, ap, sym, subst, take, refl}
use Rattle.ht_tree.specs.declared.notice.Notice.{Notice}
use Rattle.ht_tree.specs.declared.row.Row.{Row}
use Rattle.ht_tree.specs.Kept.{plan_in}
use Rattle.ht_tree.specs.Plans.{IsPlanOf, PlanOf, changes_of}
use Rattle.ht_tree.proofs.Steps.{back_fits}
use Rattle.ht_tree.proofs.plan.Plan.back.Goals as goal

take_twice : {A : Type 0} (n : ℕ) (xs : List A) → take n (take n xs) ≡ take n xs
take_twice zero xs = refl
take_twice (suc n) [] = refl
take_twice (suc n) (x ∷ xs) = ap (λ l. x ∷ l) (take_twice n xs)

pub returns-clause-fits : goal.returns-clause-fits
returns-clause-fits c = λ t fit.
    let x = c.self.inside in
    let rows = c.truncate.ensures in
    let told = c.truncate-2.ensures.items in
    let F : PlanOf → Type 0 = λ p. IsPlanOf t p in
    let M : List Row → List Row → List Notice → List Notice → Type 0 = λ rows at_mark notices told_there. IsPlanOf t (record { changes = changes_of rows notices (x.marked).totals (x.marked).slot; marked = changes_of at_mark told_there (x.marked).totals (x.marked).slot }) in
    let mark : List Row = take x.mark x.puts in
    let notices : List Notice = take x.notice_mark x.notices.items in
    let now : M mark mark notices notices = back_fits t (plan_in x) (subst F (sym c.self.view_is) fit) in
    let with_rows : M c.truncate.new.self (take x.mark c.truncate.new.self) notices notices =
    subst (λ (l : List Row). M l (take x.mark l) notices notices) (sym rows) (subst (λ (l : List Row). M mark l notices notices) (sym (take_twice x.mark x.puts)) now) in
    subst (λ (l : List Notice). M c.truncate.new.self (take x.mark c.truncate.new.self) l (take x.notice_mark l)) (sym told)
    (subst (λ (l : List Notice). M c.truncate.new.self (take x.mark c.truncate.new.self) notices l) (sym (take_twice x.notice_mark x.notices.items)) with_rows)
