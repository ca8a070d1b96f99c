use Rattle.std.proofs.Common.{◌≡◌, ℕ, true, ◌&&◌, ◌||◌, not, List, ◌∷◌, [], Result, Ok, Err, IfOk, length, refl, ap, sym, subst, ◌∙◌}
use Rattle.std.proofs.lemmas.Bool.{and_parts}
use Rattle.ht_expr.specs.AssignmentKinds.{Assigns}
use Rattle.ht_expr.specs.Assignments.{Assignment, nobody, everybody, initiator, part, user, group}
use Rattle.ht_expr.specs.Kinds.{Declared}
use Rattle.ht_expr.specs.KindTable.{assigns}
use Rattle.ht_expr.specs.Shown.{AreDeclared, shown}
use Rattle.ht_expr.specs.declared.kinds.Side.TheVariants.{Input}
use Rattle.ht_expr.specs.declared.assignment.Assign.{Assign}
use Rattle.ht_people.specs.Membership as people
use Rattle.ht_finding.specs.Assigning.{Sight, is_found, resolved, sight}
use Rattle.ht_finding.proofs.Selecting.{both_of, either_of, first_of_two, if_ok, joined, select_all, select_none, select_one}
use Rattle.ht_finding.proofs.finding.+found.Goals as goal

-- what is so of each sight is so of all
of_all : {A E K : Type 0} (F : K → Type 0) (P : K → A → Type 0) (r : Result A E) → ((k : K) → F k → IfOk r (P k)) → IfOk r (λ x. (k : K) → F k → P k x)
of_all F P (Ok x) each = each
of_all F P (Err e) each = tt

pub returns-in-Nobody : goal.returns-in-Nobody
returns-in-Nobody t c = λ kinds fits.
    let d = c.args.people.now in
    let s = sight kinds c.args.env.now in
    c.new.ensures
    ∙ select_none (is_found d s nobody) (people.everybody d) (λ p. refl)
    ∙ ap (λ (a : Assign). resolved d s (shown a)) (sym c.in-Nobody.is)

pub returns-in-Everybody : goal.returns-in-Everybody
returns-in-Everybody t c =
    let d = c.args.people.now in
    let all : (kinds : Declared) → people.everybody d ≡ resolved d (sight kinds c.args.env.now) (shown c.args.assign.now) =
    λ kinds. let s = sight kinds c.args.env.now in select_all (is_found d s everybody) (people.everybody d) (λ p. refl) ∙ ap (λ (a : Assign). resolved d s (shown a)) (sym c.in-Everybody.is) in
    if_ok (λ (l : List ℕ). l ≡ people.everybody d) (λ (l : List ℕ). (kinds : Declared) → Assigns kinds c.args.assign.now → l ≡ resolved d (sight kinds c.args.env.now) (shown c.args.assign.now)) c.everybody.result (λ l e kinds fits. e ∙ all kinds) c.everybody.ensures

pub returns-in-Initiator : goal.returns-in-Initiator
returns-in-Initiator t c =
    let d = c.args.people.now in
    let i = c.args.env.now.initiator in
    let one : (kinds : Declared) → i ∷ [] ≡ resolved d (sight kinds c.args.env.now) (shown c.args.assign.now) =
    λ kinds. let s = sight kinds c.args.env.now in select_one (is_found d s initiator) (length d.persons) i c.requires.initiator (λ p. refl) ∙ ap (λ (a : Assign). resolved d s (shown a)) (sym c.in-Initiator.is) in
    if_ok (λ (l : List ℕ). l ≡ i ∷ []) (λ (l : List ℕ). (kinds : Declared) → Assigns kinds c.args.assign.now → l ≡ resolved d (sight kinds c.args.env.now) (shown c.args.assign.now)) c.alone.result (λ l e kinds fits. e ∙ one kinds) c.alone.ensures

pub returns-in-In : goal.returns-in-In
returns-in-In t c =
    let d = c.args.people.now in
    let same : (kinds : Declared) → resolved d (sight kinds c.args.env.now) (part Input c.as_str.result.now) ≡ resolved d (sight kinds c.args.env.now) (shown c.args.assign.now) =
    λ kinds. let s = sight kinds c.args.env.now in ap (λ (l : List ℕ). resolved d s (part Input l)) c.as_str.ensures ∙ ap (λ (a : Assign). resolved d s (shown a)) (sym c.in-In.is) in
    if_ok (λ (l : List ℕ). (kinds : Declared) → l ≡ resolved d (sight kinds c.args.env.now) (part Input c.as_str.result.now)) (λ (l : List ℕ). (kinds : Declared) → Assigns kinds c.args.assign.now → l ≡ resolved d (sight kinds c.args.env.now) (shown c.args.assign.now)) c.person_given.result (λ l e kinds fits. e kinds ∙ same kinds) c.person_given.ensures

pub returns-in-User : goal.returns-in-User
returns-in-User t c =
    let d = c.args.people.now in
    let same : (kinds : Declared) → resolved d (sight kinds c.args.env.now) (user c.as_str-in-User.result.now) ≡ resolved d (sight kinds c.args.env.now) (shown c.args.assign.now) =
    λ kinds. let s = sight kinds c.args.env.now in ap (λ (l : List ℕ). resolved d s (user l)) c.as_str-in-User.ensures ∙ ap (λ (a : Assign). resolved d s (shown a)) (sym c.in-User.is) in
    if_ok (λ (l : List ℕ). (s : Sight) → l ≡ resolved d s (user c.as_str-in-User.result.now)) (λ (l : List ℕ). (kinds : Declared) → Assigns kinds c.args.assign.now → l ≡ resolved d (sight kinds c.args.env.now) (shown c.args.assign.now)) c.persons_named.result (λ l e kinds fits. e (sight kinds c.args.env.now) ∙ same kinds) c.persons_named.ensures

pub returns-in-Group : goal.returns-in-Group
returns-in-Group t c =
    let d = c.args.people.now in
    let same : (kinds : Declared) → resolved d (sight kinds c.args.env.now) (group c.as_str-in-Group.result.now) ≡ resolved d (sight kinds c.args.env.now) (shown c.args.assign.now) =
    λ kinds. let s = sight kinds c.args.env.now in ap (λ (l : List ℕ). resolved d s (group l)) c.as_str-in-Group.ensures ∙ ap (λ (a : Assign). resolved d s (shown a)) (sym c.in-Group.is) in
    if_ok (λ (l : List ℕ). (s : Sight) → l ≡ resolved d s (group c.as_str-in-Group.result.now)) (λ (l : List ℕ). (kinds : Declared) → Assigns kinds c.args.assign.now → l ≡ resolved d (sight kinds c.args.env.now) (shown c.args.assign.now)) c.members_of.result (λ l e kinds fits. e (sight kinds c.args.env.now) ∙ same kinds) c.members_of.ensures

-- the kinds of an operation fit both operands
both_fit : (kinds : Declared) (a b : Assign) → AreDeclared kinds a × AreDeclared kinds b → (assigns kinds (shown a) && assigns kinds (shown b)) ≡ true → Assigns kinds a × Assigns kinds b
both_fit kinds a b declared fits =
    let parts = and_parts (assigns kinds (shown a)) (assigns kinds (shown b)) fits in
    (record { declared = declared.0; fits = parts.0 }, record { declared = declared.1; fits = parts.1 })

pub returns-in_ok-second-in-Union : goal.returns-in_ok-second-in-Union
returns-in_ok-second-in-Union t c = of_all (λ kinds. Assigns kinds c.args.assign.now) (λ kinds l. l ≡ resolved c.args.people.now (sight kinds c.args.env.now) (shown c.args.assign.now)) c.union.result (λ kinds fits.
    let d = c.args.people.now in
    let s = sight kinds c.args.env.now in
    let a : Assignment = shown c.in-Union.a.value in
    let b : Assignment = shown c.in-Union.b.value in
    let fit = rw c.in-Union.is at fits in
    let parts = both_fit kinds c.in-Union.a.value c.in-Union.b.value fit.declared fit.fits in
    let first : c.in_ok-first-in-Union.first ≡ resolved d s a = c.in_ok-first-in-Union.ensures kinds (subst (Assigns kinds) (sym c.deref.ensures) parts.0) ∙ ap (λ (x : Assign). resolved d s (shown x)) c.deref.ensures in
    let second : c.in_ok-second-in-Union.second ≡ resolved d s b = c.in_ok-second-in-Union.ensures kinds (subst (Assigns kinds) (sym c.deref-in-Union.ensures) parts.1) ∙ ap (λ (x : Assign). resolved d s (shown x)) c.deref-in-Union.ensures in
    let P : Assign → Type 0 = λ x. IfOk c.union.result (λ l. l ≡ resolved d s (shown x)) in
    subst P (sym c.in-Union.is) (joined (λ x y. x || y) either_of (is_found d s a) (is_found d s b) (length d.persons) c.in_ok-first-in-Union.first c.in_ok-second-in-Union.second first second c.union.result c.union.ensures.set c.union.ensures.ascends))

pub returns-in_ok-second-in-Intersect : goal.returns-in_ok-second-in-Intersect
returns-in_ok-second-in-Intersect t c = of_all (λ kinds. Assigns kinds c.args.assign.now) (λ kinds l. l ≡ resolved c.args.people.now (sight kinds c.args.env.now) (shown c.args.assign.now)) c.intersect.result (λ kinds fits.
    let d = c.args.people.now in
    let s = sight kinds c.args.env.now in
    let a : Assignment = shown c.in-Intersect.a.value in
    let b : Assignment = shown c.in-Intersect.b.value in
    let fit = rw c.in-Intersect.is at fits in
    let parts = both_fit kinds c.in-Intersect.a.value c.in-Intersect.b.value fit.declared fit.fits in
    let first : c.in_ok-first-in-Intersect.first ≡ resolved d s a = c.in_ok-first-in-Intersect.ensures kinds (subst (Assigns kinds) (sym c.deref-in-Intersect.ensures) parts.0) ∙ ap (λ (x : Assign). resolved d s (shown x)) c.deref-in-Intersect.ensures in
    let second : c.in_ok-second-in-Intersect.second ≡ resolved d s b = c.in_ok-second-in-Intersect.ensures kinds (subst (Assigns kinds) (sym c.deref-in-Intersect-2.ensures) parts.1) ∙ ap (λ (x : Assign). resolved d s (shown x)) c.deref-in-Intersect-2.ensures in
    let P : Assign → Type 0 = λ x. IfOk c.intersect.result (λ l. l ≡ resolved d s (shown x)) in
    subst P (sym c.in-Intersect.is) (joined (λ x y. x && y) both_of (is_found d s a) (is_found d s b) (length d.persons) c.in_ok-first-in-Intersect.first c.in_ok-second-in-Intersect.second first second c.intersect.result c.intersect.ensures.set c.intersect.ensures.ascends))

pub returns-in_ok-second-in-Except : goal.returns-in_ok-second-in-Except
returns-in_ok-second-in-Except t c = of_all (λ kinds. Assigns kinds c.args.assign.now) (λ kinds l. l ≡ resolved c.args.people.now (sight kinds c.args.env.now) (shown c.args.assign.now)) c.except.result (λ kinds fits.
    let d = c.args.people.now in
    let s = sight kinds c.args.env.now in
    let a : Assignment = shown c.in-Except.a.value in
    let b : Assignment = shown c.in-Except.b.value in
    let fit = rw c.in-Except.is at fits in
    let parts = both_fit kinds c.in-Except.a.value c.in-Except.b.value fit.declared fit.fits in
    let first : c.in_ok-first-in-Except.first ≡ resolved d s a = c.in_ok-first-in-Except.ensures kinds (subst (Assigns kinds) (sym c.deref-in-Except.ensures) parts.0) ∙ ap (λ (x : Assign). resolved d s (shown x)) c.deref-in-Except.ensures in
    let second : c.in_ok-second-in-Except.second ≡ resolved d s b = c.in_ok-second-in-Except.ensures kinds (subst (Assigns kinds) (sym c.deref-in-Except-2.ensures) parts.1) ∙ ap (λ (x : Assign). resolved d s (shown x)) c.deref-in-Except-2.ensures in
    let P : Assign → Type 0 = λ x. IfOk c.except.result (λ l. l ≡ resolved d s (shown x)) in
    subst P (sym c.in-Except.is) (joined (λ x y. x && not y) first_of_two (is_found d s a) (is_found d s b) (length d.persons) c.in_ok-first-in-Except.first c.in_ok-second-in-Except.second first second c.except.result c.except.ensures.set c.except.ensures.ascends))
