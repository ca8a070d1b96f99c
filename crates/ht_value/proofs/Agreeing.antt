-- The value of an expression is of the expression's kind.
use Rattle.std.proofs.Common.{◌≡◌, ℕ, Bool, true, false, List, [], ◌∷◌, Option, Some, None, refl, ap, sym, ◌∙◌}
use Rattle.std.specs.Prelude.{if◌then◌else◌, option_map, ℤ, bytes_eq, find}
use Rattle.std.proofs.lemmas.Bool.{and_parts}
use Rattle.std.proofs.lemmas.Slice.Eq.{bytes_eq-Decides}
use Rattle.ht_base.specs.declared.kind.Kind.{Kind}
use Rattle.ht_base.specs.declared.kind.Kind.TheVariants.{Text, Int, Truth, Person, Instant}
use Rattle.ht_base.specs.declared.value.Value.{Value}
use Rattle.ht_base.specs.declared.value.Value.TheVariants as values
use Rattle.ht_value.specs.declared.environment.Env.{Env}
use Rattle.ht_expr.specs.declared.kinds.Side.{Side}
use Rattle.ht_expr.specs.declared.kinds.Side.TheVariants.{Input, Output}
use Rattle.ht_expr.specs.declared.operator.Operator.{Operator}
use Rattle.ht_expr.specs.declared.operator.Operator.TheVariants as operator
use Rattle.ht_base.specs.Kinds.{kind_of_value}
use Rattle.ht_base.specs.Values.{value_of}
use Rattle.ht_value.specs.Environment.{given, has_parts, may_be, values_fit}
use Rattle.ht_expr.specs.KindTable.{common_kind, is_of_kind, kind_of, operated_kind, same_kind}
use Rattle.ht_expr.specs.Kinds.{Declared, declared_kind}
use Rattle.ht_expr.specs.Trees.{Tree, integer, text, truth, priority, initiator, part, is_set, count, count_text, count_true, brackets, negative, opposite, binary, choice}
use Rattle.ht_value.specs.Values.{Outcome, a_text, a_number, a_truth, a_person, a_moment, nothing, chosen, given_or_unset, is_equal, is_less, number_in, of_number, of_truth, on_both, operated, outcome_of, truth_in, unset, value, kind_of_outcome}

pub same_kind_is : (a b : Kind) → same_kind a b ≡ true → a ≡ b
same_kind_is Text Text h = refl
same_kind_is Int Int h = refl
same_kind_is Truth Truth h = refl
same_kind_is Person Person h = refl
same_kind_is Instant Instant h = refl
same_kind_is _ _ h = absurd (cc)

if_some : (c : Bool) (o : Option Kind) (k : Kind) → (if c then o else None) ≡ Some k → (c ≡ true) × (o ≡ Some k)
if_some true o k h = (refl, h)
if_some false o k h = absurd (cc)

of_kind_is : (k : Kind) (o : Option Kind) → is_of_kind k o ≡ true → o ≡ Some k
of_kind_is k None h = absurd (cc)
of_kind_is k (Some a) h = ap Some (sym (same_kind_is k a h))

common_is : (a b : Option Kind) (k : Kind) → common_kind a b ≡ Some k → (a ≡ Some k) × (b ≡ Some k)
common_is (Some a) (Some b) k h = let p = if_some (same_kind a b) (Some a) k h in (p.1, ap Some (sym (same_kind_is a b p.0)) ∙ p.1)
common_is (Some a) None k h = absurd (cc)
common_is None b k h = absurd (cc)

-- ---- parts

fitting_at : (kinds : Declared) (side : Side) (w : List ℕ × Value) (ws : List (List ℕ × Value)) (name : List ℕ) (v : Value) (b : Bool) → bytes_eq w.0 name ≡ b → may_be (declared_kind kinds side w.0) w.1 ≡ true
    → (value_of name ws ≡ Some v → may_be (declared_kind kinds side name) v ≡ true) → option_map (λ u. u.1) (if b then Some w else find (λ u. bytes_eq u.0 name) ws) ≡ Some v → may_be (declared_kind kinds side name) v ≡ true
fitting_at kinds side w ws name v true same here behind found =
    let e : w.1 ≡ v = cc in
    ap (λ n. may_be (declared_kind kinds side n) v) (sym ((bytes_eq-Decides w.0 name).0 same)) ∙ ap (may_be (declared_kind kinds side w.0)) (sym e) ∙ here
fitting_at kinds side w ws name v false other here behind found = behind found

fitting : (kinds : Declared) (side : Side) (vs : List (List ℕ × Value)) (name : List ℕ) (v : Value) → values_fit kinds side vs ≡ true → value_of name vs ≡ Some v → may_be (declared_kind kinds side name) v ≡ true
fitting kinds side [] name v fits is = absurd (cc)
fitting kinds side (w ∷ ws) name v fits is =
    let parts = and_parts (may_be (declared_kind kinds side w.0) w.1) (values_fit kinds side ws) fits in
    fitting_at kinds side w ws name v (bytes_eq w.0 name) refl parts.0 (fitting kinds side ws name v parts.1) is

given_fits : (kinds : Declared) (env : Env) (side : Side) (name : List ℕ) (v : Value) → has_parts kinds env ≡ true → given env side name ≡ Some v → may_be (declared_kind kinds side name) v ≡ true
given_fits kinds env Input name v fits is = fitting kinds Input env.input name v (and_parts (values_fit kinds Input env.input) (values_fit kinds Output env.output) fits).0 is
given_fits kinds env Output name v fits is = fitting kinds Output env.output name v (and_parts (values_fit kinds Input env.input) (values_fit kinds Output env.output) fits).1 is

outcome_kind : (v : Value) → kind_of_outcome (outcome_of v) ≡ Some (kind_of_value v)
outcome_kind (values.Text x) = refl
outcome_kind (values.Int n) = refl
outcome_kind (values.Truth b) = refl
outcome_kind (values.Person p) = refl
outcome_kind (values.Instant m) = refl

unset_kind : (k : Kind) → kind_of_outcome (unset (Some k)) ≡ Some k
unset_kind Text = refl
unset_kind Int = refl
unset_kind Truth = refl
unset_kind Person = refl
unset_kind Instant = refl

part_kind : (o : Option Value) (d : Option Kind) (k : Kind) → ((v : Value) → o ≡ Some v → may_be d v ≡ true) → d ≡ Some k → kind_of_outcome (given_or_unset o d) ≡ Some k
part_kind o None k fits is = absurd (cc)
part_kind (Some v) (Some a) k fits is = outcome_kind v ∙ ap Some (sym (same_kind_is a (kind_of_value v) (fits v refl))) ∙ is
part_kind None (Some a) k fits is = unset_kind a ∙ is

-- ---- operators

truths : (f : Bool → Bool → Bool) (x y : Outcome) → kind_of_outcome (of_truth (on_both f (truth_in x) (truth_in y))) ≡ operated_kind operator.Or (kind_of_outcome x) (kind_of_outcome y)
truths f (a_text a) (a_text b) = refl
truths f (a_number a) (a_number b) = refl
truths f (a_truth a) (a_truth b) = refl
truths f (a_person a) (a_person b) = refl
truths f (a_moment a) (a_moment b) = refl
truths f nothing nothing = refl
truths f _ _ = refl

numbers : (f : ℤ → ℤ → ℤ) (x y : Outcome) → kind_of_outcome (of_number (on_both f (number_in x) (number_in y))) ≡ operated_kind operator.Plus (kind_of_outcome x) (kind_of_outcome y)
numbers f (a_text a) (a_text b) = refl
numbers f (a_number a) (a_number b) = refl
numbers f (a_truth a) (a_truth b) = refl
numbers f (a_person a) (a_person b) = refl
numbers f (a_moment a) (a_moment b) = refl
numbers f nothing nothing = refl
numbers f _ _ = refl

equal : (x y : Outcome) → kind_of_outcome (of_truth (is_equal x y)) ≡ operated_kind operator.Equal (kind_of_outcome x) (kind_of_outcome y)
equal (a_text a) (a_text b) = refl
equal (a_number a) (a_number b) = refl
equal (a_truth a) (a_truth b) = refl
equal (a_person a) (a_person b) = refl
equal (a_moment a) (a_moment b) = refl
equal nothing nothing = refl
equal _ _ = refl

less : (x y : Outcome) → kind_of_outcome (of_truth (is_less x y)) ≡ operated_kind operator.Less (kind_of_outcome x) (kind_of_outcome y)
less (a_text a) (a_text b) = refl
less (a_number a) (a_number b) = refl
less (a_truth a) (a_truth b) = refl
less (a_person a) (a_person b) = refl
less (a_moment a) (a_moment b) = refl
less nothing nothing = refl
less _ _ = refl

greater : (x y : Outcome) → kind_of_outcome (of_truth (is_less y x)) ≡ operated_kind operator.Less (kind_of_outcome x) (kind_of_outcome y)
greater (a_text a) (a_text b) = refl
greater (a_number a) (a_number b) = refl
greater (a_truth a) (a_truth b) = refl
greater (a_person a) (a_person b) = refl
greater (a_moment a) (a_moment b) = refl
greater nothing nothing = refl
greater _ _ = refl

turned : (f : Bool → Bool) (o : Option Bool) → kind_of_outcome (of_truth (option_map f o)) ≡ kind_of_outcome (of_truth o)
turned f None = refl
turned f (Some b) = refl

operated_is : (o : Operator) (x y : Outcome) → kind_of_outcome (operated o x y) ≡ operated_kind o (kind_of_outcome x) (kind_of_outcome y)
operated_is operator.Or x y = truths _ x y
operated_is operator.And x y = truths _ x y
operated_is operator.Equal x y = equal x y
operated_is operator.NotEqual x y = turned _ (is_equal x y) ∙ equal x y
operated_is operator.Less x y = less x y
operated_is operator.LessOrEqual x y = turned _ (is_less y x) ∙ greater x y
operated_is operator.Greater x y = greater x y
operated_is operator.GreaterOrEqual x y = turned _ (is_less x y) ∙ less x y
operated_is operator.Plus x y = numbers _ x y
operated_is operator.Minus x y = numbers _ x y
operated_is operator.Times x y = numbers _ x y

-- what has the operand's kind does for the operand
operands_has : (o : Operator) (a b : Option Kind) (x y : Outcome) (k : Kind) → ((i : Kind) → a ≡ Some i → kind_of_outcome x ≡ Some i) → ((i : Kind) → b ≡ Some i → kind_of_outcome y ≡ Some i)
    → operated_kind o a b ≡ Some k → kind_of_outcome (operated o x y) ≡ Some k
operands_has o (Some a) (Some b) x y k left right is =
    operated_is o x y ∙ ap (λ (l : Option Kind). operated_kind o l (kind_of_outcome y)) (left a refl) ∙ ap (λ (r : Option Kind). operated_kind o (Some a) r) (right b refl) ∙ is
operands_has o (Some a) None x y k left right is = absurd (cc)
operands_has o None b x y k left right is = absurd (cc)

number_has : (f : ℤ → ℤ) (x : Outcome) → kind_of_outcome x ≡ Some Int → kind_of_outcome (of_number (option_map f (number_in x))) ≡ Some Int
number_has f (a_number n) is = refl
number_has f _ is = absurd (cc)

truth_has : (f : Bool → Bool) (x : Outcome) → kind_of_outcome x ≡ Some Truth → kind_of_outcome (of_truth (option_map f (truth_in x))) ≡ Some Truth
truth_has f (a_truth b) is = refl
truth_has f _ is = absurd (cc)

chosen_has : (t x y : Outcome) (k : Kind) → kind_of_outcome t ≡ Some Truth → kind_of_outcome x ≡ Some k → kind_of_outcome y ≡ Some k → kind_of_outcome (chosen (truth_in t) x y) ≡ Some k
chosen_has (a_truth true) x y k t a b = a
chosen_has (a_truth false) x y k t a b = b
chosen_has _ x y k t a b = absurd (cc)

-- ---- expressions

pub has_kind : (kinds : Declared) (env : Env) (e : Tree) (k : Kind) → has_parts kinds env ≡ true → kind_of kinds e ≡ Some k → kind_of_outcome (value kinds env e) ≡ Some k
has_kind kinds env (integer n) k fits is = is
has_kind kinds env (text x) k fits is = is
has_kind kinds env (truth b) k fits is = is
has_kind kinds env priority k fits is = is
has_kind kinds env initiator k fits is = is
has_kind kinds env (part side name) k fits is = part_kind (given env side name) (declared_kind kinds side name) k (λ v. given_fits kinds env side name v fits) is
has_kind kinds env (is_set side name) k fits is = (if_some _ (Some Truth) k is).1
has_kind kinds env (count c) k fits is = is
has_kind kinds env (count_text p x) k fits is = is
has_kind kinds env (count_true p) k fits is = is
has_kind kinds env (brackets e) k fits is = has_kind kinds env e k fits is
has_kind kinds env (negative e) k fits is =
    let p = if_some (is_of_kind Int (kind_of kinds e)) (Some Int) k is in
    number_has _ (value kinds env e) (has_kind kinds env e Int fits (of_kind_is Int (kind_of kinds e) p.0)) ∙ p.1
has_kind kinds env (opposite e) k fits is =
    let p = if_some (is_of_kind Truth (kind_of kinds e)) (Some Truth) k is in
    truth_has _ (value kinds env e) (has_kind kinds env e Truth fits (of_kind_is Truth (kind_of kinds e) p.0)) ∙ p.1
has_kind kinds env (binary o l r) k fits is =
    operands_has o (kind_of kinds l) (kind_of kinds r) (value kinds env l) (value kinds env r) k (λ i. has_kind kinds env l i fits) (λ i. has_kind kinds env r i fits) is
has_kind kinds env (choice t a b) k fits is =
    let p = if_some (is_of_kind Truth (kind_of kinds t)) (common_kind (kind_of kinds a) (kind_of kinds b)) k is in
    let q = common_is (kind_of kinds a) (kind_of kinds b) k p.1 in
    chosen_has (value kinds env t) (value kinds env a) (value kinds env b) k (has_kind kinds env t Truth fits (of_kind_is Truth (kind_of kinds t) p.0)) (has_kind kinds env a k fits q.0) (has_kind kinds env b k fits q.1)
has_kind kinds env _ k fits is = absurd (cc)

-- so a number is given where a number is asked for
pub number_is : (x : Outcome) (n : ℤ) → number_in x ≡ Some n → x ≡ a_number n
number_is (a_number m) n is = let e : m ≡ n = cc in ap a_number e
number_is _ n is = absurd (cc)

pub number_there : (x : Outcome) → kind_of_outcome x ≡ Some Int → number_in x ≡ None → ⊥
number_there (a_number m) is none = cc
number_there _ is none = absurd (cc)

pub truth_is : (x : Outcome) (b : Bool) → truth_in x ≡ Some b → x ≡ a_truth b
truth_is (a_truth c) b is = let e : c ≡ b = cc in ap a_truth e
truth_is _ b is = absurd (cc)

pub truth_there : (x : Outcome) → kind_of_outcome x ≡ Some Truth → truth_in x ≡ None → ⊥
truth_there (a_truth c) is none = cc
truth_there _ is none = absurd (cc)
