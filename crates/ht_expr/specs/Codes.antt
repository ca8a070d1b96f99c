-- A code of trees, by which proofs tell them apart: each is a tree of numbers.
use Rattle.std.specs.Prelude.{◌≡◌, refl, ℕ, ◌==◌, Bool, true, false, List, [], ◌∷◌, if◌then◌else◌}
use Rattle.std.specs.Coded.{Coded}
use Rattle.std.proofs.Common.{◌∙◌, ap, sym}
use base.Stored.{Gv, gnil, gnum, gcons, num}
use Rattle.ht_expr.specs.declared.node.Count.{Count}
use Rattle.ht_expr.specs.declared.node.Count.TheVariants.{Made, Finished, Done}
use Rattle.ht_expr.specs.declared.kinds.Side.{Side}
use Rattle.ht_expr.specs.declared.kinds.Side.TheVariants.{Input, Output}
use Rattle.ht_expr.specs.declared.operator.Operator.{Operator}
use Rattle.ht_expr.specs.declared.operator.Operator.TheVariants as operator
use Rattle.ht_expr.specs.Trees.{Tree, integer, text, truth, priority, initiator, part, is_set, count, count_text, count_true, brackets, negative, opposite, binary, choice}
use Rattle.ht_expr.specs.Trees.{nobody, everybody, user, group, union, intersect, except, when}

abbrev text_code : List ℕ → Gv
text_code [] = gnil
text_code (c ∷ cs) = gcons (gnum c) (text_code cs)

abbrev truth_number : Bool → ℕ
truth_number true = 1
truth_number false = 0

abbrev side_number : Side → ℕ
side_number Input = 0
side_number Output = 1

abbrev count_number : Count → ℕ
count_number Made = 0
count_number Finished = 1
count_number Done = 2

abbrev operator_number : Operator → ℕ
operator_number operator.Or = 0
operator_number operator.And = 1
operator_number operator.Equal = 2
operator_number operator.NotEqual = 3
operator_number operator.Less = 4
operator_number operator.LessOrEqual = 5
operator_number operator.Greater = 6
operator_number operator.GreaterOrEqual = 7
operator_number operator.Plus = 8
operator_number operator.Minus = 9
operator_number operator.Times = 10

-- the form's number, a number or a text in it, another text, and the trees in it
abbrev form_code : ℕ → Gv → Gv → Gv → Gv → Gv
form_code form first second a rest = gcons (gcons (gnum form) (gcons first second)) (gcons a rest)

abbrev code : Tree → Gv
code (integer n) = form_code 0 (gnum n) gnil gnil (gcons gnil gnil)
code (text x) = form_code 1 (text_code x) gnil gnil (gcons gnil gnil)
code (truth b) = form_code 2 (gnum (truth_number b)) gnil gnil (gcons gnil gnil)
code priority = form_code 3 gnil gnil gnil (gcons gnil gnil)
code initiator = form_code 4 gnil gnil gnil (gcons gnil gnil)
code (part side x) = form_code 5 (gnum (side_number side)) (text_code x) gnil (gcons gnil gnil)
code (is_set side x) = form_code 6 (gnum (side_number side)) (text_code x) gnil (gcons gnil gnil)
code (count k) = form_code 7 (gnum (count_number k)) gnil gnil (gcons gnil gnil)
code (count_text x y) = form_code 8 (text_code x) (text_code y) gnil (gcons gnil gnil)
code (count_true x) = form_code 9 (text_code x) gnil gnil (gcons gnil gnil)
code (brackets a) = form_code 10 gnil gnil (code a) (gcons gnil gnil)
code (negative a) = form_code 11 gnil gnil (code a) (gcons gnil gnil)
code (opposite a) = form_code 12 gnil gnil (code a) (gcons gnil gnil)
code (binary o a b) = form_code 13 (gnum (operator_number o)) gnil (code a) (gcons (code b) gnil)
code (choice a b c) = form_code 14 gnil gnil (code a) (gcons (code b) (code c))
code nobody = form_code 15 gnil gnil gnil (gcons gnil gnil)
code everybody = form_code 16 gnil gnil gnil (gcons gnil gnil)
code (user x) = form_code 17 (text_code x) gnil gnil (gcons gnil gnil)
code (group x) = form_code 18 (text_code x) gnil gnil (gcons gnil gnil)
code (union a b) = form_code 19 gnil gnil (code a) (gcons (code b) gnil)
code (intersect a b) = form_code 20 gnil gnil (code a) (gcons (code b) gnil)
code (except a b) = form_code 21 gnil gnil (code a) (gcons (code b) gnil)
code (when a b c) = form_code 22 gnil gnil (code a) (gcons (code b) (code c))

-- ---- and back

abbrev text_from : Gv → List ℕ
text_from gnil = []
text_from (gnum n) = []
text_from (gcons c cs) = num c ∷ text_from cs

abbrev side_from : ℕ → Side
side_from n = if n == 0 then Input else Output

abbrev count_from : ℕ → Count
count_from n = if n == 0 then Made else if n == 1 then Finished else Done

abbrev operator_from : ℕ → Operator
operator_from n =
    if n == 0 then operator.Or
    else if n == 1 then operator.And
    else if n == 2 then operator.Equal
    else if n == 3 then operator.NotEqual
    else if n == 4 then operator.Less
    else if n == 5 then operator.LessOrEqual
    else if n == 6 then operator.Greater
    else if n == 7 then operator.GreaterOrEqual
    else if n == 8 then operator.Plus
    else if n == 9 then operator.Minus
    else operator.Times

abbrev form_from : ℕ → Gv → Gv → Tree → Tree → Tree → Tree
form_from n first second a b c =
    if n == 0 then integer (num first)
    else if n == 1 then text (text_from first)
    else if n == 2 then truth (num first == 1)
    else if n == 3 then priority
    else if n == 4 then initiator
    else if n == 5 then part (side_from (num first)) (text_from second)
    else if n == 6 then is_set (side_from (num first)) (text_from second)
    else if n == 7 then count (count_from (num first))
    else if n == 8 then count_text (text_from first) (text_from second)
    else if n == 9 then count_true (text_from first)
    else if n == 10 then brackets a
    else if n == 11 then negative a
    else if n == 12 then opposite a
    else if n == 13 then binary (operator_from (num first)) a b
    else if n == 14 then choice a b c
    else if n == 15 then nobody
    else if n == 16 then everybody
    else if n == 17 then user (text_from first)
    else if n == 18 then group (text_from first)
    else if n == 19 then union a b
    else if n == 20 then intersect a b
    else if n == 21 then except a b
    else when a b c

abbrev from_code : Gv → Tree
from_code (gcons (gcons form (gcons first second)) (gcons a (gcons b c))) = form_from (num form) first second (from_code a) (from_code b) (from_code c)
from_code _ = nobody

pub text_from-text_code : (cs : List ℕ) → text_from (text_code cs) ≡ cs
text_from-text_code [] = refl
text_from-text_code (c ∷ cs) = ap (λ t. c ∷ t) (text_from-text_code cs)

side_back : (side : Side) → side_from (side_number side) ≡ side
side_back Input = refl
side_back Output = refl

count_back : (k : Count) → count_from (count_number k) ≡ k
count_back Made = refl
count_back Finished = refl
count_back Done = refl

operator_back : (o : Operator) → operator_from (operator_number o) ≡ o
operator_back operator.Or = refl
operator_back operator.And = refl
operator_back operator.Equal = refl
operator_back operator.NotEqual = refl
operator_back operator.Less = refl
operator_back operator.LessOrEqual = refl
operator_back operator.Greater = refl
operator_back operator.GreaterOrEqual = refl
operator_back operator.Plus = refl
operator_back operator.Minus = refl
operator_back operator.Times = refl

pub from_code-code : (a : Tree) → from_code (code a) ≡ a
from_code-code (integer n) = refl
from_code-code (text x) = ap (λ t. text t) (text_from-text_code x)
from_code-code (truth true) = refl
from_code-code (truth false) = refl
from_code-code priority = refl
from_code-code initiator = refl
from_code-code (part side x) = ap (λ t. part t (text_from (text_code x))) (side_back side) ∙ ap (λ t. part side t) (text_from-text_code x)
from_code-code (is_set side x) = ap (λ t. is_set t (text_from (text_code x))) (side_back side) ∙ ap (λ t. is_set side t) (text_from-text_code x)
from_code-code (count k) = ap (λ t. count t) (count_back k)
from_code-code (count_text x y) = ap (λ t. count_text t (text_from (text_code y))) (text_from-text_code x) ∙ ap (λ t. count_text x t) (text_from-text_code y)
from_code-code (count_true x) = ap (λ t. count_true t) (text_from-text_code x)
from_code-code (brackets a) = ap (λ t. brackets t) (from_code-code a)
from_code-code (negative a) = ap (λ t. negative t) (from_code-code a)
from_code-code (opposite a) = ap (λ t. opposite t) (from_code-code a)
from_code-code (binary o a b) = ap (λ t. binary t (from_code (code a)) (from_code (code b))) (operator_back o) ∙ ap (λ t. binary o t (from_code (code b))) (from_code-code a) ∙ ap (λ t. binary o a t) (from_code-code b)
from_code-code (choice a b c) = ap (λ t. choice t (from_code (code b)) (from_code (code c))) (from_code-code a) ∙ ap (λ t. choice a t (from_code (code c))) (from_code-code b) ∙ ap (λ t. choice a b t) (from_code-code c)
from_code-code nobody = refl
from_code-code everybody = refl
from_code-code (user x) = ap (λ t. user t) (text_from-text_code x)
from_code-code (group x) = ap (λ t. group t) (text_from-text_code x)
from_code-code (union a b) = ap (λ t. union t (from_code (code b))) (from_code-code a) ∙ ap (λ t. union a t) (from_code-code b)
from_code-code (intersect a b) = ap (λ t. intersect t (from_code (code b))) (from_code-code a) ∙ ap (λ t. intersect a t) (from_code-code b)
from_code-code (except a b) = ap (λ t. except t (from_code (code b))) (from_code-code a) ∙ ap (λ t. except a t) (from_code-code b)
from_code-code (when a b c) = ap (λ t. when t (from_code (code b)) (from_code (code c))) (from_code-code a) ∙ ap (λ t. when a t (from_code (code c))) (from_code-code b) ∙ ap (λ t. when a b t) (from_code-code c)

abbrev pub coded_tree : Coded Tree
coded_tree = record { code = code; inj = λ a b same. sym (from_code-code a) ∙ ap from_code same ∙ from_code-code b }
