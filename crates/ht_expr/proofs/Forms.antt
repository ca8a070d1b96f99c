-- The form of a tree: a number that its first token tells, by which two trees are compared.
use Rattle.std.proofs.Common.{◌≡◌, ℕ, Bool, true, false, List, [], ◌++◌, Option, Some, None, refl}
use Rattle.std.specs.Prelude.{◌==◌, if◌then◌else◌}
use Rattle.ht_expr.specs.declared.node.Count.{Count}
use Rattle.ht_expr.specs.declared.node.Count.TheVariants.{Made, Finished, Done}
use Rattle.ht_expr.specs.declared.keyword.Keyword.{Keyword}
use Rattle.ht_expr.specs.declared.keyword.Keyword.TheVariants as keyword
use Rattle.ht_expr.specs.declared.kinds.Side.{Side}
use Rattle.ht_expr.specs.declared.kinds.Side.TheVariants.{Input, Output}
use Rattle.ht_expr.specs.declared.token.Mark.{Mark}
use Rattle.ht_expr.specs.declared.token.Mark.TheVariants.{Open, Minus}
use Rattle.ht_expr.specs.Expected.{keyword_in}
use Rattle.ht_expr.specs.Tokens.{Token, number, quoted, word, mark}
use Rattle.ht_expr.specs.Trees.{Tree, tokens_of, integer, text, truth, priority, initiator, part, is_set, count, count_text, count_true, brackets, negative, opposite, binary, choice}
use Rattle.ht_expr.specs.Trees.{nobody, everybody, user, group, union, intersect, except, when}
use Rattle.ht_expr.proofs.Following.{first}
use Rattle.ht_expr.proofs.Heads.{IsHead}

-- ---- which tree a token begins

abbrev pub tag : Tree → ℕ
tag (integer n) = 0
tag (text x) = 1
tag (truth b) = 2
tag priority = 4
tag initiator = 5
tag (part side w) = 6
tag (is_set side w) = 8
tag (count c) = 9
tag (count_text x y) = 12
tag (count_true x) = 13
tag (brackets e) = 14
tag (negative e) = 15
tag (opposite e) = 16
tag (choice c a b) = 17
tag nobody = 18
tag everybody = 19
tag (user x) = 20
tag (group x) = 21
tag (union a b) = 22
tag (intersect a b) = 23
tag (except a b) = 24
tag (when c a b) = 25
tag (binary o l r) = 27

abbrev pub word_tag : Option Keyword → ℕ
word_tag None = 27
word_tag (Some keyword.True) = 2
word_tag (Some keyword.False) = 2
word_tag (Some keyword.Priority) = 4
word_tag (Some keyword.Initiator) = 5
word_tag (Some keyword.In) = 6
word_tag (Some keyword.Out) = 6
word_tag (Some keyword.Set) = 8
word_tag (Some keyword.Made) = 9
word_tag (Some keyword.Finished) = 9
word_tag (Some keyword.Done) = 9
word_tag (Some keyword.CountText) = 12
word_tag (Some keyword.CountTrue) = 13
word_tag (Some keyword.Not) = 16
word_tag (Some keyword.If) = 17
word_tag (Some keyword.Nobody) = 18
word_tag (Some keyword.Everybody) = 19
word_tag (Some keyword.User) = 20
word_tag (Some keyword.Group) = 21
word_tag (Some keyword.Union) = 22
word_tag (Some keyword.Intersect) = 23
word_tag (Some keyword.Except) = 24
word_tag (Some keyword.When) = 25
word_tag (Some _) = 27

abbrev pub mark_tag : Mark → ℕ
mark_tag Open = 14
mark_tag Minus = 15
mark_tag _ = 27

abbrev pub token_tag : Token → ℕ
token_tag (number n) = 0
token_tag (quoted x) = 1
token_tag (word w) = word_tag (keyword_in w)
token_tag (mark m) = mark_tag m

pub tag_is : (h : Tree) (r : List Token) → IsHead h → token_tag (first (tokens_of h ++ r)) ≡ tag h
tag_is (integer n) r head = refl
tag_is (text x) r head = refl
tag_is (truth true) r head = refl
tag_is (truth false) r head = refl
tag_is priority r head = refl
tag_is initiator r head = refl
tag_is (part Input w) r head = refl
tag_is (part Output w) r head = refl
tag_is (is_set side w) r head = refl
tag_is (count Made) r head = refl
tag_is (count Finished) r head = refl
tag_is (count Done) r head = refl
tag_is (count_text x y) r head = refl
tag_is (count_true x) r head = refl
tag_is (brackets e) r head = refl
tag_is (negative e) r head = refl
tag_is (opposite e) r head = refl
tag_is (choice c a b) r head = refl
tag_is nobody r head = refl
tag_is everybody r head = refl
tag_is (user x) r head = refl
tag_is (group x) r head = refl
tag_is (union a b) r head = refl
tag_is (intersect a b) r head = refl
tag_is (except a b) r head = refl
tag_is (when c a b) r head = refl
tag_is (binary o l r) s head = absurd head

-- ---- a tree from its tag and what it holds

abbrev pub integer_of : Tree → ℕ
integer_of (integer n) = n
integer_of _ = 0

abbrev pub truth_of : Tree → Bool
truth_of (truth b) = b
truth_of _ = true

abbrev pub side_of : Tree → Side
side_of (part side w) = side
side_of (is_set side w) = side
side_of _ = Input

abbrev pub count_of : Tree → Count
count_of (count c) = c
count_of _ = Made

abbrev pub text_of : Tree → List ℕ
text_of (text x) = x
text_of (part side w) = w
text_of (is_set side w) = w
text_of (count_text p x) = p
text_of (count_true p) = p
text_of (user x) = x
text_of (group x) = x
text_of _ = []

abbrev pub other_text : Tree → List ℕ
other_text (count_text p x) = x
other_text _ = []

abbrev pub first_in : Tree → Tree
first_in (brackets e) = e
first_in (negative e) = e
first_in (opposite e) = e
first_in (choice c a b) = c
first_in (union a b) = a
first_in (intersect a b) = a
first_in (except a b) = a
first_in (when c a b) = c
first_in e = e

abbrev pub second_in : Tree → Tree
second_in (choice c a b) = a
second_in (union a b) = b
second_in (intersect a b) = b
second_in (except a b) = b
second_in (when c a b) = a
second_in e = e

abbrev pub third_in : Tree → Tree
third_in (choice c a b) = b
third_in (when c a b) = b
third_in e = e

abbrev pub rebuilt : ℕ → Tree → Tree
rebuilt n d =
    if n == 0 then integer (integer_of d)
    else if n == 1 then text (text_of d)
    else if n == 2 then truth (truth_of d)
    else if n == 4 then priority
    else if n == 5 then initiator
    else if n == 6 then part (side_of d) (text_of d)
    else if n == 8 then is_set (side_of d) (text_of d)
    else if n == 9 then count (count_of d)
    else if n == 12 then count_text (text_of d) (other_text d)
    else if n == 13 then count_true (text_of d)
    else if n == 14 then brackets (first_in d)
    else if n == 15 then negative (first_in d)
    else if n == 16 then opposite (first_in d)
    else if n == 17 then choice (first_in d) (second_in d) (third_in d)
    else if n == 18 then nobody
    else if n == 19 then everybody
    else if n == 20 then user (text_of d)
    else if n == 21 then group (text_of d)
    else if n == 22 then union (first_in d) (second_in d)
    else if n == 23 then intersect (first_in d) (second_in d)
    else if n == 24 then except (first_in d) (second_in d)
    else if n == 25 then when (first_in d) (second_in d) (third_in d)
    else d

pub rebuilt_is : (d : Tree) → rebuilt (tag d) d ≡ d
rebuilt_is (integer n) = refl
rebuilt_is (text x) = refl
rebuilt_is (truth b) = refl
rebuilt_is priority = refl
rebuilt_is initiator = refl
rebuilt_is (part side w) = refl
rebuilt_is (is_set side w) = refl
rebuilt_is (count c) = refl
rebuilt_is (count_text t x) = refl
rebuilt_is (count_true t) = refl
rebuilt_is (brackets e) = refl
rebuilt_is (negative e) = refl
rebuilt_is (opposite e) = refl
rebuilt_is (choice c a b) = refl
rebuilt_is nobody = refl
rebuilt_is everybody = refl
rebuilt_is (user x) = refl
rebuilt_is (group x) = refl
rebuilt_is (union a b) = refl
rebuilt_is (intersect a b) = refl
rebuilt_is (except a b) = refl
rebuilt_is (when c a b) = refl
rebuilt_is (binary o l r) = refl
