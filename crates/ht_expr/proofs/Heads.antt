-- The tree that a token begins, by what is expected behind the token.
use Rattle.std.proofs.Common.{◌≡◌, ℕ, true, false, List, [], ◌∷◌, ◌++◌, drop, Option, Some, None, refl, sym, subst, append-nil}
use Rattle.std.specs.Prelude.{⊤}
use Rattle.ht_expr.specs.declared.expected.Behind.{Behind}
use Rattle.ht_expr.specs.declared.expected.Behind.TheVariants as behind
use Rattle.ht_expr.specs.declared.expected.Opening.{Opening}
use Rattle.ht_expr.specs.declared.node.Count.TheVariants.{Made, Finished, Done}
use Rattle.ht_expr.specs.declared.keyword.Keyword.{Keyword}
use Rattle.ht_expr.specs.declared.keyword.Keyword.TheVariants as keyword
use Rattle.ht_expr.specs.declared.kinds.Side.TheVariants.{Input, Output}
use Rattle.ht_expr.specs.declared.token.Mark.{Mark}
use Rattle.ht_expr.specs.declared.token.Mark.TheVariants.{Open, Close, Comma, Minus}
use Rattle.ht_expr.specs.Expected.{if_some, keyword_in, opening_in, opening_of_mark, opening_of_word, symbols}
use Rattle.ht_expr.specs.Keywords.{said}
use Rattle.ht_expr.specs.Tokens.{Token, number, quoted, word, mark}
use Rattle.ht_expr.specs.Trees.{Tree, Holds, least, most, tokens_of, integer, text, truth, priority, initiator, part, is_set, count, count_text, count_true, brackets, negative, opposite, binary, choice}
use Rattle.ht_expr.specs.Trees.{nobody, everybody, user, group, union, intersect, except, when}
use Rattle.ht_expr.proofs.Keywords.{keyword_spelled}
use Rattle.ht_expr.proofs.Meanings.{Ends, Meets}

-- a tree that begins with a token of its own
abbrev pub IsHead : Tree → Type 0
IsHead (binary o l r) = ⊥
IsHead _ = ⊤

-- which token it begins with, and what is behind
abbrev pub Opens : Tree → Type 0
Opens h =
    (t : Token) × (b : Behind) × (tokens_of h ≡ t ∷ drop 1 (tokens_of h)) × (opening_in t ≡ Some (record { least = least h; most = most h; behind = b }))
    × Ends b (most h) × Meets (symbols b) (drop 1 (tokens_of h))

pub opens : (h : Tree) → IsHead h → Holds h → Opens h
opens (integer n) head holds = (number n, behind.Nothing, refl, refl, tt, refl)
opens (text x) head holds = (quoted x, behind.Nothing, refl, refl, tt, refl)
opens (truth true) head holds = (said keyword.True, behind.Nothing, refl, refl, tt, refl)
opens (truth false) head holds = (said keyword.False, behind.Nothing, refl, refl, tt, refl)
opens priority head holds = (said keyword.Priority, behind.Nothing, refl, refl, tt, refl)
opens initiator head holds = (said keyword.Initiator, behind.Nothing, refl, refl, tt, refl)
opens (part Input w) head holds = (said keyword.In, behind.Name, refl, refl, tt, (_, refl, (w, [], refl, refl)))
opens (part Output w) head holds = (said keyword.Out, behind.Name, refl, refl, tt, (_, refl, (w, [], refl, refl)))
opens (is_set side w) head holds = (said keyword.Set, behind.Part, refl, refl, tt, (_, refl, (side, w, _, refl, (_, refl, refl))))
opens (count Made) head holds = (said keyword.Made, behind.Brackets, refl, refl, tt, (_, refl, (_, refl, refl)))
opens (count Finished) head holds = (said keyword.Finished, behind.Brackets, refl, refl, tt, (_, refl, (_, refl, refl)))
opens (count Done) head holds = (said keyword.Done, behind.Brackets, refl, refl, tt, (_, refl, (_, refl, refl)))
opens (count_text p x) head holds = (said keyword.CountText, behind.Texts, refl, refl, tt, (_, refl, (p, _, refl, (_, refl, (x, _, refl, (_, refl, refl))))))
opens (count_true x) head holds = (said keyword.CountTrue, behind.Text, refl, refl, tt, (_, refl, (x, _, refl, (_, refl, refl))))
opens (brackets e) head holds = (mark Open, behind.Bracketed, refl, refl, tt, (e, _, holds, refl, (_, refl, refl)))
opens (negative e) head holds = (mark Minus, behind.Negative, refl, refl, refl, (e, [], holds, sym (append-nil (tokens_of e)), refl))
opens (opposite e) head holds = (said keyword.Not, behind.Negated, refl, refl, refl, (e, [], holds, sym (append-nil (tokens_of e)), refl))
opens (binary o l r) head holds = absurd head
opens (choice c a b) head holds = (said keyword.If, behind.Choice, refl, refl, refl, (c, _, holds.0, refl, (_, refl, (a, _, holds.1, refl, (_, refl, (b, [], holds.2, sym (append-nil (tokens_of b)), refl))))))
opens nobody head holds = (said keyword.Nobody, behind.Nothing, refl, refl, tt, refl)
opens everybody head holds = (said keyword.Everybody, behind.Nothing, refl, refl, tt, refl)
opens (user x) head holds = (said keyword.User, behind.Text, refl, refl, tt, (_, refl, (x, _, refl, (_, refl, refl))))
opens (group x) head holds = (said keyword.Group, behind.Text, refl, refl, tt, (_, refl, (x, _, refl, (_, refl, refl))))
opens (union a b) head holds = (said keyword.Union, behind.Operands, refl, refl, tt, (_, refl, (a, _, holds.0, refl, (_, refl, (b, _, holds.1, refl, (_, refl, refl))))))
opens (intersect a b) head holds = (said keyword.Intersect, behind.Operands, refl, refl, tt, (_, refl, (a, _, holds.0, refl, (_, refl, (b, _, holds.1, refl, (_, refl, refl))))))
opens (except a b) head holds = (said keyword.Except, behind.Operands, refl, refl, tt, (_, refl, (a, _, holds.0, refl, (_, refl, (b, _, holds.1, refl, (_, refl, refl))))))
opens (when c a b) head holds = (said keyword.When, behind.Branches, refl, refl, tt, (_, refl, (c, _, holds.0, refl, (_, refl, (a, _, holds.1, refl, (_, refl, (b, _, holds.2, refl, (_, refl, refl))))))))

-- a tree that begins with this token, and goes on so
abbrev pub Begun : Token → List Token → Opening → Type 0
Begun t body o = (h : Tree) × (tokens_of h ≡ t ∷ body) × (least h ≡ o.least) × (most h ≡ o.most) × Holds h

abbrev OnSome : Option Opening → (Opening → Type 0) → Type 0
OnSome None P = ⊤
OnSome (Some o) P = P o

abbrev IsBegun : Token → List Token → Option Opening → Type 0
IsBegun t body found = OnSome found (λ o. Meets (symbols o.behind) body → Begun t body o)

text_is : (k : Keyword) (x : List ℕ) (body r s rest : List Token) → body ≡ mark Open ∷ r → r ≡ quoted x ∷ s → s ≡ mark Close ∷ rest → rest ≡ [] → said k ∷ mark Open ∷ quoted x ∷ mark Close ∷ [] ≡ said k ∷ body
text_is k x body r s rest a b c d = cc

both_is : (k : Keyword) (x y : List Token) (body r s u v rest : List Token) → body ≡ mark Open ∷ r → r ≡ x ++ s → s ≡ mark Comma ∷ u → u ≡ y ++ v → v ≡ mark Close ∷ rest → rest ≡ []
    → said k ∷ mark Open ∷ (x ++ (mark Comma ∷ (y ++ (mark Close ∷ [])))) ≡ said k ∷ body
both_is k x y body r s u v rest a b c d e f = cc

word_begun : (k : Keyword) (body : List Token) → IsBegun (said k) body (opening_of_word k)
word_begun keyword.If body = λ (c, r, fc, x, (s, y, (a, u, fa, z, (v, w, (b, rest, fb, last, end))))).
    let none = append-nil (tokens_of b) in (choice c a b, cc, refl, refl, (fc, fa, fb))
word_begun keyword.Not body = λ (e, rest, fits, is, end). let none = append-nil (tokens_of e) in (opposite e, cc, refl, refl, fits)
word_begun keyword.True body = λ end. (truth true, cc, refl, refl, tt)
word_begun keyword.False body = λ end. (truth false, cc, refl, refl, tt)
word_begun keyword.Priority body = λ end. (priority, cc, refl, refl, tt)
word_begun keyword.Initiator body = λ end. (initiator, cc, refl, refl, tt)
word_begun keyword.In body = λ (r, x, (w, rest, y, end)). (part Input w, cc, refl, refl, tt)
word_begun keyword.Out body = λ (r, x, (w, rest, y, end)). (part Output w, cc, refl, refl, tt)
word_begun keyword.Set body = λ (r, x, (side, w, s, y, (rest, z, end))). (is_set side w, cc, refl, refl, tt)
word_begun keyword.Made body = λ (r, x, (rest, y, end)). (count Made, cc, refl, refl, tt)
word_begun keyword.Finished body = λ (r, x, (rest, y, end)). (count Finished, cc, refl, refl, tt)
word_begun keyword.Done body = λ (r, x, (rest, y, end)). (count Done, cc, refl, refl, tt)
word_begun keyword.CountText body = λ (r, x, (p, s, y, (u, z, (t, v, w, (rest, last, end))))). (count_text p t, cc, refl, refl, tt)
word_begun keyword.CountTrue body = λ (r, a, (x, s, b, (rest, c, end))). (count_true x, text_is keyword.CountTrue x body r s rest a b c end, refl, refl, tt)
word_begun keyword.Nobody body = λ end. (nobody, cc, refl, refl, tt)
word_begun keyword.Everybody body = λ end. (everybody, cc, refl, refl, tt)
word_begun keyword.User body = λ (r, a, (x, s, b, (rest, c, end))). (user x, text_is keyword.User x body r s rest a b c end, refl, refl, tt)
word_begun keyword.Group body = λ (r, a, (x, s, b, (rest, c, end))). (group x, text_is keyword.Group x body r s rest a b c end, refl, refl, tt)
word_begun keyword.Union body = λ (r, x, (a, s, fa, y, (u, z, (b, v, fb, w, (rest, last, end))))).
    (union a b, both_is keyword.Union (tokens_of a) (tokens_of b) body r s u v rest x y z w last end, refl, refl, (fa, fb))
word_begun keyword.Intersect body = λ (r, x, (a, s, fa, y, (u, z, (b, v, fb, w, (rest, last, end))))).
    (intersect a b, both_is keyword.Intersect (tokens_of a) (tokens_of b) body r s u v rest x y z w last end, refl, refl, (fa, fb))
word_begun keyword.Except body = λ (r, x, (a, s, fa, y, (u, z, (b, v, fb, w, (rest, last, end))))).
    (except a b, both_is keyword.Except (tokens_of a) (tokens_of b) body r s u v rest x y z w last end, refl, refl, (fa, fb))
word_begun keyword.When body = λ (r, x, (c, s, fc, y, (u, z, (a, v, fa, w, (i, j, (b, k, fb, l, (rest, last, end))))))). (when c a b, cc, refl, refl, (fc, fa, fb))
word_begun _ body = tt

mark_begun : (m : Mark) (body : List Token) → IsBegun (mark m) body (opening_of_mark m)
mark_begun Open body = λ (e, r, fits, x, (rest, y, end)). (brackets e, cc, refl, refl, fits)
mark_begun Minus body = λ (e, rest, fits, is, end). let none = append-nil (tokens_of e) in (negative e, cc, refl, refl, fits)
mark_begun _ body = tt

keyword_begun : (w : List ℕ) (body : List Token) (found : Option Keyword) → keyword_in w ≡ found → IsBegun (word w) body (if_some found opening_of_word)
keyword_begun w body None is = tt
keyword_begun w body (Some k) is = rw (keyword_spelled w k is) (word_begun k body)

pub begun : (t : Token) (body : List Token) → IsBegun t body (opening_in t)
begun (number n) body = λ end. (integer n, cc, refl, refl, tt)
begun (quoted x) body = λ end. (text x, cc, refl, refl, tt)
begun (mark m) body = mark_begun m body
begun (word w) body = keyword_begun w body (keyword_in w) refl

pub begun_by : (t : Token) (body : List Token) (o : Opening) → opening_in t ≡ Some o → Meets (symbols o.behind) body → Begun t body o
begun_by t body o is meets = let P : Option Opening → Type 0 = IsBegun t body in (subst P is (begun t body)) meets
