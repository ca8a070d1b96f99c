-- Tokens are one tree at most.
use Rattle.std.proofs.Common.{◌≡◌, ℕ, ◌+◌, ◌≤◌, Bool, true, false, List, [], ◌∷◌, ◌++◌, drop, Option, Some, None, refl, ap, sym, subst, ◌∙◌, append_assoc, arith}
use Rattle.std.specs.Prelude.{⊤}
use Rattle.ht_expr.specs.declared.node.Count.{Count}
use Rattle.ht_expr.specs.declared.node.Count.TheVariants.{Made, Finished, Done}
use Rattle.ht_expr.specs.declared.keyword.Keyword.{Keyword}
use Rattle.ht_expr.specs.declared.keyword.Keyword.TheVariants as keyword
use Rattle.ht_expr.specs.declared.kinds.Side.{Side}
use Rattle.ht_expr.specs.declared.kinds.Side.TheVariants.{Input, Output}
use Rattle.ht_expr.specs.declared.operator.Operator.{Operator}
use Rattle.ht_expr.specs.declared.token.Mark.TheVariants.{Close, Comma}
use Rattle.ht_expr.specs.Expected.{keyword_in, operator_in}
use Rattle.ht_expr.specs.Keywords.{said}
use Rattle.ht_expr.specs.Tokens.{Token, number, quoted, word, mark}
use Rattle.ht_expr.specs.Trees.{Tree, Fits, Holds, left, level, most, count_word, side_word, sign_of, truth_word, tokens_of, integer, text, truth, priority, initiator, part, is_set, count, count_text, count_true, brackets, negative, opposite, binary, choice}
use Rattle.ht_expr.specs.Trees.{nobody, everybody, user, group, union, intersect, except, when}
use Rattle.ht_expr.proofs.Following.{chain_more, first, weaker}
use Rattle.ht_expr.proofs.Fulfilling.{joined, joined_tokens}
use Rattle.ht_expr.proofs.Forms.{tag, tag_is, token_tag, rebuilt, rebuilt_is, truth_of, side_of, count_of, text_of, other_text, first_in, second_in, third_in}
use Rattle.ht_expr.proofs.Heads.{IsHead}
use Rattle.ht_expr.proofs.Meanings.{Chain, Link, spell}
use Rattle.ht_expr.proofs.Operators.{binds, closed, operator_is}

-- ---- what can't go on with an operator of a level

abbrev Follows : ℕ → List Token → Type 0
Follows p [] = ⊤
Follows p (t ∷ ts) = (o : Operator) → operator_in t ≡ Some o → p ≤ level o → ⊥

-- a tree of its level, and what follows it, are determined by their tokens
abbrev IsOne : Tree → Type 0
IsOne e = (d : Tree) (p : ℕ) (r s : List Token) → Fits p e → Fits p d → Follows p r → Follows p s → tokens_of e ++ r ≡ tokens_of d ++ s → (e ≡ d) × (r ≡ s)

abbrev Parts : (Tree → Type 0) → Tree → Type 0
Parts P (brackets e) = P e
Parts P (negative e) = P e
Parts P (opposite e) = P e
Parts P (binary o l r) = Parts P l × P r
Parts P (choice c a b) = P c × P a × P b
Parts P (union a b) = P a × P b
Parts P (intersect a b) = P a × P b
Parts P (except a b) = P a × P b
Parts P (when c a b) = P c × P a × P b
Parts P _ = ⊤

abbrev Linked : (Tree → Type 0) → List Link → Type 0
Linked P [] = ⊤
Linked P (c ∷ more) = P c.1 × Linked P more

no_operator : (t : Token) (ts : List Token) (p : ℕ) → operator_in t ≡ None → Follows p (t ∷ ts)
no_operator t ts p none o is le = cc

high : (p : ℕ) (ts : List Token) → 7 ≤ p → Follows p ts
high p [] le = tt
high p (t ∷ ts) le = λ o is low. let b = binds o in omega arith

higher : (p k : ℕ) (ts : List Token) → p ≤ k → Follows p ts → Follows k ts
higher p k [] le follows = tt
higher p k (t ∷ ts) le follows = λ o is low. follows o is (omega arith)

closed_most : (h : Tree) (o : Operator) → IsHead h → most h ≤ level o → left o ≤ most h → ⊥
closed_most (binary a l r) o head le lt = absurd head
closed_most (opposite e) o head le lt = closed o le lt
closed_most (part Input w) o head le lt = let b = binds o in omega arith
closed_most (part Output w) o head le lt = let b = binds o in omega arith
closed_most _ o head le lt = let b = binds o in omega arith

behind_chain : (ch : List Link) (p q k : ℕ) (r : List Token) → Chain p q ch → p ≤ k → Follows p r → ((o : Operator) → k ≤ level o → left o ≤ q → ⊥) → Follows k (spell ch ++ r)
behind_chain [] p q k r chain le follows not = higher p k r le follows
behind_chain (c ∷ more) p q k r chain le follows not = λ o is low. let same : Some c.0 ≡ Some o = sym (operator_is c.0) ∙ is in let e : c.0 ≡ o = cc in not c.0 (rw e low) chain.1

behind_head : (h : Tree) (p : ℕ) (ch : List Link) (r : List Token) → IsHead h → Fits p h → Chain p (most h) ch → Follows p r → Follows (most h) (spell ch ++ r)
behind_head h p ch r head fits chain follows = behind_chain ch p (most h) (most h) r chain fits.1 follows (λ o le lt. closed_most h o head le lt)

-- ---- heads

letters : Token → Option Keyword
letters (number n) = None
letters (quoted x) = None
letters (word w) = keyword_in w
letters (mark m) = None

truth_in : Option Keyword → Bool
truth_in (Some keyword.True) = true
truth_in _ = false

side_in : Option Keyword → Side
side_in (Some keyword.In) = Input
side_in _ = Output

count_in : Option Keyword → Count
count_in (Some keyword.Made) = Made
count_in (Some keyword.Finished) = Finished
count_in _ = Done

truth_is : (b : Bool) → truth_in (letters (said (truth_word b))) ≡ b
unfolding truth_in letters
truth_is true = refl
truth_is false = refl

side_is : (a : Side) → side_in (letters (said (side_word a))) ≡ a
unfolding side_in letters
side_is Input = refl
side_is Output = refl

count_is : (c : Count) → count_in (letters (said (count_word c))) ≡ c
unfolding count_in letters
count_is Made = refl
count_is Finished = refl
count_is Done = refl

truth_one : (a b : Bool) → said (truth_word a) ≡ said (truth_word b) → a ≡ b
truth_one a b is = sym (truth_is a) ∙ ap (λ t. truth_in (letters t)) is ∙ truth_is b

side_one : (a b : Side) → said (side_word a) ≡ said (side_word b) → a ≡ b
side_one a b is = sym (side_is a) ∙ ap (λ t. side_in (letters t)) is ∙ side_is b

count_one : (a b : Count) → said (count_word a) ≡ said (count_word b) → a ≡ b
count_one a b is = sym (count_is a) ∙ ap (λ t. count_in (letters t)) is ∙ count_is b

choice_tokens : (c a b : Tree) (r : List Token) → (tokens_of c ++ (said keyword.Then ∷ (tokens_of a ++ (said keyword.Else ∷ tokens_of b)))) ++ r
    ≡ tokens_of c ++ (said keyword.Then ∷ (tokens_of a ++ (said keyword.Else ∷ (tokens_of b ++ r))))
choice_tokens c a b r =
    append_assoc (tokens_of c) (said keyword.Then ∷ (tokens_of a ++ (said keyword.Else ∷ tokens_of b))) r
    ∙ ap (λ l. tokens_of c ++ (said keyword.Then ∷ l)) (append_assoc (tokens_of a) (said keyword.Else ∷ tokens_of b) r)

both_tokens : (a b : Tree) (r : List Token) → (tokens_of a ++ (mark Comma ∷ (tokens_of b ++ (mark Close ∷ [])))) ++ r ≡ tokens_of a ++ (mark Comma ∷ (tokens_of b ++ (mark Close ∷ r)))
both_tokens a b r =
    append_assoc (tokens_of a) (mark Comma ∷ (tokens_of b ++ (mark Close ∷ []))) r ∙ ap (λ l. tokens_of a ++ (mark Comma ∷ l)) (append_assoc (tokens_of b) (mark Close ∷ []) r)

choices : (c a b d f g : Tree) (r s : List Token) → IsOne c → IsOne a → IsOne b → Holds (choice c a b) → Holds (choice d f g) → Follows 0 r → Follows 0 s
    → (tokens_of c ++ (said keyword.Then ∷ (tokens_of a ++ (said keyword.Else ∷ tokens_of b)))) ++ r ≡ (tokens_of d ++ (said keyword.Then ∷ (tokens_of f ++ (said keyword.Else ∷ tokens_of g)))) ++ s
    → (c ≡ d) × (a ≡ f) × (b ≡ g) × (r ≡ s)
choices c a b d f g r s one_c one_a one_b x y follows other is =
    let test = one_c d 0 (said keyword.Then ∷ (tokens_of a ++ (said keyword.Else ∷ (tokens_of b ++ r)))) (said keyword.Then ∷ (tokens_of f ++ (said keyword.Else ∷ (tokens_of g ++ s)))) x.0 y.0
    (no_operator (said keyword.Then) (tokens_of a ++ (said keyword.Else ∷ (tokens_of b ++ r))) 0 refl) (no_operator (said keyword.Then) (tokens_of f ++ (said keyword.Else ∷ (tokens_of g ++ s))) 0 refl) (sym (choice_tokens c a b r) ∙ is ∙ choice_tokens d f g s) in
    let middle = one_a f 0 (said keyword.Else ∷ (tokens_of b ++ r)) (said keyword.Else ∷ (tokens_of g ++ s)) x.1 y.1
    (no_operator (said keyword.Else) (tokens_of b ++ r) 0 refl) (no_operator (said keyword.Else) (tokens_of g ++ s) 0 refl) (ap (drop 1) test.1) in
    let other_one = one_b g 0 r s x.2 y.2 follows other (ap (drop 1) middle.1) in
    (test.0, middle.0, other_one.0, other_one.1)

operands : (a b c d : Tree) (r s : List Token) → IsOne a → IsOne b → Fits 9 a × Fits 9 b → Fits 9 c × Fits 9 d
    → (tokens_of a ++ (mark Comma ∷ (tokens_of b ++ (mark Close ∷ [])))) ++ r ≡ (tokens_of c ++ (mark Comma ∷ (tokens_of d ++ (mark Close ∷ [])))) ++ s → (a ≡ c) × (b ≡ d) × (r ≡ s)
operands a b c d r s one_a one_b x y is =
    let one = one_a c 9 (mark Comma ∷ (tokens_of b ++ (mark Close ∷ r))) (mark Comma ∷ (tokens_of d ++ (mark Close ∷ s))) x.0 y.0
    (high 9 (mark Comma ∷ (tokens_of b ++ (mark Close ∷ r))) (omega arith)) (high 9 (mark Comma ∷ (tokens_of d ++ (mark Close ∷ s))) (omega arith)) (sym (both_tokens a b r) ∙ is ∙ both_tokens c d s) in
    let two = one_b d 9 (mark Close ∷ r) (mark Close ∷ s) x.1 y.1 (high 9 (mark Close ∷ r) (omega arith)) (high 9 (mark Close ∷ s) (omega arith)) (ap (drop 1) one.1) in
    (one.0, two.0, ap (drop 1) two.1)

branches : (c a b d f g : Tree) (r s : List Token) → IsOne c → IsOne a → IsOne b → Holds (when c a b) → Holds (when d f g)
    → tokens_of (when c a b) ++ r ≡ tokens_of (when d f g) ++ s → (c ≡ d) × (a ≡ f) × (b ≡ g) × (r ≡ s)
branches c a b d f g r s one_c one_a one_b x y is =
    let x_rest = mark Comma ∷ (tokens_of a ++ (mark Comma ∷ (tokens_of b ++ (mark Close ∷ [])))) in
    let y_rest = mark Comma ∷ (tokens_of f ++ (mark Comma ∷ (tokens_of g ++ (mark Close ∷ [])))) in
    let test = one_c d 0 (x_rest ++ r) (y_rest ++ s) x.0 y.0 (no_operator (mark Comma) ((tokens_of a ++ (mark Comma ∷ (tokens_of b ++ (mark Close ∷ [])))) ++ r) 0 refl) (no_operator (mark Comma) ((tokens_of f ++ (mark Comma ∷ (tokens_of g ++ (mark Close ∷ [])))) ++ s) 0 refl)
    (sym (append_assoc (tokens_of c) x_rest r) ∙ ap (drop 2) is ∙ append_assoc (tokens_of d) y_rest s) in
    let both = operands a b f g r s one_a one_b (x.1, x.2) (y.1, y.2) (ap (drop 1) test.1) in
    (test.0, both.0, both.1, both.2)

abbrev Same : Tree → ℕ → List Token → List Token → Tree → Type 0
Same h p r s d = Fits p d → Follows (most d) s → tokens_of h ++ r ≡ tokens_of d ++ s → (h ≡ d) × (r ≡ s)

-- trees of one tag are compared by what they hold
by_tag : (h d : Tree) (n p : ℕ) (r s : List Token) → n ≡ tag d → Same h p r s (rebuilt n d) → Same h p r s d
by_tag h d n p r s is = let same : rebuilt n d ≡ d = ap (λ k. rebuilt k d) is ∙ rebuilt_is d in subst (Same h p r s) same

heads : (h d : Tree) (p : ℕ) (r s : List Token) → tag h ≡ tag d → IsHead h → Fits p h → Parts IsOne h → Follows (most h) r → Same h p r s d
heads (integer n) d p r s tags head x one u = by_tag (integer n) d 0 p r s tags (λ y v is. (cc, ap (drop 1) is))
heads (text x0) d p r s tags head x one u = by_tag (text x0) d 1 p r s tags (λ y v is. (cc, ap (drop 1) is))
heads (truth b) d p r s tags head x one u = by_tag (truth b) d 2 p r s tags (λ y v is. (ap truth (truth_one b (truth_of d) (ap first is)), ap (drop 1) is))
heads priority d p r s tags head x one u = by_tag priority d 4 p r s tags (λ y v is. (refl, ap (drop 1) is))
heads initiator d p r s tags head x one u = by_tag initiator d 5 p r s tags (λ y v is. (refl, ap (drop 1) is))
heads (part side w) d p r s tags head x one u = by_tag (part side w) d 6 p r s tags (λ y v is. (let same = side_one side (side_of d) (ap first is) in let names : word w ≡ word (text_of d) = ap (λ l. first (drop 2 l)) is in cc, ap (drop 3) is))
heads (is_set side w) d p r s tags head x one u = by_tag (is_set side w) d 8 p r s tags (λ y v is. (let same = side_one side (side_of d) (ap (λ l. first (drop 2 l)) is) in let names : word w ≡ word (text_of d) = ap (λ l. first (drop 4 l)) is in cc, ap (drop 6) is))
heads (count b) d p r s tags head x one u = by_tag (count b) d 9 p r s tags (λ y v is. (ap count (count_one b (count_of d) (ap first is)), ap (drop 3) is))
heads (count_text x0 z) d p r s tags head x one u = by_tag (count_text x0 z) d 12 p r s tags (λ y v is. (let one_text : quoted x0 ≡ quoted (text_of d) = ap (λ l. first (drop 2 l)) is in let other_text : quoted z ≡ quoted (other_text d) = ap (λ l. first (drop 4 l)) is in cc, ap (drop 6) is))
heads (count_true x0) d p r s tags head x one u = by_tag (count_true x0) d 13 p r s tags (λ y v is. (let names : quoted x0 ≡ quoted (text_of d) = ap (λ l. first (drop 2 l)) is in cc, ap (drop 4) is))
heads (brackets e) d p r s tags head x one u = by_tag (brackets e) d 14 p r s tags (λ y v is. let i = one (first_in d) 0 (mark Close ∷ r) (mark Close ∷ s) x.2 y.2 (no_operator (mark Close) r 0 refl) (no_operator (mark Close) s 0 refl) (sym (append_assoc (tokens_of e) (mark Close ∷ []) r) ∙ ap (drop 1) is ∙ append_assoc (tokens_of (first_in d)) (mark Close ∷ []) s) in (ap brackets i.0, ap (drop 1) i.1))
heads (negative e) d p r s tags head x one u = by_tag (negative e) d 15 p r s tags (λ y v is. let i = one (first_in d) 7 r s x.2 y.2 u v (ap (drop 1) is) in (ap negative i.0, i.1))
heads (opposite e) d p r s tags head x one u = by_tag (opposite e) d 16 p r s tags (λ y v is. let i = one (first_in d) 3 r s x.2 y.2 u v (ap (drop 1) is) in (ap opposite i.0, i.1))
heads (choice c a b) d p r s tags head x one u = by_tag (choice c a b) d 17 p r s tags (λ y v is. let i = choices c a b (first_in d) (second_in d) (third_in d) r s one.0 one.1 one.2 x.2 y.2 u v (ap (drop 1) is) in (ap (λ t. choice t a b) i.0 ∙ ap (λ t. choice (first_in d) t b) i.1 ∙ ap (choice (first_in d) (second_in d)) i.2, i.3))
heads nobody d p r s tags head x one u = by_tag nobody d 18 p r s tags (λ y v is. (refl, ap (drop 1) is))
heads everybody d p r s tags head x one u = by_tag everybody d 19 p r s tags (λ y v is. (refl, ap (drop 1) is))
heads (user x0) d p r s tags head x one u = by_tag (user x0) d 20 p r s tags (λ y v is. (let names : quoted x0 ≡ quoted (text_of d) = ap (λ l. first (drop 2 l)) is in cc, ap (drop 4) is))
heads (group x0) d p r s tags head x one u = by_tag (group x0) d 21 p r s tags (λ y v is. (let names : quoted x0 ≡ quoted (text_of d) = ap (λ l. first (drop 2 l)) is in cc, ap (drop 4) is))
heads (union a b) d p r s tags head x one u = by_tag (union a b) d 22 p r s tags (λ y v is. let i = operands a b (first_in d) (second_in d) r s one.0 one.1 x.2 y.2 (ap (drop 2) is) in (ap (λ t. union t b) i.0 ∙ ap (union (first_in d)) i.1, i.2))
heads (intersect a b) d p r s tags head x one u = by_tag (intersect a b) d 23 p r s tags (λ y v is. let i = operands a b (first_in d) (second_in d) r s one.0 one.1 x.2 y.2 (ap (drop 2) is) in (ap (λ t. intersect t b) i.0 ∙ ap (intersect (first_in d)) i.1, i.2))
heads (except a b) d p r s tags head x one u = by_tag (except a b) d 24 p r s tags (λ y v is. let i = operands a b (first_in d) (second_in d) r s one.0 one.1 x.2 y.2 (ap (drop 2) is) in (ap (λ t. except t b) i.0 ∙ ap (except (first_in d)) i.1, i.2))
heads (when c a b) d p r s tags head x one u = by_tag (when c a b) d 25 p r s tags (λ y v is. let i = branches c a b (first_in d) (second_in d) (third_in d) r s one.0 one.1 one.2 x.2 y.2 is in (ap (λ t. when t a b) i.0 ∙ ap (λ t. when (first_in d) t b) i.1 ∙ ap (when (first_in d) (second_in d)) i.2, i.3))
heads (binary o l r) d p q s tags head x one u = absurd head

-- ---- operands, and operators behind them

record IsSplit (P : Tree → Type 0) (p : ℕ) (e h : Tree) (ch : List Link) : Type 0 where
  pub head : IsHead h
  pub fits : Fits p h
  pub chain : Chain p (most h) ch
  pub is : e ≡ joined h ch
  pub parts : Parts P h
  pub linked : Linked P ch

abbrev Split : (Tree → Type 0) → ℕ → Tree → Type 0
Split P p e = (h : Tree) × (ch : List Link) × IsSplit P p e h ch

joined_more : (ch : List Link) (h : Tree) (o : Operator) (r : Tree) → joined h (ch ++ (o, r) ∷ []) ≡ binary o (joined h ch) r
joined_more [] h o r = refl
joined_more (c ∷ more) h o r = joined_more more (binary c.0 h c.1) o r

linked_more : (P : Tree → Type 0) (ch : List Link) (o : Operator) (r : Tree) → Linked P ch → P r → Linked P (ch ++ (o, r) ∷ [])
linked_more P [] o r linked last = (last, tt)
linked_more P (c ∷ more) o r linked last = (linked.0, linked_more P more o r linked.1 last)

binary_split : (P : Tree → Type 0) (p : ℕ) (o : Operator) (l r : Tree) → Fits p (binary o l r) → P r → Split P (left o) l → Split P p (binary o l r)
binary_split P p o l r fits last (h, ch, s) = (
  h,
  ch ++ (o, r) ∷ [],
  record {
    head = s.head;
    fits = weaker p o h fits.1 s.fits;
    chain = chain_more p (most h) ch o r fits.1 s.fits.1 fits.2.1 s.chain;
    is = ap (λ t. binary o t r) s.is ∙ sym (joined_more ch h o r);
    parts = s.parts;
    linked = linked_more P ch o r s.linked last;
  },
)

alone : (P : Tree → Type 0) (p : ℕ) (h : Tree) → IsHead h → Fits p h → Parts P h → Split P p h
alone P p h head fits parts = (h, [], record { head = head; fits = fits; chain = tt; is = refl; parts = parts; linked = tt })

split : (P : Tree → Type 0) (e : Tree) (p : ℕ) → Fits p e → Parts P e → Split P p e
split P (binary o l r) p fits parts = binary_split P p o l r fits parts.1 (split P l (left o) fits.2.0 parts.0)
split P (integer n) p fits parts = alone P p (integer n) tt fits parts
split P (text x) p fits parts = alone P p (text x) tt fits parts
split P (truth b) p fits parts = alone P p (truth b) tt fits parts
split P priority p fits parts = alone P p priority tt fits parts
split P initiator p fits parts = alone P p initiator tt fits parts
split P (part side w) p fits parts = alone P p (part side w) tt fits parts
split P (is_set side w) p fits parts = alone P p (is_set side w) tt fits parts
split P (count c) p fits parts = alone P p (count c) tt fits parts
split P (count_text t x) p fits parts = alone P p (count_text t x) tt fits parts
split P (count_true t) p fits parts = alone P p (count_true t) tt fits parts
split P (brackets e) p fits parts = alone P p (brackets e) tt fits parts
split P (negative e) p fits parts = alone P p (negative e) tt fits parts
split P (opposite e) p fits parts = alone P p (opposite e) tt fits parts
split P (choice c a b) p fits parts = alone P p (choice c a b) tt fits parts
split P nobody p fits parts = alone P p nobody tt fits parts
split P everybody p fits parts = alone P p everybody tt fits parts
split P (user x) p fits parts = alone P p (user x) tt fits parts
split P (group x) p fits parts = alone P p (group x) tt fits parts
split P (union a b) p fits parts = alone P p (union a b) tt fits parts
split P (intersect a b) p fits parts = alone P p (intersect a b) tt fits parts
split P (except a b) p fits parts = alone P p (except a b) tt fits parts
split P (when c a b) p fits parts = alone P p (when c a b) tt fits parts

abbrev Any : Tree → Type 0
Any e = ⊤

any_parts : (e : Tree) → Parts Any e
any_parts (binary o l r) = (any_parts l, tt)
any_parts (choice c a b) = (tt, tt, tt)
any_parts (union a b) = (tt, tt)
any_parts (intersect a b) = (tt, tt)
any_parts (except a b) = (tt, tt)
any_parts (when c a b) = (tt, tt, tt)
any_parts _ = tt

link_one : (a b : Operator) (x y : Tree) (xs ys : List Link) → a ≡ b → x ≡ y → xs ≡ ys → (a, x) ∷ xs ≡ (b, y) ∷ ys
link_one a b x y xs ys e f g = ap (λ o. (o, x) ∷ xs) e ∙ ap (λ t. (b, t) ∷ xs) f ∙ ap (λ l. (b, y) ∷ l) g

chains : (ch dh : List Link) (p q : ℕ) (r s : List Token) → Chain p q ch → Chain p q dh → Linked IsOne ch → Follows p r → Follows p s → spell ch ++ r ≡ spell dh ++ s → (ch ≡ dh) × (r ≡ s)
chains [] [] p q r s x y one u v is = (refl, is)
chains [] (d ∷ more) p q r s x y one u v is = absurd ((subst (λ l. Follows p l) is u) d.0 (operator_is d.0) y.0)
chains (c ∷ more) [] p q r s x y one u v is = absurd ((subst (λ l. Follows p l) (sym is) v) c.0 (operator_is c.0) x.0)
chains (c ∷ more) (d ∷ rest) p q r s x y one u v is =
    let signs : sign_of c.0 ≡ sign_of d.0 = ap first is in
    let found : Some c.0 ≡ Some d.0 = sym (operator_is c.0) ∙ ap operator_in signs ∙ operator_is d.0 in
    let e : c.0 ≡ d.0 = cc in
    let fits : Fits (level c.0 + 1) d.1 = subst (λ o. Fits (level o + 1) d.1) (sym e) y.2 in
    let chain : Chain p (level c.0) rest = subst (λ o. Chain p (level o) rest) (sym e) y.3 in
    let not = λ (o : Operator) (low : level c.0 + 1 ≤ level o) (lt : left o ≤ level c.0). let b = binds o in let none : ⊥ = omega arith in none in
    let right = one.0 d.1 (level c.0 + 1) (spell more ++ r) (spell rest ++ s) x.2 fits
    (behind_chain more p (level c.0) (level c.0 + 1) r x.3 (let low = x.0 in omega arith) u not) (behind_chain rest p (level c.0) (level c.0 + 1) s chain (let low = x.0 in omega arith) v not)
    (sym (append_assoc (tokens_of c.1) (spell more) r) ∙ ap (drop 1) is ∙ append_assoc (tokens_of d.1) (spell rest) s) in
    let tails = chains more rest p (level c.0) r s x.3 chain one.1 u v right.1 in
    (link_one c.0 d.0 c.1 d.1 more rest e right.0 tails.0, tails.1)

tokens_split : (e h : Tree) (ch : List Link) (r : List Token) → e ≡ joined h ch → tokens_of e ++ r ≡ tokens_of h ++ (spell ch ++ r)
tokens_split e h ch r is = ap (λ t. tokens_of t ++ r) is ∙ ap (λ l. l ++ r) (joined_tokens ch h) ∙ append_assoc (tokens_of h) (spell ch) r

both_splits : (e d : Tree) (p : ℕ) (r s : List Token) → Split IsOne p e → Split Any p d → Follows p r → Follows p s → tokens_of e ++ r ≡ tokens_of d ++ s → (e ≡ d) × (r ≡ s)
both_splits e d p r s (h, ch, x) (k, dh, y) u v is =
    let all : tokens_of h ++ (spell ch ++ r) ≡ tokens_of k ++ (spell dh ++ s) = sym (tokens_split e h ch r x.is) ∙ is ∙ tokens_split d k dh s y.is in
    let tags : tag h ≡ tag k = sym (tag_is h (spell ch ++ r) x.head) ∙ ap (λ l. token_tag (first l)) all ∙ tag_is k (spell dh ++ s) y.head in
    let (same, behind) = heads h k p (spell ch ++ r) (spell dh ++ s) tags x.head x.fits x.parts (behind_head h p ch r x.head x.fits x.chain u) y.fits (behind_head k p dh s y.head y.fits y.chain v) all in
    let chain : Chain p (most h) dh = subst (λ t. Chain p (most t) dh) (sym same) y.chain in
    let (links, rest) = chains ch dh p (most h) r s x.chain chain x.linked u v behind in
    (x.is ∙ ap (λ t. joined t ch) same ∙ ap (joined k) links ∙ sym y.is, rest)

one_of : (e : Tree) → Parts IsOne e → IsOne e
one_of e parts d p r s x y u v is = both_splits e d p r s (split IsOne e p x parts) (split Any d p y (any_parts d)) u v is

both : (e : Tree) → IsOne e × Parts IsOne e
both (brackets e) = let a = both e in (one_of (brackets e) a.0, a.0)
both (negative e) = let a = both e in (one_of (negative e) a.0, a.0)
both (opposite e) = let a = both e in (one_of (opposite e) a.0, a.0)
both (binary o l r) = let a = both l in let b = both r in (one_of (binary o l r) (a.1, b.0), (a.1, b.0))
both (choice c a b) = let x = both c in let y = both a in let z = both b in (one_of (choice c a b) (x.0, y.0, z.0), (x.0, y.0, z.0))
both (when c a b) = let x = both c in let y = both a in let z = both b in (one_of (when c a b) (x.0, y.0, z.0), (x.0, y.0, z.0))
both (union a b) = let x = both a in let y = both b in (one_of (union a b) (x.0, y.0), (x.0, y.0))
both (intersect a b) = let x = both a in let y = both b in (one_of (intersect a b) (x.0, y.0), (x.0, y.0))
both (except a b) = let x = both a in let y = both b in (one_of (except a b) (x.0, y.0), (x.0, y.0))
both (integer n) = (one_of (integer n) tt, tt)
both (text x) = (one_of (text x) tt, tt)
both (truth b) = (one_of (truth b) tt, tt)
both priority = (one_of priority tt, tt)
both initiator = (one_of initiator tt, tt)
both (part side w) = (one_of (part side w) tt, tt)
both (is_set side w) = (one_of (is_set side w) tt, tt)
both (count c) = (one_of (count c) tt, tt)
both (count_text t x) = (one_of (count_text t x) tt, tt)
both (count_true t) = (one_of (count_true t) tt, tt)
both nobody = (one_of nobody tt, tt)
both everybody = (one_of everybody tt, tt)
both (user x) = (one_of (user x) tt, tt)
both (group x) = (one_of (group x) tt, tt)

pub one_tree : (p : ℕ) (e d : Tree) → Fits p e → Fits p d → tokens_of e ≡ tokens_of d → e ≡ d
one_tree p e d x y is = let one = (both e).0 d p [] [] x y tt tt (ap (λ l. l ++ []) is) in one.0
