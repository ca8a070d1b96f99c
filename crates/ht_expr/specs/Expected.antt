-- What is still expected of a text while its tokens are looked at one after another.
use Rattle.std.specs.Prelude.{◌≡◌, ℕ, ◌+◌, Bool, true, false, ◌&&◌, ◌||◌, nat_le, bytes_eq, if◌then◌else◌, List, [], ◌∷◌, ◌++◌, ⊤, Option, Some, None, Result, Ok, Err}
use Rattle.ht_expr.specs.declared.expected.Behind.{Behind}
use Rattle.ht_expr.specs.declared.expected.Behind.TheVariants as behind
use Rattle.ht_expr.specs.declared.expected.Opening.{Opening}
use Rattle.ht_expr.specs.declared.expected.Symbol.{Symbol}
use Rattle.ht_expr.specs.declared.expected.Symbol.TheVariants as symbol
use Rattle.ht_expr.specs.declared.keyword.Keyword.{Keyword}
use Rattle.ht_expr.specs.declared.keyword.Keyword.TheVariants as keyword
use Rattle.ht_expr.specs.declared.levels.TheConstants as levels
use Rattle.ht_expr.specs.declared.operator.Operator.{Operator}
use Rattle.ht_expr.specs.declared.operator.Operator.TheVariants as operator
use Rattle.ht_expr.specs.declared.refusal.ExprRefusal.{ExprRefusal}
use Rattle.ht_expr.specs.declared.refusal.ExprRefusal.TheVariants as refusal
use Rattle.ht_expr.specs.declared.token.Mark.{Mark}
use Rattle.ht_expr.specs.declared.token.Mark.TheVariants.{Open, Close, Comma, Dot, Plus, Minus, Times, Equal, NotEqual, Less, LessOrEqual, Greater, GreaterOrEqual}
use Rattle.ht_expr.specs.Keywords.{spelling}
use Rattle.ht_expr.specs.Tokens.{Token, Placed, number, quoted, word, mark, mark_bytes}
use Rattle.ht_expr.specs.Trees.{level, left}
use Rattle.ht_expr.specs.Reading.{bare}

abbrev pub keywords : List Keyword
keywords =
    keyword.If ∷ keyword.Then ∷ keyword.Else ∷ keyword.Or ∷ keyword.And ∷ keyword.Not ∷ keyword.True ∷ keyword.False ∷ keyword.Priority ∷ keyword.Initiator
    ∷ keyword.In ∷ keyword.Out ∷ keyword.Set ∷ keyword.Made ∷ keyword.Finished ∷ keyword.Done ∷ keyword.CountText ∷ keyword.CountTrue
    ∷ keyword.Nobody ∷ keyword.Everybody ∷ keyword.User ∷ keyword.Group ∷ keyword.Union ∷ keyword.Intersect ∷ keyword.Except ∷ keyword.When ∷ []

abbrev pub spelled_so : List ℕ → List Keyword → Option Keyword
spelled_so w [] = None
spelled_so w (k ∷ ks) = if bytes_eq w (spelling k) then Some k else spelled_so w ks

abbrev pub keyword_in : List ℕ → Option Keyword
keyword_in w = spelled_so w keywords

abbrev pub if_some : {A B : Type 0} → Option A → (A → Option B) → Option B
if_some None f = None
if_some (Some a) f = f a

abbrev pub operator_of_mark : Mark → Option Operator
operator_of_mark Equal = Some operator.Equal
operator_of_mark NotEqual = Some operator.NotEqual
operator_of_mark Less = Some operator.Less
operator_of_mark LessOrEqual = Some operator.LessOrEqual
operator_of_mark Greater = Some operator.Greater
operator_of_mark GreaterOrEqual = Some operator.GreaterOrEqual
operator_of_mark Plus = Some operator.Plus
operator_of_mark Minus = Some operator.Minus
operator_of_mark Times = Some operator.Times
operator_of_mark _ = None

abbrev pub operator_of_word : Keyword → Option Operator
operator_of_word keyword.Or = Some operator.Or
operator_of_word keyword.And = Some operator.And
operator_of_word _ = None

abbrev pub operator_in : Token → Option Operator
operator_in (mark m) = operator_of_mark m
operator_in (word w) = if_some (keyword_in w) operator_of_word
operator_in _ = None

-- which tree begins with a token: where it may stand, and what comes behind the token
abbrev pub opens : ℕ → ℕ → Behind → Option Opening
opens low high b = Some (record { least = low; most = high; behind = b })

abbrev pub opening_of_word : Keyword → Option Opening
opening_of_word keyword.If = opens levels.EXPRESSION levels.EXPRESSION behind.Choice
opening_of_word keyword.Not = opens levels.EXPRESSION levels.NOT behind.Negated
opening_of_word keyword.True = opens levels.EXPRESSION levels.ATOM behind.Nothing
opening_of_word keyword.False = opens levels.EXPRESSION levels.ATOM behind.Nothing
opening_of_word keyword.Priority = opens levels.EXPRESSION levels.ATOM behind.Nothing
opening_of_word keyword.Initiator = opens levels.EXPRESSION levels.ASSIGNMENT behind.Nothing
opening_of_word keyword.In = opens levels.EXPRESSION levels.ASSIGNMENT behind.Name
opening_of_word keyword.Out = opens levels.EXPRESSION levels.ATOM behind.Name
opening_of_word keyword.Set = opens levels.EXPRESSION levels.ATOM behind.Part
opening_of_word keyword.Made = opens levels.EXPRESSION levels.ATOM behind.Brackets
opening_of_word keyword.Finished = opens levels.EXPRESSION levels.ATOM behind.Brackets
opening_of_word keyword.Done = opens levels.EXPRESSION levels.ATOM behind.Brackets
opening_of_word keyword.CountText = opens levels.EXPRESSION levels.ATOM behind.Texts
opening_of_word keyword.CountTrue = opens levels.EXPRESSION levels.ATOM behind.Text
opening_of_word keyword.Nobody = opens levels.ASSIGNMENT levels.ASSIGNMENT behind.Nothing
opening_of_word keyword.Everybody = opens levels.ASSIGNMENT levels.ASSIGNMENT behind.Nothing
opening_of_word keyword.User = opens levels.ASSIGNMENT levels.ASSIGNMENT behind.Text
opening_of_word keyword.Group = opens levels.ASSIGNMENT levels.ASSIGNMENT behind.Text
opening_of_word keyword.Union = opens levels.ASSIGNMENT levels.ASSIGNMENT behind.Operands
opening_of_word keyword.Intersect = opens levels.ASSIGNMENT levels.ASSIGNMENT behind.Operands
opening_of_word keyword.Except = opens levels.ASSIGNMENT levels.ASSIGNMENT behind.Operands
opening_of_word keyword.When = opens levels.ASSIGNMENT levels.ASSIGNMENT behind.Branches
opening_of_word _ = None

abbrev pub opening_of_mark : Mark → Option Opening
opening_of_mark Open = opens levels.EXPRESSION levels.ATOM behind.Bracketed
opening_of_mark Minus = opens levels.EXPRESSION levels.UNARY behind.Negative
opening_of_mark _ = None

abbrev pub opening_in : Token → Option Opening
opening_in (number n) = opens levels.EXPRESSION levels.ATOM behind.Nothing
opening_in (quoted x) = opens levels.EXPRESSION levels.ATOM behind.Nothing
opening_in (word w) = if_some (keyword_in w) opening_of_word
opening_in (mark m) = opening_of_mark m

-- what comes behind the first token of a tree
abbrev pub symbols : Behind → List Symbol
symbols behind.Nothing = []
symbols behind.Brackets = symbol.Sign Open ∷ symbol.Sign Close ∷ []
symbols behind.Name = symbol.Sign Dot ∷ symbol.Word ∷ []
symbols behind.Part = symbol.Sign Open ∷ symbol.Part ∷ symbol.Sign Close ∷ []
symbols behind.Text = symbol.Sign Open ∷ symbol.Text ∷ symbol.Sign Close ∷ []
symbols behind.Texts = symbol.Sign Open ∷ symbol.Text ∷ symbol.Sign Comma ∷ symbol.Text ∷ symbol.Sign Close ∷ []
symbols behind.Bracketed = symbol.Tree levels.EXPRESSION ∷ symbol.Sign Close ∷ []
symbols behind.Negated = symbol.Tree levels.NOT ∷ []
symbols behind.Negative = symbol.Tree levels.UNARY ∷ []
symbols behind.Choice = symbol.Tree levels.EXPRESSION ∷ symbol.Then ∷ symbol.Tree levels.EXPRESSION ∷ symbol.Else ∷ symbol.Tree levels.EXPRESSION ∷ []
symbols behind.Operands = symbol.Sign Open ∷ symbol.Tree levels.ASSIGNMENT ∷ symbol.Sign Comma ∷ symbol.Tree levels.ASSIGNMENT ∷ symbol.Sign Close ∷ []
symbols behind.Branches =
    symbol.Sign Open ∷ symbol.Tree levels.EXPRESSION ∷ symbol.Sign Comma ∷ symbol.Tree levels.ASSIGNMENT ∷ symbol.Sign Comma ∷ symbol.Tree levels.ASSIGNMENT ∷ symbol.Sign Close ∷ []

-- a tree, and then operators that may follow it
abbrev pub on_opening : ℕ → List Symbol → Opening → Option (List Symbol)
on_opening p st o =
    if nat_le o.least p && nat_le p o.most then Some (symbols o.behind ++ (symbol.Operators p o.most ∷ st)) else None

-- the operator that the token is, if it may follow an operand of level q where level p is asked for
abbrev pub taken : ℕ → ℕ → Operator → Option Operator
taken p q o = if nat_le p (level o) && nat_le (left o) q then Some o else None

abbrev pub operator_for : ℕ → ℕ → Token → Option Operator
operator_for p q t = if_some (operator_in t) (taken p q)

-- what can't stand here is one of those below
abbrev pub on_operator : ℕ → List Symbol → Option Operator → Option (List Symbol) → Option (List Symbol)
on_operator p st None below = below
on_operator p st (Some o) below = Some (symbol.Tree (level o + 1) ∷ symbol.Operators p (level o) ∷ st)

abbrev pub is_said : List ℕ → Token → Bool
is_said spelled (word w) = bytes_eq w spelled
is_said spelled _ = false

abbrev pub is_side : Token → Bool
is_side t = is_said (spelling keyword.In) t || is_said (spelling keyword.Out) t

abbrev pub on_part : List Symbol → Token → Option (List Symbol)
on_part st t = if is_side t then Some (symbol.Sign Dot ∷ symbol.Word ∷ st) else None

abbrev pub is_text : Token → Bool
is_text (quoted x) = true
is_text _ = false

abbrev pub is_word : Token → Bool
is_word (word w) = true
is_word _ = false

abbrev pub is_sign : Mark → Token → Bool
is_sign m (mark k) = bytes_eq (mark_bytes k) (mark_bytes m)
is_sign m _ = false

abbrev pub on_test : Bool → List Symbol → Option (List Symbol)
on_test b st = if b then Some st else None

-- what is expected behind a token; none: it can't stand here
abbrev pub next : List Symbol → Token → Option (List Symbol)
next [] t = None
next (symbol.Tree p ∷ st) t = if_some (opening_in t) (on_opening p st)
next (symbol.Operators p q ∷ st) t = on_operator p st (operator_for p q t) (next st t)
next (symbol.Part ∷ st) t = on_part st t
next (symbol.Text ∷ st) t = on_test (is_text t) st
next (symbol.Word ∷ st) t = on_test (is_word t) st
next (symbol.Sign m ∷ st) t = on_test (is_sign m t) st
next (symbol.Then ∷ st) t = on_test (is_said (spelling keyword.Then) t) st
next (symbol.Else ∷ st) t = on_test (is_said (spelling keyword.Else) t) st

-- and behind several
abbrev pub run : List Symbol → List Token → Option (List Symbol)
run st [] = Some st
run st (t ∷ ts) = if_some (next st t) (λ s. run s ts)

-- nothing more need come
abbrev pub is_done : List Symbol → Bool
is_done [] = true
is_done (symbol.Operators p q ∷ st) = is_done st
is_done _ = false

-- where the first of these stands, or else the end
abbrev pub place_of : List Placed → ℕ → ℕ
place_of [] end = end
place_of (t ∷ ts) end = t.at

-- what is expected can't go on with these
abbrev pub IsStuck : List Symbol → List Placed → Type 0
IsStuck st [] = is_done st ≡ false
IsStuck st (t ∷ ts) = next st t.token ≡ None

-- the tokens from this place on can't stand there
abbrev pub Breaks : ℕ → List Placed → ℕ → ℕ → Type 0
Breaks p tokens end at =
    (front : List Placed) × (rest : List Placed) × (st : List Symbol) × (tokens ≡ front ++ rest) × (place_of rest end ≡ at)
    × (run (symbol.Tree p ∷ []) (bare front) ≡ Some st) × IsStuck st rest

-- the tokens are a tree of this level, or they break somewhere
abbrev pub Checks : {T : Type 0} → ℕ → List Placed → ℕ → Result T ExprRefusal → Type 0
Checks p tokens end (Ok _) = (st : List Symbol) × (run (symbol.Tree p ∷ []) (bare tokens) ≡ Some st) × (is_done st ≡ true)
Checks p tokens end (Err (refusal.Shape at)) = Breaks p tokens end at
Checks p tokens end (Err refusal.Memory) = ⊤
Checks p tokens end (Err _) = ⊥
