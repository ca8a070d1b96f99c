-- What the functions that build a tree promise one another.
use Rattle.std.specs.Prelude.{◌≡◌, ◌+◌, ◌<◌, ◌≤◌, ℕ, List, length, [], ◌∷◌, ◌++◌, drop, map}
use Rattle.ht_expr.specs.declared.building.Both.{Both}
use Rattle.ht_expr.specs.declared.building.Read.{Read}
use Rattle.ht_expr.specs.declared.building.ReadAssign.{ReadAssign}
use Rattle.ht_expr.specs.declared.levels.TheConstants as levels
use Rattle.ht_expr.specs.declared.token.Mark.TheVariants.{Open, Close, Comma}
use Rattle.ht_expr.specs.declared.token.Placed.{Placed as BorrowedPlaced}
use Rattle.ht_expr.specs.Scanning.{seen}
use Rattle.ht_expr.specs.Kinds.{Declared}
use Rattle.ht_expr.specs.Nodes.{shown_node}
use Rattle.ht_expr.specs.Shown.{shown, AreDeclared}
use Rattle.ht_expr.specs.Tokens.{Token, mark}
use Rattle.ht_expr.specs.Trees.{Fits, Holds, least, most, tokens_of}

-- the tokens of a text
abbrev pub all : List BorrowedPlaced → List Token
all tokens = map (λ t. seen t.token) tokens

-- from this place on stand these tokens, and then those from another place on
abbrev pub Spans : List BorrowedPlaced → ℕ → List Token → ℕ → Type 0
Spans tokens at spelled next = (at + 1 ≤ next) × (next ≤ length tokens) × (drop at (all tokens) ≡ spelled ++ drop next (all tokens))

-- at this place stands this token
abbrev pub IsAt : List BorrowedPlaced → ℕ → Token → Type 0
IsAt tokens at token = (at < length tokens) × (drop at (all tokens) ≡ token ∷ drop (at + 1) (all tokens))

-- an expression was read where this level was asked for
abbrev pub ReadsExpression : List BorrowedPlaced → ℕ → ℕ → Read → Type 0
ReadsExpression tokens at p r = let e = shown_node r.node in
    Spans tokens at (tokens_of e) r.next × (p ≤ r.level) × (r.level ≡ most e) × (least e ≡ levels.EXPRESSION) × Holds e

-- an assignment was read, with these declared parts
abbrev pub ReadsAssignment : Declared → List BorrowedPlaced → ℕ → ReadAssign → Type 0
ReadsAssignment kinds tokens at r = Spans tokens at (tokens_of (shown r.assign)) r.next × Fits levels.ASSIGNMENT (shown r.assign) × AreDeclared kinds r.assign

-- two assignments in brackets
abbrev pub ReadsOperands : Declared → List BorrowedPlaced → ℕ → Both → Type 0
ReadsOperands kinds tokens at r = let a = shown r.first.value in let b = shown r.second.value in
    Spans tokens at (mark Open ∷ (tokens_of a ++ (mark Comma ∷ (tokens_of b ++ (mark Close ∷ []))))) r.next × Fits levels.ASSIGNMENT a × Fits levels.ASSIGNMENT b
    × AreDeclared kinds r.first.value × AreDeclared kinds r.second.value
