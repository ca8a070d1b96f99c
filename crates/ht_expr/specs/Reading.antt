-- What reading a text answers.
use Rattle.std.specs.Prelude.{◌≡◌, ◌≢◌, ◌⊎◌, ◌<◌, ◌≤◌, ℕ, true, false, IsTrue, List, [], ◌∷◌, ◌++◌, ⊤, length, map, Result, Ok, Err}
use Rattle.std.specs.List.{list_all}
use Rattle.std.specs.Str.{IsUtf8}
use Rattle.ht_base.specs.declared.limits.TheConstants.{MOST_TOKENS}
use Rattle.ht_expr.specs.declared.refusal.ExprRefusal.{ExprRefusal}
use Rattle.ht_expr.specs.declared.refusal.ExprRefusal.TheVariants as refusal
use Rattle.ht_expr.specs.KindTable.{kinds_fit}
use Rattle.ht_expr.specs.Kinds.{Declared}
use Rattle.ht_expr.specs.Tokens.{Token, Placed, number, quoted, word, mark, greatest_number, is_text_byte, is_word, AreTokens, HasNoTokenAt}
use Rattle.ht_expr.specs.Trees.{Tree, AreTree}

-- the tokens without their places
abbrev pub bare : List Placed → List Token
bare tokens = map (λ t. t.token) tokens

-- the token can be written: it has a spelling in UTF-8
abbrev pub IsWritable : Token → Type 0
IsWritable (number n) = n ≤ greatest_number
IsWritable (quoted x) = IsUtf8 x × IsTrue (list_all is_text_byte x)
IsWritable (word w) = IsTrue (is_word w)
IsWritable (mark m) = ⊤

abbrev pub AreWritable : List Token → Type 0
AreWritable [] = ⊤
AreWritable (t ∷ ts) = IsWritable t × AreWritable ts

-- the tokens are a text of the grammar: they can be written, and are a tree of this level
abbrev pub IsText : ℕ → List Token → Type 0
IsText level tokens = AreWritable tokens × ((tree : Tree) × AreTree level tokens tree)

-- these tokens, and perhaps more behind them, are a text of the grammar
abbrev pub Begins : (List Token → Type 0) → List Token → Type 0
Begins IsWhole tokens = (more : List Token) × IsWhole (tokens ++ more)

-- here is the first token that no text of the grammar with the tokens before it can have there
abbrev pub StopsBefore : (List Token → Type 0) → List Placed → ℕ → Type 0
StopsBefore IsWhole tokens at =
    (before : List Placed) × (token : Placed) × (behind : List Placed)
    × (tokens ≡ before ++ token ∷ behind) × (token.at ≡ at)
    × Begins IsWhole (bare before) × (Begins IsWhole (bare before ++ token.token ∷ []) → ⊥)

-- the tokens begin a text of the grammar and are none
abbrev pub EndsEarly : (List Token → Type 0) → List Placed → Type 0
EndsEarly IsWhole tokens = Begins IsWhole (bare tokens) × (IsWhole (bare tokens) → ⊥)

-- the tokens are no text of the grammar: the place of the first that can't stand where it does, or the end
abbrev pub HasShapeFault : (List Token → Type 0) → List Placed → ℕ → ℕ → Type 0
HasShapeFault IsWhole tokens end at = StopsBefore IsWhole tokens at ⊎ (EndsEarly IsWhole tokens × (at ≡ end))

-- the text has these tokens, and not too many
abbrev pub HasTokens : List ℕ → List Placed → Type 0
HasTokens text tokens = AreTokens text tokens × (length tokens ≤ MOST_TOKENS)

-- the text is written as this tree of this level, whatever its kinds
abbrev pub IsWritten : ℕ → List ℕ → Tree → Type 0
IsWritten level text tree = (tokens : List Placed) × HasTokens text tokens × AreWritable (bare tokens) × AreTree level (bare tokens) tree

-- the text is this tree, or is refused so: the first cause, in this order, that it has. Want of memory is free
abbrev pub Reads : Declared → ℕ → List ℕ → Result Tree ExprRefusal → Type 0
Reads kinds level text (Ok tree) = IsWritten level text tree × (kinds_fit kinds level tree ≡ true)
Reads kinds level text (Err (refusal.Token at)) = HasNoTokenAt text at
Reads kinds level text (Err refusal.TooLong) = (tokens : List Placed) × AreTokens text tokens × (MOST_TOKENS < length tokens)
Reads kinds level text (Err (refusal.Shape at)) =
    (tokens : List Placed) × HasTokens text tokens × HasShapeFault (IsText level) tokens (length text) at
Reads kinds level text (Err refusal.BadKind) = (tree : Tree) × IsWritten level text tree × (kinds_fit kinds level tree ≡ false)
Reads kinds level text (Err refusal.Memory) = ⊤

-- whatever else the text is, it is the same, unless one of the two is want of memory
abbrev pub IsOnly : Declared → ℕ → List ℕ → Result Tree ExprRefusal → Type 0
IsOnly kinds level text answer =
    (other : Result Tree ExprRefusal) → Reads kinds level text other
    → answer ≢ Err refusal.Memory → other ≢ Err refusal.Memory → answer ≡ other
