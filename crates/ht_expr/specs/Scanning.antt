-- What the functions that find tokens promise one another.
use Rattle.std.specs.Prelude.{◌≡◌, ◌<◌, ◌≤◌, ⊤, length, map, replicate, Vec, Result, Ok, Err, ℕ, Bool, false, ◌==◌, ◌||◌, not, IsTrue, List, [], ◌∷◌, ◌++◌, Option, Some, None, if◌then◌else◌}
use Rattle.std.specs.Bool.{MatchBool}
use Rattle.std.specs.Borrow.{Bor}
use Rattle.std.specs.Char.{is_ascii_alphabetic, is_ascii_digit}
use Rattle.std.specs.List.{list_all}
use Rattle.std.specs.declared.alloc.Global.{Global}
use Rattle.ht_base.specs.declared.limits.TheConstants.{MOST_TOKENS}
use Rattle.ht_expr.specs.declared.token.Mark.{Mark}
use Rattle.ht_expr.specs.declared.token.Mark.TheVariants.{Open, Close, Comma, Dot, Plus, Minus, Times, Equal, NotEqual, Less, LessOrEqual, Greater, GreaterOrEqual}
use Rattle.ht_expr.specs.declared.refusal.ExprRefusal.{ExprRefusal}
use Rattle.ht_expr.specs.declared.refusal.ExprRefusal.TheVariants as refusal
use Rattle.ht_expr.specs.declared.token.Placed.{Placed as BorrowedPlaced}
use Rattle.ht_expr.specs.declared.token.Token.{Token as Borrowed}
use Rattle.ht_expr.specs.declared.token.Token.TheVariants as borrowed
use Rattle.ht_expr.specs.declared.scanning.Class.{Class}
use Rattle.ht_expr.specs.declared.scanning.Class.TheVariants as class
use Rattle.ht_expr.specs.Tokens.{Token, number, quoted, word, mark, begins, blank, quotation_mark, is_text_byte, is_word_byte, IsFirst, NoneFirst, Placed, AreBefore, AreTokens, HasNoTokenAt}
use Rattle.ht_expr.specs.Reading.{HasTokens}

-- a token that borrows its text
abbrev pub seen : Borrowed → Token
seen (borrowed.Number n) = number n
seen (borrowed.Quoted t) = quoted t.now
seen (borrowed.Word w) = word w.now
seen (borrowed.Mark m) = mark m

abbrev pub is_of : Class → ℕ → Bool
is_of class.Blank b = b == blank
is_of class.Digit b = is_ascii_digit b
is_of class.Word b = is_word_byte b
is_of class.Inside b = is_text_byte b

-- the text begins with these bytes that pass the test, and the next doesn't
pub record IsRun (test : ℕ → Bool) (text run rest : List ℕ) : Type 0 where
  pub split : text ≡ run ++ rest
  pub inside : IsTrue (list_all test run)
  pub stops : begins test rest ≡ false

-- a text behind its blanks
pub record IsBehindBlanks (text rest : List ℕ) : Type 0 where
  pub blanks : ℕ
  pub split : text ≡ replicate blanks blank ++ rest
  pub stops : begins (λ b. b == blank) rest ≡ false

-- the token that the text begins with, and what stands behind it
abbrev pub Finds : List ℕ → Option (Borrowed × Bor (List ℕ)) → Type 0
Finds text None = NoneFirst text
Finds text (Some found) = (bytes : List ℕ) × (text ≡ bytes ++ found.1.now) × IsFirst (seen found.0) bytes found.1.now

-- no other token begins with this byte
abbrev pub begins_mark : ℕ → Bool
begins_mark b = not (is_ascii_digit b || is_ascii_alphabetic b || b == quotation_mark)

-- the longest mark that the bytes begin with. The bytes are ( 40, ) 41, comma 44, dot 46, + 43, - 45, * 42, = 61, ! 33, < 60, > 62
abbrev pub mark_in : List ℕ → Option Mark
mark_in [] = None
mark_in (b ∷ bs) =
    if b == 40 then Some Open
    else if b == 41 then Some Close
    else if b == 44 then Some Comma
    else if b == 46 then Some Dot
    else if b == 43 then Some Plus
    else if b == 45 then Some Minus
    else if b == 42 then Some Times
    else if b == 61 then (if begins (λ c. c == 61) bs then Some Equal else None)
    else if b == 33 then (if begins (λ c. c == 61) bs then Some NotEqual else None)
    else if b == 60 then (if begins (λ c. c == 61) bs then Some LessOrEqual else Some Less)
    else if b == 62 then (if begins (λ c. c == 61) bs then Some GreaterOrEqual else Some Greater)
    else None

abbrev pub placed : BorrowedPlaced → Placed
placed t = record { token = seen t.token; at = t.at }

-- what was found before the rest, and what of it was kept: all, or too many are found
pub record HasFound (text rest : List ℕ) (kept : List BorrowedPlaced) (is_too_long : Bool) : Type 0 where
  pub found : List Placed
  pub blanks : ℕ
  pub before : AreBefore 0 text found (replicate blanks blank ++ rest)
  pub stops : begins (λ b. b == blank) rest ≡ false
  pub most : length kept ≤ MOST_TOKENS
  pub kept_all : MatchBool is_too_long (MOST_TOKENS < length found) (found ≡ map placed kept)

-- the text's tokens, or why it has none that can be read
abbrev pub Scans : List ℕ → Result (Vec BorrowedPlaced Global) ExprRefusal → Type 0
Scans text (Ok tokens) = HasTokens text (map placed tokens.items)
Scans text (Err (refusal.Token at)) = HasNoTokenAt text at
Scans text (Err refusal.TooLong) = (tokens : List Placed) × AreTokens text tokens × (MOST_TOKENS < length tokens)
Scans text (Err refusal.Memory) = ⊤
Scans text (Err _) = ⊥
