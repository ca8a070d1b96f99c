-- The tokens of a text, as every expression and assignment is written in them.
use Rattle.std.specs.Prelude.{◌≡◌, ℕ, ◌+◌, ◌≤◌, Bool, false, ◌||◌, ◌&&◌, ◌==◌, not, nat_le, IsTrue, List, [], ◌∷◌, ◌++◌, length, replicate, codes}
use Rattle.std.specs.Char.{is_ascii_alphabetic, is_ascii_alphanumeric, is_ascii_digit}
use Rattle.std.specs.List.{list_all}
use Rattle.std.specs.Str.Parse.{digits_value}
use Rattle.ht_expr.specs.declared.token.Mark.{Mark}
use Rattle.ht_expr.specs.declared.token.Mark.TheVariants.{Open, Close, Comma, Dot, Plus, Minus, Times, Equal, NotEqual, Less, LessOrEqual, Greater, GreaterOrEqual}

pub data Token : Type 0 where
  number : ℕ → Token
  quoted : List ℕ → Token
  word : List ℕ → Token
  mark : Mark → Token

-- a token of a text, and its place: how many bytes stand before it
pub record Placed : Type 0 where
  pub token : Token
  pub at : ℕ

abbrev pub blank : ℕ
blank = 32

abbrev pub quotation_mark : ℕ
quotation_mark = 39

-- the greatest number that is a token
abbrev pub greatest_number : ℕ
greatest_number = 9223372036854775807

abbrev pub mark_bytes : Mark → List ℕ
mark_bytes Open = codes "("
mark_bytes Close = codes ")"
mark_bytes Comma = codes ","
mark_bytes Dot = codes "."
mark_bytes Plus = codes "+"
mark_bytes Minus = codes "-"
mark_bytes Times = codes "*"
mark_bytes Equal = codes "=="
mark_bytes NotEqual = codes "!="
mark_bytes Less = codes "<"
mark_bytes LessOrEqual = codes "<="
mark_bytes Greater = codes ">"
mark_bytes GreaterOrEqual = codes ">="

-- the bytes begin with such a one
abbrev pub begins : (ℕ → Bool) → List ℕ → Bool
begins test [] = false
begins test (b ∷ bs) = test b

-- at least one digit, and nothing else
abbrev pub is_digits : List ℕ → Bool
is_digits bytes = begins is_ascii_digit bytes && list_all is_ascii_digit bytes

-- a byte that may stand in a text: from 32 on, and no quotation mark
abbrev pub is_text_byte : ℕ → Bool
is_text_byte b = nat_le 32 b && not (b == quotation_mark)

-- a letter, a digit or _
abbrev pub is_word_byte : ℕ → Bool
is_word_byte b = is_ascii_alphanumeric b || b == 95

-- a letter, and then letters, digits and _
abbrev pub is_word : List ℕ → Bool
is_word bytes = begins is_ascii_alphabetic bytes && list_all is_word_byte bytes

-- the bytes are this token, where `rest` stands behind them. A number is a whole run of digits
abbrev pub Spells : Token → List ℕ → List ℕ → Type 0
Spells (number n) bytes rest = IsTrue (is_digits bytes && not (begins is_ascii_digit rest)) × (digits_value 10 bytes ≡ n) × (n ≤ greatest_number)
Spells (quoted t) bytes rest = (bytes ≡ quotation_mark ∷ (t ++ quotation_mark ∷ [])) × IsTrue (list_all is_text_byte t)
Spells (word w) bytes rest = (bytes ≡ w) × IsTrue (is_word w)
Spells (mark m) bytes rest = bytes ≡ mark_bytes m

-- the token that begins here: of several readings the longest
pub record IsFirst (token : Token) (bytes rest : List ℕ) : Type 0 where
  pub spelled : Spells token bytes rest
  pub longest : (other : Token) (b r : List ℕ) → bytes ++ rest ≡ b ++ r → Spells other b r → length b ≤ length bytes

-- no token begins here
abbrev pub NoneFirst : List ℕ → Type 0
NoneFirst bytes = (token : Token) (b r : List ℕ) → bytes ≡ b ++ r → Spells token b r → ⊥

-- the bytes, which stand from this place on, are these tokens with blanks before them, and then the rest
abbrev pub AreBefore : ℕ → List ℕ → List Placed → List ℕ → Type 0
AreBefore at bytes [] rest = bytes ≡ rest
AreBefore at bytes (t ∷ ts) rest =
    (blanks : ℕ) × (spelled : List ℕ) × (behind : List ℕ)
    × (bytes ≡ replicate blanks blank ++ (spelled ++ behind)) × (t.at ≡ at + blanks)
    × IsFirst t.token spelled behind × AreBefore (at + blanks + length spelled) behind ts rest

-- the text is these tokens, and blanks
abbrev pub AreTokens : List ℕ → List Placed → Type 0
AreTokens text tokens = (blanks : ℕ) × AreBefore 0 text tokens (replicate blanks blank)

-- at this byte, which is no blank, stands no token, and only tokens and blanks before it
abbrev pub HasNoTokenAt : List ℕ → ℕ → Type 0
HasNoTokenAt text at =
    (tokens : List Placed) × (blanks : ℕ) × (rest : List ℕ)
    × AreBefore 0 text tokens (replicate blanks blank ++ rest)
    × IsTrue (begins (λ b. not (b == blank)) rest) × NoneFirst rest × (length text ≡ at + length rest)
