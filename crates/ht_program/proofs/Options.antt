-- The options of the command line.
use Rattle.std.proofs.Common.{◌≡◌, ◌∙◌, ℕ, ◌<◌, ◌≤◌, ◌==◌, Bool, true, false, ◌&&◌, ◌||◌, ◌-◌, map, take, drop, get_or, bytes_eq, string_bytes, String, Global, List, [], ◌∷◌, length, None, refl, ap, sym, arith}
use Rattle.std.specs.List.{list_any}
use Rattle.ht_program.specs.Words.{are_options, begin_options, is_one_of, value_of}

pub one_of_texts : {A : Type 0} (text : A → List ℕ) (names : List A) (word : List ℕ) → list_any (λ name. bytes_eq (text name) word) names ≡ is_one_of (map text names) word
one_of_texts text [] word = refl
one_of_texts text (name ∷ names) word = ap (λ (b : Bool). bytes_eq (text name) word || b) (one_of_texts text names word)

-- one word alone is no option
pub short_none : (name : List ℕ) (words : List (List ℕ)) → length words < 2 → value_of name words ≡ None
short_none name [] short = refl
short_none name (w ∷ []) short = refl
short_none name (w ∷ v ∷ words) short = absurd (omega arith)

-- ---- the first two words of some

abbrev pub bytes_of : String Global → List ℕ
bytes_of word = string_bytes word

take_all : (words : List (String Global)) → take (length words) words ≡ words
take_all [] = refl
take_all (w ∷ words) = ap (λ (l : List (String Global)). w ∷ l) (take_all words)

pub first_two : (words : List (String Global)) (a b : String Global) → 2 ≤ length words → a ≡ get_or words 0 a → b ≡ get_or words 1 b → map bytes_of words ≡ bytes_of a ∷ bytes_of b ∷ map bytes_of (take (length words - 2) (drop 2 words))
first_two [] a b long p q = absurd (omega arith)
first_two (v ∷ []) a b long p q = absurd (omega arith)
first_two (v ∷ w ∷ words) a b long p q =
    let rest : take (length (v ∷ w ∷ words) - 2) words ≡ words = ap (λ (n : ℕ). take n words) (let e : length (v ∷ w ∷ words) - 2 ≡ length words = omega arith in e) ∙ take_all words in
    ap (λ (x : String Global). bytes_of x ∷ bytes_of w ∷ map bytes_of words) (sym p)
    ∙ ap (λ (x : String Global). bytes_of a ∷ bytes_of x ∷ map bytes_of words) (sym q)
    ∙ ap (λ (l : List (String Global)). bytes_of a ∷ bytes_of b ∷ map bytes_of l) (sym rest)

pub not_options : (names words : List (List ℕ)) (name value : List ℕ) (later : List (List ℕ)) (b : Bool) → words ≡ name ∷ value ∷ later → b ≡ begin_options names name value later → b ≡ false → are_options names words ≡ false
not_options names words name value later b is test e =
    ap (are_options names) is ∙ ap (λ (c : Bool). c && are_options names later) (sym test ∙ e)

pub more_options : (names words : List (List ℕ)) (name value : List ℕ) (later : List (List ℕ)) (b : Bool) → words ≡ name ∷ value ∷ later → b ≡ begin_options names name value later → b ≡ true → are_options names words ≡ are_options names later
more_options names words name value later b is test e =
    ap (are_options names) is ∙ ap (λ (c : Bool). c && are_options names later) (sym test ∙ e)

-- what is left of options that are none
pub ends_options : (names words : List (List ℕ)) (b : Bool) → length words < 2 → b ≡ (length words == 0) → b ≡ are_options names words
ends_options names [] b short is = is
ends_options names (w ∷ []) b short is = is
ends_options names (w ∷ v ∷ words) b short is = absurd (omega arith)
