-- The place that the router finds is the place of a target by its parts.
use Rattle.std.proofs.Common.{inl, inr, ◌≡◌, ◌∙◌, sym, ap, refl, subst, ℕ, suc, ◌+◌, ◌<◌, ◌==◌, ◌&&◌, Bool, true, false, not, List, [], ◌∷◌, ◌++◌, length, map, Option, Some, None, if◌then◌else◌, bytes_eq, nat_lt, eq-eqb, ne_eqb, IsAscii, arith}
use Rattle.std.specs.Char.{is_ascii}
use Rattle.std.specs.List.{AllZip, list_all}
use Rattle.std.proofs.lemmas.Bool.{and_parts, ltb-true}
use Rattle.std.proofs.lemmas.Bool.Decides.{eqb_tells}
use Rattle.std.proofs.lemmas.Slice.Eq.{bytes_eq-Decides}
use Rattle.matchit.proofs.OnLiterals.{matchit_on_literals}
use Rattle.matchit.specs.Router.{RouteOf}
use Rattle.matchit.specs.Rows.{RowsOf}
use Rattle.matchit.specs.Seek.{first, seek}
use Rattle.ht_api.specs.declared.routes.Path.{Path}
use Rattle.ht_api.specs.Routes.{has_bytes, others_in, parts, path_of, paths, place_at, place_from, place_of, place_of_path, with_byte, word_in}
use Rattle.ht_api.specs.Table.{found, parts_of, table}
use Rattle.ht_api.proofs.Alike.{front, parts_some}
use Rattle.ht_api.proofs.Ascii.{ascii_passes}
use Rattle.ht_api.proofs.Chains.{as_many, tail}
use Rattle.ht_api.proofs.Walks.{AreLow, joined, marks, of_parts, walked}
use Rattle.ht_api.proofs.Words.{behind, chosen, have_letters, is_letter, line_for, line_of, path_found}

-- ---- the rows of the router are the lines of the table

abbrev word_of : List ℕ × Path → List ℕ
word_of line = word_in (parts line.0)

abbrev others_of : List ℕ × Path → List (List ℕ)
others_of line = others_in (parts line.0)

abbrev pattern_of : List ℕ × Path → List ℕ
pattern_of line = 47 ∷ (word_of line ++ tail (others_of line))

abbrev of_row : List ℕ × RouteOf Path → List ℕ × List ℕ × List (Unit {0}) × Path
of_row row = (row.0, row.1.pattern, marks row.1.names, row.1.value)

abbrev of_line : List ℕ × Path → List ℕ × List ℕ × List (Unit {0}) × Path
of_line line = (pattern_of line, pattern_of line, marks (others_of line), line.1)

table_is : map of_row table ≡ map of_line paths
unfolding matchit_on_literals table
table_is = refl

-- of a line whose word is of letters and whose pattern isn't too long
abbrev is_plain : List ℕ × Path → Bool
is_plain line = list_all is_letter (word_of line) && nat_lt (length (pattern_of line)) 18446744073709551615

all_plain : list_all is_plain paths ≡ true
all_plain = refl

record IsRow (row : List ℕ × RouteOf Path) (line : List ℕ × Path) : Type 0 where
  key : row.0 ≡ pattern_of line
  pattern : row.1.pattern ≡ pattern_of line
  names : marks row.1.names ≡ marks (others_of line)
  value : row.1.value ≡ line.1

rows_are : (rows : RowsOf (RouteOf Path)) (lines : List (List ℕ × Path)) → map of_row rows ≡ map of_line lines → AllZip IsRow rows lines
rows_are [] [] e = tt
rows_are [] (line ∷ lines) e = cc
rows_are (row ∷ rows) [] e = cc
rows_are (row ∷ rows) (line ∷ lines) e =
    let head : of_row row ≡ of_line line = cc in
    let rest : map of_row rows ≡ map of_line lines = cc in
    (record { key = ap (λ (t : List ℕ × List ℕ × List (Unit {0}) × Path). t.0) head; pattern = ap (λ (t : List ℕ × List ℕ × List (Unit {0}) × Path). t.1) head; names = ap (λ (t : List ℕ × List ℕ × List (Unit {0}) × Path). t.2) head; value = ap (λ (t : List ℕ × List ℕ × List (Unit {0}) × Path). t.3) head }, rows_are rows lines rest)

-- each line with the route of its row
abbrev lines_of : RowsOf (RouteOf Path) → List (List ℕ × Path) → List (List ℕ × List (List ℕ) × RouteOf Path)
lines_of [] lines = []
lines_of (row ∷ rows) [] = []
lines_of (row ∷ rows) (line ∷ lines) = (word_of line, others_of line, row.1) ∷ lines_of rows lines

rows_behind : (rows : RowsOf (RouteOf Path)) (lines : List (List ℕ × Path)) → AllZip IsRow rows lines → rows ≡ front 47 (behind (lines_of rows lines))
rows_behind [] [] h = refl
rows_behind [] (line ∷ lines) h = absurd h
rows_behind (row ∷ rows) [] h = absurd h
rows_behind ((key, r) ∷ rows) (line ∷ lines) h = λ i. (h.0.key i, r) ∷ rows_behind rows lines h.1 i

letters : (rows : RowsOf (RouteOf Path)) (lines : List (List ℕ × Path)) → list_all is_plain lines ≡ true → have_letters (lines_of rows lines) ≡ true
letters [] lines h = refl
letters (row ∷ rows) [] h = refl
letters (row ∷ rows) (line ∷ lines) h =
    let p = and_parts (is_plain line) (list_all is_plain lines) h in
    let q = and_parts (list_all is_letter (word_of line)) (nat_lt (length (pattern_of line)) 18446744073709551615) p.0 in
    rw (q.0, letters rows lines p.1) refl

-- ---- what its parameters take

low_word : (w : List ℕ) → list_all is_letter w ≡ true → AreLow w
low_word [] h = tt
low_word (x ∷ w) h =
    let p = and_parts (is_letter x) (list_all is_letter w) h in
    let q = and_parts (not (x == 47)) (nat_lt x 256) p.0 in
    (q.1, low_word w p.1)

taken : (row : List ℕ × RouteOf Path) (line : List ℕ × Path) (q word : List ℕ) (ps : List (List ℕ)) → IsRow row line → is_plain line ≡ true → parts q ≡ word ∷ ps
    → (bytes_eq (word_of line) word && as_many (others_of line) ps) ≡ true → place_at row.1.value (parts_of row.1 (47 ∷ q)) ≡ place_at line.1 ps
taken row line q word ps is plain e fits =
    let f = and_parts (bytes_eq (word_of line) word) (as_many (others_of line) ps) fits in
    let p = and_parts (list_all is_letter (word_of line)) (nat_lt (length (pattern_of line)) 18446744073709551615) plain in
    let same : word_of line ≡ word = (bytes_eq-Decides (word_of line) word).0 f.0 in
    let j = of_parts q word ps e in
    let path_is : 47 ∷ q ≡ (47 ∷ word_of line) ++ joined ps = ap (λ (l : List ℕ). 47 ∷ l) (j.0 ∙ ap (λ (l : List ℕ). l ++ joined ps) (sym same)) in
    let short = ltb-true (length (pattern_of line)) 18446744073709551615 p.1 in
    let took : parts_of row.1 (47 ∷ q) ≡ ps =
    walked (others_of line) row.1.names ps is.names f.1 j.1 row.1.pattern row.1.text (47 ∷ q) 0 0 (47 ∷ word_of line) (refl, low_word (word_of line) p.0) (subst (λ (l : List ℕ). length l < 18446744073709551615) (sym is.pattern) short) is.pattern path_is in
    λ i. place_at (is.value i) (took i)

-- ---- the first row that fits is the first line that does

suc_same : (m n : ℕ) → (m == n) ≡ (suc m == suc n)
suc_same m n =
    elim (eqb_tells m n) [
      | inl is ↦ is.0 ∙ sym (eq-eqb (suc m) (suc n) (ap suc is.1))
      | inr other ↦ other.0 ∙ sym (ne_eqb (suc m) (suc n) (λ e. other.1 (omega (arith, e))))
    ]

none_some : (n : ℕ) → false ≡ (0 == suc n)
none_some n = sym (ne_eqb 0 (suc n) (λ e. omega (arith, e)))

some_none : (n : ℕ) → false ≡ (suc n == 0)
some_none n = sym (ne_eqb (suc n) 0 (λ e. omega (arith, e)))

as_many_is : (os ps : List (List ℕ)) → as_many os ps ≡ (length os == length ps)
as_many_is [] [] = refl
as_many_is [] (p ∷ ps) = none_some (length ps)
as_many_is (o ∷ os) [] = some_none (length os)
as_many_is (o ∷ os) (p ∷ ps) = as_many_is os ps ∙ suc_same (length os) (length ps)

first_line : (rows : RowsOf (RouteOf Path)) (lines : List (List ℕ × Path)) (q word : List ℕ) (ps : List (List ℕ)) → AllZip IsRow rows lines → list_all is_plain lines ≡ true → parts q ≡ word ∷ ps
    → found (47 ∷ q) (line_for (lines_of rows lines) word ps) ≡ place_of_path (path_of lines word ps) ps
first_line [] [] q word ps h plain e = refl
first_line [] (line ∷ lines) q word ps h plain e = absurd h
first_line (row ∷ rows) [] q word ps h plain e = absurd h
first_line (row ∷ rows) (line ∷ lines) q word ps h plain e =
    rw (← as_many_is (others_of line) ps) (at (bytes_eq (word_of line) word && as_many (others_of line) ps) refl (first_line rows lines q word ps h.1 p.1 e))
  where
    p : (is_plain line ≡ true) × (list_all is_plain lines ≡ true)
    p = and_parts (is_plain line) (list_all is_plain lines) plain

    at : (fits : Bool) → (bytes_eq (word_of line) word && as_many (others_of line) ps) ≡ fits
        → found (47 ∷ q) (line_for (lines_of rows lines) word ps) ≡ place_of_path (path_of lines word ps) ps
        → found (47 ∷ q) (if fits then Some row.1 else line_for (lines_of rows lines) word ps) ≡ place_of_path (if fits then Some line.1 else path_of lines word ps) ps
    at true f later = taken row line q word ps h.0 p.0 e f
    at false f later = later

first_is : (target : List ℕ) → list_all is_ascii target ≡ true → first table target ≡ line_of (lines_of table paths) (parts target)
first_is target a =
    ap (λ (rs : RowsOf (RouteOf Path)). seek 0 rs target) (rows_behind table paths (rows_are table paths table_is))
    ∙ path_found target (lines_of table paths) (letters table paths all_plain) a

places_agree : (target : List ℕ) → found target (line_of (lines_of table paths) (parts target)) ≡ place_from (parts target)
places_agree [] = refl
places_agree (b ∷ q) =
    elim (eqb_tells b 47) [
      | inl is ↦
          let P : ℕ → Type 0 = λ x. found (x ∷ q) (line_of (lines_of table paths) (parts (x ∷ q))) ≡ place_from (parts (x ∷ q)) in
          subst P (sym is.1) (at_slash (parts_some q))
      | inr another ↦ rw another.0 (at_byte (parts_some q))
    ]
  where
    at_slash : (w : List ℕ) × (ps : List (List ℕ)) × (parts q ≡ w ∷ ps) → found (47 ∷ q) (chosen (lines_of table paths) (parts q)) ≡ place_from ([] ∷ parts q)
    at_slash p = rw p.2 (at (list_all has_bytes p.1))
      where
        at : (all : Bool) → found (47 ∷ q) (if all then line_for (lines_of table paths) p.0 p.1 else None) ≡ (if all then place_of_path (path_of paths p.0 p.1) p.1 else None)
        at true = first_line table paths q p.0 p.1 (rows_are table paths table_is) all_plain p.2
        at false = refl

    at_byte : (w : List ℕ) × (ps : List (List ℕ)) × (parts q ≡ w ∷ ps) → found (b ∷ q) (line_of (lines_of table paths) (with_byte b (parts q))) ≡ place_from (with_byte b (parts q))
    at_byte p = rw p.2 refl

-- of an ASCII target
pub place_found : (target : List ℕ) (o : Option (RouteOf Path)) → IsAscii target → first table target ≡ o → found target o ≡ place_of target
place_found target o ascii is =
    let a = ascii_passes target ascii in
    ap (found target) (sym is ∙ first_is target a) ∙ places_agree target ∙ rw a refl
