-- The check of a text's shape, token by token.
use Rattle.std.proofs.Common.{◌≡◌, ℕ, suc, ◌+◌, ◌<◌, ◌≤◌, false, List, [], ◌∷◌, ◌++◌, length, get_or, take, drop, map, refl, ap, sym, ◌∙◌, arith, Option, Some, None}
use Rattle.std.proofs.lemmas.List.{append-nil, drop-map, map-append, take-append-drop, take_all}
use Rattle.std.proofs.Math.Seq.{take-suc, drop-cons}
use Rattle.ht_expr.specs.declared.expected.Symbol.{Symbol}
use Rattle.ht_expr.specs.declared.expected.Symbol.TheVariants as symbol
use Rattle.ht_expr.specs.declared.token.Placed.{Placed as BorrowedPlaced}
use Rattle.ht_expr.specs.Building.{IsAt, all}
use Rattle.ht_expr.specs.Expected.{Breaks, if_some, is_done, next, run}
use Rattle.ht_expr.specs.Reading.{bare}
use Rattle.ht_expr.specs.Scanning.{placed, seen}
use Rattle.ht_expr.specs.Tokens.{Token}

next_alone : (o : Option (List Symbol)) → if_some o (λ s. run s []) ≡ o
next_alone None = refl
next_alone (Some s) = refl

snoc_on : (o : Option (List Symbol)) (ts : List Token) (t : Token) (s : List Symbol) → ((m : List Symbol) → run m ts ≡ Some s → run m (ts ++ t ∷ []) ≡ next s t)
    → if_some o (λ m. run m ts) ≡ Some s → if_some o (λ m. run m (ts ++ t ∷ [])) ≡ next s t
snoc_on None ts t s more is = absurd (cc)
snoc_on (Some m) ts t s more is = more m is

pub run_more : (ts : List Token) (t : Token) (st s : List Symbol) → run st ts ≡ Some s → run st (ts ++ t ∷ []) ≡ next s t
run_more [] t st s is = let same : st ≡ s = cc in next_alone (next st t) ∙ ap (λ l. next l t) same
run_more (u ∷ ts) t st s is = snoc_on (next st u) ts t s (λ m. run_more ts t m s) is

-- one token more
pub went : (st s : List Symbol) (tokens : List BorrowedPlaced) (i : ℕ) (d : BorrowedPlaced) (o : Option (List Symbol)) → run st (bare (map placed (take i tokens))) ≡ Some s
    → next s (seen (get_or tokens i d).token) ≡ o → i < length tokens → run st (bare (map placed (take (i + 1) tokens))) ≡ o
went st s tokens i d o is next_is lt =
    let e : i + 1 ≡ suc i = omega arith in
    let more : take (i + 1) tokens ≡ take i tokens ++ get_or tokens i d ∷ [] = ap (λ k. take k tokens) e ∙ take-suc tokens i d lt in
    let t = get_or tokens i d in
    let spelled : bare (map placed (take (i + 1) tokens)) ≡ bare (map placed (take i tokens)) ++ seen t.token ∷ [] =
    ap (λ l. bare (map placed l)) more ∙ ap bare (map-append placed (take i tokens) (t ∷ [])) ∙ map-append (λ u. u.token) (map placed (take i tokens)) (placed t ∷ []) in
    ap (run st) spelled ∙ run_more (bare (map placed (take i tokens))) (seen t.token) st s is ∙ next_is

-- a token that can't stand there
pub broke : (p : ℕ) (s : List Symbol) (tokens : List BorrowedPlaced) (end i : ℕ) (d : BorrowedPlaced) → run (symbol.Tree p ∷ []) (bare (map placed (take i tokens))) ≡ Some s
    → next s (seen (get_or tokens i d).token) ≡ None → i < length tokens → Breaks p (map placed tokens) end (get_or tokens i d).at
broke p s tokens end i d is none lt =
    let t = get_or tokens i d in
    let rest : drop i tokens ≡ t ∷ drop (suc i) tokens = drop-cons tokens i d lt in
    let split : map placed tokens ≡ map placed (take i tokens) ++ placed t ∷ map placed (drop (suc i) tokens) =
    ap (map placed) (sym (take-append-drop i tokens)) ∙ map-append placed (take i tokens) (drop i tokens) ∙ ap (λ l. map placed (take i tokens) ++ map placed l) rest in
    (map placed (take i tokens), placed t ∷ map placed (drop (suc i) tokens), s, split, refl, is, none)

-- an end that comes too early
pub ended : (p : ℕ) (s : List Symbol) (tokens : List BorrowedPlaced) (end i : ℕ) → run (symbol.Tree p ∷ []) (bare (map placed (take i tokens))) ≡ Some s
    → is_done s ≡ false → length tokens ≤ i → Breaks p (map placed tokens) end end
ended p s tokens end i is unfinished le =
    (map placed tokens, [], s, sym (append-nil (map placed tokens)), refl, ap (λ l. run (symbol.Tree p ∷ []) (bare (map placed l))) (sym (take_all i tokens le)) ∙ is, unfinished)

pub at_place : (tokens : List BorrowedPlaced) (at : ℕ) (d : BorrowedPlaced) → at < length tokens → IsAt tokens at (seen (get_or tokens at d).token)
at_place tokens at d lt =
    let e : at + 1 ≡ suc at = omega arith in
    let f = λ (t : BorrowedPlaced). seen t.token in
    (lt, drop-map f at tokens ∙ ap (map f) (drop-cons tokens at d lt) ∙ ap (λ l. seen (get_or tokens at d).token ∷ l) (sym (drop-map f (suc at) tokens) ∙ ap (λ k. drop k (all tokens)) (sym e)))
