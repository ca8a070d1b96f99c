-- An expression grows by an operator and its right operand.
use Rattle.std.proofs.Common.{◌≡◌, ℕ, ◌+◌, ◌<◌, ◌≤◌, List, ◌∷◌, ◌++◌, length, get_or, drop, refl, ap, ◌∙◌, sym, append_assoc, arith}
use Rattle.ht_expr.specs.declared.operator.Operator.{Operator}
use Rattle.ht_expr.specs.declared.token.Placed.{Placed as BorrowedPlaced}
use Rattle.ht_expr.specs.Building.{Spans, all}
use Rattle.ht_expr.specs.Scanning.{seen}
use Rattle.ht_expr.specs.Trees.{Tree, Holds, left, least, level, most, sign_of, tokens_of, binary}
use Rattle.ht_expr.proofs.Checking.{at_place}

-- what is read of a tree
abbrev pub IsReadAt : List BorrowedPlaced → ℕ → ℕ → Tree → ℕ → ℕ → Type 0
IsReadAt tokens at p e high next = Spans tokens at (tokens_of e) next × (p ≤ high) × (high ≡ most e) × (least e ≡ 0) × Holds e

pub grows : (tokens : List BorrowedPlaced) (at p q n m high own : ℕ) (d : BorrowedPlaced) (l r : Tree) (o : Operator) → IsReadAt tokens at p l q n → n < length tokens
    → (seen (get_or tokens n d).token ≡ sign_of o) × (p ≤ level o) × (left o ≤ q) → own ≡ level o → IsReadAt tokens (n + 1) (own + 1) r high m → IsReadAt tokens at p (binary o l r) own m
grows tokens at p q n m high own d l r o ((a, b, is), c, e, f, g) lt (sign, low, fits) same ((h, i, more), j, k, s, t) =
    let here = at_place tokens n d lt in
    let split : drop at (all tokens) ≡ (tokens_of l ++ (sign_of o ∷ tokens_of r)) ++ drop m (all tokens) =
    is ∙ ap (λ x. tokens_of l ++ x) (here.1 ∙ ap (λ x. x ∷ drop (n + 1) (all tokens)) sign ∙ ap (λ x. sign_of o ∷ x) more)
    ∙ sym (append_assoc (tokens_of l) (sign_of o ∷ tokens_of r) (drop m (all tokens))) in
    ((omega arith, omega arith, split), omega arith, same, refl, ((omega arith, omega arith, g), (omega arith, omega arith, t)))
