-- How far a writer has come.
use Rattle.std.proofs.Common.{◌≡◌, ◌∙◌, ap, sym, subst, refl, ℕ, ◌+◌, ◌<◌, ◌≤◌, List, [], ◌∷◌, ◌++◌, length, append_assoc, Result, Ok, Err, OnOk, arith}
use Rattle.json.proofs.Printed.Trees.{room-append}
use Rattle.json.specs.Print.{print, token_text}
use Rattle.json.specs.Token.{Token, begin_object, end_object, key}
use Rattle.json.specs.Tree.{members_tokens, room}
use Rattle.json.specs.Written.{Written}
use Rattle.serde_json.proofs.Texts.{print-outline}
use Rattle.serde_json.specs.Data.{Data}
use Rattle.serde_json.specs.Written.{compact_text, members_outline}
use Rattle.ht_api.specs.Contents.{members, row_object}
use Rattle.ht_api.specs.Writing.{Going, Puts, object_tokens, rows_then, tokens_of}

module _ (start now mid new : Written) (all rest : List Token) (k : Token) (ts left : List Token) (is : rest ≡ k ∷ (ts ++ left)) (g : Going start now all rest) where
  pub row_put : mid.tokens ≡ now.tokens ++ k ∷ [] → mid.before ≡ now.before → now.spare ≤ mid.spare + (length (token_text k) + 1)
      → new.tokens ≡ mid.tokens ++ ts → new.before ≡ mid.before → mid.spare ≤ new.spare + room ts → Going start new all left
  row_put kt kb ks vt vb vs = record {
    tokens = ap (λ l. l ++ left) (vt ∙ ap (λ l. l ++ ts) kt) ∙ append_assoc (now.tokens ++ k ∷ []) ts left ∙ append_assoc now.tokens (k ∷ []) (ts ++ left)
        ∙ ap (λ l. now.tokens ++ l) (sym is) ∙ g.tokens;
    before = vb ∙ kb ∙ g.before;
    spare = omega (arith, g.spare, ap room is, room-append ts left);
  }

  pub row_full : now.spare ≤ mid.spare + (length (token_text k) + 1) → mid.spare < room ts → start.spare < room all
  row_full ks vs = omega (arith, g.spare, ap room is, room-append ts left)

pub rows_then-append : (rs : List (List ℕ × Data)) (more tail : List Token) → rows_then rs (more ++ tail) ≡ rows_then rs more ++ tail
rows_then-append [] more tail = refl
rows_then-append (r ∷ rs) more tail =
    ap (λ l. key r.0 ∷ (tokens_of r.1 ++ l)) (rows_then-append rs more tail) ∙ ap (λ l. key r.0 ∷ l) (sym (append_assoc (tokens_of r.1) (rows_then rs more) tail))

pub begun : (start : Written) (all : List Token) → Going start start all all
begun start all = record { tokens = refl; before = refl; spare = omega arith }

module _ (start now new : Written) (all : List Token) where
  module _ (ts left : List Token) (g : Going start now all (ts ++ left)) where
    pub then_put : new.tokens ≡ now.tokens ++ ts → new.before ≡ now.before → now.spare ≤ new.spare + room ts → Going start new all left
    then_put t b s = record {
      tokens = ap (λ l. l ++ left) t ∙ append_assoc now.tokens ts left ∙ g.tokens;
      before = b ∙ g.before;
      spare = omega (arith, g.spare, room-append ts left);
    }

    pub then_full : now.spare < room ts → start.spare < room all
    then_full f = omega (arith, g.spare, room-append ts left)

  pub one_put : (k : Token) (left : List Token) → Going start now all (k ∷ left) → new.tokens ≡ now.tokens ++ k ∷ [] → new.before ≡ now.before → now.spare ≤ new.spare + (length (token_text k) + 1)
      → Going start new all left
  one_put k left g t b s = then_put (k ∷ []) left g t b (omega (arith, s))

  pub ended : {E : Type 0} (r : Result (Unit {0}) E) (ts : List Token) → Going start now all ts → Puts r now new ts → Puts r start new all
  ended (Ok u) ts g p = record { ok = p.ok ∙ g.tokens; before = p.before ∙ g.before; spare = omega (arith, g.spare, p.spare); full = tt }
  ended (Err e) ts g p = record { ok = tt; before = p.before ∙ g.before; spare = tt; full = omega (arith, g.spare, p.full) }

pub for_rows : (start now : Written) (all : List Token) (rs : List (List ℕ × Data)) (left : List Token) → Going start now all (rows_then rs left) → Going start now all (rows_then rs [] ++ left)
for_rows start now all rs left g = subst (Going start now all) (rows_then-append rs [] left) g

members_then : (rs : List (List ℕ × Data)) → members_tokens (members_outline (members rs)) ≡ rows_then rs (end_object ∷ [])
members_then [] = refl
members_then (r ∷ rs) = ap (λ l. key r.0 ∷ (tokens_of r.1 ++ l)) (members_then rs)

pub tokens_of_object : (rs : List (List ℕ × Data)) → object_tokens rs ≡ tokens_of (row_object rs)
tokens_of_object rs = ap (λ l. begin_object ∷ l) (sym (members_then rs))

rows_then-parts : (rs ss : List (List ℕ × Data)) (tail : List Token) → rows_then (rs ++ ss) tail ≡ rows_then rs (rows_then ss tail)
rows_then-parts [] ss tail = refl
rows_then-parts (r ∷ rs) ss tail = ap (λ l. key r.0 ∷ (tokens_of r.1 ++ l)) (rows_then-parts rs ss tail)

pub three_parts : (rs ss us : List (List ℕ × Data)) → begin_object ∷ rows_then rs (rows_then ss (rows_then us (end_object ∷ []))) ≡ tokens_of (row_object (rs ++ (ss ++ us)))
three_parts rs ss us =
    ap (λ l. begin_object ∷ l) (sym (rows_then-parts rs (ss ++ us) (end_object ∷ []) ∙ ap (rows_then rs) (rows_then-parts ss us (end_object ∷ [])))) ∙ tokens_of_object (rs ++ (ss ++ us))

-- the text of what was put into an empty buffer
pub text_is : {E : Type 0} (r : Result (Unit {0}) E) (d : Data) (old new : Written) (out : List ℕ) → Puts r old new (tokens_of d) → old.before ≡ [] → old.tokens ≡ []
    → out ≡ new.before ++ print new.tokens → OnOk r (out ≡ compact_text d)
text_is (Ok u) d old new out p b t e = e ∙ (λ i. (p.before ∙ b) i ++ print ((p.ok ∙ ap (λ l. l ++ tokens_of d) t) i)) ∙ print-outline d
text_is (Err x) d old new out p b t e = tt
