-- Rows of a router, walked along a path.
use Rattle.std.proofs.Common.{inl, inr, ◌⊎◌, ◌≡◌, ◌∙◌, ap, refl, ℕ, zero, suc, ◌+◌, ◌-◌, ◌==◌, ◌&&◌, Bool, true, false, cond, List, [], ◌∷◌, ◌++◌, length, take, drop, Option, Some, None, nat_eq, arith}
use Rattle.std.specs.Char.{is_ascii}
use Rattle.std.specs.List.{ends_with}
use Rattle.std.proofs.lemmas.Bool.{eqb-true, ltb-true}
use Rattle.std.proofs.lemmas.Bool.Decides.{Decides-eqb}
use Rattle.std.proofs.lemmas.Slice.Eq.{ends_is}
use Rattle.matchit.specs.Rows.{RowsOf}
use Rattle.matchit.specs.Seek.{has_slash, or_else, own, param_step, seek, segment, step}
use Rattle.ht_api.specs.Routes.{parts, with_byte}

module _ {K : Type 0} where
  -- rows with a byte in front
  abbrev pub front : ℕ → RowsOf K → RowsOf K
  front x [] = []
  front x ((t, k) ∷ rs) = (x ∷ t, k) ∷ front x rs

  pub own_front : (x : ℕ) (rs : RowsOf K) → own (front x rs) ≡ None
  own_front x [] = refl
  own_front x ((t, k) ∷ rs) = own_front x rs

  pub step_front : (same : Bool) (x b : ℕ) → (x == b) ≡ same → (rs : RowsOf K) → step b (front x rs) ≡ cond same rs []
  step_front true x b e [] = refl
  step_front false x b e [] = refl
  step_front true x b e ((t, k) ∷ rs) = rw e (ap (λ (l : RowsOf K). (t, k) ∷ l) (step_front true x b e rs))
  step_front false x b e ((t, k) ∷ rs) = rw e (step_front false x b e rs)

  or_none : (o : Option K) → or_else o None ≡ o
  or_none None = refl
  or_none (Some k) = refl

  no_rows : (t : Bool) (n : ℕ) → let p : ℕ × RowsOf K = cond t (0, []) (n, []) in p.1 ≡ []
  no_rows true n = refl
  no_rows false n = refl

  none_param : (path : List ℕ) → (param_step {K = K} [] path).1 ≡ []
  unfolding param_step
  none_param path = no_rows (has_slash path) (length path)

  pub seek_none : (n : ℕ) (p : List ℕ) → seek {K = K} n [] p ≡ None
  unfolding seek
  seek_none n [] = refl
  seek_none (suc n) (b ∷ p) = seek_none n p
  seek_none zero (b ∷ p) = rw (seek_none 0 p, none_param (b ∷ p)) (ap (λ (o : Option K). or_else o None) (seek_none _ p))

  -- nothing goes on by a parameter
  pub by_byte : (b : ℕ) (rs : RowsOf K) (p : List ℕ) → step 256 rs ≡ [] → step 257 rs ≡ [] → seek 0 rs (b ∷ p) ≡ seek 0 (step b rs) p
  unfolding seek
  by_byte b rs p e f = rw (e, f, none_param (b ∷ p)) (ap (λ (o : Option K). or_else (seek 0 (step b rs) p) (or_else o None)) (seek_none _ p) ∙ or_none _)

  pub seek_front : (x b : ℕ) (rs : RowsOf K) (p : List ℕ) → (x == 256) ≡ false → (x == 257) ≡ false → seek 0 (front x rs) (b ∷ p) ≡ cond (x == b) (seek 0 rs p) None
  seek_front x b rs p e f =
      by_byte b (front x rs) p (step_front false x 256 e rs) (step_front false x 257 f rs)
      ∙ ap (λ (rs : RowsOf K). seek 0 rs p) (step_front (x == b) x b refl rs) ∙ pick (x == b)
    where
      pick : (same : Bool) → seek 0 (cond same rs []) p ≡ cond same (seek 0 rs p) None
      pick true = refl
      pick false = seek_none 0 p

  -- nothing goes on by a byte
  pub no_byte : (rs : RowsOf K) (b : ℕ) (p : List ℕ) → step b rs ≡ [] → step 257 rs ≡ []
      → seek 0 rs (b ∷ p) ≡ seek ((param_step (step 256 rs) (b ∷ p)).0 - 1) (param_step (step 256 rs) (b ∷ p)).1 p
  unfolding seek
  no_byte rs b p e f = rw (e, f, seek_none 0 p) (or_none _)

  -- a walk that skips bytes
  pub seek_skip : (n : ℕ) (rs : RowsOf K) (p : List ℕ) → seek n rs p ≡ seek 0 rs (drop n p)
  unfolding seek
  seek_skip zero rs p = refl
  seek_skip (suc n) rs [] = refl
  seek_skip (suc n) rs (b ∷ p) = seek_skip n rs p

  pub seek_all : (rs : RowsOf K) (p : List ℕ) → seek (length p) rs p ≡ own rs
  unfolding seek
  seek_all rs [] = refl
  seek_all rs (b ∷ p) = seek_all rs p

-- ---- bytes

pub low_byte : (b : ℕ) → is_ascii b ≡ true → (256 == b) ≡ false
low_byte b h = at (256 == b) refl
  where
    at : (same : Bool) → (256 == b) ≡ same → same ≡ false
    at false e = refl
    at true e = let low = ltb-true b 128 h in let is = eqb-true 256 b e in absurd (omega arith)

-- ---- slashes

-- a path without a slash, and one with a first slash
abbrev pub IsWhole : List ℕ → Type 0
IsWhole p = (has_slash p ≡ false) × (segment p ≡ p) × (parts p ≡ p ∷ [])

abbrev pub IsCutAt : List ℕ → List ℕ → List ℕ → Type 0
IsCutAt p h t = (p ≡ h ++ 47 ∷ t) × (segment p ≡ h ++ 47 ∷ []) × (has_slash p ≡ true) × (parts p ≡ h ∷ parts t)

pub slash_or_none : (p : List ℕ) → IsWhole p ⊎ ((h : List ℕ) × (t : List ℕ) × IsCutAt p h t)
slash_or_none [] = inl (refl, refl, refl)
slash_or_none (b ∷ p) = at (b == 47) refl (slash_or_none p)
  where
    at : (here : Bool) → (b == 47) ≡ here → IsWhole p ⊎ ((h : List ℕ) × (t : List ℕ) × IsCutAt p h t) → IsWhole (b ∷ p) ⊎ ((h : List ℕ) × (t : List ℕ) × IsCutAt (b ∷ p) h t)
    at true e rest = let is : b ≡ 47 = eqb-true b 47 e in inr ([], p, (ap (λ x. x ∷ p) is, rw e (ap (λ x. x ∷ []) is), rw e refl, rw e refl))
    at false e (inl w) = inl (rw e w.0, rw e (ap (λ l. b ∷ l) w.1), rw e (ap (with_byte b) w.2))
    at false e (inr w) =
        inr (b ∷ w.0, w.1, (ap (λ l. b ∷ l) w.2.0, rw e (ap (λ l. b ∷ l) w.2.1), rw e w.2.2, rw e (ap (with_byte b) w.2.3)))

slash_here : (here rest : Bool) → rest ≡ true → cond here true rest ≡ true
slash_here true rest h = refl
slash_here false rest h = h

slash_there : (before : List ℕ) → has_slash (before ++ 47 ∷ []) ≡ true
slash_there [] = refl
slash_there (b ∷ before) = slash_here (b == 47) _ (slash_there before)

pub whole_ends : (p : List ℕ) (r : Bool) → r ≡ ends_with nat_eq p (47 ∷ []) → has_slash p ≡ false → r ≡ false
whole_ends p false is none = refl
whole_ends p true is none =
    let ends = (ends_is Decides-eqb p (47 ∷ []) true is).0 refl in
    let there : has_slash p ≡ true = ap has_slash ends ∙ slash_there (take {A = ℕ} (length {A = ℕ} p - length {A = ℕ} (47 ∷ [])) p) in
    cc

-- there is a first part
pub parts_some : (p : List ℕ) → (w : List ℕ) × (ps : List (List ℕ)) × (parts p ≡ w ∷ ps)
parts_some [] = ([], [], refl)
parts_some (b ∷ p) = at (b == 47) refl (parts_some p)
  where
    at : (here : Bool) → (b == 47) ≡ here → (w : List ℕ) × (ps : List (List ℕ)) × (parts p ≡ w ∷ ps) → (w : List ℕ) × (ps : List (List ℕ)) × (parts (b ∷ p) ≡ w ∷ ps)
    at true e q = ([], parts p, rw e refl)
    at false e q = (b ∷ q.0, q.1, rw e (ap (with_byte b) q.2))

pub and_false : (t u : Bool) → u ≡ false → (t && u) ≡ false
and_false true u h = h
and_false false u h = refl
