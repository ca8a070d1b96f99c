-- Lists of passes, of their numbers, and of their calls.
use Rattle.std.proofs.Common.{◌≡◌, ◌≢◌, ◌⊎◌, inl, inr, ℕ, zero, suc, ◌+◌, ◌≤◌, Bool, true, false, true≢false, cond, List, [], ◌∷◌, ◌++◌, length, set, Some, None, refl, sym, ap, ◌∙◌, arith, length-append, append-nil, Contains, All, eqb, ne_eqb, nat_lt}
use Rattle.std.proofs.lemmas.Bool.Decides.{nat_tests}
use Rattle.std.proofs.lemmas.List.Elements.{filter-append}
use mathlib.Core.Option.{some, some-ne-none, some-injective}
use mathlib.Core.List.{IsPrefix}
use mathlib.Core.Logic.{dite}
use native.Mathlib.Decide.{ℕ_discrete}
use lib.ListN.{get_elem?}
use Rattle.atomic_table.proofs.Lists.{set_else}
use Rattle.ht_base.specs.History.{Entry, IsLegal, end_of, own}
use Rattle.ht_shared.specs.Rule.{total}
use Rattle.ht_shared.specs.Plays.{longer}

pub off : {A : Type 0} → false ≡ true → A
off e = absurd (true≢false (sym e))

pub some_same : {m n : ℕ} → Some m ≡ Some n → m ≡ n
some_same e = cc

pub some_value : {A : Type 0} {x y : A} → Some x ≡ Some y → x ≡ y
some_value e = cc (e)

pub none_not_some : {A B : Type 0} {x : A} → None ≡ Some x → B
none_not_some e = absurd (cc (e))

pub get_here : {A : Type 0} (l : List A) (i : ℕ) (a b : A) → get_elem? l i ≡ some a → get_elem? (set l i b) i ≡ some b
get_here [] i a b e = absurd (some-ne-none a (sym e))
get_here (x ∷ xs) zero a b e = refl
get_here (x ∷ xs) (suc i) a b e = get_here xs i a b e

-- ---- sums over all passes

module _ {V : Type 0} (f : V → ℕ) where
  pub total_set : (views : List V) (id : ℕ) (v w : V) → get_elem? views id ≡ some v → total f (set views id w) + f v ≡ total f views + f w
  total_set [] id v w e = absurd (some-ne-none v (sym e))
  total_set (u ∷ us) zero v w e = let same : f u ≡ f v = ap f (some-injective u v e) in omega arith
  total_set (u ∷ us) (suc id) v w e = let r = total_set us id v w e in omega arith

  pub total_snoc : (views : List V) (w : V) → total f (views ++ w ∷ []) ≡ total f views + f w
  total_snoc [] w = omega arith
  total_snoc (u ∷ us) w = let r = total_snoc us w in omega arith

  pub total_one : (views : List V) (id : ℕ) (v : V) → get_elem? views id ≡ some v → f v ≤ total f views
  total_one [] id v e = absurd (some-ne-none v (sym e))
  total_one (u ∷ us) zero v e = let same : f u ≡ f v = ap f (some-injective u v e) in omega arith
  total_one (u ∷ us) (suc id) v e = let r = total_one us id v e in omega arith

  -- two passes are two summands
  pub total_two : (views : List V) (id j : ℕ) (v w : V) → get_elem? views id ≡ some v → get_elem? views j ≡ some w → j ≢ id → f v + f w ≤ total f views
  total_two [] id j v w e h apart = absurd (some-ne-none v (sym e))
  total_two (u ∷ us) zero zero v w e h apart = absurd (apart refl)
  total_two (u ∷ us) zero (suc j) v w e h apart = let same : f u ≡ f v = ap f (some-injective u v e) in let r = total_one us j w h in omega arith
  total_two (u ∷ us) (suc id) zero v w e h apart = let same : f u ≡ f w = ap f (some-injective u w h) in let r = total_one us id v e in omega arith
  total_two (u ∷ us) (suc id) (suc j) v w e h apart = let r = total_two us id j v w e h (λ q. apart (ap suc q)) in omega arith

pub total_le : {V : Type 0} (f g : V → ℕ) (views : List V) → ((by : ℕ) (v : V) → get_elem? views by ≡ some v → f v ≤ g v) → total f views ≤ total g views
total_le f g [] h = omega arith
total_le f g (u ∷ us) h = let a = h 0 u refl in let r = total_le f g us (λ by v e. h (suc by) v e) in omega arith

-- the pass at a place, after one changed
pub now_at : {V : Type 0} (views : List V) (id by : ℕ) (v w u : V) → get_elem? views id ≡ some v → get_elem? views by ≡ some u → ((by ≡ id) × (u ≡ v) × (get_elem? (set views id w) by ≡ some w)) ⊎ ((by ≢ id) × (get_elem? (set views id w) by ≡ some u))
now_at {V} views id by v w u at e =
    dite (ℕ_discrete by id)
    (λ (q : by ≡ id). inl (q, some-injective u v (sym e ∙ (ap (get_elem? views) q ∙ at)), ap (get_elem? (set views id w)) q ∙ get_here views id v w at))
    (λ (n : by ≢ id). inr (n, set_else views id by w n ∙ e))

-- ---- numbers in a list

pub contains_first : {X : Type 0} (x : X) (xs : List X) → Contains (x ∷ xs) x
contains_first x xs = (0, omega arith, refl)

pub contains_later : {X : Type 0} (x y : X) (xs : List X) → Contains xs y → Contains (x ∷ xs) y
contains_later x y xs h = (suc h.0, (let b = h.1 in omega arith), h.2)

pub contains_cases : {X : Type 0} (x y : X) (xs : List X) → Contains (x ∷ xs) y → (x ≡ y) ⊎ Contains xs y
contains_cases {X} x y xs (zero, b, e) = inl e
contains_cases {X} x y xs (suc k, b, e) = inr (k, omega arith, e)

pub contains_none : {X B : Type 0} (y : X) → Contains [] y → B
contains_none y h = let b = h.1 in absurd (omega arith)

-- ---- histories

pub prefix_same : {X : Type 0} (xs : List X) → IsPrefix xs xs
prefix_same xs = ([], append-nil xs)

-- of two beginnings of one list the shorter begins the longer
pub prefix_order : {X : Type 0} (xs ys history : List X) → IsPrefix xs history → IsPrefix ys history → length xs ≤ length ys → IsPrefix xs ys
prefix_order [] ys history p q le = (ys, refl)
prefix_order (x ∷ xs) [] history p q le = absurd (omega arith)
prefix_order (x ∷ xs) (y ∷ ys) [] (r, e) q le = absurd (cc (e))
prefix_order (x ∷ xs) (y ∷ ys) (z ∷ history) (r, e) (s, f) le =
    let rest = prefix_order xs ys history (r, tail_same _ _ _ _ e) (s, tail_same _ _ _ _ f) (omega arith) in
    let head : x ≡ y = head_same _ _ _ _ e ∙ sym (head_same _ _ _ _ f) in
    (rest.0, ap (λ h. h ∷ (xs ++ rest.0)) head ∙ ap (λ t. y ∷ t) rest.1)
  where
    head_or : {X : Type 0} → X → List X → X
    head_or d [] = d
    head_or d (a ∷ rest) = a

    tail_or : {X : Type 0} → List X → List X
    tail_or [] = []
    tail_or (a ∷ rest) = rest

    head_same : {X : Type 0} (a b : X) (xs ys : List X) → a ∷ xs ≡ b ∷ ys → a ≡ b
    head_same a b xs ys e = ap (head_or a) e

    tail_same : {X : Type 0} (a b : X) (xs ys : List X) → a ∷ xs ≡ b ∷ ys → xs ≡ ys
    tail_same a b xs ys e = ap tail_or e

module _ {T E R : Type 0} where
  pub own-append : (n : ℕ) (xs ys : List (Entry T E R)) → own n (xs ++ ys) ≡ own n xs ++ own n ys
  own-append n xs ys = filter-append (λ (e : Entry T E R). eqb e.pass n) xs ys

  -- a call of another pass
  pub own_other : (n : ℕ) (e : Entry T E R) → e.pass ≢ n → own n (e ∷ []) ≡ []
  own_other n e apart = rw (ne_eqb e.pass n apart) refl

  -- where no call has the number
  pub own_none : (n : ℕ) (xs : List (Entry T E R)) → All (λ (e : Entry T E R). e.pass ≢ n) xs → own n xs ≡ []
  own_none n [] h = refl
  own_none n (e ∷ es) h = let apart : e.pass ≢ n = h 0 e (omega arith) in rw (ne_eqb e.pass n apart) (own_none n es (λ k d b. h (suc k) d (omega arith)))

  -- a part between a beginning and the whole has the calls that both have
  pub own_between : (n : ℕ) (xs ys history : List (Entry T E R)) → IsPrefix xs ys → IsPrefix ys history → own n history ≡ own n xs → own n ys ≡ own n xs
  own_between n xs ys history p q same =
      let a = ap length (sym (ap (own n) p.1) ∙ own-append n xs p.0) in
      let b = ap length (sym (ap (own n) q.1) ∙ own-append n ys q.0) in
      let c = ap length same in
      let none : own n p.0 ≡ [] = empty _ (omega (arith, a, b, c, length-append (own n xs) (own n p.0), length-append (own n ys) (own n q.0))) in
      sym (ap (own n) p.1) ∙ (own-append n xs p.0 ∙ (ap (λ l. own n xs ++ l) none ∙ append-nil (own n xs)))
    where
      empty : {X : Type 0} (xs : List X) → length xs ≡ 0 → xs ≡ []
      empty [] e = refl
      empty (x ∷ xs) e = absurd (omega arith)

  pub legal_on : (relates : T → E → R → T → Type 0) (s : T) (history : List (Entry T E R)) (e : Entry T E R) → IsLegal relates s history → relates (end_of s history) e.event e.reply e.after → IsLegal relates s (history ++ e ∷ [])
  legal_on relates s [] e legal step = (step, tt)
  legal_on relates s (x ∷ xs) e legal step = (legal.0, legal_on relates x.after xs e legal.1 step)

  pub end_on : (s : T) (history : List (Entry T E R)) (e : Entry T E R) → end_of s (history ++ e ∷ []) ≡ e.after
  end_on s [] e = refl
  end_on s (x ∷ xs) e = end_on x.after xs e

-- ---- the longer of two beginnings

pub prefix_whole : {X : Type 0} (xs history : List X) → IsPrefix xs history → length history ≤ length xs → xs ≡ history
prefix_whole xs history p le = sym (append-nil xs) ∙ (ap (λ l. xs ++ l) (sym (empty p.0 (let l : length (xs ++ p.0) ≡ length history = ap length p.1 in omega (arith, length-append xs p.0)))) ∙ p.1)
  where
    empty : {X : Type 0} (ys : List X) → length ys ≡ 0 → ys ≡ []
    empty [] e = refl
    empty (y ∷ ys) e = absurd (omega arith)

module _ {T E R : Type 0} where
  longer_by : (xs ys history : List (Entry T E R)) → IsPrefix xs history → IsPrefix ys history → (b : Bool) → nat_lt (length xs) (length ys) ≡ b
      → IsPrefix xs (cond b ys xs) × IsPrefix ys (cond b ys xs) × IsPrefix (cond b ys xs) history × (length xs ≤ length (cond b ys xs)) × (length ys ≤ length (cond b ys xs))
  longer_by xs ys history p q true test = let le : length xs ≤ length ys = grind (arith, nat_tests) in (prefix_order xs ys history p q le, prefix_same ys, q, le, omega arith)
  longer_by xs ys history p q false test = let le : length ys ≤ length xs = grind (arith, nat_tests) in (prefix_same xs, prefix_order ys xs history q p le, p, omega arith, le)

  pub longer_begins : (xs ys history : List (Entry T E R)) → IsPrefix xs history → IsPrefix ys history
      → IsPrefix xs (longer xs ys) × IsPrefix ys (longer xs ys) × IsPrefix (longer xs ys) history × (length xs ≤ length (longer xs ys)) × (length ys ≤ length (longer xs ys))
  longer_begins xs ys history p q = longer_by xs ys history p q (nat_lt (length xs) (length ys)) refl
