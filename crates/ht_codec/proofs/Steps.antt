-- Steps of reading: what is known where one answers, and where one fails.
use Rattle.std.proofs.Common.{◌≡◌, ℕ, ◌+◌, Bool, true, false, cond, List, [], ◌∷◌, ◌++◌, length, take, drop, Option, Some, None, Result, Ok, Err, refl, sym, ap, subst, ◌∙◌, arith, inl, inr, IsTrue, ◌⊎◌}
use Rattle.std.proofs.lemmas.Bool.{cases_lt}
use Rattle.std.proofs.lemmas.List.{drop_at, length-take, length-append, get_or-drop, get_or-take, get_or_past}
use Rattle.ht_codec.specs.Reading.{◌>>=◌}
use Rattle.ht_codec.specs.Forms.{meant}
use Rattle.ht_codec.specs.Records.{IsBytes}
use Rattle.ht_codec.specs.declared.refusal.CodecRefusal.{CodecRefusal}

-- ---- bytes

pub IsBytes-drop : (n : ℕ) (bytes : List ℕ) → IsBytes bytes → IsBytes (drop n bytes)
IsBytes-drop n bytes h i = rw get_or-drop (h (n + i))

pub IsBytes-take : (n : ℕ) (bytes : List ℕ) → IsBytes bytes → IsBytes (take n bytes)
IsBytes-take n bytes h i =
    elim (cases_lt i n) [
      | inl lt ↦ rw (get_or-take n bytes i 0 lt) (h i)
      | inr le ↦ rw (get_or_past (take n bytes) i 0 (omega (arith, length-take n bytes))) (omega arith)
    ]

pub IsBytes-behind : (front rest bytes : List ℕ) → bytes ≡ front ++ rest → IsBytes bytes → IsBytes rest
IsBytes-behind front rest bytes e h =
    let r : IsBytes (drop (length front) bytes) = IsBytes-drop (length front) bytes h in
    subst (λ (l : List ℕ). IsBytes l) (ap (drop (length front)) e ∙ drop_at front rest (length front) refl) r

-- nothing is cut out of no bytes
pub no_cut : (front : List ℕ) (c : ℕ) (more : List ℕ) → [] ≡ front ++ c ∷ more → ⊥
no_cut front c more e = let l = ap length e in omega (arith, length-append front (c ∷ more))

-- Bytes in two pieces that are cut are cut in the first, or in the second.
pub record CutBehind (first second front : List ℕ) (c : ℕ) (more : List ℕ) : Type 0 where
  pub kept : List ℕ
  pub whole : front ≡ first ++ kept
  pub cut : second ≡ kept ++ c ∷ more

pub record CutWithin (first front : List ℕ) : Type 0 where
  pub next : ℕ
  pub more : List ℕ
  pub cut : first ≡ front ++ next ∷ more

head_is : (x y : ℕ) (xs ys : List ℕ) → x ∷ xs ≡ y ∷ ys → x ≡ y
head_is x y xs ys e = cc

tail_is : (x y : ℕ) (xs ys : List ℕ) → x ∷ xs ≡ y ∷ ys → xs ≡ ys
tail_is x y xs ys e = cc

pub cut_in_two : (first second front : List ℕ) (c : ℕ) (more : List ℕ) → first ++ second ≡ front ++ c ∷ more → CutWithin first front ⊎ CutBehind first second front c more
cut_in_two [] second front c more e = inr (record { kept = front; whole = refl; cut = e })
cut_in_two (x ∷ first) second [] c more e = inl (record { next = x; more = first; cut = refl })
cut_in_two (x ∷ first) second (y ∷ front) c more e =
    let same = head_is x y (first ++ second) (front ++ c ∷ more) e in
    elim (cut_in_two first second front c more (tail_is x y (first ++ second) (front ++ c ∷ more) e)) [
      | inl w ↦ inl (record { next = w.next; more = w.more; cut = ap (λ n. n ∷ first) same ∙ ap (λ l. y ∷ l) w.cut })
      | inr b ↦ inr (record { kept = b.kept; whole = ap (λ l. y ∷ l) b.whole ∙ ap (λ n. n ∷ (first ++ b.kept)) (sym same); cut = b.cut })
    ]

-- ---- answers

abbrev done : {A : Type 0} → A → Result A CodecRefusal
done x = Ok x

pub ok_is : {A : Type 0} (x y : A) → done x ≡ done y → x ≡ y
ok_is x y e = cc

pub some_is : {A : Type 0} (x y : A) → Some x ≡ Some y → x ≡ y
some_is x y e = cc

pub bind_ok : {A B : Type 0} (r : Result A CodecRefusal) (f : A → Result B CodecRefusal) (y : B) → (r >>= f) ≡ Ok y → (x : A) × (r ≡ Ok x) × (f x ≡ Ok y)
bind_ok (Ok x) f y e = (x, refl, e)
bind_ok (Err d) f y e = absurd cc

pub guard_ok : {A : Type 0} (b : Bool) (d : CodecRefusal) (x y : A) → cond b (Err d) (Ok x) ≡ Ok y → (b ≡ false) × (x ≡ y)
guard_ok true d x y e = absurd cc
guard_ok false d x y e = (refl, cc)

pub test_ok : {A : Type 0} (b : Bool) (d : CodecRefusal) (x y : A) → cond b (Ok x) (Err d) ≡ Ok y → IsTrue b × (x ≡ y)
test_ok true d x y e = (refl, cc)
test_ok false d x y e = absurd cc

pub test_is : {A : Type 0} (b : Bool) (x y : A) → IsTrue b → cond b x y ≡ x
test_is true x y h = refl
test_is false x y h = absurd cc

pub meant_ok : {Y : Type 0} (fault : CodecRefusal) (o : Option Y) (left : List ℕ) (y : Y × List ℕ) → meant fault o left ≡ Ok y → (o ≡ Some y.0) × (left ≡ y.1)
meant_ok fault (Some z) left y e = (ap (λ (v : _ × List ℕ). Some v.0) (ok_is (z, left) y e), ap (λ (v : _ × List ℕ). v.1) (ok_is (z, left) y e))
meant_ok fault None left y e = absurd cc

-- ---- faults

pub bind_err : {A B : Type 0} (r : Result A CodecRefusal) (f : A → Result B CodecRefusal) (e : CodecRefusal) → (r >>= f) ≡ Err e → (r ≡ Err e) ⊎ ((x : A) × (r ≡ Ok x) × (f x ≡ Err e))
bind_err (Ok x) f e h = inr (x, refl, h)
bind_err (Err d) f e h = inl cc

-- a step that only makes another value of it doesn't fail
pub made_err : {A B : Type 0} (r : Result A CodecRefusal) (f : A → B) (e : CodecRefusal) → (r >>= λ x. Ok (f x)) ≡ Err e → r ≡ Err e
made_err (Ok x) f e h = absurd cc
made_err (Err d) f e h = cc

pub guard_err : {A : Type 0} (b : Bool) (d : CodecRefusal) (x : A) (e : CodecRefusal) → cond b (Err d) (Ok x) ≡ Err e → IsTrue b × (e ≡ d)
guard_err true d x e h = (refl, cc)
guard_err false d x e h = absurd cc

pub test_err : {A : Type 0} (b : Bool) (d : CodecRefusal) (x : A) (e : CodecRefusal) → cond b (Ok x) (Err d) ≡ Err e → (b ≡ false) × (e ≡ d)
test_err true d x e h = absurd cc
test_err false d x e h = (refl, cc)

pub meant_err : {Y : Type 0} (fault : CodecRefusal) (o : Option Y) (left : List ℕ) (e : CodecRefusal) → meant fault o left ≡ Err e → (o ≡ None) × (e ≡ fault)
meant_err fault (Some z) left e h = absurd cc
meant_err fault None left e h = (refl, cc)
