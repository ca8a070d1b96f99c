-- Lists whose names are distinct, and lists whose names ascend, item by item.
use Rattle.std.proofs.Common.{◌≡◌, ℕ, zero, suc, ◌<◌, Bool, true, false, not, ◌||◌, ◌&&◌, bytes_eq, get_or, List, [], ◌∷◌, ◌++◌, length, take, Some, refl, sym, ap, subst, append_assoc, arith, IsTrue}
use Rattle.std.specs.Prelude.{slice_get}
use Rattle.std.specs.List.{All, list_any, list_all}
use Rattle.std.proofs.lemmas.List.{append-nil}
use Rattle.std.proofs.lemmas.List.Elements.{All-head, All-tail}
use Rattle.std.proofs.lemmas.Option.{slice_get_within}
use Rattle.std.proofs.lemmas.Slice.Eq.{bytes_eq-Decides}
use Rattle.ht_base.proofs.PublicLaws.{front_has}
use Rattle.ht_base.specs.Events.{AreGiven, is_short}
use Rattle.ht_base.specs.Places.{IsRepeated}
use Rattle.ht_base.specs.Values.{Ascend}
use Rattle.ht_base.specs.declared.limits.TheConstants.{LONGEST_TEXT}
use Rattle.ht_base.specs.declared.scalar.Scalar.{Scalar}
use Rattle.ht_base.specs.declared.scalar.Scalar.TheVariants as scalars
use Rattle.ht_codec.specs.Fields.{name, is_new, new_name, scalar, last_name, is_behind, name_behind, new_part}
use Rattle.ht_codec.specs.Forms.{ItemsFit}
use Rattle.ht_codec.proofs.Steps.{some_is}

-- ---- a name among others

has_name : (ns : List (List ℕ)) (n : List ℕ) (j : ℕ) → slice_get ns j ≡ Some n → list_any (λ m. bytes_eq m n) ns ≡ true
has_name [] n j h = absurd cc
has_name (m ∷ ns) n zero h = let is : bytes_eq m n ≡ true = (bytes_eq-Decides m n).1 (some_is m n h) in rw is refl
has_name (m ∷ ns) n (suc j) h = at (bytes_eq m n) (has_name ns n j h)
  where
    at : (b : Bool) → list_any (λ k. bytes_eq k n) ns ≡ true → (b || list_any (λ k. bytes_eq k n) ns) ≡ true
    at true e = refl
    at false e = e

pub record StandsIn (ns : List (List ℕ)) (n : List ℕ) : Type 0 where
  pub place : ℕ
  pub there : slice_get ns place ≡ Some n

name_had : (ns : List (List ℕ)) (n : List ℕ) → list_any (λ m. bytes_eq m n) ns ≡ true → StandsIn ns n
name_had [] n h = absurd cc
name_had (m ∷ ns) n h = at (bytes_eq m n) refl h (name_had ns n)
  where
    at : (b : Bool) → bytes_eq m n ≡ b → (b || list_any (λ k. bytes_eq k n) ns) ≡ true → (list_any (λ k. bytes_eq k n) ns ≡ true → StandsIn ns n) → StandsIn (m ∷ ns) n
    at true is e later = record { place = 0; there = ap (λ k. Some k) ((bytes_eq-Decides m n).0 is) }
    at false is e later = let l = later e in record { place = suc l.place; there = l.there }

get_in_front : {A : Type 0} (xs ys : List A) (j : ℕ) (x : A) → slice_get xs j ≡ Some x → slice_get (xs ++ ys) j ≡ Some x
get_in_front [] ys j x h = absurd cc
get_in_front (z ∷ xs) ys zero x h = h
get_in_front (z ∷ xs) ys (suc j) x h = get_in_front xs ys j x h

get_at_seam : {A : Type 0} (xs : List A) (y : A) (ys : List A) → slice_get (xs ++ y ∷ ys) (length xs) ≡ Some y
get_at_seam [] y ys = refl
get_at_seam (z ∷ xs) y ys = get_at_seam xs y ys

-- ---- distinct names

items_new : (front ns : List (List ℕ)) → ItemsFit new_name front ns → (i : ℕ) (n : List ℕ) → slice_get ns i ≡ Some n → IsTrue (is_new (front ++ take i ns) n)
unfolding new_name
items_new front [] fits i n h = absurd cc
items_new front (m ∷ ns) fits zero n h = let same : m ≡ n = some_is m n h in subst (λ (l : List (List ℕ)). IsTrue (is_new l n)) (sym (append-nil front)) (subst (λ (k : List ℕ). IsTrue (is_new front k)) same fits.0.1)
items_new front (m ∷ ns) fits (suc i) n h = subst (λ (l : List (List ℕ)). IsTrue (is_new l n)) (append_assoc front (m ∷ []) (take i ns)) (items_new (front ++ m ∷ []) ns fits.1 i n h)

not_both : (b : Bool) → b ≡ true → not b ≡ true → ⊥
not_both true h k = absurd cc
not_both false h k = absurd cc

pub items_distinct : (ns : List (List ℕ)) → ItemsFit new_name [] ns → (place : ℕ) → IsRepeated ns place → ⊥
items_distinct ns fits place r =
    not_both (list_any (λ m. bytes_eq m r.2) (take place ns)) (has_name (take place ns) r.2 r.0 (front_has ns place r.0 r.2 r.1 r.3)) (items_new [] ns fits place r.2 r.4)

pub distinct_items : (front ns : List (List ℕ)) → ((place : ℕ) → IsRepeated (front ++ ns) place → ⊥) → All name.Fits ns → ItemsFit new_name front ns
unfolding new_name
distinct_items front [] distinct are = tt
distinct_items front (n ∷ ns) distinct are = (
  (All-head name.Fits n ns are, new (list_any (λ m. bytes_eq m n) front) (λ e. name_had front n e)),
  distinct_items (front ++ n ∷ []) ns (λ place r. distinct place (subst (λ (l : List (List ℕ)). IsRepeated l place) (append_assoc front (n ∷ []) ns) r)) (All-tail name.Fits n ns are),
)
  where
    new : (b : Bool) → (b ≡ true → StandsIn front n) → not b ≡ true
    new false h = refl
    new true h =
        let s = h refl in
        absurd (distinct (length front) (s.place, slice_get_within front s.place n s.there, n, get_in_front front (n ∷ ns) s.place n s.there, get_at_seam front n ns))

-- ---- ascending names

pub last_pushed : (front : List (List ℕ × Scalar)) (v : List ℕ × Scalar) → last_name (front ++ v ∷ []) ≡ Some v.0
last_pushed [] v = refl
last_pushed (w ∷ []) v = refl
last_pushed (w ∷ x ∷ front) v = last_pushed (x ∷ front) v

abbrev pub PartFits : List ℕ × Scalar → Type 0
PartFits v = name.Fits v.0 × scalar.Fits v.1

pub ascending_items : (front : List (List ℕ × Scalar)) (v : List ℕ × Scalar) (vs : List (List ℕ × Scalar)) → IsTrue (is_behind (last_name front) v.0) → Ascend (v ∷ vs) → All PartFits (v ∷ vs) → ItemsFit new_part front (v ∷ vs)
unfolding name_behind
ascending_items front v [] behind ascend are = let p = All-head PartFits v [] are in (((p.0, behind), p.1), tt)
ascending_items front v (w ∷ vs) behind ascend are =
    let p = All-head PartFits v (w ∷ vs) are in
    let next : IsTrue (is_behind (last_name (front ++ v ∷ [])) w.0) = rw (last_pushed front v) ascend.0 in
    (((p.0, behind), p.1), ascending_items (front ++ v ∷ []) w vs next ascend.1 (All-tail PartFits v (w ∷ vs) are))

pub items_short : (front vs : List (List ℕ × Scalar)) → ((v : List ℕ × Scalar) → scalar.Fits v.1 → is_short LONGEST_TEXT v ≡ true) → ItemsFit new_part front vs → list_all (is_short LONGEST_TEXT) vs ≡ true
items_short front [] short fits = refl
items_short front (v ∷ vs) short fits = rw (short v fits.0.1) (items_short (front ++ v ∷ []) vs short fits.1)

both : (a b : Bool) → (a && b) ≡ true → (a ≡ true) × (b ≡ true)
both true b h = (refl, h)
both false b h = absurd cc

unnamed : (n : List ℕ) (s : Scalar) → is_short LONGEST_TEXT (n, s) ≡ true → is_short LONGEST_TEXT ([], s) ≡ true
unnamed n (scalars.Text t) h = h
unnamed n (scalars.Int z) h = refl
unnamed n (scalars.Truth b) h = refl

-- a part's text is short, whatever its name
pub short_at : (vs : List (List ℕ × Scalar)) (i : ℕ) (d : List ℕ × Scalar) → i < length vs → list_all (is_short LONGEST_TEXT) vs ≡ true → is_short LONGEST_TEXT ([], (get_or vs i d).1) ≡ true
short_at [] i d lt h = absurd (omega arith)
short_at ((n, s) ∷ vs) zero d lt h = unnamed n s (both (is_short LONGEST_TEXT (n, s)) (list_all (is_short LONGEST_TEXT) vs) h).0
short_at (v ∷ vs) (suc i) d lt h = short_at vs i d (omega arith) (both (is_short LONGEST_TEXT v) (list_all (is_short LONGEST_TEXT) vs) h).1

pub are_short : (vs ws : List (List ℕ × Scalar)) → ws ≡ vs → AreGiven vs → list_all (is_short LONGEST_TEXT) ws ≡ true
are_short vs ws same h = rw same h.short
