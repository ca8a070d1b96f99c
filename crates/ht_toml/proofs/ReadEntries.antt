-- Entries read one after another, and the first that has another shape.
use Rattle.std.proofs.Common.{◌≡◌, ◌≢◌, ℕ, ◌+◌, ◌<◌, ◌≤◌, zero, suc, List, [], ◌∷◌, ◌++◌, length, map, take, get_or, Option, Some, None, option_map, refl, ap, ◌∙◌, arith, subst, sym}
use Rattle.std.specs.Prelude.{slice_get}
use Rattle.std.specs.Option.{option_and_then}
use Rattle.std.proofs.lemmas.List.{take_more}
use Rattle.std.proofs.Math.Seq.{take-length}
use Rattle.std.proofs.lemmas.Option.{get_or_from_slice_get, slice_get-map, slice_get_read, slice_get_within}
use Rattle.ht_base.specs.Places.{IsLeast}
use Rattle.ht_toml.specs.Entries.{IsMisshapen, each}
use Rattle.ht_toml.specs.Refusals.{TellsLeast, refused}
use Rattle.ht_toml.specs.declared.entries.EntriesFault.{EntriesFault}
use Rattle.ht_toml.specs.declared.entries.EntriesFault.TheVariants.{Memory, Misshapen}

-- an element of a list, as it is seen
pub seen_at : {A B : Type 0} (view : A → B) (xs : List A) (i : ℕ) (x : A) → i < length xs → x ≡ get_or xs i x → slice_get (map view xs) i ≡ Some (view x)
seen_at view xs i x h e = slice_get-map view xs i ∙ ap (option_map view) (slice_get_read xs (length xs) i x refl h e)

-- an entry before the others
abbrev joined : {B : Type 0} → Option B → Option (List B) → Option (List B)
joined o r = option_and_then (λ e. option_map (λ es. e ∷ es) r) o

push_joined : {B : Type 0} (o : Option B) (r s : Option (List B)) (es : List B) (e : B) → ((ys : List B) → r ≡ Some ys → s ≡ Some (ys ++ e ∷ [])) → joined o r ≡ Some es → joined o s ≡ Some (es ++ e ∷ [])
push_joined None r s es e more h = cc
push_joined (Some y) None s es e more h = cc
push_joined {B} (Some y) (Some ys) s es e more h =
    let same : y ∷ ys ≡ es = cc in
    ap (λ (t : Option (List B)). joined (Some y) t) (more ys refl) ∙ ap (λ (l : List B). Some (l ++ e ∷ [])) same

each_push : {A B : Type 0} (of : A → Option B) (ds : List A) (d : A) (es : List B) (e : B) → of d ≡ Some e → each of ds ≡ Some es → each of (ds ++ d ∷ []) ≡ Some (es ++ e ∷ [])
each_push {A} {B} of [] d es e is h =
    let same : [] ≡ es = cc in
    rw is (ap (λ (l : List B). Some (l ++ e ∷ [])) same)
each_push of (x ∷ ds) d es e is h = push_joined (of x) (each of ds) (each of (ds ++ d ∷ [])) es e (λ ys k. each_push of ds d ys e is k) h

-- one more entry
pub each_more : {A B : Type 0} (of : A → Option B) (ds : List A) (i : ℕ) (d : A) (es : List B) (e : B) → slice_get ds i ≡ Some d → of d ≡ Some e → each of (take i ds) ≡ Some es → each of (take (i + 1) ds) ≡ Some (es ++ e ∷ [])
each_more of ds i d es e at is h =
    rw (take_more ds i d (slice_get_within ds i d at), get_or_from_slice_get ds i d d at) (each_push of (take i ds) d es e is h)

rest_missing : {B : Type 0} (o : Option B) → joined o None ≡ None
rest_missing None = refl
rest_missing (Some y) = refl

-- where one entry has another shape there is no list
pub each_stops : {A B : Type 0} (of : A → Option B) (ds : List A) (i : ℕ) (d : A) → slice_get ds i ≡ Some d → of d ≡ None → each of ds ≡ None
each_stops of [] i d at is = cc
each_stops {A} of (x ∷ ds) zero d at is =
    let same : x ≡ d = cc in
    rw (same, is) refl
each_stops of (x ∷ ds) (suc i) d at is = rw (each_stops of ds i d at is) (rest_missing (of x))

-- no entry that was read has another shape
read_at : {A B : Type 0} (of : A → Option B) (ds : List A) (i j : ℕ) (es : List B) → each of (take i ds) ≡ Some es → IsMisshapen of ds j → i ≤ j
read_at of ds zero j es h bad = omega arith
read_at of [] (suc i) j es h (d, at, is) = cc
read_at {A} {B} of (x ∷ ds) (suc i) zero es h (d, at, is) =
    let same : x ≡ d = cc in
    let none : of x ≡ None = ap of same ∙ is in
    let e : None ≡ Some es = rw none at h in
    cc
read_at {A} {B} of (x ∷ ds) (suc i) (suc j) es h bad = rest (of x) (each of (take i ds)) h (λ ys e. read_at of ds i j ys e bad)
  where
    rest : (o : Option B) (r : Option (List B)) → joined o r ≡ Some es → ((ys : List B) → r ≡ Some ys → i ≤ j) → suc i ≤ suc j
    rest None r h more = cc
    rest (Some y) None h more = cc
    rest (Some y) (Some ys) h more = let low = more ys refl in omega arith

-- the entry behind those that were read is the first that has
pub first_misshapen : {A B : Type 0} (of : A → Option B) (ds : List A) (i : ℕ) (d : A) (es : List B) → slice_get ds i ≡ Some d → of d ≡ None → each of (take i ds) ≡ Some es → IsLeast (IsMisshapen of ds) i
first_misshapen of ds i d es at is h = record { holds = (d, at, is); least = λ j bad. read_at of ds i j es h bad }

-- where every entry was read, none has
pub all_there : {A B : Type 0} (of : A → Option B) (ds : List A) (es : List B) → each of ds ≡ Some es → (j : ℕ) → IsMisshapen of ds j → ⊥
all_there of ds es h j bad =
    let low : length ds ≤ j = read_at of ds (length ds) j es (rw take-length h) bad in
    let within = slice_get_within ds j bad.0 bad.1 in
    omega arith

-- the place that is told is the least
pub misshapen_least : (P : ℕ → Type 0) (place : ℕ) (fault : EntriesFault) → fault ≡ Misshapen place → (fault ≢ Memory → TellsLeast (refused Misshapen P) fault) → IsLeast P place
misshapen_least P place fault is told =
    let some : fault ≢ Memory = (λ none. let e : Misshapen place ≡ Memory = sym is ∙ none in cc) in
    let first = told some in
    let same : first.0 ≡ place = (let e : Misshapen first.0 ≡ Misshapen place = sym first.1 ∙ is in cc) in
    subst (IsLeast P) same first.2
