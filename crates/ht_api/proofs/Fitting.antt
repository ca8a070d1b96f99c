-- What fits is in its limits.
use Rattle.std.proofs.Common.{◌≡◌, ◌∙◌, sym, ap, refl, subst, ℕ, ℤ, zero, suc, ◌<◌, ◌≤◌, ◌&&◌, ◌||◌, Bool, true, false, not, List, [], ◌∷◌, ◌++◌, length, append_assoc, Option, Some, None, option_map, option_and_then, if◌then◌else◌, nat_eq, nat_le, nat_lt, arith}
use Rattle.std.specs.Prelude.{IfSome, String, slice_get}
use Rattle.std.specs.Cmp.Lexicographic.{pointwise}
use Rattle.std.specs.List.{list_all}
use Rattle.std.proofs.lemmas.Bool.{and_parts, le-leb, leb-true, ltb-true, lt-leb, lt-ltb}
use Rattle.std.proofs.lemmas.Cmp.{nat_list_eq_equiv}
use Rattle.std.specs.declared.alloc.Global.{Global}
use Rattle.serde_json.specs.Data.{Data, null, boolean, number, string, array, object, Items, no_items, item, Members, no_members, member}
use Rattle.serde_json.specs.Events.{items_len, members_len}
use Rattle.serde_json.specs.Find.{as_array, as_i64, as_number, as_object, as_str, as_u64}
use Rattle.serde_json.specs.View.{items_view, members_view}
use Rattle.serde_json.specs.declared.value.Value.{Value}
use Rattle.serde_json.proofs.Views.{items_len-items_view, members_len-members_view}
use Rattle.ht_base.specs.declared.limits.TheConstants.{LONGEST_PERIOD, LONGEST_TEXT, MOST_NAMES, MOST_PARTS}
use Rattle.ht_base.specs.declared.scalar.Scalar.{Scalar}
use Rattle.ht_base.specs.declared.scalar.Scalar.TheVariants.{Text, Int, Truth}
use Rattle.ht_base.specs.Events.{AreGiven, AreNames, is_short}
use Rattle.ht_base.proofs.PublicLaws.{period_exact, period_reads, period_short}
use Rattle.ht_base.specs.declared.moment.Moment.{Moment}
use Rattle.ht_base.specs.Moment.{last_moment}
use Rattle.ht_base.specs.Name.{name_of}
use Rattle.ht_base.specs.Periods.{IsPeriod, PeriodText, millis, period_of}
use Rattle.ht_base.specs.Places.{IsRepeated}
use Rattle.ht_api.specs.Fits.{are_distinct, holds_name, if_any, moment_in, name_in, names_of, owners_in, part_in, parts_if, parts_in, parts_of, period_in, persons_if, persons_in, scalar_in, some_parts_in, text_if, text_in, whole_if, whole_in}

-- ---- what an option that is there came from

pub from_some : {A B : Type 0} (o : Option A) (f : A → Option B) (b : B) → option_and_then f o ≡ Some b → (a : A) × (o ≡ Some a) × (f a ≡ Some b)
from_some None f b e = cc
from_some (Some a) f b e = (a, refl, e)

pub from_if : {A : Type 0} (t : Bool) (a b : A) → (if t then Some a else None) ≡ Some b → (t ≡ true) × (a ≡ b)
from_if true a b e = (refl, cc)
from_if false a b e = cc

pub if_there : {A : Type 0} (o : Option A) (P : A → Type 0) (a : A) → IfSome o P → o ≡ Some a → P a
if_there None P a h e = cc
if_there (Some b) P a h e = let same : b ≡ a = cc in subst P same h

pub from_mapped : {A B : Type 0} (f : A → B) (o : Option A) (b : B) → option_map f o ≡ Some b → (a : A) × (o ≡ Some a) × (f a ≡ b)
from_mapped f None b e = cc
from_mapped f (Some a) b e = (a, refl, cc)

-- of what has at least one
pub some_fit : {A : Type 0} (o : Option (List A)) (xs : List A) (P : List A → Type 0) → option_and_then if_any o ≡ Some xs → ((ys : List A) → o ≡ Some ys → P ys) → P xs × (1 ≤ length xs)
some_fit o xs P e all =
    let p = from_some o if_any xs e in
    let s = from_if (nat_lt 0 (length p.0)) p.0 xs p.2 in
    let some = ltb-true 0 (length p.0) s.0 in
    subst (λ ys. P ys × (1 ≤ length ys)) s.1 (all p.0 p.1, omega arith)

-- ---- what a loop has read, before what is left

abbrev pub before : {A : Type 0} → List A → Option (List A) → Option (List A)
before read rest = option_map (λ more. read ++ more) rest

pub one_more : {A : Type 0} (read : List A) (x : A) (rest : Option (List A)) → before read (option_map (λ more. x ∷ more) rest) ≡ before (read ++ x ∷ []) rest
one_more read x None = refl
one_more read x (Some more) = ap (λ l. Some l) (sym (append_assoc read (x ∷ []) more))

pub all_read : {A : Type 0} (rest : Option (List A)) → before [] rest ≡ rest
all_read None = refl
all_read (Some more) = refl

-- ---- the count is known before anything is read

names_counted : (ds : Items) (names : List (List ℕ)) → names_of ds ≡ Some names → length names ≡ items_len ds
names_counted no_items names e = let same : [] ≡ names = cc in rw (← same) refl
names_counted (item d ds) names e =
    let q = from_some (name_in d) (λ name. option_map (λ more. name ∷ more) (names_of ds)) names e in
    let m = from_mapped (λ more. q.0 ∷ more) (names_of ds) names q.2 in
    rw (← m.2) (ap suc (names_counted ds m.0 m.1))

parts_counted : (ms : Members) (parts : List (List ℕ × Scalar)) → parts_of ms ≡ Some parts → length parts ≡ members_len ms
parts_counted no_members parts e = let same : [] ≡ parts = cc in rw (← same) refl
parts_counted (member k d ms) parts e =
    let q = from_some (part_in k d) (λ part. option_map (λ more. part ∷ more) (parts_of ms)) parts e in
    let m = from_mapped (λ more. q.0 ∷ more) (parts_of ms) parts q.2 in
    rw (← m.2) (ap suc (parts_counted ms m.0 m.1))

none_of : {A : Type 0} (o : Option (List A)) (f : List A → Option (List A)) → ((xs : List A) → o ≡ Some xs → f xs ≡ None) → option_and_then f o ≡ None
none_of None f none = refl
none_of (Some xs) f none = none xs refl

pub too_many_persons : (vs : List Value) → MOST_NAMES < length vs → option_and_then persons_if (names_of (items_view vs)) ≡ None
too_many_persons vs more = none_of (names_of (items_view vs)) persons_if (λ names e.
    let count = names_counted (items_view vs) names e ∙ items_len-items_view vs in
    let over : nat_le (length names) MOST_NAMES ≡ false = lt-leb (length names) MOST_NAMES (omega arith) in
    rw over refl)

pub few_persons : (vs : List Value) (names : List (List ℕ)) → length vs ≤ MOST_NAMES → names_of (items_view vs) ≡ Some names → persons_if names ≡ (if are_distinct names then Some names else None)
few_persons vs names few e =
    let count = names_counted (items_view vs) names e ∙ items_len-items_view vs in
    let within : nat_le (length names) MOST_NAMES ≡ true = le-leb (length names) MOST_NAMES (omega arith) in
    rw within refl

pub too_many_parts : (es : List (String Global × Value)) → MOST_PARTS < length es → option_and_then parts_if (parts_of (members_view es)) ≡ None
too_many_parts es more = none_of (parts_of (members_view es)) parts_if (λ parts e.
    let count = parts_counted (members_view es) parts e ∙ members_len-members_view es in
    let over : nat_le (length parts) MOST_PARTS ≡ false = lt-leb (length parts) MOST_PARTS (omega arith) in
    rw over refl)

pub few_parts : (es : List (String Global × Value)) → length es ≤ MOST_PARTS → option_and_then parts_if (parts_of (members_view es)) ≡ parts_of (members_view es)
few_parts es few = go (parts_of (members_view es)) refl
  where
    go : (o : Option (List (List ℕ × Scalar))) → parts_of (members_view es) ≡ o → option_and_then parts_if o ≡ o
    go None e = refl
    go (Some parts) e =
        let count = parts_counted (members_view es) parts e ∙ members_len-members_view es in
        let within : nat_le (length parts) MOST_PARTS ≡ true = le-leb (length parts) MOST_PARTS (omega arith) in
        rw within refl

-- ---- parts

int_short : (o : Option ℤ) (v : Scalar) (name : List ℕ) → option_map Int o ≡ Some v → is_short LONGEST_TEXT (name, v) ≡ true
int_short None v name e = cc
int_short (Some z) v name e = let same : Int z ≡ v = cc in rw (← same) refl

scalar_short : (d : Data) (v : Scalar) (name : List ℕ) → scalar_in d ≡ Some v → is_short LONGEST_TEXT (name, v) ≡ true
scalar_short null v name e = cc
scalar_short (boolean b) v name e = let same : Truth b ≡ v = cc in rw (← same) refl
scalar_short (number n) v name e = int_short (as_i64 n) v name e
scalar_short (string s) v name e =
    let p = from_if (nat_le (length s) LONGEST_TEXT) (Text s) v e in
    let few : length s ≤ LONGEST_TEXT = leb-true (length s) LONGEST_TEXT p.0 in
    rw (← p.1) (lt-ltb (length s) 513 (omega arith))
scalar_short (array ds) v name e = cc
scalar_short (object ms) v name e = cc

pub one_part_more : (read : List (List ℕ × Scalar)) (key name : List ℕ) (d : Data) (value : Scalar) (ms : Members) → name_of key ≡ Some name → scalar_in d ≡ Some value
    → before read (parts_of (member key d ms)) ≡ before (read ++ (name, value) ∷ []) (parts_of ms)
one_part_more read key name d value ms e f = rw (e, f) (one_more read (name, value) (parts_of ms))

part_short : (key : List ℕ) (d : Data) (part : List ℕ × Scalar) → part_in key d ≡ Some part → is_short LONGEST_TEXT part ≡ true
part_short key d part e =
    let q = from_some (name_of key) (λ name. option_map (λ value. (name, value)) (scalar_in d)) part e in
    let m = from_mapped (λ value. (q.0, value)) (scalar_in d) part q.2 in
    rw (← m.2) (scalar_short d m.0 q.0 m.1)

all_short : (ms : Members) (parts : List (List ℕ × Scalar)) → parts_of ms ≡ Some parts → list_all (is_short LONGEST_TEXT) parts ≡ true
all_short no_members parts e = let same : [] ≡ parts = cc in rw (← same) refl
all_short (member k d ms) parts e =
    let q = from_some (part_in k d) (λ part. option_map (λ more. part ∷ more) (parts_of ms)) parts e in
    let m = from_mapped (λ more. q.0 ∷ more) (parts_of ms) parts q.2 in
    rw (← m.2) (rw (part_short k d q.0 q.1, all_short ms m.0 m.1) refl)

pub no_parts : AreGiven []
no_parts = record { few = omega arith; short = refl }

pub given : (d : Data) (parts : List (List ℕ × Scalar)) → parts_in d ≡ Some parts → AreGiven parts
given d parts e =
    let p = from_some (option_and_then parts_of (as_object d)) parts_if parts e in
    let q = from_some (as_object d) parts_of p.0 p.1 in
    let s = from_if (nat_le (length p.0) MOST_PARTS) p.0 parts p.2 in
    let fit : AreGiven p.0 = record { few = leb-true (length p.0) MOST_PARTS s.0; short = all_short q.0 p.0 q.2 } in
    subst AreGiven s.1 fit

pub some_given : (d : Data) (parts : List (List ℕ × Scalar)) → some_parts_in d ≡ Some parts → AreGiven parts × (1 ≤ length parts)
some_given d parts e = some_fit (parts_in d) parts AreGiven e (given d)

-- ---- persons

first_or : (a b : Bool) → b ≡ true → (a || b) ≡ true
first_or true b h = refl
first_or false b h = h

holds_there : (names : List (List ℕ)) (name : List ℕ) (i : ℕ) → slice_get names i ≡ Some name → holds_name name names ≡ true
holds_there [] name i h = cc
holds_there (n ∷ ns) name zero h = let same : n ≡ name = cc in rw (same, nat_list_eq_equiv.refl name) refl
holds_there (n ∷ ns) name (suc i) h = first_or (pointwise nat_eq n name) (holds_name name ns) (holds_there ns name i h)

pub not_true : (b : Bool) → not b ≡ true → b ≡ false
not_true true e = cc
not_true false e = refl

distinct_is : (names : List (List ℕ)) → are_distinct names ≡ true → (i : ℕ) → IsRepeated names i → ⊥
distinct_is [] h i r = let there = r.3 in cc
distinct_is (n ∷ ns) h zero r = let below = r.1 in absurd (omega arith)
distinct_is (n ∷ ns) h (suc i) r = at r.0 r.1 r.2 r.3 r.4 (λ s. distinct_is ns p.1 i s)
  where
    p : (not (holds_name n ns) ≡ true) × (are_distinct ns ≡ true)
    p = and_parts (not (holds_name n ns)) (are_distinct ns) h

    at : (j : ℕ) → j < suc i → (x : List ℕ) → slice_get (n ∷ ns) j ≡ Some x → slice_get ns i ≡ Some x → (IsRepeated ns i → ⊥) → ⊥
    at zero l x first later rest = let held = holds_there ns x i later in let same : n ≡ x = cc in let new = not_true (holds_name n ns) p.0 in let too : holds_name n ns ≡ true = rw same held in cc
    at (suc j) l x first later rest = rest (j, omega arith, x, first, later)

pub persons_fit : (d : Data) (names : List (List ℕ)) → persons_in d ≡ Some names → AreNames names
persons_fit d names e =
    let p = from_some (option_and_then names_of (as_array d)) persons_if names e in
    let s = from_if (nat_le (length p.0) MOST_NAMES && are_distinct p.0) p.0 names p.2 in
    let t = and_parts (nat_le (length p.0) MOST_NAMES) (are_distinct p.0) s.0 in
    let fit : AreNames p.0 = record { few = leb-true (length p.0) MOST_NAMES t.0; distinct = distinct_is p.0 t.1 } in
    subst AreNames s.1 fit

pub owners_fit : (d : Data) (names : List (List ℕ)) → owners_in d ≡ Some names → AreNames names × (1 ≤ length names)
owners_fit d names e = some_fit (persons_in d) names AreNames e (persons_fit d)

pub whole_fits : (least most : ℕ) (d : Data) (n : ℕ) → whole_in least most d ≡ Some n → (least ≤ n) × (n ≤ most)
whole_fits least most d n e =
    let p = from_some (option_and_then as_u64 (as_number d)) (whole_if least most) n e in
    let s = from_if (nat_le least p.0 && nat_le p.0 most) p.0 n p.2 in
    let t = and_parts (nat_le least p.0) (nat_le p.0 most) s.0 in
    let low = leb-true least p.0 t.0 in
    let few = leb-true p.0 most t.1 in
    subst (λ (k : ℕ). (least ≤ k) × (k ≤ most)) s.1 (low, few)

pub text_fits : (d : Data) (text : List ℕ) → text_in d ≡ Some text → (1 ≤ length text) × (length text ≤ LONGEST_TEXT)
text_fits d text e =
    let p = from_some (as_str d) text_if text e in
    let s = from_if (nat_lt 0 (length p.0) && nat_le (length p.0) LONGEST_TEXT) p.0 text p.2 in
    let t = and_parts (nat_lt 0 (length p.0)) (nat_le (length p.0) LONGEST_TEXT) s.0 in
    let some = ltb-true 0 (length p.0) t.0 in
    let few = leb-true (length p.0) LONGEST_TEXT t.1 in
    subst (λ ys. (1 ≤ length ys) × (length ys ≤ LONGEST_TEXT)) s.1 (omega arith, omega arith)

pub moment_fits : (d : Data) (m : Moment) → moment_in d ≡ Some m → m.0 ≤ last_moment
moment_fits d m e =
    let q = from_mapped (λ n. record { 0 = n }) (whole_in 0 last_moment d) m e in
    let P : Moment → Type 0 = λ (m : Moment). m.0 ≤ last_moment in
    subst P q.2 (whole_fits 0 last_moment d q.0 q.1).1

-- what reads each period, and nothing else, is the function of periods
pub period_is : (text : List ℕ) (r : Option ℕ) → ((p : PeriodText) → IsPeriod text p → r ≡ Some (millis p)) → IfSome r (λ ms. (p : PeriodText) × IsPeriod text p × (ms ≡ millis p)) → r ≡ period_of text
period_is text (Some ms) reads exact = ap (λ n. Some n) exact.2 ∙ sym (period_reads text exact.0 exact.1)
period_is text None reads exact = at (period_of text) refl
  where
    at : (o : Option ℕ) → period_of text ≡ o → None ≡ o
    at None is = refl
    at (Some ms) is = let p = period_exact text ms is in let there = reads p.0 p.1 in cc

pub period_fits : (d : Data) (n : ℕ) → period_in d ≡ Some n → n ≤ LONGEST_PERIOD
period_fits d n e = let p = from_some (as_str d) period_of n e in period_short p.0 n p.2
