-- What is given for parts may be held: its values are of declared parts and of their kinds.
use Rattle.std.proofs.Common.{◌≡◌, ℕ, ◌+◌, nat_lt, Bool, true, false, ◌&&◌, cond, if◌then◌else◌, List, [], ◌∷◌, ◌++◌, length, map, bytes_eq, Option, Some, None, option_map, refl, ap, subst, arith}
use Rattle.std.specs.Prelude.{pos, negsuc}
use Rattle.std.specs.List.{list_all}
use Rattle.std.specs.Option.{option_and_then}
use Rattle.std.proofs.lemmas.List.{append-nil, length-map}
use Rattle.std.proofs.lemmas.Bool.{and_parts}
use Rattle.std.proofs.lemmas.Bool.Decides.{nat_tests}
use Rattle.ht_base.specs.declared.limits.TheConstants.{LONGEST_TEXT}
use Rattle.ht_base.specs.declared.kind.Kind.{Kind}
use Rattle.ht_base.specs.declared.kind.Kind.TheVariants as kind
use Rattle.ht_base.specs.declared.moment.Moment.{Moment}
use Rattle.ht_base.specs.declared.scalar.Scalar.{Scalar}
use Rattle.ht_base.specs.declared.scalar.Scalar.TheVariants as scalar
use Rattle.ht_base.specs.declared.value.Value.{Value}
use Rattle.ht_base.specs.declared.value.Value.TheVariants as values
use Rattle.ht_base.specs.Moment.{last_moment}
use Rattle.ht_base.specs.Events as events
use Rattle.ht_base.specs.Events.{AreGiven}
use Rattle.ht_base.specs.Name.{name_of}
use Rattle.ht_base.specs.Values.{is_before, put, updated}
use Rattle.ht_base.proofs.PublicLaws.{found_within}
use Rattle.ht_expr.specs.declared.kinds.Side.{Side}
use Rattle.ht_expr.specs.declared.kinds.Side.TheVariants.{Input, Output}
use Rattle.ht_value.specs.Environment.{may_be}
use Rattle.ht_expr.specs.Kinds.{Declared, declared_kind, same_side}
use Rattle.ht_models.specs.Kinded.{parts_of}
use Rattle.ht_entries.specs.Parts.{Part}
use Rattle.ht_people.specs.declared.entries.PersonEntry.{PersonEntry}
use Rattle.ht_people.specs.Directory.{DirectoryOf, find as find_person}
use Rattle.ht_finding.specs.Assigning.{find_user}
use Rattle.ht_finding.specs.Giving.{moment_given, part_named, value_of, values_given}
use Rattle.ht_tree.specs.Soundness.{AreHeld, is_declared, is_known, is_short, is_timely}
use Rattle.ht_finding.proofs.PublicLaws.{below_is}

-- the kind of each part is the one that is declared for it
abbrev DeclaresOf : Declared → Side → List Part → Type 0
DeclaresOf kinds side parts = (name : List ℕ) (p : Part) → part_named name parts ≡ Some p → declared_kind kinds side name ≡ Some p.kind

-- the first part of a name is the one that is declared first
declares : (side : Side) (parts : List Part) (rest : Declared) → same_side side side ≡ true → DeclaresOf (map (λ q. (side, q.name, q.kind)) parts ++ rest) side parts
declares side [] rest own name p is = cc
declares side (q ∷ parts) rest own name p is = at (bytes_eq q.name name) refl is (declares side parts rest own name p)
  where
    at : (b : Bool) → bytes_eq q.name name ≡ b → cond b (Some q) (part_named name parts) ≡ Some p → (part_named name parts ≡ Some p → declared_kind (map (λ x. (side, x.name, x.kind)) parts ++ rest) side name ≡ Some p.kind) → (if same_side side side && b then Some q.kind else declared_kind (map (λ x. (side, x.name, x.kind)) parts ++ rest) side name) ≡ Some p.kind
    at true e h later = let same : q ≡ p = cc in rw own (ap (λ (x : Part). Some x.kind) same)
    at false e h later = rw own (later h)

-- parts of the other side in front of them declare nothing of them
behind_other : (side other : Side) (front : List Part) (rest : Declared) (parts : List Part) → same_side other side ≡ false → DeclaresOf rest side parts → DeclaresOf (map (λ q. (other, q.name, q.kind)) front ++ rest) side parts
behind_other side other [] rest parts apart all = all
behind_other side other (q ∷ front) rest parts apart all = λ name p is. let later = behind_other side other front rest parts apart all name p is in rw apart later

-- ---- one value

-- it is of its kind, of a person who is there, short, and of a moment that there is
record IsFine (d : DirectoryOf) (k : Kind) (name : List ℕ) (v : Value) : Type 0 where
  of_kind : may_be (Some k) v ≡ true
  known : is_known (length d.persons) (name, v) ≡ true
  short : is_short LONGEST_TEXT (name, v) ≡ true
  timely : is_timely (name, v) ≡ true

person_within : (d : DirectoryOf) (text : List ℕ) (p : ℕ) → find_user text d ≡ Some p → nat_lt p (length d.persons) ≡ true
person_within d text p is = at (name_of text) is
  where
    at : (o : Option (List ℕ)) → option_and_then (λ name. find_person name d) o ≡ Some p → nat_lt p (length d.persons) ≡ true
    at None h = cc
    at (Some name) h =
        let within = found_within name (map (λ (q : PersonEntry). q.name) d.persons) p h in
        let long = length-map d.persons (λ (q : PersonEntry). q.name) in
        below_is p (length d.persons) (omega arith)

fine_person : (d : DirectoryOf) (name : List ℕ) (o : Option ℕ) (v : Value) → ((p : ℕ) → o ≡ Some p → nat_lt p (length d.persons) ≡ true) → option_map values.Person o ≡ Some v → IsFine d kind.Person name v
fine_person d name None v within is = cc
fine_person d name (Some p) v within is =
    let same : values.Person p ≡ v = cc in
    let P : Value → Type 0 = λ x. IsFine d kind.Person name x in
    subst P same (record { of_kind = refl; known = within p refl; short = refl; timely = refl })

not_behind : (m last : ℕ) → nat_lt last m ≡ false → nat_lt m (last + 1) ≡ true
not_behind m last h = grind (arith, nat_tests)

moment_within : (s : Scalar) (m : Moment) → moment_given s ≡ Some m → nat_lt m.0 (last_moment + 1) ≡ true
moment_within (scalar.Text text) m is = cc
moment_within (scalar.Truth b) m is = cc
moment_within (scalar.Int (negsuc n)) m is = cc
moment_within (scalar.Int (pos n)) m is = at (nat_lt last_moment n) refl is
  where
    at : (b : Bool) → nat_lt last_moment n ≡ b → (if b then None else Some (record { 0 = n })) ≡ Some m → nat_lt m.0 (last_moment + 1) ≡ true
    at true late h = cc
    at false early h =
        let same : n ≡ m.0 = cc in
        rw (← same) (not_behind n last_moment early)

fine_instant : (d : DirectoryOf) (name : List ℕ) (o : Option Moment) (v : Value) → ((m : Moment) → o ≡ Some m → nat_lt m.0 (last_moment + 1) ≡ true) → option_map values.Instant o ≡ Some v → IsFine d kind.Instant name v
fine_instant d name None v within is = cc
fine_instant d name (Some m) v within is =
    let same : values.Instant m ≡ v = cc in
    let P : Value → Type 0 = λ x. IsFine d kind.Instant name x in
    subst P same (record { of_kind = refl; known = refl; short = refl; timely = within m refl })

fine_text : (d : DirectoryOf) (name text : List ℕ) (v : Value) → events.is_short LONGEST_TEXT (name, scalar.Text text) ≡ true → values.Text text ≡ v → IsFine d kind.Text name v
fine_text d name text v short same = let P : Value → Type 0 = λ x. IsFine d kind.Text name x in subst P same (record { of_kind = refl; known = refl; short = short; timely = refl })

given_fine : (d : DirectoryOf) (k : Kind) (name : List ℕ) (s : Scalar) (v : Value) → events.is_short LONGEST_TEXT (name, s) ≡ true → value_of d k s ≡ Some v → IsFine d k name v
given_fine d kind.Text name (scalar.Text text) v short is = fine_text d name text v short cc
given_fine d kind.Text name (scalar.Int n) v short is = cc
given_fine d kind.Text name (scalar.Truth b) v short is = cc
given_fine d kind.Int name (scalar.Int n) v short is =
    let same : values.Int n ≡ v = cc in
    let P : Value → Type 0 = λ x. IsFine d kind.Int name x in
    subst P same (record { of_kind = refl; known = refl; short = refl; timely = refl })
given_fine d kind.Int name (scalar.Text text) v short is = cc
given_fine d kind.Int name (scalar.Truth b) v short is = cc
given_fine d kind.Truth name (scalar.Truth b) v short is =
    let same : values.Truth b ≡ v = cc in
    let P : Value → Type 0 = λ x. IsFine d kind.Truth name x in
    subst P same (record { of_kind = refl; known = refl; short = refl; timely = refl })
given_fine d kind.Truth name (scalar.Text text) v short is = cc
given_fine d kind.Truth name (scalar.Int n) v short is = cc
given_fine d kind.Person name (scalar.Text text) v short is = fine_person d name (find_user text d) v (person_within d text) is
given_fine d kind.Person name (scalar.Int n) v short is = cc
given_fine d kind.Person name (scalar.Truth b) v short is = cc
given_fine d kind.Instant name s v short is = fine_instant d name (moment_given s) v (moment_within s) is

-- ---- all values

record AreFine (d : DirectoryOf) (kinds : Declared) (side : Side) (vs : List (List ℕ × Value)) : Type 0 where
  declared : list_all (is_declared kinds side) vs ≡ true
  known : list_all (is_known (length d.persons)) vs ≡ true
  short : list_all (is_short LONGEST_TEXT) vs ≡ true
  timely : list_all is_timely vs ≡ true

one_more : (d : DirectoryOf) (kinds : Declared) (side : Side) (k : Kind) (name : List ℕ) (v : Value) (vs : List (List ℕ × Value)) → declared_kind kinds side name ≡ Some k → IsFine d k name v → AreFine d kinds side vs → AreFine d kinds side ((name, v) ∷ vs)
one_more d kinds side k name v vs kind fine all =
    record {
      declared = rw (kind, fine.of_kind) all.declared;
      known = rw fine.known all.known;
      short = rw fine.short all.short;
      timely = rw fine.timely all.timely;
    }

all_fine : (d : DirectoryOf) (kinds : Declared) (side : Side) (parts : List Part) (given : List (List ℕ × Scalar)) → DeclaresOf kinds side parts → list_all (events.is_short LONGEST_TEXT) given ≡ true → AreFine d kinds side (values_given d parts given)
all_fine d kinds side parts [] of short = record { declared = refl; known = refl; short = refl; timely = refl }
all_fine d kinds side parts (g ∷ given) of short =
    let both = and_parts (events.is_short LONGEST_TEXT g) (list_all (events.is_short LONGEST_TEXT) given) short in
    at (part_named g.0 parts) refl both.0 (all_fine d kinds side parts given of both.1)
  where
    by_value : (p : Part) (o : Option Value) → part_named g.0 parts ≡ Some p → value_of d p.kind g.1 ≡ o → events.is_short LONGEST_TEXT g ≡ true → AreFine d kinds side (values_given d parts given) → AreFine d kinds side (values_given d parts (g ∷ given))
    by_value p None named is low all = rw (named, is) all
    by_value p (Some v) named is low all = rw (named, is) (one_more d kinds side p.kind g.0 v (values_given d parts given) (of g.0 p named) (given_fine d p.kind g.0 g.1 v low is) all)

    at : (o : Option Part) → part_named g.0 parts ≡ o → events.is_short LONGEST_TEXT g ≡ true → AreFine d kinds side (values_given d parts given) → AreFine d kinds side (values_given d parts (g ∷ given))
    at None named low all = rw named all
    at (Some p) named low all = by_value p (value_of d p.kind g.1) named refl low all

pub given_held : (d : DirectoryOf) (input output : List Part) (given : List (List ℕ × Scalar)) → AreGiven given → AreHeld (parts_of input output) (length d.persons) Input (values_given d input given)
given_held d input output given are =
    let rest = map (λ q. (Output, q.name, q.kind)) output in
    let all = all_fine d (parts_of input output) Input input given (declares Input input rest refl) are.short in
    record { declared = all.declared; known = all.known; texts_within = all.short; moments_within = all.timely }

pub given_output_held : (d : DirectoryOf) (input output : List Part) (given : List (List ℕ × Scalar)) → AreGiven given → AreHeld (parts_of input output) (length d.persons) Output (values_given d output given)
given_output_held d input output given are =
    let outputs : Declared = map (λ q. (Output, q.name, q.kind)) output in
    let P : Declared → Type 0 = λ kinds. DeclaresOf kinds Output output in
    let own : P outputs = subst P (append-nil outputs) (declares Output output [] refl) in
    let all = all_fine d (parts_of input output) Output output given (behind_other Output Input input outputs output refl own) are.short in
    record { declared = all.declared; known = all.known; texts_within = all.short; moments_within = all.timely }

-- ---- values that are set again

all_put : (test : List ℕ × Value → Bool) (name : List ℕ) (v : Value) (vs : List (List ℕ × Value)) → test (name, v) ≡ true → list_all test vs ≡ true → list_all test (put name v vs) ≡ true
all_put test name v [] one all = rw one refl
all_put test name v (w ∷ ws) one all =
    let both = and_parts (test w) (list_all test ws) all in
    at (is_before w.0 name) refl (bytes_eq w.0 name) refl both.0 both.1 (all_put test name v ws one both.1)
  where
    at : (b : Bool) → is_before w.0 name ≡ b → (e : Bool) → bytes_eq w.0 name ≡ e → test w ≡ true → list_all test ws ≡ true → list_all test (put name v ws) ≡ true → list_all test (put name v (w ∷ ws)) ≡ true
    at true is e same first rest later = rw (is, first) later
    at false is true same first rest later = rw (is, same, one) rest
    at false is false same first rest later = rw (is, same, one, first) rest

all_updated : (test : List ℕ × Value → Bool) (vs given : List (List ℕ × Value)) → list_all test vs ≡ true → list_all test given ≡ true → list_all test (updated vs given) ≡ true
all_updated test vs [] old new = old
all_updated test vs (g ∷ given) old new =
    let both = and_parts (test g) (list_all test given) new in
    all_updated test (put g.0 g.1 vs) given (all_put test g.0 g.1 vs both.0 old) both.1

pub updated_held : (kinds : Declared) (persons : ℕ) (side : Side) (vs given : List (List ℕ × Value)) → AreHeld kinds persons side vs → AreHeld kinds persons side given → AreHeld kinds persons side (updated vs given)
updated_held kinds persons side vs given old new = record {
  declared = all_updated (is_declared kinds side) vs given old.declared new.declared;
  known = all_updated (is_known persons) vs given old.known new.known;
  texts_within = all_updated (is_short LONGEST_TEXT) vs given old.texts_within new.texts_within;
  moments_within = all_updated is_timely vs given old.moments_within new.moments_within;
}
