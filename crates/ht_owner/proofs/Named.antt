-- Where no name is at fault, none of the persons who are named is.
use Rattle.std.proofs.Common.{◌≡◌, ℕ, ◌==◌, Bool, true, false, ◌||◌, cond, List, [], ◌∷◌, find, length, map, zero, suc, slice_get, Option, Some, None, option_map, refl, ap, sym, ◌∙◌, eq-eqb, arith, ◌<◌}
use Rattle.std.proofs.lemmas.Bool.{eqb-true}
use Rattle.std.proofs.lemmas.List.{length-map}
use Rattle.ht_base.proofs.PublicLaws.{found_within}
use Rattle.ht_people.specs.declared.entries.PersonEntry.{PersonEntry}
use Rattle.std.proofs.lemmas.Bool.Decides.{nat_tests}
use Rattle.std.specs.Option.{option_map_or}
use Rattle.ht_base.specs.declared.reply.Refusal.{Refusal}
use Rattle.ht_base.specs.declared.reply.Refusal.TheVariants as refusal
use Rattle.ht_base.specs.declared.reply.Unknown.TheVariants as unknown
use Rattle.ht_base.specs.Persons.{has}
use Rattle.ht_owner.specs.Faults.{excluded, first_of, is_among, is_owner, owner_named, unknown_person}
use Rattle.ht_owner.specs.Naming.{is_named, is_this}
use Rattle.ht_people.specs.Directory as people
use Rattle.ht_people.specs.Directory.{DirectoryOf}

-- where the first of some faults isn't there, neither is each
pub no_fault : (faults : List (Option Refusal)) → first_of faults ≡ None → (i : ℕ) (o : Option Refusal) → slice_get faults i ≡ Some o → o ≡ None
no_fault [] none i o at = cc
no_fault (None ∷ faults) none zero o at = cc
no_fault (None ∷ faults) none (suc i) o at = no_fault faults none i o at
no_fault (Some why ∷ faults) none i o at = cc

-- a test that finds none fails at the first, and finds none behind it
found_none : (test : List ℕ → Bool) (name : List ℕ) (names : List (List ℕ)) (b : Bool) → test name ≡ b → option_map refusal.Excluded (cond b (Some name) (find test names)) ≡ None → (test name ≡ false) × (option_map refusal.Excluded (find test names) ≡ None)
found_none test name names true is none = cc
found_none test name names false is none = (is, none)

-- a person is this one, or another is
this_is : (person : ℕ) (o : Option ℕ) → is_this person o ≡ true → o ≡ Some person
this_is person None h = cc
this_is person (Some p) h = ap (λ (q : ℕ). Some q) (sym (eqb-true person p h))

pub none_excluded : (d : DirectoryOf) (persons : List ℕ) (names : List (List ℕ)) → excluded d persons names ≡ None → (p : ℕ) → is_named d names p ≡ true → has p persons ≡ false
none_excluded d persons [] none p named = cc
none_excluded d persons (name ∷ names) none p named =
    let both = found_none (is_among d persons) name names (is_among d persons name) refl none in
    at (is_this p (people.find name d)) refl named both.0 (none_excluded d persons names both.1 p)
  where
    at : (b : Bool) → is_this p (people.find name d) ≡ b → (b || is_named d names p) ≡ true → is_among d persons name ≡ false → (is_named d names p ≡ true → has p persons ≡ false) → has p persons ≡ false
    at true is h not_among rest = sym (ap (λ (o : Option ℕ). option_map_or (λ q. has q persons) o false) (this_is p (people.find name d) is)) ∙ not_among
    at false is h not_among rest = rest h

turned : (p q : ℕ) → (p == q) ≡ false → (q == p) ≡ false
turned p q other = grind (arith, nat_tests)

pub owner_unnamed : (d : DirectoryOf) (owner : ℕ) (names : List (List ℕ)) → owner_named d (Some owner) names ≡ None → is_named d names owner ≡ false
owner_unnamed d owner [] none = refl
owner_unnamed d owner (name ∷ names) none =
    let both = found_none (is_owner d (Some owner)) name names (is_owner d (Some owner) name) refl none in
    at (people.find name d) refl both.0 (owner_unnamed d owner names both.1)
  where
    at : (o : Option ℕ) → people.find name d ≡ o → is_owner d (Some owner) name ≡ false → is_named d names owner ≡ false → (is_this owner (people.find name d) || is_named d names owner) ≡ false
    at None is not_owner rest = rw is rest
    at (Some p) is not_owner rest =
        let other : (p == owner) ≡ false = sym (ap (λ (o : Option ℕ). option_map_or (λ q. is_this q (Some owner)) o false) is) ∙ not_owner in
        rw (is, turned p owner other) rest

-- ---- of one name

pub known_name : (d : DirectoryOf) (name : List ℕ) → unknown_person d (name ∷ []) ≡ None → people.find name d ≡ None → ⊥
known_name d name there none = let told : Some (refusal.Unknown (unknown.Person name)) ≡ None = rw none at there in cc

pub named_alone : (d : DirectoryOf) (name : List ℕ) (p : ℕ) → people.find name d ≡ Some p → is_named d (name ∷ []) p ≡ true
named_alone d name p is = rw (is, eq-eqb p p refl) refl

pub found_person : (d : DirectoryOf) (name : List ℕ) (p : ℕ) → people.find name d ≡ Some p → p < length d.persons
found_person d name p is = let within = found_within name (map (λ q. q.name) d.persons) p is in let same = length-map d.persons (λ (q : PersonEntry). q.name) in omega arith
