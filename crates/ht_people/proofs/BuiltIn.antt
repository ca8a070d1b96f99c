-- The text that is built in is read to its sixteen persons.
use Rattle.std.proofs.Common.{◌≡◌, ◌≢◌, ◌⊎◌, ℕ, false, List, [], ◌∷◌, Some, codes, arith, inl, inr, map, true, refl, suc, zero, Result, Ok, Err}
use Rattle.std.specs.Fmt.{digits}
use Rattle.std.specs.List.{range_with_len}
use Rattle.std.specs.Str.{IsUtf8}
use Rattle.std.proofs.lemmas.Bool.{cases_lt, le-ltb, lt-ltb}
use Rattle.toml.specs.Data.{Members, no_members, member, Items, no_items, item, string, array, table}
use Rattle.toml.specs.Parse.{parse_document}
use Rattle.toml.proofs.OnLiterals.{toml_on_literals}
use Rattle.ht_base.specs.Places.{place_in}
use Rattle.ht_people.specs.BuiltIn.{IsBuiltIn, built_in_people, built_in_text, numbered_name}
use Rattle.ht_people.specs.Directory.{DirectoryOf, directory_of, members_at, person_names}
use Rattle.ht_people.specs.PeopleText.{PeopleTextOf, person_with, text_of}
use Rattle.ht_people.specs.Reading.{Reads}
use Rattle.ht_people.specs.declared.refusal.PeopleRefusal.{PeopleRefusal}
use Rattle.ht_people.specs.declared.refusal.PeopleRefusal.TheVariants.{Syntax, Field, Twice, UnknownMember, Cycle, Limit, Memory}
use Rattle.ht_people.specs.Refusals.{IsTwice}
use Rattle.ht_people.proofs.Names.{none_repeated}
use Rattle.ht_graph.specs.Graphs.{leads}
use Rattle.ht_people.proofs.Passing.{HasUnknownAt, IsTooMuchOf, is_read, one_answer}

-- ---- what the text says

people : PeopleTextOf
people = record { persons = map (λ n. person_with (numbered_name n) false) (range_with_len 0 16); groups = [] }

tables : List ℕ → Items
tables [] = no_items
tables (n ∷ ns) = item (table (member (codes "name") (string (numbered_name n)) no_members)) (tables ns)

document : Members
document = member (codes "person") (array (tables (range_with_len 0 16))) no_members

parsed : parse_document built_in_text ≡ Some document
unfolding toml_on_literals built_in_text digits document tables
parsed = refl

is_text : IsUtf8 built_in_text
unfolding built_in_text digits lib.Utf8.encode
is_text = (built_in_text, (refl, refl))

says : text_of document ≡ Some people
unfolding document tables people digits
says = refl

-- ---- that nothing is wrong with it

-- each name is first at its own place
own_places : map (λ n. place_in n (person_names people)) (person_names people) ≡ map (λ i. Some i) (range_with_len 0 16)
unfolding people digits
own_places = refl

distinct : (place : ℕ) → IsTwice people place → ⊥
unfolding people
distinct place (inl r) = none_repeated (person_names people) own_places place r
distinct place (inr g) = absurd (elim g.2 [ inl r ↦ (let at = r.3 in cc) | inr t ↦ (let at = t.1 in cc) ])

known : (place : ℕ) → HasUnknownAt people place → ⊥
unfolding people
known place u = let at = u.2.1 in cc

-- nobody is in a group
nobody_at : (place : ℕ) → members_at (directory_of people) place ≡ []
unfolding people
nobody_at place = elim (cases_lt place 16) [ inl low ↦ rw (lt-ltb place 16 low) refl | inr high ↦ rw (le-ltb place 16 high) refl ]

no_chain : (n a b : ℕ) → leads (members_at (directory_of people)) (suc n) a b ≡ true → ⊥
no_chain n a b h = let e : false ≡ true = rw (nobody_at a) at h in cc

little : (place : ℕ) → IsTooMuchOf people place → ⊥
unfolding people
little place (inl far) = omega arith
little place (inr (inl far)) = omega arith
little place (inr (inr (zero, far, chain))) = omega arith
little place (inr (inr (suc n, far, chain))) = no_chain n chain.0 chain.1 chain.2

pub built_in_is_read : Reads built_in_text (Ok built_in_people)
unfolding people built_in_people
built_in_is_read = is_read built_in_text document (is_text, parsed) people says distinct known (directory_of people) refl (λ place h. no_chain h.0 place place h.1) little

-- ---- what is answered

is_memory : (answer : Result DirectoryOf PeopleRefusal) → (answer ≡ Err Memory) ⊎ (answer ≢ Err Memory)
is_memory (Ok d) = inr (λ h. cc)
is_memory (Err Memory) = inl refl
is_memory (Err Syntax) = inr (λ h. cc)
is_memory (Err (Field p)) = inr (λ h. cc)
is_memory (Err (Twice p)) = inr (λ h. cc)
is_memory (Err (UnknownMember p)) = inr (λ h. cc)
is_memory (Err (Cycle p)) = inr (λ h. cc)
is_memory (Err Limit) = inr (λ h. cc)

pub built_in_is_answered : (answer : Result DirectoryOf PeopleRefusal) → Reads built_in_text answer → IsBuiltIn answer
built_in_is_answered answer reads = elim (is_memory answer) [ inl is ↦ inl is | inr some ↦ inr (one_answer built_in_text answer (Ok built_in_people) reads built_in_is_read some (λ h. cc)) ]
