-- Worked examples of whole texts: one for each refusal, and the first of two that hold. A wrong
-- reading of one fails the check.
use Rattle.std.proofs.Common.{◌≡◌, ◌∙◌, ◌<◌, ℕ, zero, suc, Bool, true, false, List, [], ◌∷◌, ◌&&◌, ◌==◌, Some, None, Err, ap, arith, codes, get_or, inl, inr, is_some, length, lit<, map, refl, sym}
use Rattle.std.specs.Prelude.{nat_lt, slice_get}
use Rattle.std.specs.List.{list_all, range_with_len}
use Rattle.std.proofs.lemmas.Bool.{eqb-true, ltb-true}
use Rattle.std.proofs.lemmas.List.Folds.{Any-from_list_any}
use Rattle.std.proofs.lemmas.Option.{slice_get-get_or, slice_get_within}
use lib.Utf8.{encode}
use Rattle.toml.specs.Data.{Data, Items, Members, array, item, member, no_items, no_members, string, table}
use Rattle.toml.specs.Parse.{parse_document}
use Rattle.toml.proofs.OnLiterals.{toml_on_literals}
use Rattle.ht_base.proofs.PublicLaws.{least_in_front}
use Rattle.ht_base.specs.Places.{IsLeast, IsRepeated}
use Rattle.ht_graph.specs.Graphs.{leads}
use Rattle.ht_toml.proofs.PublicLaws.{first_misshapen}
use Rattle.ht_toml.specs.Documents.{IsDocument}
use Rattle.ht_toml.specs.Entries as shape
use Rattle.ht_toml.specs.Refusals.{Holds}
use Rattle.ht_people.specs.declared.entries.MemberName.{MemberName}
use Rattle.ht_people.specs.declared.entries.MemberName.TheVariants.{Person, Group}
use Rattle.ht_people.specs.declared.refusal.PeopleRefusal.TheVariants.{Syntax, Field, Twice, UnknownMember, Cycle, Limit}
use Rattle.ht_people.specs.Directory.{directory_of, group_names, members_at, place_of}
use Rattle.ht_people.specs.PeopleText.{GroupText, IsMisshapen, PeopleTextOf, group_of, person_of, person_with, text_of}
use Rattle.ht_people.specs.Reading.{Reads}
use Rattle.ht_people.specs.Refusals.{IsTwice, refusals}
use Rattle.ht_people.proofs.Closed.{closed_at}
use Rattle.ht_people.proofs.Names.{counted, none_repeated}
use Rattle.ht_people.proofs.Passing.{HasUnknownAt, cycle_told, field_told, limit_told, twice_told, unknown_told}

-- ---- what tests of a text show

all_at : {X : Type 0} (test : X → Bool) (xs : List X) → list_all test xs ≡ true → (i : ℕ) (x : X) → slice_get xs i ≡ Some x → test x ≡ true
all_at test [] all i x at = cc
all_at {X} test (y ∷ ys) all i x at = here (test y) refl all i at (λ rest j there. all_at test ys rest j x there)
  where
    here : (b : Bool) → test y ≡ b → (b && list_all test ys) ≡ true → (j : ℕ) → slice_get (y ∷ ys) j ≡ Some x → (list_all test ys ≡ true → (k : ℕ) → slice_get ys k ≡ Some x → test x ≡ true) → test x ≡ true
    here false is all j at rest = cc
    here true is all zero at rest = let same : y ≡ x = cc in ap test (sym same) ∙ is
    here true is all (suc j) at rest = rest all j at

-- each member is known
all_known : (t : PeopleTextOf) → list_all (λ g. list_all (λ m. is_some (place_of t m)) g.members) t.groups ≡ true → (place : ℕ) → HasUnknownAt t place → ⊥
all_known t all place (i, at, (g, here, (j, m, there, none))) =
    let known : is_some (place_of t m) ≡ true = all_at (λ (m : MemberName). is_some (place_of t m)) g.members (all_at (λ (g : GroupText). list_all (λ m. is_some (place_of t m)) g.members) t.groups all i g here) j m there in
    let e : false ≡ true = ap is_some (sym none) ∙ known in
    cc

-- groups of distinct names with a member each at most
each_once : (t : PeopleTextOf) → t.persons ≡ [] → ((i : ℕ) → IsRepeated (group_names t) i → ⊥) → list_all (λ g. nat_lt (length g.members) 2) t.groups ≡ true → (place : ℕ) → IsTwice t place → ⊥
each_once t nobody names all place (inl (j, low, name, first, again)) = let e : None ≡ Some name = ap (λ (ps : List _). slice_get (map (λ p. p.name) ps) j) (sym nobody) ∙ first in cc
each_once t nobody names all place (inr (i, at, inl again)) = names i again
each_once t nobody names all place (inr (i, at, inr (g, here, (j, (k, low, m, first, again))))) =
    let few = ltb-true (length g.members) 2 (all_at (λ (g : GroupText). nat_lt (length g.members) 2) t.groups all i g here) in
    let within = slice_get_within g.members j m again in
    omega arith

-- ---- the data of texts

items : List Data → Items
items [] = no_items
items (d ∷ ds) = item d (items ds)

abbrev texts : List (List ℕ) → List Data
texts names = map (λ name. string name) names

abbrev person_data : List ℕ → Data
person_data name = table (member (codes "name") (string name) no_members)

abbrev group_data : List ℕ → List (List ℕ) → Data
group_data name members = table (member (codes "members") (array (items (texts members))) (member (codes "name") (string name) no_members))

abbrev groups_document : List Data → Members
groups_document groups = member (codes "group") (array (items groups)) no_members

abbrev groups_text : List GroupText → PeopleTextOf
groups_text groups = record { persons = []; groups = groups }

abbrev group : List ℕ → List MemberName → GroupText
group name members = record { name = name; members = members }

-- ---- no document

no_document : List ℕ
no_document = codes "person"

no_document_is : parse_document no_document ≡ None
unfolding toml_on_literals no_document
no_document_is = refl

no_document_told : Reads no_document (Err Syntax)
no_document_told some = inl (0, refl, record { holds = λ ms doc. (let none = no_document_is in let is = doc.1 in cc); least = λ place h. omega arith })

-- ---- an entry of another shape, behind one that stands twice

misshapen : List ℕ
misshapen = codes "person = [{name = 'a'}, {name = 'a'}, {}]"

abbrev misshapen_entries : List Data
misshapen_entries = person_data (codes "a") ∷ person_data (codes "a") ∷ table no_members ∷ []

abbrev misshapen_document : Members
misshapen_document = member (codes "person") (array (items misshapen_entries)) no_members

misshapen_is : IsDocument misshapen misshapen_document
unfolding toml_on_literals encode misshapen items
misshapen_is = ((misshapen, (refl, refl)), refl)

misshapen_third : IsLeast (IsMisshapen misshapen_document) 2
unfolding items
misshapen_third =
    let entry = first_misshapen person_of misshapen_entries 2 (table no_members) (person_with (codes "a") false ∷ person_with (codes "a") false ∷ []) refl refl refl in
    let first = least_in_front 3 (shape.IsMisshapen person_of misshapen_entries) (shape.IsMisshapen group_of []) 2 (lit< tt) entry in
    record { holds = inr first.holds; least = λ place h. elim h [ inl top ↦ (let e = top.0 in cc) | inr entry ↦ first.least place entry ] }

misshapen_told : Reads misshapen (Err (Field 2))
misshapen_told = field_told misshapen misshapen_document misshapen_is (Field 2) (λ _. (2, refl, misshapen_third))

-- ---- a member that stands twice, and is unknown

twice : List ℕ
twice = codes "group = [{name = 'g', members = ['a', 'a']}]"

abbrev twice_text : PeopleTextOf
twice_text = groups_text (group (codes "g") (Person (codes "a") ∷ Person (codes "a") ∷ []) ∷ [])

abbrev twice_document : Members
twice_document = groups_document (group_data (codes "g") (codes "a" ∷ codes "a" ∷ []) ∷ [])

twice_is : IsDocument twice twice_document
unfolding toml_on_literals encode twice items
twice_is = ((twice, (refl, refl)), refl)

twice_says : text_of twice_document ≡ Some twice_text
unfolding items
twice_says = refl

twice_told_first : Reads twice (Err (Twice 0))
twice_told_first = twice_told twice twice_document twice_is twice_text twice_says (Twice 0)
    (λ _. (0, refl, record { holds = inr (0, refl, inr (group (codes "g") (Person (codes "a") ∷ Person (codes "a") ∷ []), refl, (1, (0, lit< tt, Person (codes "a"), refl, refl)))); least = λ place h. omega arith }))

twice_unknown : Holds (refusals twice) (UnknownMember 0)
twice_unknown = inr (inr (inr (inl (0, refl, (twice_text, (twice_document, twice_is, twice_says), (0, refl, (group (codes "g") (Person (codes "a") ∷ Person (codes "a") ∷ []), refl, (0, Person (codes "a"), refl, refl))))))))

-- ---- a group with an unknown member, which is its own member too

unknown : List ℕ
unknown = codes "group = [{name = 'g', members = ['a', '@g']}]"

abbrev unknown_group : GroupText
unknown_group = group (codes "g") (Person (codes "a") ∷ Group (codes "g") ∷ [])

abbrev unknown_text : PeopleTextOf
unknown_text = groups_text (unknown_group ∷ [])

abbrev unknown_document : Members
unknown_document = groups_document (group_data (codes "g") (codes "a" ∷ codes "@g" ∷ []) ∷ [])

unknown_is : IsDocument unknown unknown_document
unfolding toml_on_literals encode unknown items
unknown_is = ((unknown, (refl, refl)), refl)

unknown_says : text_of unknown_document ≡ Some unknown_text
unfolding items
unknown_says = refl

unknown_once : (place : ℕ) → IsTwice unknown_text place → ⊥
unknown_once place (inl (j, low, name, first, again)) = cc
unknown_once place (inr (i, at, inl again)) = none_repeated (group_names unknown_text) refl i again
unknown_once place (inr (zero, at, inr (g, here, (zero, (k, low, m, first, again))))) = omega arith
unknown_once place (inr (zero, at, inr (g, here, (suc zero, (zero, low, m, first, again))))) =
    let same : unknown_group ≡ g = cc in
    let one : Some (Person (codes "a")) ≡ Some m = ap (λ (g : GroupText). slice_get g.members 0) same ∙ first in
    let other : Some (Group (codes "g")) ≡ Some m = ap (λ (g : GroupText). slice_get g.members 1) same ∙ again in
    cc
unknown_once place (inr (zero, at, inr (g, here, (suc zero, (suc k, low, m, first, again))))) = omega arith
unknown_once place (inr (zero, at, inr (g, here, (suc (suc j), (k, low, m, first, again))))) =
    let same : unknown_group ≡ g = cc in
    let none : None ≡ Some m = ap (λ (g : GroupText). slice_get g.members (suc (suc j))) same ∙ again in
    cc
unknown_once place (inr (suc i, at, inr (g, here, again))) = cc

unknown_told_first : Reads unknown (Err (UnknownMember 0))
unknown_told_first = unknown_told unknown unknown_document unknown_is unknown_text unknown_says unknown_once (UnknownMember 0)
    (λ _. (0, refl, record { holds = (0, refl, (unknown_group, refl, (0, Person (codes "a"), refl, refl))); least = λ place h. omega arith }))

unknown_in_cycle : Holds (refusals unknown) (Cycle 0)
unknown_in_cycle = inr (inr (inr (inr (inl (0, refl, (unknown_text, (unknown_document, unknown_is, unknown_says), (0, refl)))))))

-- ---- a group that is its own member, so that chains are of any length

cycle : List ℕ
cycle = codes "group = [{name = 'g', members = ['@g']}]"

abbrev cycle_text : PeopleTextOf
cycle_text = groups_text (group (codes "g") (Group (codes "g") ∷ []) ∷ [])

abbrev cycle_document : Members
cycle_document = groups_document (group_data (codes "g") (codes "@g" ∷ []) ∷ [])

cycle_is : IsDocument cycle cycle_document
unfolding toml_on_literals encode cycle items
cycle_is = ((cycle, (refl, refl)), refl)

cycle_says : text_of cycle_document ≡ Some cycle_text
unfolding items
cycle_says = refl

cycle_told_first : Reads cycle (Err (Cycle 0))
cycle_told_first = cycle_told cycle cycle_document cycle_is cycle_text cycle_says (each_once cycle_text refl (none_repeated (group_names cycle_text) refl) refl) (all_known cycle_text refl) (directory_of cycle_text) refl (Cycle 0)
    (λ _. (0, refl, record { holds = (0, refl); least = λ place h. omega arith }))

cycle_too_long : Holds (refusals cycle) Limit
cycle_too_long = inr (inr (inr (inr (inr (inl (0, refl, (cycle_text, (cycle_document, cycle_is, cycle_says), inr (inr (9, lit< tt, (0, 0, refl))))))))))

-- ---- nine memberships one behind another

long : List ℕ
long = codes "group = [{name = '0', members = ['@1']}, {name = '1', members = ['@2']}, {name = '2', members = ['@3']}, {name = '3', members = ['@4']}, {name = '4', members = ['@5']}, {name = '5', members = ['@6']}, {name = '6', members = ['@7']}, {name = '7', members = ['@8']}, {name = '8', members = ['@9']}, {name = '9', members = []}]"

abbrev link : List ℕ → List ℕ → GroupText
link name next = group name (Group next ∷ [])

abbrev long_text : PeopleTextOf
long_text = groups_text (link (codes "0") (codes "1") ∷ link (codes "1") (codes "2") ∷ link (codes "2") (codes "3") ∷ link (codes "3") (codes "4") ∷ link (codes "4") (codes "5") ∷ link (codes "5") (codes "6") ∷ link (codes "6") (codes "7") ∷ link (codes "7") (codes "8") ∷ link (codes "8") (codes "9") ∷ group (codes "9") [] ∷ [])

abbrev link_data : List ℕ → List ℕ → Data
link_data name next = group_data name (next ∷ [])

abbrev long_document : Members
long_document = groups_document (link_data (codes "0") (codes "@1") ∷ link_data (codes "1") (codes "@2") ∷ link_data (codes "2") (codes "@3") ∷ link_data (codes "3") (codes "@4") ∷ link_data (codes "4") (codes "@5") ∷ link_data (codes "5") (codes "@6") ∷ link_data (codes "6") (codes "@7") ∷ link_data (codes "7") (codes "@8") ∷ link_data (codes "8") (codes "@9") ∷ group_data (codes "9") [] ∷ [])

long_is : IsDocument long long_document
unfolding toml_on_literals encode long items
long_is = ((long, (refl, refl)), refl)

long_says : text_of long_document ≡ Some long_text
unfolding items
long_says = refl

-- each group leads to later ones alone
abbrev leads_on : ℕ → Bool
leads_on a = list_all (nat_lt a) (members_at (directory_of long_text) a)

later : (a i b : ℕ) → slice_get (members_at (directory_of long_text) a) i ≡ Some b → a < b
later a i b at =
    let low = (closed_at long_text (directory_of long_text) refl a i b at).0 in
    ltb-true a b (all_at (nat_lt a) (members_at (directory_of long_text) a) (all_at leads_on (range_with_len 0 10) refl a a (counted 10 a low)) i b at)

step_later : (a i b : ℕ) → i < length (members_at (directory_of long_text) a) → get_or (members_at (directory_of long_text) a) i b ≡ b → a < b
step_later a i b within is = later a i b (slice_get-get_or (members_at (directory_of long_text) a) i b within ∙ ap (λ (m : ℕ). Some m) is)

chain_later : (n a b : ℕ) → leads (members_at (directory_of long_text)) (suc n) a b ≡ true → a < b
chain_later zero a b h =
    let step = Any-from_list_any (λ place. place == b) (members_at (directory_of long_text) a) h in
    let low = step_later a step.0 step.1 step.2 step.3 in
    let same = eqb-true step.1 b step.4 in
    omega arith
chain_later (suc n) a b h =
    let step = Any-from_list_any (λ place. leads (members_at (directory_of long_text)) (suc n) place b) (members_at (directory_of long_text) a) h in
    let low = step_later a step.0 step.1 step.2 step.3 in
    let high = chain_later n step.1 b step.4 in
    omega arith

long_told : Reads long (Err Limit)
long_told = limit_told long long_document long_is long_text long_says (each_once long_text refl (none_repeated (group_names long_text) refl) refl) (all_known long_text refl) (directory_of long_text) refl (λ place h. (let low = chain_later h.0 place place h.1 in omega arith)) Limit
    (λ _. (0, refl, record { holds = inr (inr (9, lit< tt, (0, 9, refl))); least = λ place h. omega arith }))
