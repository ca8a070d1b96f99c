-- Worked examples of the definitions. A wrong reading of one fails the check.
use Rattle.std.specs.Prelude.{◌≡◌, refl, ℕ, [], ◌∷◌, length, Some, None, codes, true, false}
use Rattle.std.specs.Fmt.{digits}
use Rattle.toml.specs.Data.{no_members, member, string, boolean, table}
use Rattle.ht_people.specs.declared.entries.MemberName.TheVariants.{Person, Group}
use Rattle.ht_people.specs.BuiltIn.{built_in_people, built_in_text}
use Rattle.ht_people.specs.Directory.{DirectoryOf, GroupOf, directory_of, find, find_group, members_at}
use Rattle.ht_graph.specs.Graphs.{leads}
use Rattle.ht_people.specs.Membership.{members}
use Rattle.ht_people.specs.PeopleText.{PeopleTextOf, group_of, is_top, member_of_text, person_of, person_with, text_of}

-- ---- shapes

a_member_person : member_of_text (codes "anna") ≡ Some (Person (codes "anna"))
a_member_person = refl

a_member_group : member_of_text (codes "@clerks") ≡ Some (Group (codes "clerks"))
a_member_group = refl

no_member : member_of_text (codes "@") ≡ None
no_member = refl

a_person : person_of (table (member (codes "name") (string (codes "root")) (member (codes "operator") (boolean true) no_members))) ≡ Some (person_with (codes "root") true)
a_person = refl

-- who isn't marked as an operator is none
no_operator : person_of (table (member (codes "name") (string (codes "anna")) no_members)) ≡ Some (person_with (codes "anna") false)
no_operator = refl

an_unknown_key : person_of (table (member (codes "age") (string (codes "9")) (member (codes "name") (string (codes "anna")) no_members))) ≡ None
an_unknown_key = refl

no_members_key : group_of (table (member (codes "name") (string (codes "clerks")) no_members)) ≡ None
no_members_key = refl

-- a top key whose value is no array
no_array : is_top (member (codes "person") (string (codes "anna")) no_members) ≡ false
no_array = refl

no_entries : text_of no_members ≡ Some (record { persons = []; groups = [] })
no_entries = refl

-- ---- the sample directory: anna, ben, cora, dan, root, and the clerks anna and ben

sample_text : PeopleTextOf
sample_text = record {
  persons = person_with (codes "anna") false ∷ person_with (codes "ben") false ∷ person_with (codes "cora") false ∷ person_with (codes "dan") false ∷ person_with (codes "root") true ∷ [];
  groups = record { name = codes "clerks"; members = Person (codes "anna") ∷ Person (codes "ben") ∷ [] } ∷ [];
}

abbrev sample : DirectoryOf
sample = directory_of sample_text

the_clerks : members sample (codes "clerks") ≡ 0 ∷ 1 ∷ []
unfolding sample_text
the_clerks = refl

no_such_group : members sample (codes "anna") ≡ []
unfolding sample_text
no_such_group = refl

found : find (codes "cora") sample ≡ Some 2
unfolding sample_text
found = refl

not_found : find (codes "clerks") sample ≡ None
unfolding sample_text
not_found = refl

the_group_behind_the_persons : find_group (codes "clerks") sample ≡ Some 5
unfolding sample_text
the_group_behind_the_persons = refl

-- ---- groups in groups

-- p0, at place 0; nine groups, at the places 1 to 9, of which each has the next as a member, and the last has p0
abbrev link : ℕ → GroupOf
link next = record { name = []; members = next ∷ [] }

abbrev nested : DirectoryOf
nested = record { persons = person_with (codes "p0") false ∷ []; groups = link 2 ∷ link 3 ∷ link 4 ∷ link 5 ∷ link 6 ∷ link 7 ∷ link 8 ∷ link 9 ∷ link 0 ∷ [] }

-- nine memberships lead from the first group to p0, and eight from the second
nine_lead : leads (members_at nested) 9 1 0 ≡ true
nine_lead = refl

eight_do_not : leads (members_at nested) 8 1 0 ≡ false
eight_do_not = refl

eight_lead : leads (members_at nested) 8 2 0 ≡ true
eight_lead = refl

-- a group that is its own member
itself : leads (members_at (record { persons = []; groups = link 0 ∷ [] })) 1 0 0 ≡ true
itself = refl

-- an unknown member is a member of nobody, and isn't the first group
unknown_text : PeopleTextOf
unknown_text = record { persons = []; groups = record { name = codes "g"; members = Person (codes "x") ∷ [] } ∷ [] }

unknown_is_nobody : members_at (directory_of unknown_text) 0 ≡ []
unfolding unknown_text
unknown_is_nobody = refl

-- ---- the text that is built in

the_built_in_text : built_in_text ≡ codes "[[person]]\nname = \"p0\"\n[[person]]\nname = \"p1\"\n[[person]]\nname = \"p2\"\n[[person]]\nname = \"p3\"\n[[person]]\nname = \"p4\"\n[[person]]\nname = \"p5\"\n[[person]]\nname = \"p6\"\n[[person]]\nname = \"p7\"\n[[person]]\nname = \"p8\"\n[[person]]\nname = \"p9\"\n[[person]]\nname = \"p10\"\n[[person]]\nname = \"p11\"\n[[person]]\nname = \"p12\"\n[[person]]\nname = \"p13\"\n[[person]]\nname = \"p14\"\n[[person]]\nname = \"p15\"\n"
unfolding built_in_text digits
the_built_in_text = refl

its_length : length built_in_text ≡ 374
unfolding built_in_text digits
its_length = refl

the_last_built_in_person : find (codes "p15") built_in_people ≡ Some 15
unfolding built_in_people digits
the_last_built_in_person = refl
