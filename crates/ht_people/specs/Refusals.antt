-- What is wrong with a people text: its refusals in their order, and where each holds.
use Rattle.std.specs.Prelude.{◌≡◌, ◌⊎◌, ℕ, ◌<◌, List, [], ◌∷◌, length, map, Some, None, slice_get}
use Rattle.ht_base.specs.Places.{Behind, IsRepeated}
use Rattle.ht_base.specs.declared.limits.TheConstants.{LONGEST_CHAIN, MOST_GROUPS, MOST_PERSONS}
use Rattle.ht_graph.specs.Graphs.{IsDeeper, IsInCycle}
use Rattle.ht_toml.specs.declared.documents.DocumentFault.{DocumentFault}
use Rattle.ht_toml.specs.declared.documents.DocumentFault.TheVariants as document
use Rattle.ht_toml.specs.Documents.{IsDocument, Says}
use Rattle.ht_toml.specs.Refusals.{IsNone, Of, Refusal, refused}
use Rattle.ht_people.specs.declared.entries.MemberName.{MemberName}
use Rattle.ht_people.specs.declared.refusal.PeopleRefusal.{PeopleRefusal}
use Rattle.ht_people.specs.declared.refusal.PeopleRefusal.TheVariants.{Syntax, Field, Twice, UnknownMember, Cycle, Limit, Memory}
use Rattle.ht_people.specs.Directory.{DirectoryOf, directory_of, members_at, person_names, place_of}
use Rattle.ht_people.specs.PeopleText.{GroupText, PeopleTextOf, IsMisshapen, text_of}

-- a member of the group stands twice
abbrev pub HasTwiceMember : List GroupText → ℕ → Type 0
HasTwiceMember groups i = (group : GroupText) × (slice_get groups i ≡ Some group) × ((j : ℕ) × IsRepeated group.members j)

-- an earlier group has the group's name, or a member of it stands twice
abbrev pub IsTwiceGroup : List GroupText → ℕ → Type 0
IsTwiceGroup groups i = IsRepeated (map (λ g. g.name) groups) i ⊎ HasTwiceMember groups i

-- an earlier person has the person's name, or the group stands twice
abbrev pub IsTwice : PeopleTextOf → ℕ → Type 0
IsTwice t place = IsRepeated (person_names t) place ⊎ Behind (length t.persons) (IsTwiceGroup t.groups) place

-- a member of the group is no person and no group
abbrev pub HasUnknownMember : PeopleTextOf → GroupText → Type 0
HasUnknownMember t group = (j : ℕ) × (m : MemberName) × (slice_get group.members j ≡ Some m) × (place_of t m ≡ None)

abbrev pub HasUnknown : PeopleTextOf → ℕ → Type 0
HasUnknown t i = (group : GroupText) × (slice_get t.groups i ≡ Some group) × HasUnknownMember t group

-- more persons or groups than there may be, or a chain of more memberships
abbrev pub IsTooMuch : DirectoryOf → Type 0
IsTooMuch d = (MOST_PERSONS < length d.persons) ⊎ (MOST_GROUPS < length d.groups) ⊎ IsDeeper (members_at d) LONGEST_CHAIN

-- the text has this shape
abbrev pub IsPeopleText : List ℕ → PeopleTextOf → Type 0
IsPeopleText text t = Says text_of text t

abbrev pub refusals : List ℕ → List (Refusal PeopleRefusal)
refusals text =
    refused (λ _. Syntax) (IsNone (IsDocument text))
    ∷ refused Field (Of (IsDocument text) IsMisshapen)
    ∷ refused Twice (Of (IsPeopleText text) IsTwice)
    ∷ refused UnknownMember (Of (IsPeopleText text) (λ t. Behind (length t.persons) (HasUnknown t)))
    ∷ refused Cycle (Of (IsPeopleText text) (λ t. IsInCycle (members_at (directory_of t))))
    ∷ refused (λ _. Limit) (Of (IsPeopleText text) (λ t _. IsTooMuch (directory_of t)))
    ∷ []

-- why there is no document, as a refusal
abbrev pub of_document : DocumentFault → PeopleRefusal
of_document document.Syntax = Syntax
of_document document.Memory = Memory
