-- Groups that stand twice: by an earlier group's name, or by a member that stands twice in one.
use Rattle.std.proofs.Common.{◌≡◌, ◌∙◌, ◌<◌, ℕ, List, Some, ap, arith, inl, inr, length, map, subst, sym, take}
use Rattle.std.specs.Prelude.{slice_get}
use Rattle.std.proofs.lemmas.Bool.{cases_lt}
use Rattle.std.proofs.lemmas.List.{length-map}
use Rattle.std.proofs.lemmas.Option.{slice_get_within}
use Rattle.ht_base.proofs.PublicLaws.{front_has, in_front_of}
use Rattle.ht_base.specs.Places.{IsLeast, IsRepeated}
use Rattle.ht_base.specs.declared.indexes.IndexFault.TheVariants.{Repeated}
use Rattle.ht_people.specs.declared.entries.MemberName.{MemberName}
use Rattle.ht_people.specs.declared.entries.PersonEntry.{PersonEntry}
use Rattle.ht_people.specs.PeopleText.{GroupText}
use Rattle.ht_people.specs.Refusals.{HasTwiceMember, IsTwiceGroup}

-- what is told of a place is told of the place in the fault
pub told : (P : ℕ → Type 0) (i : ℕ) → P i → (place : ℕ) → Repeated i ≡ Repeated place → P place
told P i p place e = let same : i ≡ place = cc in subst P same p

pub twice_at : (groups : List GroupText) (i j : ℕ) (g : GroupText) (members : List MemberName) → slice_get groups i ≡ Some g → members ≡ g.members → IsRepeated members j → HasTwiceMember groups i
twice_at groups i j g members at same r = (g, at, (j, subst (λ (ms : List MemberName). IsRepeated ms j) same r))

pub not_twice_at : (groups : List GroupText) (i : ℕ) (g : GroupText) (members : List MemberName) → slice_get groups i ≡ Some g → members ≡ g.members → ((j : ℕ) → IsRepeated members j → ⊥) → HasTwiceMember groups i → ⊥
not_twice_at groups i g members at same alone t =
    let one : t.0 ≡ g = let other = t.1 in cc in
    let here : t.0.members ≡ members = ap (λ (g : GroupText). g.members) one ∙ sym same in
    alone t.2.0 (subst (λ (ms : List MemberName). IsRepeated ms t.2.0) here t.2.1)

pub person_within : (persons : List PersonEntry) (i : ℕ) → IsRepeated (map (λ p. p.name) persons) i → i < length persons
person_within persons i r = let within = slice_get_within (map (λ p. p.name) persons) i r.2 r.4 in let many = length-map persons (λ p. p.name) in omega arith

module _ (groups : List GroupText) where
  pub repeated_within : (i : ℕ) → IsRepeated (map (λ g. g.name) groups) i → i < length groups
  repeated_within i r = let within = slice_get_within (map (λ g. g.name) groups) i r.2 r.4 in let many = length-map groups (λ g. g.name) in omega arith

  pub twice_within : (i : ℕ) → HasTwiceMember groups i → i < length groups
  twice_within i t = slice_get_within groups i t.0 t.1

  pub twice_in_front : (p i : ℕ) → HasTwiceMember (take p groups) i → HasTwiceMember groups i
  twice_in_front p i t = (t.0, (in_front_of groups p i t.0 t.1).1, t.2)

  -- no name stands twice
  pub member_first : (i : ℕ) → IsLeast (HasTwiceMember groups) i → ((j : ℕ) → IsRepeated (map (λ g. g.name) groups) j → ⊥) → IsLeast (IsTwiceGroup groups) i
  member_first i first alone = record { holds = inr first.holds; least = λ j t. elim t [ inl r ↦ absurd (alone j r) | inr m ↦ first.least j m ] }

  pub none_twice : ((j : ℕ) → IsRepeated (map (λ g. g.name) groups) j → ⊥) → ((j : ℕ) → HasTwiceMember groups j → ⊥) → (j : ℕ) → IsTwiceGroup groups j → ⊥
  none_twice alone none j t = elim t [ inl r ↦ alone j r | inr m ↦ none j m ]

  -- a member stands twice before the first name that does
  pub member_before : (p i : ℕ) → IsLeast (HasTwiceMember (take p groups)) i → IsLeast (IsRepeated (map (λ g. g.name) groups)) p → IsLeast (IsTwiceGroup groups) i
  member_before p i first name =
      let t = first.holds in
      let front = in_front_of groups p i t.0 t.1 in
      record {
        holds = inr (twice_in_front p i t);
        least = λ j t. elim t [
          | inl r ↦ let low = front.0 in let later = name.least j r in omega arith
          | inr m ↦ elim (cases_lt j p) [
            | inl h ↦ first.least j (m.0, front_has groups p j m.0 h m.1, m.2)
            | inr h ↦ let low = front.0 in omega arith
          ]
        ];
      }

  -- none does
  pub name_first : (p : ℕ) → ((j : ℕ) → HasTwiceMember (take p groups) j → ⊥) → IsLeast (IsRepeated (map (λ g. g.name) groups)) p → IsLeast (IsTwiceGroup groups) p
  name_first p none name = record {
    holds = inl name.holds;
    least = λ j t. elim t [
      | inl r ↦ name.least j r
      | inr m ↦ elim (cases_lt j p) [ inl h ↦ absurd (none j (m.0, front_has groups p j m.0 h m.1, m.2)) | inr h ↦ h ]
    ];
  }
