-- A people text is read by passes, and to one answer.
use Rattle.std.proofs.Common.{◌≡◌, ◌≢◌, ◌∙◌, ℕ, List, Some, Result, Ok, Err, ap, inl, inr, length, subst, sym}
use Rattle.toml.specs.Data.{Members}
use Rattle.ht_base.specs.Places.{Behind}
use Rattle.ht_graph.specs.Graphs.{IsInCycle}
use Rattle.ht_toml.specs.Documents.{IsDocument}
use Rattle.ht_toml.specs.Refusals.{IsFirst, Of, TellsLeast, refused}
use Rattle.ht_toml.proofs.PublicLaws as law
use Rattle.ht_people.specs.declared.refusal.PeopleRefusal.{PeopleRefusal}
use Rattle.ht_people.specs.declared.refusal.PeopleRefusal.TheVariants.{Field, Twice, UnknownMember, Cycle, Limit, Memory}
use Rattle.ht_people.specs.Directory.{DirectoryOf, directory_of, members_at}
use Rattle.ht_people.specs.PeopleText.{IsMisshapen, PeopleTextOf, text_of}
use Rattle.ht_people.specs.Reading.{IsDirectory, Reads}
use Rattle.ht_people.specs.Refusals.{HasUnknown, IsPeopleText, IsTooMuch, IsTwice, refusals}
use Rattle.ht_people.proofs.Shapes.{none_misshapen}

-- ---- one answer

one_directory : (text : List ℕ) (d e : DirectoryOf) → IsDirectory text d → IsDirectory text e → d ≡ e
one_directory text d e a b = a.2 ∙ ap directory_of (law.one_saying text_of text a.0 b.0 a.1 b.1) ∙ sym b.2

pub one_answer : (text : List ℕ) (a b : Result DirectoryOf PeopleRefusal) → Reads text a → Reads text b → a ≢ Err Memory → b ≢ Err Memory → a ≡ b
one_answer text = law.one_answer Memory (refusals text) (IsDirectory text) (one_directory text)

-- ---- passes, one behind another

-- what each pass looks for
abbrev pub HasUnknownAt : PeopleTextOf → ℕ → Type 0
HasUnknownAt t = Behind (length t.persons) (HasUnknown t)

abbrev pub IsInCycleOf : PeopleTextOf → ℕ → Type 0
IsInCycleOf t = IsInCycle (members_at (directory_of t))

abbrev pub IsTooMuchOf : PeopleTextOf → ℕ → Type 0
IsTooMuchOf t place = IsTooMuch (directory_of t)

module _ (text : List ℕ) (ms : Members) (is : IsDocument text ms) where
  no_syntax : (place : ℕ) → ((ms : Members) → IsDocument text ms → ⊥) → ⊥
  no_syntax place none = none ms is

  pub field_told : (a : PeopleRefusal) → (a ≢ Memory → TellsLeast (refused Field (IsMisshapen ms)) a) → a ≢ Memory → IsFirst (refusals text) a
  field_told a first some = inr (no_syntax, inl (law.told_of (IsDocument text) (law.one_document text) IsMisshapen ms is Memory Field a first some))

  module _ (t : PeopleTextOf) (read : text_of ms ≡ Some t) where
    shape : IsPeopleText text t
    shape = (ms, is, read)

    -- what a pass over the entries tells, or doesn't, is told of the text, or isn't
    told : (P : PeopleTextOf → ℕ → Type 0) (refusal : ℕ → PeopleRefusal) (a : PeopleRefusal) → (a ≢ Memory → TellsLeast (refused refusal (P t)) a) → a ≢ Memory → TellsLeast (refused refusal (Of (IsPeopleText text) P)) a
    told P refusal a first = law.told_of (IsPeopleText text) (law.one_saying text_of text) P t shape Memory refusal a first

    nowhere : (P : PeopleTextOf → ℕ → Type 0) → ((place : ℕ) → P t place → ⊥) → (place : ℕ) → Of (IsPeopleText text) P place → ⊥
    nowhere P none = law.nowhere_of (IsPeopleText text) (law.one_saying text_of text) P t shape none

    no_field : (place : ℕ) → Of (IsDocument text) IsMisshapen place → ⊥
    no_field = law.nowhere_of (IsDocument text) (law.one_document text) IsMisshapen ms is (none_misshapen ms t read)

    pub twice_told : (a : PeopleRefusal) → (a ≢ Memory → TellsLeast (refused Twice (IsTwice t)) a) → a ≢ Memory → IsFirst (refusals text) a
    twice_told a first some = inr (no_syntax, inr (no_field, inl (told IsTwice Twice a first some)))

    module _ (distinct : (place : ℕ) → IsTwice t place → ⊥) where
      pub unknown_told : (a : PeopleRefusal) → (a ≢ Memory → TellsLeast (refused UnknownMember (HasUnknownAt t)) a) → a ≢ Memory → IsFirst (refusals text) a
      unknown_told a first some = inr (no_syntax, inr (no_field, inr (nowhere IsTwice distinct, inl (told HasUnknownAt UnknownMember a first some))))

      module _ (known : (place : ℕ) → HasUnknownAt t place → ⊥) (d : DirectoryOf) (same : d ≡ directory_of t) where
        pub cycle_told : (a : PeopleRefusal) → (a ≢ Memory → TellsLeast (refused Cycle (IsInCycle (members_at d))) a) → a ≢ Memory → IsFirst (refusals text) a
        cycle_told a first some =
            let of_text = subst (λ (e : DirectoryOf). a ≢ Memory → TellsLeast (refused Cycle (IsInCycle (members_at e))) a) same first in
            inr (no_syntax, inr (no_field, inr (nowhere IsTwice distinct, inr (nowhere HasUnknownAt known, inl (told IsInCycleOf Cycle a of_text some)))))

        module _ (straight : (place : ℕ) → IsInCycle (members_at d) place → ⊥) where
          no_cycle : (place : ℕ) → Of (IsPeopleText text) IsInCycleOf place → ⊥
          no_cycle = nowhere IsInCycleOf (subst (λ (e : DirectoryOf). (place : ℕ) → IsInCycle (members_at e) place → ⊥) same straight)

          pub limit_told : (a : PeopleRefusal) → (a ≢ Memory → TellsLeast (refused (λ _. Limit) (λ _. IsTooMuch d)) a) → a ≢ Memory → IsFirst (refusals text) a
          limit_told a first some =
              let of_text = subst (λ (e : DirectoryOf). a ≢ Memory → TellsLeast (refused (λ _. Limit) (λ _. IsTooMuch e)) a) same first in
              inr (no_syntax, inr (no_field, inr (nowhere IsTwice distinct, inr (nowhere HasUnknownAt known, inr (no_cycle, inl (told IsTooMuchOf (λ _. Limit) a of_text some))))))

          pub is_read : (ℕ → IsTooMuch d → ⊥) → Reads text (Ok d)
          is_read little =
              let few = subst (λ (e : DirectoryOf). (place : ℕ) → IsTooMuch e → ⊥) same little in
              ((t, shape, same), (no_syntax, (no_field, (nowhere IsTwice distinct, (nowhere HasUnknownAt known, (no_cycle, (nowhere IsTooMuchOf few, tt)))))))
