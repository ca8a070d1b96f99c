-- Words that begin with `serve` ask for a service, with a journal.
use Rattle.std.proofs.Common.{◌≡◌, ℕ, List, [], ◌∷◌, Option, Some, None, IsSome, bytes_eq, codes, true≢false, refl, sym, ap, subst, ◌∙◌}
use Rattle.ht_program.specs.Words.{AreWords, IsAlone, IsAsked, IsSaidBy, WordsOf, WorkOf, command_of, value_of}
use Rattle.ht_program.specs.Words.WorkOf.{checking, exporting, loading, running, serving}

command_is : (c d : List ℕ) (cs ds : List (List ℕ)) → c ∷ cs ≡ d ∷ ds → c ≡ d
command_is c d cs ds e = cc

waits : (w : WorkOf) → codes "serve" ≡ command_of w → IsAlone w → ⊥
waits (running from step) is alone = absurd (true≢false (ap (λ (w : List ℕ). bytes_eq w (codes "serve")) is))
waits (serving service) is alone = alone
waits checking is alone = absurd (true≢false (ap (λ (w : List ℕ). bytes_eq w (codes "serve")) is))
waits exporting is alone = absurd (true≢false (ap (λ (w : List ℕ). bytes_eq w (codes "serve")) is))
waits (loading seed count) is alone = absurd (true≢false (ap (λ (w : List ℕ). bytes_eq w (codes "serve")) is))

has_journal : (w : WorkOf) (options : List (List ℕ)) → (IsAlone w → ⊥) → IsSaidBy options w → IsSome (value_of (codes "--journal") options)
has_journal (running from step) options waits said = absurd (waits tt)
has_journal (serving service) options waits said = said.0
has_journal checking options waits said = absurd (waits tt)
has_journal exporting options waits said = absurd (waits tt)
has_journal (loading seed count) options waits said = absurd (waits tt)

given : (o : Option (List ℕ)) → IsSome o → (name : List ℕ) × (o ≡ Some name)
given None some = absurd (cc)
given (Some name) some = (name, refl)

module _ (words rest : List (List ℕ)) (said : WordsOf) (begins : words ≡ codes "serve" ∷ rest) (are : AreWords words said) where
  pub not_alone : IsAlone said.work → ⊥
  not_alone = waits said.work (sym (command_is are.command (codes "serve") are.options rest (sym are.words_are ∙ begins)) ∙ are.work_is.named)

  pub named : (name : List ℕ) × (said.journal ≡ Some name)
  named =
      let name = given (value_of (codes "--journal") are.options) (has_journal said.work are.options not_alone are.work_is.said) in
      (name.0, sym are.journal_is ∙ name.1)

-- words that begin otherwise ask for no service
pub alone : (words : List (List ℕ)) (said : WordsOf) → ((rest : List (List ℕ)) → words ≡ codes "serve" ∷ rest → ⊥) → AreWords words said → IsAlone said.work
alone words said other are = by_work said.work refl
  where
    by_work : (w : WorkOf) → said.work ≡ w → IsAlone said.work
    by_work (running from step) is = subst IsAlone (sym is) tt
    by_work (serving service) is = absurd (other are.options (are.words_are ∙ ap (λ (c : List ℕ). c ∷ are.options) (are.work_is.named ∙ ap command_of is)))
    by_work checking is = subst IsAlone (sym is) tt
    by_work exporting is = subst IsAlone (sym is) tt
    by_work (loading seed count) is = subst IsAlone (sym is) tt

-- a service as the words say
pub service_of : (w : WorkOf) → (IsAlone w → ⊥) → (service : _) × (w ≡ serving service)
service_of (running from step) waits = absurd (waits tt)
service_of (serving service) waits = (service, refl)
service_of checking waits = absurd (waits tt)
service_of exporting waits = absurd (waits tt)
service_of (loading seed count) waits = absurd (waits tt)
