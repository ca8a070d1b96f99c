-- Options of other names give no value.
use Rattle.std.proofs.Common.{◌≡◌, ◌∙◌, Bool, true, false, ◌&&◌, is_none, List, [], ◌∷◌, ℕ, None, bytes_eq, codes, refl, sym, ap, subst}
use Rattle.std.proofs.lemmas.Bool.{and_parts}
use Rattle.ht_program.specs.Words.{AreWords, WordsOf, WorkOf, are_options, begin_options, is_one_of, is_value, options_of, value_of}
use Rattle.ht_program.specs.Words.WorkOf.{checking}
use Rattle.ht_program.proofs.Grammar.{same_text}

module _ (names : List (List ℕ)) (name : List ℕ) (no_name : is_one_of names name ≡ false) where
  is_named : (word value : List ℕ) (words : List (List ℕ)) → begin_options names word value words ≡ true → is_one_of names word ≡ true
  is_named word value words begin = (and_parts (is_one_of names word) (is_value value && is_none (value_of word words)) begin).0

  by_word : (word value : List ℕ) (words : List (List ℕ)) (b : Bool) → b ≡ bytes_eq word name → begin_options names word value words ≡ true → value_of name words ≡ None → value_of name (word ∷ value ∷ words) ≡ None
  by_word word value words true is begin later = absurd (let wrong : false ≡ true = sym no_name ∙ ap (is_one_of names) (sym (same_text word name true is refl)) ∙ is_named word value words begin in cc)
  by_word word value words false is begin later = rw (← is) later

  unnamed : (words : List (List ℕ)) → are_options names words ≡ true → value_of name words ≡ None
  unnamed [] are = refl
  unnamed (word ∷ []) are = refl
  unnamed (word ∷ value ∷ words) are =
      let parts = and_parts (begin_options names word value words) (are_options names words) are in
      by_word word value words (bytes_eq word name) refl parts.0 (unnamed words parts.1)

-- `check` has no journal
pub without_journal : (words : List (List ℕ)) (said : WordsOf) → AreWords words said → said.work ≡ checking → said.journal ≡ None
without_journal words said are checks =
    let allowed = subst (λ (w : WorkOf). are_options (options_of w) are.options ≡ true) checks (are.work_is).allowed in
    sym are.journal_is ∙ unnamed (options_of checking) (codes "--journal") refl are.options allowed
