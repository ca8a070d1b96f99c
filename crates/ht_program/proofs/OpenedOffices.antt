-- Of an office that was opened neither text is wrong, and its journal isn't at fault.
use Rattle.std.proofs.Common.{◌≡◌, ◌≤◌, ℕ, List, Option, Some, None, Ok, IfSome, refl, sym, ap, subst, ◌∙◌, length}
use Rattle.ht_base.specs.Records.{RecordOf}
use Rattle.ht_base.specs.declared.limits.TheConstants.{LONGEST_OFFICE_TEXT}
use Rattle.ht_desk.specs.declared.fault.OpenFault.{OpenFault}
use Rattle.ht_desk.specs.Opening.{AreOfFile, Fails}
use Rattle.ht_desk.specs.Records.{AreSpelled}
use Rattle.ht_desk.specs.Replaying.{IsJournalOf, TextsOf}
use Rattle.ht_desk.specs.States.{State}
use Rattle.ht_tree.specs.Tables.{TablesOf}
use Rattle.ht_program.specs.Folding.{file_of}
use Rattle.ht_program.specs.Office.{IsAtFault, OpenedAs}
use Rattle.ht_program.specs.Reading.{AreWrong, Reads}
use Rattle.ht_program.specs.Words.{WordsOf}
use Rattle.ht_program.proofs.Statuses.{right}
use Rattle.ht_program.proofs.TextStatuses.{same_texts, short, these}

module _ (said : WordsOf) (texts : TextsOf) (opened : State) where
  pub not_wrong : (told : Option (List ℕ → List ℕ)) (names : List ℕ × List ℕ) (file : Option (List ℕ)) → said.texts ≡ Some names → Reads said.texts told (Ok texts) → OpenedAs said texts file opened → IfSome told (λ text. AreWrong (text names.0) (text names.1) → ⊥)
  not_wrong None names file named reads opens = tt
  not_wrong (Some text) names file named reads opens = λ wrong.
      let of_names = subst (λ (n : Option (List ℕ × List ℕ)). Reads n (Some text) (Ok texts)) named reads in
      let few = short (Some text) names texts of_names in
      right texts _ opens.office.journal.begins few.0 few.1 (subst (λ (t : TextsOf). AreWrong t.models t.people) (sym (these text names texts of_names)) wrong)

  module _ (whole : (texts : TextsOf) (records : List RecordOf) (t : TablesOf) (f : List ℕ) (why : OpenFault) → AreSpelled records → IsJournalOf texts records t → AreOfFile texts records f → Fails texts f why → ⊥) (name : List ℕ) (named : said.journal ≡ Some name) where
    pub not_at_fault : (told : Option (List ℕ → List ℕ)) (file : Option (List ℕ)) → Reads said.texts told (Ok texts) → OpenedAs said texts file opened → IfSome told (λ text. IfSome file (λ f. IsAtFault said text f → ⊥))
    not_at_fault None file reads opens = tt
    not_at_fault (Some text) None reads opens = tt
    not_at_fault (Some text) (Some f) reads opens = λ bad.
        let fails = subst (λ (t : TextsOf). Fails t (file_of said.journal f) bad.2.0) (same_texts said.texts text bad.0 texts bad.1 reads) bad.2.1 in
        whole texts _ _ f bad.2.0 opens.office.spelled opens.office.journal opens.office.found (subst (λ (j : Option (List ℕ)). Fails texts (file_of j f) bad.2.0) named fails)
