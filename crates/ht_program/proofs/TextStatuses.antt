-- Which status says what of the texts, and of the journal.
use Rattle.std.proofs.Common.{◌≡◌, ◌≢◌, ◌⊎◌, ◌↔◌, ◌∙◌, inl, inr, ⊎_elim, ℕ, ◌≤◌, ◌<◌, List, [], ◌∷◌, length, Option, Some, None, Result, Ok, Err, IfSome, refl, sym, ap, subst, arith}
use Rattle.ht_base.specs.declared.limits.TheConstants.{LONGEST_OFFICE_TEXT}
use Rattle.ht_base.specs.Records.{RecordOf}
use Rattle.ht_desk.specs.declared.fault.OpenFault.{OpenFault}
use Rattle.ht_desk.specs.declared.fault.OpenFault.TheVariants as fault
use Rattle.ht_desk.specs.Opening.{AreOfFile, Fails, IsFileFault, IsTextFault}
use Rattle.ht_desk.specs.Records.{AreSpelled}
use Rattle.ht_desk.specs.Replaying.{IsJournalOf, TextsOf, texts_of}
use Rattle.ht_models.specs.declared.refusal.ModelsRefusal.{ModelsRefusal}
use Rattle.ht_models.specs.declared.refusal.ModelsRefusal.TheVariants as models
use Rattle.ht_models.specs.BuiltIn as built_models
use Rattle.ht_models.specs.Model.{ModelOf}
use Rattle.ht_models.specs.Reading as models_text
use Rattle.ht_outside.specs.declared.disk.Disk.{Ghosts}
use Rattle.ht_people.specs.declared.refusal.PeopleRefusal.{PeopleRefusal}
use Rattle.ht_people.specs.BuiltIn as built_people
use Rattle.ht_people.specs.Directory.{DirectoryOf}
use Rattle.ht_people.specs.Reading as people_text
use Rattle.ht_serve.specs.declared.ending.Ending.{Ending}
use Rattle.ht_tree.specs.Tables.{TablesOf}
use Rattle.ht_program.specs.declared.reading.TextsFault.{TextsFault}
use Rattle.ht_program.specs.declared.reading.TextsFault.TheVariants.{Unread, TooLong, Memory}
use Rattle.ht_program.specs.Attaching.{Disks}
use Rattle.ht_program.specs.Checking.{Checks}
use Rattle.ht_program.specs.Folding.{file_of}
use Rattle.ht_program.specs.Office.{ChecksOrRuns, IsAtFault, Outside, Runs, RunsOffice}
use Rattle.ht_program.specs.OfficeTexts.{built_in_texts}
use Rattle.ht_program.specs.Reading.{AreWrong, Reads}
use Rattle.ht_program.specs.Statuses.{end_status, missing_status}
use Rattle.ht_program.specs.Words.{WordsOf}
use Rattle.ht_program.specs.Words.WorkOf.{checking}
use Rattle.ht_program.proofs.Checked.{of_texts as of_judged}
use Rattle.ht_program.proofs.Statuses.{bad_models, bad_people, empty_file, ending_not, file, of_damaged, of_models, of_people, of_record, of_texts, right, right_read, why_of, worked_of}

-- ---- the texts that were read

-- they are those of these names, and neither is too long
pub these : (text : List ℕ → List ℕ) (names : List ℕ × List ℕ) (texts : TextsOf) → Reads (Some names) (Some text) (Ok texts) → texts ≡ texts_of (text names.0) (text names.1)
these text names texts reads = (reads.4).0 ∙ ap (λ (m : List ℕ). texts_of m reads.1) reads.2 ∙ ap (texts_of (text names.0)) reads.3

pub short : (told : Option (List ℕ → List ℕ)) (names : List ℕ × List ℕ) (texts : TextsOf) → Reads (Some names) told (Ok texts) → (length texts.models ≤ LONGEST_OFFICE_TEXT) × (length texts.people ≤ LONGEST_OFFICE_TEXT)
short told names texts reads =
    let P : TextsOf → Type 0 = λ t. (length t.models ≤ LONGEST_OFFICE_TEXT) × (length t.people ≤ LONGEST_OFFICE_TEXT) in
    subst P (sym (reads.4).0) ((reads.4).1, (reads.4).2)

pub same_texts : (names : Option (List ℕ × List ℕ)) (text : List ℕ → List ℕ) (a b : TextsOf) → Reads names (Some text) (Ok a) → Reads names (Some text) (Ok b) → a ≡ b
same_texts None text a b p q = p ∙ sym q
same_texts (Some names) text a b p q = these text names a p ∙ sym (these text names b q)

module _ {D : Type 0} (d : Ghosts D) (said : WordsOf) (before after : Disks D) (old new : Outside) (status : ℕ) where
  abbrev RunsTo : TextsOf → Result Ending OpenFault → Type 0
  RunsTo texts end = Runs d said.journal said texts before after old.connection new.connection end

  -- ---- 4

  module _ (texts : TextsOf) (few : (length texts.models ≤ LONGEST_OFFICE_TEXT) × (length texts.people ≤ LONGEST_OFFICE_TEXT)) where
    file_wrong : (g : Option (List ℕ)) (why : OpenFault) → IsFileFault texts g why → AreWrong texts.models texts.people → ⊥
    file_wrong g why is wrong = right texts (is.0).0 (is.0).1 few.0 few.1 wrong

    wrong_end : (end : Result Ending OpenFault) → RunsTo texts end → status ≡ end_status end → status ≢ 6 → status ≢ 8 → (status ≡ 4) ↔ AreWrong texts.models texts.people
    wrong_end (Ok e) runs is six eight =
        let w = ((worked_of d said before after old new status said.journal texts e runs).opens).office in
        ((λ four. absurd (ending_not e 4 (omega arith) (omega arith) (sym is ∙ four))), (λ wrong. absurd (right texts _ (w.journal).begins few.0 few.1 wrong)))
    wrong_end (Err (fault.Models why)) runs is six eight = ((λ four. bad_models texts why (of_models d said before after old new status said.journal texts why (why_of d said before after old new status said.journal texts _ runs))), (λ wrong. is))
    wrong_end (Err (fault.People why)) runs is six eight = ((λ four. bad_people texts why (of_people d said before after old new status said.journal texts why (why_of d said before after old new status said.journal texts _ runs))), (λ wrong. is))
    wrong_end (Err (fault.Damaged at)) runs is six eight =
        let f = of_damaged d said before after old new status said.journal texts at (why_of d said before after old new status said.journal texts _ runs) in
        ((λ four. absurd (omega (arith, is, four))), (λ wrong. absurd (file_wrong _ _ f wrong)))
    wrong_end (Err (fault.RecordRefused n)) runs is six eight =
        let f = of_record d said before after old new status said.journal texts n (why_of d said before after old new status said.journal texts _ runs) in
        ((λ four. absurd (omega (arith, is, four))), (λ wrong. absurd (file_wrong _ _ f wrong)))
    wrong_end (Err fault.TextsDiffer) runs is six eight =
        let f = of_texts d said before after old new status said.journal texts (why_of d said before after old new status said.journal texts _ runs) in
        ((λ four. absurd (omega (arith, is, four))), (λ wrong. absurd (file_wrong _ _ f wrong)))
    wrong_end (Err fault.Store) runs is six eight = absurd (six is)
    wrong_end (Err fault.Memory) runs is six eight = absurd (eight is)

    wrong_checked : (end : Result Ending OpenFault) → Checks texts old.connection.output new.connection.output end → status ≡ end_status end → status ≢ 8 → (status ≡ 4) ↔ AreWrong texts.models texts.people
    wrong_checked (Ok e) checks is eight =
        let are = checks.1 in
        ((λ four. absurd (ending_not e 4 (omega arith) (omega arith) (sym is ∙ four))), (λ wrong. absurd (right_read texts _ _ are.models_read are.people_read few.0 few.1 wrong)))
    wrong_checked (Err (fault.Models why)) checks is eight = ((λ four. bad_models texts why checks.0), (λ wrong. is))
    wrong_checked (Err (fault.People why)) checks is eight = ((λ four. bad_people texts why checks.0), (λ wrong. is))
    wrong_checked (Err (fault.Damaged at)) checks is eight = absurd checks.0
    wrong_checked (Err (fault.RecordRefused n)) checks is eight = absurd checks.0
    wrong_checked (Err fault.TextsDiffer) checks is eight = absurd checks.0
    wrong_checked (Err fault.Store) checks is eight = absurd checks.0
    wrong_checked (Err fault.Memory) checks is eight = absurd (eight is)

    wrong_either : (end : Result Ending OpenFault) → ChecksOrRuns d said texts before after old.connection new.connection end → status ≡ end_status end → status ≢ 6 → status ≢ 8 → (status ≡ 4) ↔ AreWrong texts.models texts.people
    wrong_either end did is six eight = ⊎_elim (λ checked. wrong_checked end checked.1 is eight) (λ runs. wrong_end end runs.1 is six eight) did

  wrong_missing : (text : List ℕ → List ℕ) (names : List ℕ × List ℕ) (why : TextsFault) → Reads (Some names) (Some text) (Err why) → status ≡ missing_status why → status ≢ 3 → status ≢ 8 → (status ≡ 4) ↔ AreWrong (text names.0) (text names.1)
  wrong_missing text names (Unread w) reads is three eight = absurd (three is)
  wrong_missing text names Memory reads is three eight = absurd (eight is)
  wrong_missing text names (TooLong w) reads is three eight =
      let P : List ℕ → Type 0 = λ m. LONGEST_OFFICE_TEXT < length m in
      ((λ four. inl (⊎_elim (λ one. inl (subst P reads.2 one.1)) (λ two. inr (subst P reads.3 (two.1).1)) reads.4)), (λ wrong. is))

  wrong_told : (told : Option (List ℕ → List ℕ)) (names : List ℕ × List ℕ) → said.texts ≡ Some names → old.texts.texts ≡ told → RunsOffice d said before after old new status
      → IfSome told (λ text. status ≢ 3 → status ≢ 6 → status ≢ 8 → (status ≡ 4) ↔ AreWrong (text names.0) (text names.1))
  wrong_told None names named same office = tt
  wrong_told (Some text) names named same (inl ran) = λ three six eight.
      let reads = subst (λ (n : Option (List ℕ × List ℕ)). Reads n (Some text) (Ok ran.texts)) named (subst (λ (t : Option (List ℕ → List ℕ)). Reads said.texts t (Ok ran.texts)) same ran.reads) in
      let P : TextsOf → Type 0 = λ t. (status ≡ 4) ↔ AreWrong t.models t.people in
      subst P (these text names ran.texts reads) (wrong_either ran.texts (short (Some text) names ran.texts reads) ran.end ran.runs ran.status_is six eight)
  wrong_told (Some text) names named same (inr missing) = λ three six eight.
      let reads = subst (λ (n : Option (List ℕ × List ℕ)). Reads n (Some text) (Err missing.why)) named (subst (λ (t : Option (List ℕ → List ℕ)). Reads said.texts t (Err missing.why)) same missing.reads) in
      wrong_missing text names missing.why reads missing.status_is three eight

  pub wrong : (names : List ℕ × List ℕ) → said.texts ≡ Some names → RunsOffice d said before after old new status
      → IfSome old.texts.texts (λ text. status ≢ 3 → status ≢ 6 → status ≢ 8 → (status ≡ 4) ↔ AreWrong (text names.0) (text names.1))
  wrong names named office = wrong_told old.texts.texts names named refl office

  -- ---- 5

  module _ (whole : (texts : TextsOf) (records : List RecordOf) (t : TablesOf) (f : List ℕ) (why : OpenFault) → AreSpelled records → IsJournalOf texts records t → AreOfFile texts records f → Fails texts f why → ⊥)
      (text : List ℕ → List ℕ) (f : List ℕ) (holds : d.gives before.first ≡ Some f) (none : said.work ≡ checking → said.journal ≡ None) where
    told_file : (journal : Option (List ℕ)) → file d said before after old new status journal ≡ Some (file_of journal f)
    told_file None = refl
    told_file (Some name) = holds

    at_fault : (texts : TextsOf) (why : OpenFault) → Reads said.texts (Some text) (Ok texts) → IsFileFault texts (file d said before after old new status said.journal) why → IsAtFault said text f
    at_fault texts why reads is = (texts, reads, (why, subst (λ (g : Option (List ℕ)). IfSome g (λ x. Fails texts x why)) (told_file said.journal) is.1))

    journal_end : (end : Result Ending OpenFault) (texts : TextsOf) → Reads said.texts (Some text) (Ok texts) → RunsTo texts end → status ≡ end_status end → status ≢ 4 → status ≢ 6 → status ≢ 8 → (status ≡ 5) ↔ IsAtFault said text f
    journal_end (Ok e) texts reads runs is four six eight =
        let has = worked_of d said before after old new status said.journal texts e runs in
        let w = (has.opens).office in
        let found = subst (λ (g : Option (List ℕ)). IfSome g (AreOfFile texts (has.opened).records)) (told_file said.journal) w.found in (
          (λ five. absurd (ending_not e 5 (omega arith) (omega arith) (sym is ∙ five))),
          (λ bad. absurd (whole texts _ _ (file_of said.journal f) (bad.2).0 w.spelled w.journal found (subst (λ (t : TextsOf). Fails t (file_of said.journal f) (bad.2).0) (same_texts said.texts text bad.0 texts bad.1 reads) (bad.2).1))),
        )
    journal_end (Err (fault.Models why)) texts reads runs is four six eight = absurd (four is)
    journal_end (Err (fault.People why)) texts reads runs is four six eight = absurd (four is)
    journal_end (Err (fault.Damaged at)) texts reads runs is four six eight = ((λ five. at_fault texts _ reads (of_damaged d said before after old new status said.journal texts at (why_of d said before after old new status said.journal texts _ runs))), (λ bad. is))
    journal_end (Err (fault.RecordRefused n)) texts reads runs is four six eight = ((λ five. at_fault texts _ reads (of_record d said before after old new status said.journal texts n (why_of d said before after old new status said.journal texts _ runs))), (λ bad. is))
    journal_end (Err fault.TextsDiffer) texts reads runs is four six eight = ((λ five. at_fault texts _ reads (of_texts d said before after old new status said.journal texts (why_of d said before after old new status said.journal texts _ runs))), (λ bad. is))
    journal_end (Err fault.Store) texts reads runs is four six eight = absurd (six is)
    journal_end (Err fault.Memory) texts reads runs is four six eight = absurd (eight is)

    -- an office that isn't opened has no journal
    journal_checked : (end : Result Ending OpenFault) (texts : TextsOf) → said.work ≡ checking → Checks texts old.connection.output new.connection.output end → status ≡ end_status end → (status ≡ 5) ↔ IsAtFault said text f
    journal_checked end texts work checks is = (
      (λ five. absurd ((of_judged _ _ end texts checks).0 (sym is ∙ five))),
      (λ bad. absurd (empty_file bad.0 (bad.2).0 (subst (λ (j : Option (List ℕ)). Fails bad.0 (file_of j f) (bad.2).0) (none work) (bad.2).1))),
    )

    journal_missing : (why : TextsFault) → status ≡ missing_status why → status ≢ 3 → status ≢ 4 → status ≢ 8 → ⊥
    journal_missing (Unread w) is three four eight = three is
    journal_missing (TooLong w) is three four eight = four is
    journal_missing Memory is three four eight = eight is

    of_office : old.texts.texts ≡ Some text → RunsOffice d said before after old new status → status ≢ 3 → status ≢ 4 → status ≢ 6 → status ≢ 8 → (status ≡ 5) ↔ IsAtFault said text f
    of_office same (inl ran) three four six eight =
        ⊎_elim (λ checked. journal_checked ran.end ran.texts checked.0 checked.1 ran.status_is)
        (λ runs. journal_end ran.end ran.texts (subst (λ (t : Option (List ℕ → List ℕ)). Reads said.texts t (Ok ran.texts)) same ran.reads) runs.1 ran.status_is four six eight) ran.runs
    of_office same (inr missing) three four six eight = absurd (journal_missing missing.why missing.status_is three four eight)

  journal_told : ((texts : TextsOf) (records : List RecordOf) (t : TablesOf) (f : List ℕ) (why : OpenFault) → AreSpelled records → IsJournalOf texts records t → AreOfFile texts records f → Fails texts f why → ⊥)
      → (said.work ≡ checking → said.journal ≡ None) → (told : Option (List ℕ → List ℕ)) (holds : Option (List ℕ)) → old.texts.texts ≡ told → d.gives before.first ≡ holds → RunsOffice d said before after old new status
      → IfSome told (λ text. IfSome holds (λ f. status ≢ 3 → status ≢ 4 → status ≢ 6 → status ≢ 8 → (status ≡ 5) ↔ IsAtFault said text f))
  journal_told whole none None holds same holds_is office = tt
  journal_told whole none (Some text) None same holds_is office = tt
  journal_told whole none (Some text) (Some f) same holds_is office = of_office whole text f holds_is none same office

  pub journal : ((texts : TextsOf) (records : List RecordOf) (t : TablesOf) (f : List ℕ) (why : OpenFault) → AreSpelled records → IsJournalOf texts records t → AreOfFile texts records f → Fails texts f why → ⊥)
      → (said.work ≡ checking → said.journal ≡ None) → RunsOffice d said before after old new status
      → IfSome old.texts.texts (λ text. IfSome (d.gives before.first) (λ f. status ≢ 3 → status ≢ 4 → status ≢ 6 → status ≢ 8 → (status ≡ 5) ↔ IsAtFault said text f))
  journal whole none office = journal_told whole none old.texts.texts (d.gives before.first) refl refl office

  -- ---- the built-in texts

  module _ (one_models : (answer : Result (List ModelOf) ModelsRefusal) → models_text.Reads built_models.built_in_text answer → (answer ≡ Err models.Memory) ⊎ (answer ≡ Ok (built_models.unit ∷ [])))
      (one_people : (answer : Result DirectoryOf PeopleRefusal) → people_text.Reads built_people.built_in_text answer → built_people.IsBuiltIn answer) where
    no_models : (why : ModelsRefusal) → IsTextFault built_in_texts (fault.Models why) → ⊥
    no_models why is = ⊎_elim (λ e. is.1 (cc)) (λ e. absurd (cc)) (one_models (Err why) is.0)

    no_people : (why : PeopleRefusal) → IsTextFault built_in_texts (fault.People why) → ⊥
    no_people why is = ⊎_elim (λ e. is.2 (cc)) (λ e. absurd (cc)) (one_people (Err why) is.1)

    built_end : (end : Result Ending OpenFault) (texts : TextsOf) → texts ≡ built_in_texts → RunsTo texts end → (end_status end ≢ 3) × (end_status end ≢ 4)
    built_end (Ok e) texts same runs = ((λ is. ending_not e 3 (omega arith) (omega arith) is), (λ is. ending_not e 4 (omega arith) (omega arith) is))
    built_end (Err (fault.Models why)) texts same runs = absurd (no_models why (subst (λ (t : TextsOf). IsTextFault t (fault.Models why)) same (of_models d said before after old new status said.journal texts why (why_of d said before after old new status said.journal texts _ runs))))
    built_end (Err (fault.People why)) texts same runs = absurd (no_people why (subst (λ (t : TextsOf). IsTextFault t (fault.People why)) same (of_people d said before after old new status said.journal texts why (why_of d said before after old new status said.journal texts _ runs))))
    built_end (Err (fault.Damaged at)) texts same runs = ((λ is. omega arith), (λ is. omega arith))
    built_end (Err (fault.RecordRefused n)) texts same runs = ((λ is. omega arith), (λ is. omega arith))
    built_end (Err fault.TextsDiffer) texts same runs = ((λ is. omega arith), (λ is. omega arith))
    built_end (Err fault.Store) texts same runs = ((λ is. omega arith), (λ is. omega arith))
    built_end (Err fault.Memory) texts same runs = ((λ is. omega arith), (λ is. omega arith))

    built_checked : (end : Result Ending OpenFault) (texts : TextsOf) → texts ≡ built_in_texts → Checks texts old.connection.output new.connection.output end → (end_status end ≢ 3) × (end_status end ≢ 4)
    built_checked (Ok e) texts same checks = ((λ is. ending_not e 3 (omega arith) (omega arith) is), (λ is. ending_not e 4 (omega arith) (omega arith) is))
    built_checked (Err (fault.Models why)) texts same checks = absurd (no_models why (subst (λ (t : TextsOf). IsTextFault t (fault.Models why)) same checks.0))
    built_checked (Err (fault.People why)) texts same checks = absurd (no_people why (subst (λ (t : TextsOf). IsTextFault t (fault.People why)) same checks.0))
    built_checked (Err (fault.Damaged at)) texts same checks = absurd checks.0
    built_checked (Err (fault.RecordRefused n)) texts same checks = absurd checks.0
    built_checked (Err fault.TextsDiffer) texts same checks = absurd checks.0
    built_checked (Err fault.Store) texts same checks = absurd checks.0
    built_checked (Err fault.Memory) texts same checks = ((λ is. omega arith), (λ is. omega arith))

    pub built_in : said.texts ≡ None → RunsOffice d said before after old new status → (status ≢ 3) × (status ≢ 4)
    built_in none (inl ran) =
        let reads = subst (λ (n : Option (List ℕ × List ℕ)). Reads n old.texts.texts (Ok ran.texts)) none ran.reads in
        let end : (end_status ran.end ≢ 3) × (end_status ran.end ≢ 4) = ⊎_elim (λ checked. built_checked ran.end ran.texts reads checked.1) (λ runs. built_end ran.end ran.texts reads runs.1) ran.runs in
        ((λ three. end.0 (sym ran.status_is ∙ three)), (λ four. end.1 (sym ran.status_is ∙ four)))
    built_in none (inr missing) = absurd (subst (λ (n : Option (List ℕ × List ℕ)). Reads n old.texts.texts (Err missing.why)) none missing.reads)

-- of the same run
pub as_said : {D : Type 0} (d : Ghosts D) (said other : WordsOf) (before after : Disks D) (old new : Outside) (status : ℕ) → said ≡ other → RunsOffice d said before after old new status → RunsOffice d other before after old new status
as_said d said other before after old new status same office = subst (λ (r : WordsOf). RunsOffice d r before after old new status) same office
