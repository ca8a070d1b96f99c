-- What `check`, `export` and `load` write is a function of the words, of the texts and of the file.
use Rattle.std.proofs.Common.{◌≡◌, ◌≢◌, ◌∙◌, ℕ, List, length, Option, None, Some, Result, Ok, Err, refl, sym, ap, subst}
use Rattle.ht_base.specs.Records.{RecordOf}
use Rattle.ht_desk.specs.Replaying.{IsJournalOf, TextsOf}
use Rattle.ht_desk.specs.States.{State}
use Rattle.ht_export.specs.Lines.{export_text}
use Rattle.ht_load.specs.declared.sums.Sums.{Sums}
use Rattle.ht_load.specs.Answers.{AreDecided}
use Rattle.ht_load.specs.Loads.{Loads}
use Rattle.ht_load.specs.Sums.{sums_line}
use Rattle.ht_models.specs.declared.refusal.ModelsRefusal.{ModelsRefusal}
use Rattle.ht_models.specs.declared.refusal.ModelsRefusal.TheVariants as models
use Rattle.ht_models.specs.Model.{ModelOf}
use Rattle.ht_models.specs.Reading as models_text
use Rattle.ht_people.specs.declared.refusal.PeopleRefusal.{PeopleRefusal}
use Rattle.ht_people.specs.declared.refusal.PeopleRefusal.TheVariants as people
use Rattle.ht_people.specs.Directory.{DirectoryOf}
use Rattle.ht_people.specs.Reading as people_text
use Rattle.ht_tree.specs.Tables.{TablesOf}
use Rattle.ht_program.specs.declared.checking.Counted.{Counted}
use Rattle.ht_program.specs.Checking.{AreCounted, counted_line}
use Rattle.ht_program.specs.Folding.{OfficeOf, file_of, file_told, office_of}
use Rattle.ht_program.specs.Reading.{Reads}
use Rattle.ht_program.specs.Reports.{IsOf, IsOfCheck, IsOfExport, IsOfLoad, IsReportOf, IsUndisturbed}
use Rattle.ht_program.specs.Words.{WordsOf, WorkOf}
use Rattle.ht_program.specs.Words.WorkOf.{checking, exporting, loading, running, serving}
use Rattle.ht_program.proofs.OneOutput.{same_office}
use Rattle.ht_program.proofs.Said.{one_reading}
use Rattle.ht_program.proofs.TextStatuses.{same_texts}

same_models : (a b : List ModelOf) → ◌≡◌ {A = Result (List ModelOf) ModelsRefusal} (Ok a) (Ok b) → a ≡ b
same_models a b e = cc

of_file : (journal : Option (List ℕ)) (file : List ℕ) → file_told journal (Some file) ≡ Some (file_of journal file)
of_file None file = refl
of_file (Some name) file = refl

same_people : (a b : DirectoryOf) → ◌≡◌ {A = Result DirectoryOf PeopleRefusal} (Ok a) (Ok b) → a ≡ b
same_people a b e = cc

module _ (one_models : (text : List ℕ) (a b : Result (List ModelOf) ModelsRefusal) → models_text.Reads text a → models_text.Reads text b → a ≢ Err models.Memory → b ≢ Err models.Memory → a ≡ b)
    (one_people : (text : List ℕ) (a b : Result DirectoryOf PeopleRefusal) → people_text.Reads text a → people_text.Reads text b → a ≢ Err people.Memory → b ≢ Err people.Memory → a ≡ b)
    (one_state : (texts : TextsOf) (records : List RecordOf) (t u : TablesOf) → IsJournalOf texts records t → IsJournalOf texts records u → t ≡ u)
    (one_load : (seed count : ℕ) (s t u v : State) (a b : Sums) (l : Loads seed count s t a) (m : Loads seed count u v b) → s.tables ≡ u.tables → s.doubt ≡ None → u.doubt ≡ None → AreDecided (l.load).history → AreDecided (m.load).history → a ≡ b) where
  same_counted : (texts : TextsOf) (a b : Counted) → AreCounted texts a → AreCounted texts b → a ≡ b
  same_counted texts a b x y =
      let models = same_models x.models y.models (one_models texts.models (Ok x.models) (Ok y.models) x.models_read y.models_read (λ e. cc) (λ e. cc)) in
      let people = same_people x.people y.people (one_people texts.people (Ok x.people) (Ok y.people) x.people_read y.people_read (λ e. cc) (λ e. cc)) in
      let m : a.models ≡ b.models = x.models_are ∙ ap length models ∙ sym y.models_are in
      let p : a.persons ≡ b.persons = x.persons_are ∙ ap (λ (d : DirectoryOf). length d.persons) people ∙ sym y.persons_are in
      let g : a.groups ≡ b.groups = x.groups_are ∙ ap (λ (d : DirectoryOf). length d.groups) people ∙ sym y.groups_are in
      λ i. record { models = m i; persons = p i; groups = g i }

  of_check : (texts : TextsOf) (a b : List ℕ) → IsOfCheck texts a → IsOfCheck texts b → a ≡ b
  of_check texts a b x y = x.text_is ∙ ap counted_line (same_counted texts x.counted y.counted x.are y.are) ∙ sym y.text_is

  of_export : (texts : TextsOf) (file a b : List ℕ) → IsOfExport texts (Some file) a → IsOfExport texts (Some file) b → a ≡ b
  of_export texts file a b x y = x.text_is ∙ ap (λ (o : OfficeOf). export_text o.tables) (same_office one_state texts file x.office y.office x.opens y.opens) ∙ sym y.text_is

  of_load : (seed count limit : ℕ) (texts : TextsOf) (file a b : List ℕ) (x : IsOfLoad seed count limit texts (Some file) a) (y : IsOfLoad seed count limit texts (Some file) b) → AreDecided ((x.loads).load).history → AreDecided ((y.loads).load).history → a ≡ b
  of_load seed count limit texts file a b x y decided also =
      let office = same_office one_state texts file (office_of x.opened) (office_of y.opened) x.opens y.opens in
      x.text_is ∙ ap sums_line (one_load seed count x.opened x.last y.opened y.last x.sums y.sums x.loads y.loads (ap (λ (o : OfficeOf). o.tables) office) (x.begun).certain (y.begun).certain decided also) ∙ sym y.text_is

  abbrev Is : WorkOf → ℕ → TextsOf → Option (List ℕ) → List ℕ → Type 0
  Is work limit texts file text = (is : IsOf work limit texts file text) × IsUndisturbed work limit texts file text is

  of_work : (work : WorkOf) (limit : ℕ) (texts : TextsOf) (file a b : List ℕ) → Is work limit texts (Some file) a → Is work limit texts (Some file) b → a ≡ b
  of_work (running from step) limit texts file a b x y = absurd x.0
  of_work (serving service) limit texts file a b x y = absurd x.0
  of_work checking limit texts file a b x y = of_check texts a b x.0 y.0
  of_work exporting limit texts file a b x y = of_export texts file a b x.0 y.0
  of_work (loading seed count) limit texts file a b x y = of_load seed count limit texts file a b x.0 y.0 x.1 y.1

  pub one_report_of : (words : List (List ℕ)) (told : List ℕ → List ℕ) (file a b : List ℕ) → IsReportOf words told file a → IsReportOf words told file b → a ≡ b
  one_report_of words told file a b x y =
      let said : y.said ≡ x.said = one_reading words y.said x.said y.said_is x.said_is in
      let r = x.report in
      let q = y.report in
      let texts = same_texts (x.said).texts told q.texts r.texts (subst (λ (w : WordsOf). Reads w.texts (Some told) (Ok q.texts)) said q.reads) r.reads in
      let At : WordsOf → TextsOf → List ℕ → Type 0 = λ w t text. Is w.work w.limit t (file_told w.journal (Some file)) text in
      let mine : At y.said q.texts b = (q.is, y.undisturbed) in
      let other = subst (λ (t : TextsOf). At x.said t b) texts (subst (λ (w : WordsOf). At w q.texts b) said mine) in
      let held : (text : List ℕ) → At x.said r.texts text → Is (x.said).work (x.said).limit r.texts (Some (file_of (x.said).journal file)) text = λ text is. subst (λ (f : Option (List ℕ)). Is (x.said).work (x.said).limit r.texts f text) (of_file (x.said).journal file) is in
      of_work (x.said).work (x.said).limit r.texts (file_of (x.said).journal file) a b (held a (r.is, x.undisturbed)) (held b other)
