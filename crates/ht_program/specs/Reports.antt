-- What `check`, `export` and `load` write, by the words, the texts and the file of the journal, as far as these are told.
use Rattle.std.specs.Prelude.{◌≡◌, ◌≢◌, ◌⊎◌, ℕ, List, Option, Some, Ok}
use Rattle.ht_desk.specs.Replaying.{TextsOf}
use Rattle.ht_desk.specs.States.{IsOpened, State}
use Rattle.ht_export.specs.Lines.{export_text}
use Rattle.ht_load.specs.declared.sums.Sums.{Sums}
use Rattle.ht_load.specs.Answers.{AreDecided}
use Rattle.ht_load.specs.Loads.{Loads}
use Rattle.ht_load.specs.Sums.{sums_line}
use Rattle.ht_outside.specs.Tells.{Grows, GrowsPart, SinkState}
use Rattle.ht_program.specs.declared.checking.Counted.{Counted}
use Rattle.ht_program.specs.Checking.{AreCounted, counted_line}
use Rattle.ht_program.specs.Folding.{IsIn, OfficeOf, file_told, office_of}
use Rattle.ht_program.specs.Reading.{Reads}
use Rattle.ht_program.specs.Words.{AreWords, WordsOf, WorkOf}
use Rattle.ht_program.specs.Words.WorkOf.{checking, exporting, loading, running, serving}

-- ---- the texts

-- how many models, persons and groups two texts have
pub record IsOfCheck (texts : TextsOf) (text : List ℕ) : Type 0 where
  pub counted : Counted
  pub are : AreCounted texts counted
  pub text_is : text ≡ counted_line counted

-- the tasks of the office of these texts whose records the file holds
pub record IsOfExport (texts : TextsOf) (file : Option (List ℕ)) (text : List ℕ) : Type 0 where
  pub office : OfficeOf
  pub opens : IsIn texts file office
  pub text_is : text ≡ export_text office.tables

-- the sums of a load of the same office, as it is opened with a journal of at most so many bytes
pub record IsOfLoad (seed count limit : ℕ) (texts : TextsOf) (file : Option (List ℕ)) (text : List ℕ) : Type 0 where
  pub opened : State
  pub last : State
  pub sums : Sums
  pub opens : IsIn texts file (office_of opened)
  pub begun : IsOpened limit opened
  pub loads : Loads seed count opened last sums
  pub text_is : text ≡ sums_line sums

abbrev pub IsOf : WorkOf → ℕ → TextsOf → Option (List ℕ) → List ℕ → Type 0
IsOf (running from step) limit texts file text = ⊥
IsOf (serving service) limit texts file text = ⊥
IsOf checking limit texts file text = IsOfCheck texts text
IsOf exporting limit texts file text = IsOfExport texts file text
IsOf (loading seed count) limit texts file text = IsOfLoad seed count limit texts file text

-- no request of a load was refused for want of memory, by a disk that failed or by the length of the journal
abbrev pub IsUndisturbed : (work : WorkOf) (limit : ℕ) (texts : TextsOf) (file : Option (List ℕ)) (text : List ℕ) → IsOf work limit texts file text → Type 0
IsUndisturbed (running from step) limit texts file text is = Unit {0}
IsUndisturbed (serving service) limit texts file text is = Unit {0}
IsUndisturbed checking limit texts file text is = Unit {0}
IsUndisturbed exporting limit texts file text is = Unit {0}
IsUndisturbed (loading seed count) limit texts file text is = AreDecided ((is.loads).load).history

-- what `office_alone` writes whose words say this, and which is given these texts and this file, where they are told
pub record IsReport (said : WordsOf) (told : Option (List ℕ → List ℕ)) (file : Option (List ℕ)) (text : List ℕ) : Type 0 where
  pub texts : TextsOf
  pub reads : Reads said.texts told (Ok texts)
  pub is : IsOf said.work said.limit texts (file_told said.journal file) text

-- ---- the statuses

-- At status 0 all of such a text was written; at 7 a part of it, and at 8 too, or nothing; at the others nothing.
pub record Reports (IsText : List ℕ → Type 0) (old new : SinkState) (status : ℕ) : Type 0 where
  pub whole : status ≡ 0 → (text : List ℕ) × IsText text × Grows old.written new.written text
  pub part : status ≡ 7 → (text : List ℕ) × IsText text × GrowsPart old.written new.written text
  pub part_or_none : status ≡ 8 → ((text : List ℕ) × IsText text × GrowsPart old.written new.written text) ⊎ (new ≡ old)
  pub nothing : status ≢ 0 → status ≢ 7 → status ≢ 8 → new ≡ old
  -- these are statuses of `run`
  pub never : (status ≢ 1) × (status ≢ 9)

-- ---- of the words

-- which commands write such a text, and nothing else; they read nothing of the input
abbrev pub IsReporting : WorkOf → Type 0
IsReporting (running from step) = ⊥
IsReporting (serving service) = ⊥
IsReporting checking = Unit {0}
IsReporting exporting = Unit {0}
IsReporting (loading seed count) = Unit {0}

-- such a text, given these words, texts and file
pub record IsReportOf (words : List (List ℕ)) (told : List ℕ → List ℕ) (file text : List ℕ) : Type 0 where
  pub said : WordsOf
  pub said_is : AreWords words said
  pub report : IsReport said (Some told) (Some file) text
  pub undisturbed : IsUndisturbed said.work said.limit report.texts (file_told said.journal (Some file)) text report.is
