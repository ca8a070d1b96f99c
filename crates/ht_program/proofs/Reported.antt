-- What was written of the text of a command that reports.
use Rattle.std.proofs.Common.{◌≡◌, ◌≢◌, ◌∙◌, inl, inr, ⊎_elim, ℕ, ◌<◌, List, Option, Some, None, Result, Ok, Err, refl, sym, ap, subst, arith}
use Rattle.ht_desk.specs.declared.fault.OpenFault.{OpenFault}
use Rattle.ht_desk.specs.declared.fault.OpenFault.TheVariants as fault
use Rattle.ht_desk.specs.Replaying.{TextsOf}
use Rattle.ht_desk.specs.States.{IsOpened, State}
use Rattle.ht_export.specs.Lines.{export_text}
use Rattle.ht_load.specs.Sums.{sums_line}
use Rattle.ht_outside.specs.Tells.{SinkState}
use Rattle.ht_outside.specs.declared.disk.Disk.{Ghosts}
use Rattle.ht_serve.specs.declared.ending.Ending.{Ending}
use Rattle.ht_serve.specs.declared.ending.Ending.TheVariants as ending
use Rattle.ht_program.specs.declared.reading.TextsFault.{TextsFault}
use Rattle.ht_program.specs.declared.reading.TextsFault.TheVariants as missing
use Rattle.ht_program.specs.Attaching.{Disks}
use Rattle.ht_program.specs.Checking.{Checks, counted_line}
use Rattle.ht_program.specs.Folding.{IsIn, file_told, office_of}
use Rattle.ht_program.specs.Office.{Outside, Runs, RunsOffice}
use Rattle.ht_program.specs.Reading.{Reads}
use Rattle.ht_program.specs.Reports.{IsOf, IsReport, IsReporting, Reports}
use Rattle.ht_program.specs.Running.{Streams}
use Rattle.ht_program.specs.Statuses.{end_status, ending_status, fault_status, missing_status}
use Rattle.ht_program.specs.Words.{WordsOf, WorkOf}
use Rattle.ht_program.specs.Words.WorkOf.{checking, exporting, loading, running, serving}
use Rattle.ht_program.specs.Working.{Did, Tells}
use Rattle.ht_program.proofs.Statuses.{worked_of}

-- ---- the statuses

module _ (IsText : List ℕ → Type 0) (old new : SinkState) (status : ℕ) where
  -- a text was written to this ending
  told : (e : Ending) (text : List ℕ) → IsText text → Tells text old new e → status ≡ ending_status e → Reports IsText old new status
  told ending.Done text t tells is = record {
    whole = λ _. (text, t, tells.wrote);
    part = λ seven. absurd (omega (arith, is, seven));
    part_or_none = λ eight. absurd (omega (arith, is, eight));
    nothing = λ zero seven eight. absurd (zero is);
    never = ((λ one. omega (arith, is, one)), (λ nine. omega (arith, is, nine)));
  }
  told ending.WriteFault text t tells is = record {
    whole = λ zero. absurd (omega (arith, is, zero));
    part = λ _. (text, t, tells.wrote);
    part_or_none = λ eight. absurd (omega (arith, is, eight));
    nothing = λ zero seven eight. absurd (seven is);
    never = ((λ one. omega (arith, is, one)), (λ nine. omega (arith, is, nine)));
  }
  told ending.Memory text t tells is = record {
    whole = λ zero. absurd (omega (arith, is, zero));
    part = λ seven. absurd (omega (arith, is, seven));
    part_or_none = λ _. inl (text, t, tells.wrote);
    nothing = λ zero seven eight. absurd (eight is);
    never = ((λ one. omega (arith, is, one)), (λ nine. omega (arith, is, nine)));
  }
  told (ending.Wire code) text t tells is = absurd tells.wrote
  told ending.Budget text t tells is = absurd tells.wrote
  told ending.ReadFault text t tells is = absurd tells.wrote

  -- nothing was
  none_told : (n : ℕ) → status ≡ n → 2 < n → n ≢ 7 → n ≢ 9 → new ≡ old → Reports IsText old new status
  none_told n is few seven nine same = record {
    whole = λ zero. absurd (omega (arith, is, few, zero));
    part = λ is_seven. absurd (seven (sym is ∙ is_seven));
    part_or_none = λ _. inr same;
    nothing = λ _ _ _. same;
    never = ((λ one. omega (arith, is, few, one)), (λ is_nine. nine (sym is ∙ is_nine)));
  }

  refused : (why : OpenFault) → status ≡ fault_status why → new ≡ old → Reports IsText old new status
  refused (fault.Models why) is same = none_told 4 is (omega arith) (λ e. omega arith) (λ e. omega arith) same
  refused (fault.People why) is same = none_told 4 is (omega arith) (λ e. omega arith) (λ e. omega arith) same
  refused (fault.Damaged at) is same = none_told 5 is (omega arith) (λ e. omega arith) (λ e. omega arith) same
  refused (fault.RecordRefused n) is same = none_told 5 is (omega arith) (λ e. omega arith) (λ e. omega arith) same
  refused fault.TextsDiffer is same = none_told 5 is (omega arith) (λ e. omega arith) (λ e. omega arith) same
  refused fault.Store is same = none_told 6 is (omega arith) (λ e. omega arith) (λ e. omega arith) same
  refused fault.Memory is same = none_told 8 is (omega arith) (λ e. omega arith) (λ e. omega arith) same

  without_texts : (why : TextsFault) → status ≡ missing_status why → new ≡ old → Reports IsText old new status
  without_texts (missing.Unread w) is same = none_told 3 is (omega arith) (λ e. omega arith) (λ e. omega arith) same
  without_texts (missing.TooLong w) is same = none_told 4 is (omega arith) (λ e. omega arith) (λ e. omega arith) same
  without_texts missing.Memory is same = none_told 8 is (omega arith) (λ e. omega arith) (λ e. omega arith) same

-- ---- an office that was opened

record HasTold (work : WorkOf) (limit : ℕ) (texts : TextsOf) (f : Option (List ℕ)) (old new : Streams) (e : Ending) : Type 0 where
  text : List ℕ
  is : IsOf work limit texts f text
  tells : Tells text old.output new.output e

module _ (texts : TextsOf) (f : Option (List ℕ)) (limit : ℕ) (s t : State) (old new : Streams) (e : Ending) where
  did_tell : (work : WorkOf) → IsReporting work → IsIn texts f (office_of s) → IsOpened limit s → Did work s t old new e → HasTold work limit texts f old new e
  did_tell (running from step) reports opens begun did = absurd reports
  did_tell (serving service) reports opens begun did = absurd reports
  did_tell checking reports opens begun did = absurd did
  did_tell exporting reports opens begun did = record {
    text = export_text s.tables;
    is = record { office = office_of s; opens = opens; text_is = refl };
    tells = did.tells;
  }
  did_tell (loading seed count) reports opens begun did = record {
    text = sums_line did.sums;
    is = record { opened = s; last = t; sums = did.sums; opens = opens; begun = begun; loads = did.loads; text_is = refl };
    tells = did.tells;
  }

  did_leave : (work : WorkOf) → IsReporting work → Did work s t old new e → new.input ≡ old.input
  did_leave (running from step) reports did = absurd reports
  did_leave (serving service) reports did = absurd reports
  did_leave checking reports did = absurd did
  did_leave exporting reports did = did.unread
  did_leave (loading seed count) reports did = did.unread

-- ---- the program

module _ {D : Type 0} (d : Ghosts D) (said : WordsOf) (before after : Disks D) (old new : Outside) (status : ℕ) (reports : IsReporting said.work) where
  not_opened : (journal : Option (List ℕ)) (texts : TextsOf) (why : OpenFault) → Runs d journal said texts before after old.connection new.connection (Err why) → new.connection ≡ old.connection
  not_opened None texts why runs = runs.1
  not_opened (Some name) texts why runs = runs.1

  -- ---- what was written

  abbrev IsText : List ℕ → Type 0
  IsText = IsReport said old.texts.texts (d.gives before.first)

  of_run : (end : Result Ending OpenFault) (texts : TextsOf) → Reads said.texts old.texts.texts (Ok texts) → Runs d said.journal said texts before after old.connection new.connection end → status ≡ end_status end → Reports IsText old.connection.output new.connection.output status
  of_run (Err why) texts reads runs is = refused IsText _ _ status why is (ap (λ (c : Streams). c.output) (not_opened said.journal texts why runs))
  of_run (Ok e) texts reads runs is =
      let has = worked_of d said before after old new status said.journal texts e runs in
      let f = file_told said.journal (d.gives before.first) in
      let tells = did_tell texts f said.limit has.opened has.last old.connection new.connection e said.work reports (has.opens).office (has.opens).begun has.did in
      told IsText _ _ status e tells.text (record { texts = texts; reads = reads; is = tells.is }) tells.tells is

  of_check : (end : Result Ending OpenFault) (texts : TextsOf) → Reads said.texts old.texts.texts (Ok texts) → said.work ≡ checking → Checks texts old.connection.output new.connection.output end → status ≡ end_status end → Reports IsText old.connection.output new.connection.output status
  of_check (Err why) texts reads work checks is = refused IsText _ _ status why is checks.1
  of_check (Ok e) texts reads work checks is =
      let line = counted_line checks.0 in
      let of = subst (λ (w : WorkOf). IsOf w said.limit texts (file_told said.journal (d.gives before.first)) line) (sym work) (record { counted = checks.0; are = checks.1; text_is = refl }) in
      told IsText _ _ status e line (record { texts = texts; reads = reads; is = of }) checks.2 is

  pub reported : RunsOffice d said before after old new status → Reports IsText old.connection.output new.connection.output status
  reported (inl ran) = ⊎_elim (λ checked. of_check ran.end ran.texts ran.reads checked.0 checked.1 ran.status_is) (λ runs. of_run ran.end ran.texts ran.reads runs.1 ran.status_is) ran.runs
  reported (inr none) = without_texts IsText _ _ status none.why none.status_is (ap (λ (c : Streams). c.output) none.untouched.0)

  -- ---- what was read

  left_by : (end : Result Ending OpenFault) (texts : TextsOf) → Runs d said.journal said texts before after old.connection new.connection end → new.connection.input ≡ old.connection.input
  left_by (Err why) texts runs = ap (λ (c : Streams). c.input) (not_opened said.journal texts why runs)
  left_by (Ok e) texts runs =
      let has = worked_of d said before after old new status said.journal texts e runs in
      did_leave texts None 0 has.opened has.last old.connection new.connection e said.work reports has.did

  pub unread_input : RunsOffice d said before after old new status → new.connection.input ≡ old.connection.input
  unread_input (inl ran) = ⊎_elim (λ checked. checked.2) (λ runs. left_by ran.end ran.texts runs.1) ran.runs
  unread_input (inr none) = ap (λ (c : Streams). c.input) none.untouched.0
