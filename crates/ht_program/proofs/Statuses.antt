-- Which status comes of which end.
use Rattle.std.proofs.Common.{◌≡◌, ◌≢◌, ◌⊎◌, ◌∙◌, inl, inr, ⊎_elim, ℕ, suc, ◌-◌, ◌≤◌, List, [], ◌∷◌, ◌++◌, take, length, Option, Some, None, Result, Ok, Err, refl, sym, ap, subst, arith}
use Rattle.ht_base.specs.declared.limits.TheConstants.{LONGEST_OFFICE_TEXT}
use Rattle.ht_desk.specs.declared.fault.OpenFault.{OpenFault}
use Rattle.ht_desk.specs.declared.fault.OpenFault.TheVariants as fault
use Rattle.ht_desk.specs.Opening.{Fails, FailsAt, IsFileFault, IsOpenFault, IsTextFault}
use Rattle.ht_desk.specs.Opening.FailsAt.{at_first, at_next}
use Rattle.ht_desk.specs.Replaying.{Begins, TextsOf}
use Rattle.ht_desk.specs.States.{State}
use Rattle.ht_journal.specs.Bodies.{IsNth}
use Rattle.ht_journal.proofs.PublicLaws.{contents_short}
use Rattle.ht_models.specs.Model.{ModelOf}
use Rattle.ht_models.specs.Reading as models_text
use Rattle.ht_models.specs.Refusals as models_wrong
use Rattle.ht_outside.specs.Causes.{Rose}
use Rattle.ht_outside.specs.declared.disk.Disk.{Ghosts}
use Rattle.ht_people.specs.Directory.{DirectoryOf}
use Rattle.ht_people.specs.Reading as people_text
use Rattle.ht_people.specs.Refusals as people_wrong
use Rattle.ht_serve.specs.declared.ending.Ending.{Ending}
use Rattle.ht_serve.specs.declared.ending.Ending.TheVariants as ending
use Rattle.ht_toml.proofs.PublicLaws.{first_holds, none_holds}
use Rattle.ht_tree.specs.Tables.{TablesOf}
use Rattle.ht_program.specs.declared.reading.TextsFault.{TextsFault}
use Rattle.ht_program.specs.declared.reading.TextsFault.TheVariants.{Unread, TooLong, Memory}
use Rattle.ht_program.specs.Attaching.{Disks}
use Rattle.ht_program.specs.Folding.{file_told}
use Rattle.ht_program.specs.Inputs.{IsAnswered, IsStatusOf, budget}
use Rattle.ht_program.specs.Office.{OpenedAs, Outside, Runs, RunsOffice}
use Rattle.ht_program.specs.Reading.{AreWrong}
use Rattle.ht_program.specs.Statuses.{end_status, ending_status, fault_status, missing_status}
use Rattle.ht_program.specs.Running.{Streams}
use Rattle.ht_program.specs.Words.{WordsOf, WorkOf}
use Rattle.ht_program.specs.Words.WorkOf.{checking, exporting, loading, running, serving}
use Rattle.ht_program.specs.Working.{Did}
use Rattle.ht_program.proofs.Checked.{answered_check, broken_check, of_texts as of_judged}
use Rattle.ht_program.proofs.InputStatus.{status_of_input}

-- ---- an empty file is at fault in nothing

none_taken : (n : ℕ) → ◌≡◌ {A = List (List ℕ)} (take n []) []
none_taken Prim.Native.Nat.zero = refl
none_taken (suc n) = refl

none_at : (n at : ℕ) (body : List ℕ) → IsNth [] n at body → ⊥
none_at n at body nth =
    let e = sym (none_taken n) ∙ nth.bytes ∙ ap (λ (l : List (List ℕ)). l ++ body ∷ []) (none_taken (n - 1)) in
    absurd (cc)

none_fails : (texts : TextsOf) (why : OpenFault) → FailsAt texts [] why → ⊥
none_fails texts why (at_first at body nth fails) = none_at 1 at body nth
none_fails texts why (at_next n at body few t nth front spelled journal fails) = none_at n at body nth

pub empty_file : (texts : TextsOf) (why : OpenFault) → Fails texts [] why → ⊥
empty_file texts why (inl damaged) = let ok = contents_short [] (omega arith) in let e = damaged.1 in absurd (cc)
empty_file texts why (inr bodies) =
    let ok = contents_short [] (omega arith) in
    let e = bodies.1 in
    let none : bodies.0 ≡ [] = cc in
    none_fails texts why (subst (λ (l : List (List ℕ)). FailsAt texts l why) none bodies.2)

-- ---- texts

-- nothing is wrong with texts that are read
pub right_read : (texts : TextsOf) (models : List ModelOf) (people : DirectoryOf) → models_text.Reads texts.models (Ok models) → people_text.Reads texts.people (Ok people) → length texts.models ≤ LONGEST_OFFICE_TEXT → length texts.people ≤ LONGEST_OFFICE_TEXT → AreWrong texts.models texts.people → ⊥
right_read texts models people m p short few (inl (inl long)) = absurd (omega (arith, short, long))
right_read texts models people m p short few (inl (inr long)) = absurd (omega (arith, few, long))
right_read texts models people m p short few (inr (inl holds)) = none_holds (models_wrong.refusals texts.models) holds.0 m.1 holds.1
right_read texts models people m p short few (inr (inr holds)) = none_holds (people_wrong.refusals texts.people) holds.0 p.1 holds.1

-- and with those that an office begins with
pub right : (texts : TextsOf) (t : TablesOf) → Begins texts t → length texts.models ≤ LONGEST_OFFICE_TEXT → length texts.people ≤ LONGEST_OFFICE_TEXT → AreWrong texts.models texts.people → ⊥
right texts t begins short few wrong = right_read texts begins.0 begins.1 begins.2 begins.3 short few wrong

-- something is wrong with texts that are refused
pub bad_models : (texts : TextsOf) (why : _) → IsTextFault texts (fault.Models why) → AreWrong texts.models texts.people
bad_models texts why is = inr (inl (why, first_holds (models_wrong.refusals texts.models) why (is.0 is.1)))

pub bad_people : (texts : TextsOf) (why : _) → IsTextFault texts (fault.People why) → AreWrong texts.models texts.people
bad_people texts why is = inr (inr (why, first_holds (people_wrong.refusals texts.people) why (is.1 is.2)))

-- ---- the statuses

-- the ending of a connection is told by none of these
pub ending_not : (e : Ending) (n : ℕ) → 2 ≤ n → n ≤ 6 → ending_status e ≡ n → ⊥
ending_not ending.Done n least most is = absurd (omega arith)
ending_not (ending.Wire code) n least most is = absurd (omega arith)
ending_not ending.Budget n least most is = absurd (omega arith)
ending_not ending.ReadFault n least most is = absurd (omega arith)
ending_not ending.WriteFault n least most is = absurd (omega arith)
ending_not ending.Memory n least most is = absurd (omega arith)

below : (a b n : ℕ) → a ≤ b → Rose b n → Rose a n
below a b n h r = omega arith

-- a fault of input or output has its cause
module _ (s t : State) (old new : Streams) where
  read_rose : (work : WorkOf) → Did work s t old new ending.ReadFault → Rose old.input.faults new.input.faults
  read_rose (running from step) did = (did.served).ends.3
  read_rose (serving service) did = absurd did
  read_rose checking did = absurd did
  read_rose exporting did = absurd (did.tells).wrote
  read_rose (loading seed count) did = absurd (did.tells).wrote

  write_rose : (work : WorkOf) → Did work s t old new ending.WriteFault → Rose old.output.faults new.output.faults
  write_rose (running from step) did = ((did.served).ends.1).rose
  write_rose (serving service) did = absurd did
  write_rose checking did = absurd did
  write_rose exporting did = ((did.tells).cause).failed refl
  write_rose (loading seed count) did = ((did.tells).cause).failed refl

module _ {D : Type 0} (d : Ghosts D) (said : WordsOf) (before after : Disks D) (old new : Outside) (status : ℕ) where
  -- ---- why an office wasn't opened

  abbrev pub file : Option (List ℕ) → Option (List ℕ)
  file journal = file_told journal (d.gives before.first)

  abbrev pub IsWhy : Option (List ℕ) → TextsOf → OpenFault → Type 0
  IsWhy None texts why = IsOpenFault texts (Some []) 0 0 why
  IsWhy (Some name) texts why = IsOpenFault texts (d.gives before.first) (d.faults before.first) (d.faults after.first) why ⊎ ((why ≡ fault.Store) × Rose (d.faults before.second) (d.faults after.second))

  pub why_of : (journal : Option (List ℕ)) (texts : TextsOf) (why : OpenFault) → Runs d journal said texts before after old.connection new.connection (Err why) → IsWhy journal texts why
  why_of None texts why runs = runs.0
  why_of (Some name) texts why runs = (runs.0).why

  pub of_models : (journal : Option (List ℕ)) (texts : TextsOf) (why : _) → IsWhy journal texts (fault.Models why) → IsTextFault texts (fault.Models why)
  of_models None texts why is = is.0
  of_models (Some name) texts why (inl is) = is.0
  of_models (Some name) texts why (inr store) = absurd (let e = store.0 in cc)

  pub of_people : (journal : Option (List ℕ)) (texts : TextsOf) (why : _) → IsWhy journal texts (fault.People why) → IsTextFault texts (fault.People why)
  of_people None texts why is = is.0
  of_people (Some name) texts why (inl is) = is.0
  of_people (Some name) texts why (inr store) = absurd (let e = store.0 in cc)

  pub of_damaged : (journal : Option (List ℕ)) (texts : TextsOf) (at : ℕ) → IsWhy journal texts (fault.Damaged at) → IsFileFault texts (file journal) (fault.Damaged at)
  of_damaged None texts at is = is.0
  of_damaged (Some name) texts at (inl is) = is.0
  of_damaged (Some name) texts at (inr store) = absurd (let e = store.0 in cc)

  pub of_record : (journal : Option (List ℕ)) (texts : TextsOf) (n : ℕ) → IsWhy journal texts (fault.RecordRefused n) → IsFileFault texts (file journal) (fault.RecordRefused n)
  of_record None texts n is = is.0
  of_record (Some name) texts n (inl is) = is.0
  of_record (Some name) texts n (inr store) = absurd (let e = store.0 in cc)

  pub of_texts : (journal : Option (List ℕ)) (texts : TextsOf) → IsWhy journal texts fault.TextsDiffer → IsFileFault texts (file journal) fault.TextsDiffer
  of_texts None texts is = is.0
  of_texts (Some name) texts (inl is) = is.0
  of_texts (Some name) texts (inr store) = absurd (let e = store.0 in cc)

  of_store : (journal : Option (List ℕ)) (texts : TextsOf) → IsWhy journal texts fault.Store → (journal ≢ None) × (Rose (d.faults before.first) (d.faults after.first) ⊎ Rose (d.faults before.second) (d.faults after.second))
  of_store None texts is = absurd (omega (arith, is))
  of_store (Some name) texts (inl is) = ((λ e. cc), inl is)
  of_store (Some name) texts (inr store) = ((λ e. cc), inr store.1)

  -- ---- how it worked

  pub record HasWorked (journal : Option (List ℕ)) (texts : TextsOf) (e : Ending) : Type 0 where
    pub opened : State
    pub last : State
    pub opens : OpenedAs said texts (file journal) opened
    pub did : Did said.work opened last old.connection new.connection e

  pub worked_of : (journal : Option (List ℕ)) (texts : TextsOf) (e : Ending) → Runs d journal said texts before after old.connection new.connection (Ok e) → HasWorked journal texts e
  worked_of None texts e runs = record { opened = (runs.0).opened; last = (runs.0).last; opens = (runs.0).opens; did = (runs.0).did }
  worked_of (Some name) texts e runs = record { opened = runs.opened; last = runs.last; opens = (runs.keeps).opens; did = runs.did }

  -- ---- 2

  fault_not_two : (why : OpenFault) → fault_status why ≡ 2 → ⊥
  fault_not_two (fault.Models why) e = absurd (omega arith)
  fault_not_two (fault.People why) e = absurd (omega arith)
  fault_not_two (fault.Damaged at) e = absurd (omega arith)
  fault_not_two (fault.RecordRefused n) e = absurd (omega arith)
  fault_not_two fault.TextsDiffer e = absurd (omega arith)
  fault_not_two fault.Store e = absurd (omega arith)
  fault_not_two fault.Memory e = absurd (omega arith)

  missing_not_two : (why : TextsFault) → missing_status why ≡ 2 → ⊥
  missing_not_two (Unread w) e = absurd (omega arith)
  missing_not_two (TooLong w) e = absurd (omega arith)
  missing_not_two Memory e = absurd (omega arith)

  end_not_two : (end : Result Ending OpenFault) → end_status end ≡ 2 → ⊥
  end_not_two (Ok e) is = ending_not e 2 (omega arith) (omega arith) is
  end_not_two (Err why) is = fault_not_two why is

  pub not_two : RunsOffice d said before after old new status → status ≢ 2
  not_two (inl ran) two = end_not_two ran.end (sym ran.status_is ∙ two)
  not_two (inr none) two = missing_not_two none.why (sym none.status_is ∙ two)

  -- ---- 6

  store_end : (end : Result Ending OpenFault) (texts : TextsOf) → Runs d said.journal said texts before after old.connection new.connection end → end_status end ≡ 6 → (said.journal ≢ None) × (Rose (d.faults before.first) (d.faults after.first) ⊎ Rose (d.faults before.second) (d.faults after.second))
  store_end (Ok e) texts runs is = absurd (ending_not e 6 (omega arith) (omega arith) is)
  store_end (Err (fault.Models why)) texts runs is = absurd (omega arith)
  store_end (Err (fault.People why)) texts runs is = absurd (omega arith)
  store_end (Err (fault.Damaged at)) texts runs is = absurd (omega arith)
  store_end (Err (fault.RecordRefused n)) texts runs is = absurd (omega arith)
  store_end (Err fault.TextsDiffer) texts runs is = absurd (omega arith)
  store_end (Err fault.Store) texts runs is = of_store said.journal texts (why_of said.journal texts fault.Store runs)
  store_end (Err fault.Memory) texts runs is = absurd (omega arith)

  missing_not_six : (why : TextsFault) → missing_status why ≡ 6 → ⊥
  missing_not_six (Unread w) e = absurd (omega arith)
  missing_not_six (TooLong w) e = absurd (omega arith)
  missing_not_six Memory e = absurd (omega arith)

  pub store : RunsOffice d said before after old new status → status ≡ 6 → (said.journal ≢ None) × (Rose (d.faults before.first) (d.faults after.first) ⊎ Rose (d.faults before.second) (d.faults after.second))
  store (inl ran) six = ⊎_elim (λ checked. absurd ((of_judged _ _ ran.end ran.texts checked.1).1 (sym ran.status_is ∙ six))) (λ runs. store_end ran.end ran.texts runs.1 (sym ran.status_is ∙ six)) ran.runs
  store (inr none) six = absurd (missing_not_six none.why (sym none.status_is ∙ six))

  -- ---- without a journal

  file_fault : (texts : TextsOf) (why : OpenFault) → IsFileFault texts (Some []) why → ⊥
  file_fault texts why is = empty_file texts why is.1

  in_memory_end : (end : Result Ending OpenFault) (texts : TextsOf) → Runs d None said texts before after old.connection new.connection end → (end_status end ≢ 5) × (after ≡ before)
  in_memory_end (Ok e) texts runs = ((λ is. ending_not e 5 (omega arith) (omega arith) is), runs.1)
  in_memory_end (Err (fault.Models why)) texts runs = ((λ is. omega arith), runs.2)
  in_memory_end (Err (fault.People why)) texts runs = ((λ is. omega arith), runs.2)
  in_memory_end (Err (fault.Damaged at)) texts runs = absurd (file_fault texts _ (runs.0).0)
  in_memory_end (Err (fault.RecordRefused n)) texts runs = absurd (file_fault texts _ (runs.0).0)
  in_memory_end (Err fault.TextsDiffer) texts runs = absurd (file_fault texts _ (runs.0).0)
  in_memory_end (Err fault.Store) texts runs = ((λ is. omega arith), runs.2)
  in_memory_end (Err fault.Memory) texts runs = ((λ is. omega arith), runs.2)

  missing_not_five : (why : TextsFault) → missing_status why ≡ 5 → ⊥
  missing_not_five (Unread w) e = absurd (omega arith)
  missing_not_five (TooLong w) e = absurd (omega arith)
  missing_not_five Memory e = absurd (omega arith)

  pub in_memory : RunsOffice d said before after old new status → said.journal ≡ None → (status ≢ 5) × (status ≢ 6) × (after ≡ before)
  in_memory (inl ran) none =
      let P : Option (List ℕ) → Type 0 = λ j. Runs d j said ran.texts before after old.connection new.connection ran.end in
      let end : (end_status ran.end ≢ 5) × (after ≡ before) = ⊎_elim (λ checked. ((of_judged _ _ ran.end ran.texts checked.1).0, checked.3)) (λ runs. in_memory_end ran.end ran.texts (subst P none runs.1)) ran.runs in
      ((λ five. end.0 (sym ran.status_is ∙ five)), (λ six. (store (inl ran) six).0 none), end.1)
  in_memory (inr missing) none = ((λ five. missing_not_five missing.why (sym missing.status_is ∙ five)), (λ six. missing_not_six missing.why (sym missing.status_is ∙ six)), missing.untouched.1)

  -- ---- without a fault

  answered_end : (end : Result Ending OpenFault) (texts : TextsOf) → Runs d said.journal said texts before after old.connection new.connection end → status ≡ end_status end
      → (Rose (d.faults before.first) (d.faults after.first) → ⊥) → (Rose (d.faults before.second) (d.faults after.second) → ⊥)
      → (Rose old.connection.input.faults new.connection.input.faults → ⊥) → (Rose old.connection.output.faults new.connection.output.faults → ⊥) → IsAnswered status
  answered_end (Ok ending.Done) texts runs is first second read write = inl is
  answered_end (Ok (ending.Wire code)) texts runs is first second read write = inr (inl is)
  answered_end (Ok ending.Budget) texts runs is first second read write = inr (inr (inr (inr (inr is))))
  answered_end (Ok ending.ReadFault) texts runs is first second read write = let has = worked_of said.journal texts _ runs in absurd (read (read_rose has.opened has.last old.connection new.connection said.work has.did))
  answered_end (Ok ending.WriteFault) texts runs is first second read write = let has = worked_of said.journal texts _ runs in absurd (write (write_rose has.opened has.last old.connection new.connection said.work has.did))
  answered_end (Ok ending.Memory) texts runs is first second read write = inr (inr (inr (inr (inl is))))
  answered_end (Err (fault.Models why)) texts runs is first second read write = inr (inr (inl is))
  answered_end (Err (fault.People why)) texts runs is first second read write = inr (inr (inl is))
  answered_end (Err (fault.Damaged at)) texts runs is first second read write = inr (inr (inr (inl is)))
  answered_end (Err (fault.RecordRefused n)) texts runs is first second read write = inr (inr (inr (inl is)))
  answered_end (Err fault.TextsDiffer) texts runs is first second read write = inr (inr (inr (inl is)))
  answered_end (Err fault.Store) texts runs is first second read write = absurd (⊎_elim first second (of_store said.journal texts (why_of said.journal texts fault.Store runs)).1)
  answered_end (Err fault.Memory) texts runs is first second read write = inr (inr (inr (inr (inl is))))

  missing_answered : (why : TextsFault) → status ≡ missing_status why → (status ≡ 3 → ⊥) → IsAnswered status
  missing_answered (Unread w) is read = absurd (read is)
  missing_answered (TooLong w) is read = inr (inr (inl is))
  missing_answered Memory is read = inr (inr (inr (inr (inl is))))

  pub answered : RunsOffice d said before after old new status → (status ≡ 3 → ⊥) → (Rose (d.faults before.first) (d.faults after.first) → ⊥) → (Rose (d.faults before.second) (d.faults after.second) → ⊥)
      → (Rose old.connection.input.faults new.connection.input.faults → ⊥) → (Rose old.connection.output.faults new.connection.output.faults → ⊥) → IsAnswered status
  answered (inl ran) texts first second read write = ⊎_elim (λ checked. subst IsAnswered (sym ran.status_is) (answered_check _ _ ran.end ran.texts checked.1 write)) (λ runs. answered_end ran.end ran.texts runs.1 ran.status_is first second read write) ran.runs
  answered (inr missing) texts first second read write = missing_answered missing.why missing.status_is texts

  -- ---- 7, and how the input ended

  broke_end : (end : Result Ending OpenFault) (texts : TextsOf) → Runs d said.journal said texts before after old.connection new.connection end → end_status end ≡ 7 → Rose old.connection.input.faults new.connection.input.faults ⊎ Rose old.connection.output.faults new.connection.output.faults
  broke_end (Ok ending.Done) texts runs is = absurd (omega arith)
  broke_end (Ok (ending.Wire code)) texts runs is = absurd (omega arith)
  broke_end (Ok ending.Budget) texts runs is = absurd (omega arith)
  broke_end (Ok ending.ReadFault) texts runs is = let has = worked_of said.journal texts _ runs in inl (read_rose has.opened has.last old.connection new.connection said.work has.did)
  broke_end (Ok ending.WriteFault) texts runs is = let has = worked_of said.journal texts _ runs in inr (write_rose has.opened has.last old.connection new.connection said.work has.did)
  broke_end (Ok ending.Memory) texts runs is = absurd (omega arith)
  broke_end (Err (fault.Models why)) texts runs is = absurd (omega arith)
  broke_end (Err (fault.People why)) texts runs is = absurd (omega arith)
  broke_end (Err (fault.Damaged at)) texts runs is = absurd (omega arith)
  broke_end (Err (fault.RecordRefused n)) texts runs is = absurd (omega arith)
  broke_end (Err fault.TextsDiffer) texts runs is = absurd (omega arith)
  broke_end (Err fault.Store) texts runs is = absurd (omega arith)
  broke_end (Err fault.Memory) texts runs is = absurd (omega arith)

  missing_not_seven : (why : TextsFault) → missing_status why ≡ 7 → ⊥
  missing_not_seven (Unread w) e = absurd (omega arith)
  missing_not_seven (TooLong w) e = absurd (omega arith)
  missing_not_seven Memory e = absurd (omega arith)

  pub broke : RunsOffice d said before after old new status → status ≡ 7 → Rose old.connection.input.faults new.connection.input.faults ⊎ Rose old.connection.output.faults new.connection.output.faults
  broke (inl ran) seven = ⊎_elim (λ checked. inr (broken_check _ _ ran.end ran.texts checked.1 (sym ran.status_is ∙ seven))) (λ runs. broke_end ran.end ran.texts runs.1 (sym ran.status_is ∙ seven)) ran.runs
  broke (inr missing) seven = absurd (missing_not_seven missing.why (sym missing.status_is ∙ seven))

  -- the way that the input of a run ended
  module _ (from step : ℕ) (serves : said.work ≡ running from step) where
    exact_end : (end : Result Ending OpenFault) (texts : TextsOf) → Runs d said.journal said texts before after old.connection new.connection end → status ≡ end_status end → status ≢ 4 → status ≢ 5 → status ≢ 6 → status ≢ 7 → status ≢ 8 → IsStatusOf budget old.connection.input.flow status
    exact_end (Ok e) texts runs is four five six seven eight =
        let has = worked_of said.journal texts e runs in
        status_of_input _ _ has.opened has.last old.connection new.connection e status (subst (λ (w : WorkOf). Did w has.opened has.last old.connection new.connection e) serves has.did) is seven eight
    exact_end (Err (fault.Models why)) texts runs is four five six seven eight = absurd (four is)
    exact_end (Err (fault.People why)) texts runs is four five six seven eight = absurd (four is)
    exact_end (Err (fault.Damaged at)) texts runs is four five six seven eight = absurd (five is)
    exact_end (Err (fault.RecordRefused n)) texts runs is four five six seven eight = absurd (five is)
    exact_end (Err fault.TextsDiffer) texts runs is four five six seven eight = absurd (five is)
    exact_end (Err fault.Store) texts runs is four five six seven eight = absurd (six is)
    exact_end (Err fault.Memory) texts runs is four five six seven eight = absurd (eight is)

    missing_exact : (why : TextsFault) → status ≡ missing_status why → status ≢ 3 → status ≢ 4 → status ≢ 8 → ⊥
    missing_exact (Unread w) is three four eight = three is
    missing_exact (TooLong w) is three four eight = four is
    missing_exact Memory is three four eight = eight is

    pub exact : RunsOffice d said before after old new status → status ≢ 3 → status ≢ 4 → status ≢ 5 → status ≢ 6 → status ≢ 7 → status ≢ 8 → IsStatusOf budget old.connection.input.flow status
    exact (inl ran) three four five six seven eight = ⊎_elim (λ checked. absurd (let e = sym serves ∙ checked.0 in cc)) (λ runs. exact_end ran.end ran.texts runs.1 ran.status_is four five six seven eight) ran.runs
    exact (inr missing) three four five six seven eight = absurd (missing_exact missing.why missing.status_is three four eight)
