-- What each status says of an office that was served.
use Rattle.std.proofs.Common.{◌≡◌, ◌≢◌, ◌⊎◌, ◌↔◌, inl, inr, ⊎_elim, ℕ, arith, List, Option, Some, None, Result, Ok, Err, IfSome, map, refl, sym, ap, subst, ◌∙◌}
use Rattle.ht_base.specs.Records.{RecordOf}
use Rattle.ht_desk.specs.declared.fault.OpenFault.{OpenFault}
use Rattle.ht_desk.specs.declared.fault.OpenFault.TheVariants as fault
use Rattle.ht_desk.specs.Opening.{AreOfFile, Fails}
use Rattle.ht_desk.specs.Records.{AreSpelled}
use Rattle.ht_desk.specs.Replaying.{IsJournalOf, TextsOf}
use Rattle.ht_base.specs.Readings.{call_of}
use Rattle.ht_desk.specs.States.{State}
use Rattle.ht_doors.specs.Doors.{DoorState}
use Rattle.ht_pool.specs.declared.crew.Crew.{Crew}
use Rattle.ht_pool.specs.Crews.{EndsCrew}
use Rattle.ht_outside.specs.Causes.{Rose}
use Rattle.ht_outside.specs.Tells.{SinkState}
use Rattle.ht_outside.specs.declared.disk.Disk.{Ghosts}
use Rattle.ht_program.specs.Attaching.{Disks}
use Rattle.ht_program.specs.Inputs.{IsAnswered}
use Rattle.ht_program.specs.Office.{IsAtFault, Outside, RunsOffice}
use Rattle.ht_program.specs.Reading.{AreWrong}
use Rattle.ht_program.specs.declared.reading.TextsFault.{TextsFault}
use Rattle.ht_program.specs.declared.reading.TextsFault.TheVariants as missing
use Rattle.ht_program.specs.Statuses.{end_status, ending_status, fault_status, missing_status}
use Rattle.ht_program.specs.Words.{IsAlone, WordsOf, WorkOf}
use Rattle.ht_program.specs.Reports.{IsReporting}
use Rattle.ht_program.specs.Words.WorkOf.{checking, exporting, loading, running, serving}
use Rattle.ht_program.proofs.PublicLaws.{answered, broke, built_in, journal, not_at_fault, not_two, not_wrong, store, wrong}
use Rattle.ht_serve.specs.declared.ending.Ending.{Ending}
use Rattle.ht_serve.specs.declared.ending.Ending.TheVariants as ending
use Rattle.ht_server.specs.declared.service.ServiceEnd.{ServiceEnd}
use Rattle.ht_server.specs.declared.service.ServiceEnd.TheVariants as end
use Rattle.ht_server.specs.Services.{EndsService, HasServed, OfficeRuns, Served, counts_line, service_status}
use Rattle.ht_tree.specs.Tables.{TablesOf}
use Rattle.ht_workers.specs.declared.working.WorkEnd.{WorkEnd}
use Rattle.ht_workers.specs.declared.working.WorkEnd.TheVariants as ended

-- ---- statuses of a service

not_this : (e : ServiceEnd) (n : ℕ) → n ≢ 0 → n ≢ 7 → n ≢ 8 → n ≢ 10 → service_status e ≢ n
not_this end.Done n a b c d is = a (sym is)
not_this end.Pipe n a b c d is = b (sym is)
not_this end.Memory n a b c d is = c (sym is)
not_this end.Door n a b c d is = d (sym is)

is_pipe : (e : ServiceEnd) → service_status e ≡ 7 → e ≡ end.Pipe
is_pipe end.Done is = absurd (omega arith)
is_pipe end.Pipe is = refl
is_pipe end.Memory is = absurd (omega arith)
is_pipe end.Door is = absurd (omega arith)

is_door : (e : ServiceEnd) → service_status e ≡ 10 → e ≡ end.Door
is_door end.Done is = absurd (omega arith)
is_door end.Pipe is = absurd (omega arith)
is_door end.Memory is = absurd (omega arith)
is_door end.Door is = refl

-- ---- a command of one thread tells of no door

ending_below : (e : Ending) → ending_status e ≡ 10 → ⊥
ending_below ending.Done is = absurd (omega arith)
ending_below (ending.Wire code) is = absurd (omega arith)
ending_below ending.Budget is = absurd (omega arith)
ending_below ending.ReadFault is = absurd (omega arith)
ending_below ending.WriteFault is = absurd (omega arith)
ending_below ending.Memory is = absurd (omega arith)

fault_below : (f : OpenFault) → fault_status f ≡ 10 → ⊥
fault_below (fault.Models why) is = absurd (omega arith)
fault_below (fault.People why) is = absurd (omega arith)
fault_below (fault.Damaged at) is = absurd (omega arith)
fault_below (fault.RecordRefused n) is = absurd (omega arith)
fault_below fault.TextsDiffer is = absurd (omega arith)
fault_below fault.Store is = absurd (omega arith)
fault_below fault.Memory is = absurd (omega arith)

end_below : (e : Result Ending OpenFault) → end_status e ≡ 10 → ⊥
end_below (Ok e) is = ending_below e is
end_below (Err f) is = fault_below f is

missing_below : (why : TextsFault) → missing_status why ≡ 10 → ⊥
missing_below (missing.Unread w) is = absurd (omega arith)
missing_below (missing.TooLong w) is = absurd (omega arith)
missing_below missing.Memory is = absurd (omega arith)

pub below_ten : {D : Type 0} (d : Ghosts D) (said : WordsOf) (before after : Disks D) (old new : Outside) (status : ℕ) → RunsOffice d said before after old new status → status ≢ 10
below_ten d said before after old new status (inl ran) ten = end_below ran.end (sym ran.status_is ∙ ten)
below_ten d said before after old new status (inr none) ten = missing_below none.why (sym none.status_is ∙ ten)

-- ---- of a service

-- a line that can't be written
pipe_of : (w : WorkEnd) (line : List ℕ) (old new : SinkState) → EndsService w line old new end.Pipe → Rose old.faults new.faults
pipe_of ended.Done line old new ends = ends.1
pipe_of ended.Door line old new ends = absurd (two ends.0)
  where
    two : end.Pipe ≡ end.Door → ⊥
    two e = cc
pipe_of ended.Memory line old new ends = absurd (two ends.0)
  where
    two : end.Pipe ≡ end.Memory → ⊥
    two e = cc

-- a door is told only of a crew that ended so
door_of : (w : WorkEnd) (line : List ℕ) (old new : SinkState) → EndsService w line old new end.Door → w ≡ ended.Door
door_of ended.Done line old new ends = absurd ends
door_of ended.Door line old new ends = refl
door_of ended.Memory line old new ends = absurd (two ends.0)
  where
    two : end.Door ≡ end.Memory → ⊥
    two e = cc

served_rose : (crew : Crew) (first last : State) (doors_before doors_after : DoorState) (old new : SinkState) → Served crew first last doors_before doors_after old new end.Door → Rose doors_before.faults doors_after.faults
served_rose crew first last doors_before doors_after old new s = by_end s.crew_end s.runs.crew_is.ends (door_of s.crew_end (counts_line last.counts) old new s.ends)
  where
    by_end : (w : WorkEnd) → EndsCrew crew (map call_of s.runs.history) doors_before doors_after w → w ≡ ended.Door → Rose doors_before.faults doors_after.faults
    by_end ended.Done e is = absurd (cc)
    by_end ended.Door e is = e
    by_end ended.Memory e is = absurd (cc)

module _ {D : Type 0} (d : Ghosts D) (said : WordsOf) (before after : Disks D) (doors_before doors_after : DoorState) (old new : Outside) (status : ℕ) where
  abbrev Has : Type 0
  Has = HasServed d said before after doors_before doors_after old new status

  not_status : Has → (n : ℕ) → n ≢ 0 → n ≢ 7 → n ≢ 8 → n ≢ 10 → status ≢ n
  not_status has n a b c e is = not_this has.ending n a b c e (sym has.status_is ∙ is)

  pub runs_not_two : OfficeRuns d said before after doors_before doors_after old new status → status ≢ 2
  runs_not_two (inl one) = not_two d said before after old new status one.0
  runs_not_two (inr has) = not_status has 2 (λ e. absurd (omega arith)) (λ e. absurd (omega arith)) (λ e. absurd (omega arith)) (λ e. absurd (omega arith))

  pub runs_wrong : (names : List ℕ × List ℕ) → said.texts ≡ Some names → OfficeRuns d said before after doors_before doors_after old new status
      → IfSome old.texts.texts (λ text. status ≢ 3 → status ≢ 6 → status ≢ 8 → (status ≡ 4) ↔ AreWrong (text names.0) (text names.1))
  runs_wrong names named (inl one) = wrong d said before after old new status names named one.0
  runs_wrong names named (inr has) = by_told old.texts.texts (not_wrong said has.texts has.served.opened old.texts.texts names (d.gives before.first) named has.reads has.served.keeps.opens)
    where
      by_told : (told : Option (List ℕ → List ℕ)) → IfSome told (λ text. AreWrong (text names.0) (text names.1) → ⊥) → IfSome told (λ text. status ≢ 3 → status ≢ 6 → status ≢ 8 → (status ≡ 4) ↔ AreWrong (text names.0) (text names.1))
      by_told None none = tt
      by_told (Some text) none = λ three six eight. ((λ four. absurd (not_status has 4 (λ e. absurd (omega arith)) (λ e. absurd (omega arith)) (λ e. absurd (omega arith)) (λ e. absurd (omega arith)) four)), (λ bad. absurd (none bad)))

  pub runs_journal : ((texts : TextsOf) (records : List RecordOf) (t : TablesOf) (f : List ℕ) (why : OpenFault) → AreSpelled records → IsJournalOf texts records t → AreOfFile texts records f → Fails texts f why → ⊥)
      → (name : List ℕ) → said.journal ≡ Some name → (IsAlone said.work → ⊥) → OfficeRuns d said before after doors_before doors_after old new status
      → IfSome old.texts.texts (λ text. IfSome (d.gives before.first) (λ f. status ≢ 3 → status ≢ 4 → status ≢ 6 → status ≢ 8 → (status ≡ 5) ↔ IsAtFault said text f))
  runs_journal whole name named waits (inl one) = journal d said before after old new status whole (λ checks. absurd (waits (subst IsAlone (sym checks) tt))) one.0
  runs_journal whole name named waits (inr has) = by_told old.texts.texts (d.gives before.first) (not_at_fault said has.texts has.served.opened whole name named old.texts.texts (d.gives before.first) has.reads has.served.keeps.opens)
    where
      by_told : (told : Option (List ℕ → List ℕ)) (file : Option (List ℕ)) → IfSome told (λ text. IfSome file (λ f. IsAtFault said text f → ⊥)) → IfSome told (λ text. IfSome file (λ f. status ≢ 3 → status ≢ 4 → status ≢ 6 → status ≢ 8 → (status ≡ 5) ↔ IsAtFault said text f))
      by_told None file none = tt
      by_told (Some text) None none = tt
      by_told (Some text) (Some f) none = λ three four six eight. ((λ five. absurd (not_status has 5 (λ e. absurd (omega arith)) (λ e. absurd (omega arith)) (λ e. absurd (omega arith)) (λ e. absurd (omega arith)) five)), (λ bad. absurd (none bad)))

  pub runs_store : OfficeRuns d said before after doors_before doors_after old new status → status ≡ 6 → Rose (d.faults before.first) (d.faults after.first) ⊎ Rose (d.faults before.second) (d.faults after.second)
  runs_store (inl one) six = (store d said before after old new status one.0 six).1
  runs_store (inr has) six = absurd (not_status has 6 (λ e. absurd (omega arith)) (λ e. absurd (omega arith)) (λ e. absurd (omega arith)) (λ e. absurd (omega arith)) six)

  pub runs_broke : OfficeRuns d said before after doors_before doors_after old new status → status ≡ 7 → Rose old.connection.input.faults new.connection.input.faults ⊎ Rose old.connection.output.faults new.connection.output.faults
  runs_broke (inl one) seven = broke d said before after old new status one.0 seven
  runs_broke (inr has) seven =
      let is : has.ending ≡ end.Pipe = is_pipe has.ending (sym has.status_is ∙ seven) in
      let s = has.served.served in
      inr (pipe_of s.crew_end (counts_line has.served.last.counts) old.connection.output new.connection.output (subst (λ (e : ServiceEnd). EndsService s.crew_end (counts_line has.served.last.counts) old.connection.output new.connection.output e) is s.ends))

  pub runs_door : OfficeRuns d said before after doors_before doors_after old new status → status ≡ 10 → Rose doors_before.faults doors_after.faults
  runs_door (inl one) ten = absurd (below_ten d said before after old new status one.0 ten)
  runs_door (inr has) ten =
      let is : has.ending ≡ end.Door = is_door has.ending (sym has.status_is ∙ ten) in
      served_rose has.served.crew has.served.opened has.served.last doors_before doors_after old.connection.output new.connection.output (subst (λ (e : ServiceEnd). Served has.served.crew has.served.opened has.served.last doors_before doors_after old.connection.output new.connection.output e) is has.served.served)

  pub runs_answered : OfficeRuns d said before after doors_before doors_after old new status → (status ≡ 3 → ⊥) → (Rose (d.faults before.first) (d.faults after.first) → ⊥) → (Rose (d.faults before.second) (d.faults after.second) → ⊥)
      → (Rose doors_before.faults doors_after.faults → ⊥) → (Rose old.connection.input.faults new.connection.input.faults → ⊥) → (Rose old.connection.output.faults new.connection.output.faults → ⊥) → IsAnswered status
  runs_answered (inl one) texts first second doors read write = answered d said before after old new status one.0 texts first second read write
  runs_answered (inr has) texts first second doors read write = by_status has.ending has.status_is
    where
      by_status : (e : ServiceEnd) → status ≡ service_status e → IsAnswered status
      by_status end.Done is = inl is
      by_status end.Pipe is = absurd (⊎_elim read write (runs_broke (inr has) is))
      by_status end.Memory is = inr (inr (inr (inr (inl is))))
      by_status end.Door is = absurd (doors (runs_door (inr has) is))

  pub runs_built_in : (RunsOffice d said before after old new status → (status ≢ 3) × (status ≢ 4)) → OfficeRuns d said before after doors_before doors_after old new status → (status ≢ 3) × (status ≢ 4)
  runs_built_in alone (inl one) = alone one.0
  runs_built_in alone (inr has) = (
    not_status has 3 (λ e. absurd (omega arith)) (λ e. absurd (omega arith)) (λ e. absurd (omega arith)) (λ e. absurd (omega arith)),
    not_status has 4 (λ e. absurd (omega arith)) (λ e. absurd (omega arith)) (λ e. absurd (omega arith)) (λ e. absurd (omega arith)),
  )

-- of the same run
pub runs_as_said : {D : Type 0} (d : Ghosts D) (said other : WordsOf) (before after : Disks D) (doors_before doors_after : DoorState) (old new : Outside) (status : ℕ) → said ≡ other → OfficeRuns d said before after doors_before doors_after old new status → OfficeRuns d other before after doors_before doors_after old new status
runs_as_said d said other before after doors_before doors_after old new status same runs = subst (λ (r : WordsOf). OfficeRuns d r before after doors_before doors_after old new status) same runs

-- a command of which a report is asked doesn't wait
pub reports_alone : (w : WorkOf) → IsReporting w → IsAlone w
reports_alone (running from step) reports = tt
reports_alone (serving service) reports = absurd reports
reports_alone checking reports = tt
reports_alone exporting reports = tt
reports_alone (loading seed count) reports = tt
