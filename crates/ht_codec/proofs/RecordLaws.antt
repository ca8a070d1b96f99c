-- What is known of records: a line an operation, a line a record.
use Rattle.std.proofs.Common.{◌≡◌, ℕ, ◌^◌, eqb, List, [], ◌∷◌, Some, Ok, refl, ap, subst}
use Rattle.std.specs.Prelude.{find}
use Rattle.std.specs.Int.{w32}
use Rattle.ht_base.specs.Events.{suits}
use Rattle.ht_base.specs.Records.{RecordOf}
use Rattle.ht_base.specs.Records.RecordOf.{an_opening, a_turn, an_asking}
use Rattle.ht_base.specs.declared.event.Command.{Command}
use Rattle.ht_base.specs.declared.event.Command.TheVariants as commands
use Rattle.ht_base.specs.declared.operation.Op.{Op}
use Rattle.ht_base.specs.declared.operation.Op.TheVariants.{Create, Claim, Start, Stop, Release, Delegate, Forward, Nominate, Activate, SetRole, SetPriority, Suspend, SuspendUntil, Resume, SetOutput, Complete, Fail, Skip, Exit, Error, AddComment, InstantiateSubTask, Get}
use Rattle.ht_codec.specs.Fields.{moment, name, retry, names, parts, role}
use Rattle.ht_codec.specs.Forms.{byte, ◌then◌, option}
use Rattle.ht_codec.specs.Records.{IsBytes}
use Rattle.ht_codec.specs.Records.{op_byte, kept_operations, op_with, op, command_line, next_command, task_and_op, asker, Head, head, Question, question_line, next_question, question, asking, kind_byte, kind_of, kind, record_line, next_record, entry}
use Rattle.ht_codec.specs.declared.kinds.RecordKind.{RecordKind}
use Rattle.ht_codec.specs.declared.kinds.RecordKind.TheVariants.{Opening, Turn, Asked}
use Rattle.ht_codec.specs.declared.refusal.CodecRefusal.TheVariants.{Memory, Tag}
use Rattle.ht_codec.proofs.FieldLaws.{moment_lawful, name_lawful, retry_lawful, some_text_lawful, names_lawful, some_names_lawful, parts_lawful, some_parts_lawful, role_lawful, priority_lawful, end_lawful, opening_text_lawful}
use Rattle.ht_codec.proofs.FormLaws.{IsLawful, nothing_lawful, byte_lawful, number_lawful, wide32, then_lawful, tested_lawful, coded_lawful, option_lawful, Follows, IsLine, IsRead, taken_line, line_read, led_lawful, line_back, meaningless_line, no_line}
use Rattle.ht_codec.proofs.Steps.{bind_ok, made_err, ok_is}

-- ---- the operations

-- what is found by its byte has this byte
found_back : (n : ℕ) (o : Op) (among : List Op) → find (λ p. eqb n (op_byte p)) among ≡ Some o → op_byte o ≡ n
found_back n o [] = no_line op_byte n o
found_back n o (p ∷ among) = line_back op_byte n (op_byte p) p o _ refl (found_back n o among)

op_lawful : IsLawful op
unfolding op
op_lawful = coded_lawful Tag op_with op_byte byte byte_lawful (λ n e. cc) (λ n o. found_back n o kept_operations)

creation_lawful : IsLawful (option name then (parts then option moment))
creation_lawful = then_lawful _ _ (option_lawful name name_lawful) (then_lawful parts _ parts_lawful (option_lawful moment moment_lawful))

command_heads : (o : Op) → IsLine command_line o (next_command o)
command_heads Create = taken_line command_line Create (λ v. commands.Create v.0 v.1.0 v.1.1) _ creation_lawful (λ v. refl) (λ v f. f) (λ v. refl)
command_heads Claim = taken_line command_line Claim (λ v. commands.Claim) _ nothing_lawful (λ v. refl) (λ v f. f) (λ v. refl)
command_heads Start = taken_line command_line Start (λ v. commands.Start) _ nothing_lawful (λ v. refl) (λ v f. f) (λ v. refl)
command_heads Stop = taken_line command_line Stop (λ v. commands.Stop) _ nothing_lawful (λ v. refl) (λ v f. f) (λ v. refl)
command_heads Release = taken_line command_line Release (λ v. commands.Release) _ nothing_lawful (λ v. refl) (λ v f. f) (λ v. refl)
command_heads Delegate = taken_line command_line Delegate (λ v. commands.Delegate v) _ name_lawful (λ v. refl) (λ v f. f) (λ v. refl)
command_heads Forward = taken_line command_line Forward (λ v. commands.Forward v) _ some_names_lawful (λ v. refl) (λ v f. f) (λ v. refl)
command_heads Nominate = taken_line command_line Nominate (λ v. commands.Nominate v) _ some_names_lawful (λ v. refl) (λ v f. f) (λ v. refl)
command_heads Activate = taken_line command_line Activate (λ v. commands.Activate) _ nothing_lawful (λ v. refl) (λ v f. f) (λ v. refl)
command_heads SetRole = taken_line command_line SetRole (λ v. commands.SetRole v.0 v.1) _ (then_lawful role names role_lawful names_lawful) (λ v. refl) (λ v f. f) (λ v. refl)
command_heads SetPriority = taken_line command_line SetPriority (λ v. commands.SetPriority v) _ priority_lawful (λ v. refl) (λ v f. f) (λ v. refl)
command_heads Suspend = taken_line command_line Suspend (λ v. commands.Suspend) _ nothing_lawful (λ v. refl) (λ v f. f) (λ v. refl)
command_heads SuspendUntil = taken_line command_line SuspendUntil (λ v. commands.SuspendUntil v) _ end_lawful (λ v. refl) (λ v f. f) (λ v. refl)
command_heads Resume = taken_line command_line Resume (λ v. commands.Resume) _ nothing_lawful (λ v. refl) (λ v f. f) (λ v. refl)
command_heads SetOutput = taken_line command_line SetOutput (λ v. commands.SetOutput v) _ some_parts_lawful (λ v. refl) (λ v f. f) (λ v. refl)
command_heads Complete = taken_line command_line Complete (λ v. commands.Complete v) _ parts_lawful (λ v. refl) (λ v f. f) (λ v. refl)
command_heads Fail = taken_line command_line Fail (λ v. commands.Fail v) _ (option_lawful name name_lawful) (λ v. refl) (λ v f. f) (λ v. refl)
command_heads Skip = taken_line command_line Skip (λ v. commands.Skip) _ nothing_lawful (λ v. refl) (λ v f. f) (λ v. refl)
command_heads Exit = taken_line command_line Exit (λ v. commands.Exit) _ nothing_lawful (λ v. refl) (λ v f. f) (λ v. refl)
command_heads Error = taken_line command_line Error (λ v. commands.Error) _ nothing_lawful (λ v. refl) (λ v f. f) (λ v. refl)
command_heads AddComment = taken_line command_line AddComment (λ v. commands.AddComment v) _ some_text_lawful (λ v. refl) (λ v f. f) (λ v. refl)
command_heads InstantiateSubTask = taken_line command_line InstantiateSubTask (λ v. commands.InstantiateSubTask v) _ name_lawful (λ v. refl) (λ v f. f) (λ v. refl)
command_heads Get = meaningless_line command_line Get

command_values : (c : Command) → IsRead (next_command (command_line c).head) (command_line c) c
command_values (commands.Create model input activate_at) = line_read Create (λ v. commands.Create v.0 v.1.0 v.1.1) _ creation_lawful (model, (input, activate_at))
command_values commands.Claim = line_read Claim (λ v. commands.Claim) _ nothing_lawful tt
command_values commands.Start = line_read Start (λ v. commands.Start) _ nothing_lawful tt
command_values commands.Stop = line_read Stop (λ v. commands.Stop) _ nothing_lawful tt
command_values commands.Release = line_read Release (λ v. commands.Release) _ nothing_lawful tt
command_values (commands.Delegate v) = line_read Delegate (λ v. commands.Delegate v) _ name_lawful v
command_values (commands.Forward v) = line_read Forward (λ v. commands.Forward v) _ some_names_lawful v
command_values (commands.Nominate v) = line_read Nominate (λ v. commands.Nominate v) _ some_names_lawful v
command_values commands.Activate = line_read Activate (λ v. commands.Activate) _ nothing_lawful tt
command_values (commands.SetRole r persons) = line_read SetRole (λ v. commands.SetRole v.0 v.1) _ (then_lawful role names role_lawful names_lawful) (r, persons)
command_values (commands.SetPriority v) = line_read SetPriority (λ v. commands.SetPriority v) _ priority_lawful v
command_values commands.Suspend = line_read Suspend (λ v. commands.Suspend) _ nothing_lawful tt
command_values (commands.SuspendUntil v) = line_read SuspendUntil (λ v. commands.SuspendUntil v) _ end_lawful v
command_values commands.Resume = line_read Resume (λ v. commands.Resume) _ nothing_lawful tt
command_values (commands.SetOutput v) = line_read SetOutput (λ v. commands.SetOutput v) _ some_parts_lawful v
command_values (commands.Complete v) = line_read Complete (λ v. commands.Complete v) _ parts_lawful v
command_values (commands.Fail v) = line_read Fail (λ v. commands.Fail v) _ (option_lawful name name_lawful) v
command_values commands.Skip = line_read Skip (λ v. commands.Skip) _ nothing_lawful tt
command_values commands.Exit = line_read Exit (λ v. commands.Exit) _ nothing_lawful tt
command_values commands.Error = line_read Error (λ v. commands.Error) _ nothing_lawful tt
command_values (commands.AddComment v) = line_read AddComment (λ v. commands.AddComment v) _ some_text_lawful v
command_values (commands.InstantiateSubTask v) = line_read InstantiateSubTask (λ v. commands.InstantiateSubTask v) _ name_lawful v

-- ---- what is asked

task_lawful : IsLawful task_and_op
unfolding task_and_op
task_lawful = tested_lawful (λ x. suits x.0 x.1) _ (then_lawful _ op (number_lawful w32 (2 ^ 32) wide32) op_lawful)

head_lawful : IsLawful head
head_lawful = then_lawful asker task_and_op (then_lawful moment _ moment_lawful (then_lawful name retry name_lawful retry_lawful)) task_lawful

question_heads : (h : Head) → IsLine question_line h (next_question h)
question_heads h = record {
  takes = takes;
  fails = λ whole left e are f. behind.fails whole left e are (made_err ((next_command h.1.1).read whole left) (λ c. (of c.0, c.1)) e f);
  failing = λ whole left e f. rw (behind.failing whole left e f) refl;
  told = λ whole left f. behind.told whole left (made_err ((next_command h.1.1).read whole left) (λ c. (of c.0, c.1)) Memory f);
}
  where
    behind : IsLine command_line h.1.1 (next_command h.1.1)
    behind = command_heads h.1.1

    of : Command → Question
    of c = (h.0, (h.1.0, c))

    takes : (whole : ℕ) (left : List ℕ) (q : Question × List ℕ) → IsBytes left → (next_question h).read whole left ≡ Ok q → Follows question_line h left q
    takes whole left q are e =
        let made : Command → Question = λ c. (h.0, (h.1.0, c)) in
        let p = bind_ok ((next_command h.1.1).read whole left) (λ c. Ok (made c.0, c.1)) q e in
        let f = (command_heads h.1.1).takes whole left p.0 are p.1 in
        let follows : Follows question_line h left (made p.0.0, p.0.1) = record { head = ap (λ (o : Op). (h.0, (h.1.0, o))) f.head; fits = f.fits; text = f.text } in
        subst (λ (y : Question × List ℕ). Follows question_line h left y) (ok_is (made p.0.0, p.0.1) q p.2) follows

question_values : (q : Question) → IsRead (next_question (question_line q).head) (question_line q) q
question_values q = record {
  again = λ whole rest fits. rw ((command_values q.1.1).again whole rest fits) refl;
  cut = λ whole front c more fits e. rw ((command_values q.1.1).cut whole front c more fits e) refl;
}

question_lawful : IsLawful question
question_lawful = led_lawful head next_question question_line head_lawful question_heads question_values

-- ---- the records

kind_back : (n : ℕ) (k : RecordKind) → kind_of n ≡ Some k → kind_byte k ≡ n
kind_back n k = line_back kind_byte n 0 Opening k _ refl (line_back kind_byte n 1 Turn k _ refl (line_back kind_byte n 2 Asked k _ refl (no_line kind_byte n k)))

kind_lawful : IsLawful kind
unfolding kind
kind_lawful = coded_lawful Tag kind_of kind_byte byte byte_lawful (λ n e. cc) kind_back

record_heads : (k : RecordKind) → IsLine record_line k (next_record k)
record_heads Opening = taken_line record_line Opening (λ v. an_opening v.0 v.1) _ (then_lawful _ _ opening_text_lawful opening_text_lawful) (λ v. refl) (λ v f. f) (λ v. refl)
record_heads Turn = taken_line record_line Turn (λ v. a_turn v) _ moment_lawful (λ v. refl) (λ v f. f) (λ v. refl)
record_heads Asked = taken_line record_line Asked asking _ question_lawful (λ v. refl) (λ v f. f) (λ v. refl)

record_values : (r : RecordOf) → IsRead (next_record (record_line r).head) (record_line r) r
record_values (an_opening models people) = line_read Opening (λ v. an_opening v.0 v.1) _ (then_lawful _ _ opening_text_lawful opening_text_lawful) (models, people)
record_values (a_turn at) = line_read Turn (λ v. a_turn v) _ moment_lawful at
record_values (an_asking at caller retry task command) = line_read Asked asking _ question_lawful ((at, (caller, retry)), (task.0, command))

pub entry_lawful : IsLawful entry
unfolding entry
entry_lawful = led_lawful kind next_record record_line kind_lawful record_heads record_values
