-- The bytes of records: a line a record, a line an operation.
use Rattle.std.specs.Prelude.{◌≡◌, ℕ, ◌^◌, ◌≤◌, ◌==◌, List, [], ◌∷◌, length, slice_index, ◌<◌, find, Option, Some, None, Result, Ok, Err, ◌⊎◌, if◌then◌else◌}
use Rattle.std.specs.Int.{w32}
use Rattle.ht_base.specs.Events.{IsValid, suits}
use Rattle.ht_base.specs.Moment.{last_moment}
use Rattle.ht_base.specs.Records.{RecordOf, record_of}
use Rattle.ht_base.specs.Records.RecordOf.{an_opening, a_turn, an_asking}
use Rattle.ht_base.specs.declared.limits.TheConstants.{LONGEST_OFFICE_TEXT}
use Rattle.ht_base.specs.declared.event.Command.{Command}
use Rattle.ht_base.specs.declared.event.Command.TheVariants as commands
use Rattle.ht_base.specs.declared.event.Event.TheVariants.{Ask}
use Rattle.ht_base.specs.declared.moment.Moment.{Moment}
use Rattle.ht_base.specs.declared.operation.Op.{Op}
use Rattle.ht_base.specs.declared.operation.Op.TheVariants.{Create, Claim, Start, Stop, Release, Delegate, Forward, Nominate, Activate, SetRole, SetPriority, Suspend, SuspendUntil, Resume, SetOutput, Complete, Fail, Skip, Exit, Error, AddComment, InstantiateSubTask, Get}
use Rattle.ht_base.specs.declared.record.Record.{Record}
use Rattle.ht_base.specs.declared.retry.Retry.{Retry}
use Rattle.ht_base.specs.declared.scalar.Scalar.{Scalar}
use Rattle.ht_codec.specs.Fields.{moment, name, retry, some_text, names, some_names, parts, some_parts, role, priority, end, opening_text}
use Rattle.ht_codec.specs.Forms.{Form, Behind, nothing, byte, number, ◌then◌, tested, coded, option, Line, line, meaningless, Next, taken, led}
use Rattle.ht_codec.specs.Reading.{◌>>=◌, place}
use Rattle.ht_codec.specs.declared.kinds.RecordKind.{RecordKind}
use Rattle.ht_codec.specs.declared.kinds.RecordKind.TheVariants.{Opening, Turn, Asked}
use Rattle.ht_codec.specs.declared.refusal.CodecRefusal.{CodecRefusal}
use Rattle.ht_codec.specs.declared.refusal.CodecRefusal.TheVariants.{Short, Tag, Range, Trailing, Memory}

-- ---- operations

-- A look at a task changes nothing and is never kept: it has no byte.
abbrev pub op_byte : Op → ℕ
op_byte Get = 0
op_byte Create = 1
op_byte Claim = 2
op_byte Start = 3
op_byte Stop = 4
op_byte Release = 5
op_byte Delegate = 6
op_byte Forward = 7
op_byte Nominate = 8
op_byte Activate = 9
op_byte SetRole = 10
op_byte SetPriority = 11
op_byte Suspend = 12
op_byte SuspendUntil = 13
op_byte Resume = 14
op_byte SetOutput = 15
op_byte Complete = 16
op_byte Fail = 17
op_byte Skip = 18
op_byte Exit = 19
op_byte Error = 20
op_byte AddComment = 21
op_byte InstantiateSubTask = 22

abbrev pub kept_operations : List Op
kept_operations = Create ∷ Claim ∷ Start ∷ Stop ∷ Release ∷ Delegate ∷ Forward ∷ Nominate ∷ Activate ∷ SetRole ∷ SetPriority ∷ Suspend ∷ SuspendUntil ∷ Resume ∷ SetOutput ∷ Complete ∷ Fail ∷ Skip ∷ Exit ∷ Error ∷ AddComment ∷ InstantiateSubTask ∷ []

-- the operation that has this byte
abbrev pub op_with : ℕ → Option Op
op_with n = find (λ o. n == op_byte o) kept_operations

unfoldable pub op : Form Op
op = coded Tag op_with op_byte byte

-- the model, what is given for the input, and the moment of activation
abbrev pub creation : Form (Option (List ℕ) × (List (List ℕ × Scalar) × Option Moment))
creation = option name then (parts then option moment)

-- what a command asks for: its operation, and the fields behind the operation's byte
abbrev pub command_line : Command → Line Op
command_line (commands.Create model input activate_at) = line Create creation (model, (input, activate_at))
command_line commands.Claim = line Claim nothing tt
command_line commands.Start = line Start nothing tt
command_line commands.Stop = line Stop nothing tt
command_line commands.Release = line Release nothing tt
command_line (commands.Delegate person) = line Delegate name person
command_line (commands.Forward persons) = line Forward some_names persons
command_line (commands.Nominate persons) = line Nominate some_names persons
command_line commands.Activate = line Activate nothing tt
command_line (commands.SetRole r persons) = line SetRole (role then names) (r, persons)
command_line (commands.SetPriority p) = line SetPriority priority p
command_line commands.Suspend = line Suspend nothing tt
command_line (commands.SuspendUntil e) = line SuspendUntil end e
command_line commands.Resume = line Resume nothing tt
command_line (commands.SetOutput output) = line SetOutput some_parts output
command_line (commands.Complete output) = line Complete parts output
command_line (commands.Fail fault) = line Fail (option name) fault
command_line commands.Skip = line Skip nothing tt
command_line commands.Exit = line Exit nothing tt
command_line commands.Error = line Error nothing tt
command_line (commands.AddComment t) = line AddComment some_text t
command_line (commands.InstantiateSubTask sub) = line InstantiateSubTask name sub

-- and of an operation, the command that is read behind its byte
abbrev pub next_command : Op → Next Command
next_command Create = taken (λ v. commands.Create v.0 v.1.0 v.1.1) creation
next_command Claim = taken (λ v. commands.Claim) nothing
next_command Start = taken (λ v. commands.Start) nothing
next_command Stop = taken (λ v. commands.Stop) nothing
next_command Release = taken (λ v. commands.Release) nothing
next_command Delegate = taken (λ v. commands.Delegate v) name
next_command Forward = taken (λ v. commands.Forward v) some_names
next_command Nominate = taken (λ v. commands.Nominate v) some_names
next_command Activate = taken (λ v. commands.Activate) nothing
next_command SetRole = taken (λ v. commands.SetRole v.0 v.1) (role then names)
next_command SetPriority = taken (λ v. commands.SetPriority v) priority
next_command Suspend = taken (λ v. commands.Suspend) nothing
next_command SuspendUntil = taken (λ v. commands.SuspendUntil v) end
next_command Resume = taken (λ v. commands.Resume) nothing
next_command SetOutput = taken (λ v. commands.SetOutput v) some_parts
next_command Complete = taken (λ v. commands.Complete v) parts
next_command Fail = taken (λ v. commands.Fail v) (option name)
next_command Skip = taken (λ v. commands.Skip) nothing
next_command Exit = taken (λ v. commands.Exit) nothing
next_command Error = taken (λ v. commands.Error) nothing
next_command AddComment = taken (λ v. commands.AddComment v) some_text
next_command InstantiateSubTask = taken (λ v. commands.InstantiateSubTask v) name
next_command Get = meaningless

-- ---- what is asked

-- the operation's byte is read before the task in front of it is judged
unfoldable pub task_and_op : Form (ℕ × Op)
task_and_op = tested (λ x. suits x.0 x.1) (number w32 (2 ^ 32) then op)

-- when who asks, by which device and number
abbrev pub Asker : Type 0
Asker = Moment × (List ℕ × Option Retry)

abbrev pub asker : Form Asker
asker = moment then (name then retry)

-- and behind it the task and the operation
abbrev pub Head : Type 0
Head = Asker × (ℕ × Op)

abbrev pub head : Form Head
head = asker then task_and_op

-- the same with the command in the place of its operation
abbrev pub Question : Type 0
Question = Asker × (ℕ × Command)

abbrev pub question_line : Question → Line Head
question_line q = let c = command_line q.1.1 in record { head = (q.0, (q.1.0, c.head)); Fits = c.Fits; text = c.text }

abbrev pub next_question : Head → Next Question
next_question h = let n = next_command h.1.1 in record { Fails = n.Fails; read = λ whole left. n.read whole left >>= λ c. Ok ((h.0, (h.1.0, c.0)), c.1) }

abbrev pub question : Form Question
question = led head next_question question_line

abbrev pub asking : Question → RecordOf
asking q = an_asking q.0.0 q.0.1.0 q.0.1.1 (record { 0 = q.1.0 }) q.1.1

-- ---- records

abbrev pub kind_byte : RecordKind → ℕ
kind_byte Opening = 0
kind_byte Turn = 1
kind_byte Asked = 2

abbrev pub kind_of : ℕ → Option RecordKind
kind_of n = if n == 0 then Some Opening else if n == 1 then Some Turn else if n == 2 then Some Asked else None

unfoldable pub kind : Form RecordKind
kind = coded Tag kind_of kind_byte byte

abbrev pub record_line : RecordOf → Line RecordKind
record_line (an_opening models people) = line Opening (opening_text then opening_text) (models, people)
record_line (a_turn at) = line Turn moment at
record_line (an_asking at caller retry task command) = line Asked question ((at, (caller, retry)), (task.0, command))

abbrev pub next_record : RecordKind → Next RecordOf
next_record Opening = taken (λ v. an_opening v.0 v.1) (opening_text then opening_text)
next_record Turn = taken (λ v. a_turn v) moment
next_record Asked = taken asking question

unfoldable pub entry : Form RecordOf
entry = led kind next_record record_line

-- ---- the relation of records and bytes

-- each of the numbers is a byte
abbrev pub IsBytes : List ℕ → Type 0
IsBytes bytes = (i : ℕ) → slice_index bytes i < 256

-- these bytes are the record's
abbrev pub Spells : RecordOf → List ℕ → Type 0
Spells r bytes = entry.Fits r × (bytes ≡ entry.text r)

-- These bytes are no record's, and this is why: the first field that fails, or bytes behind the record.
abbrev pub Refuses : List ℕ → CodecRefusal → Type 0
Refuses bytes fault = entry.Fails (length bytes) bytes fault ⊎ Behind entry bytes (λ r rest. (1 ≤ length rest) × (fault ≡ Trailing (place (length bytes) rest)))

-- the place that a refusal names; want of memory names none
abbrev pub place_of : CodecRefusal → ℕ
place_of (Short n) = n
place_of (Tag n) = n
place_of (Range n) = n
place_of (Trailing n) = n
place_of Memory = 0

-- A record that may be kept: its texts have at most 262,144 bytes each, its moment is at most the last
-- there is, and what is asked is a valid event.
abbrev pub IsRecord : RecordOf → Type 0
IsRecord (an_opening models people) = (length models ≤ LONGEST_OFFICE_TEXT) × (length people ≤ LONGEST_OFFICE_TEXT)
IsRecord (a_turn at) = at.0 ≤ last_moment
IsRecord (an_asking at caller retry task command) = IsValid (Ask at caller retry task command)

-- ---- the same as a function of the bytes

abbrev pub ended : ℕ → RecordOf × List ℕ → Result RecordOf CodecRefusal
ended whole (r, []) = Ok r
ended whole (r, b ∷ rest) = Err (Trailing (place whole (b ∷ rest)))

unfoldable pub read_all : List ℕ → Result RecordOf CodecRefusal
read_all bytes = entry.read (length bytes) bytes >>= λ x. ended (length bytes) x

-- the answer is this one, or there was no memory
abbrev pub Answers : Result Record CodecRefusal → Result RecordOf CodecRefusal → Type 0
Answers (Ok r) answer = answer ≡ Ok (record_of r)
Answers (Err Memory) answer = Unit {0}
Answers (Err (Short n)) answer = answer ≡ Err (Short n)
Answers (Err (Tag n)) answer = answer ≡ Err (Tag n)
Answers (Err (Range n)) answer = answer ≡ Err (Range n)
Answers (Err (Trailing n)) answer = answer ≡ Err (Trailing n)
