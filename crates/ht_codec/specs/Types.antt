-- What the types of a record's values see to by themselves, beside what makes a record valid.
use Rattle.std.specs.Prelude.{ℕ, ◌<◌, ◌^◌, FitsSigned, IfSome, IsTrue, List}
use Rattle.std.specs.Int.{w64}
use Rattle.std.specs.List.{All}
use Rattle.std.specs.Str.{is_utf8}
use Rattle.ht_base.specs.Name.{IsName}
use Rattle.ht_base.specs.Records.{RecordOf}
use Rattle.ht_base.specs.Records.RecordOf.{an_asking}
use Rattle.ht_base.specs.Values.{Ascend}
use Rattle.ht_base.specs.declared.event.Command.{Command}
use Rattle.ht_base.specs.declared.event.Command.TheVariants.{AddComment, Complete, Create, Delegate, Fail, Forward, InstantiateSubTask, Nominate, SetOutput, SetRole}
use Rattle.ht_base.specs.declared.scalar.Scalar.{Scalar}
use Rattle.ht_base.specs.declared.scalar.Scalar.TheVariants.{Int, Text, Truth}

-- a text is UTF-8, and a whole number has 64 bits
abbrev pub ScalarHolds : Scalar → Type 0
ScalarHolds (Text t) = IsTrue (is_utf8 t)
ScalarHolds (Int n) = FitsSigned w64 n
ScalarHolds (Truth b) = Unit {0}

pub record PartsHold (given : List (List ℕ × Scalar)) : Type 0 where
  pub names : All (λ p. IsName p.0) given
  pub scalars : All (λ p. ScalarHolds p.1) given
  pub ascend : Ascend given

abbrev pub CommandHolds : Command → Type 0
CommandHolds (Create model input activate_at) = IfSome model IsName × PartsHold input
CommandHolds (Delegate person) = IsName person
CommandHolds (Forward persons) = All IsName persons
CommandHolds (Nominate persons) = All IsName persons
CommandHolds (SetRole role persons) = All IsName persons
CommandHolds (SetOutput output) = PartsHold output
CommandHolds (Complete output) = PartsHold output
CommandHolds (Fail fault) = IfSome fault IsName
CommandHolds (AddComment t) = IsTrue (is_utf8 t)
CommandHolds (InstantiateSubTask sub) = IsName sub
CommandHolds _ = Unit {0}

-- the caller is a name, and the numbers have 32 bits
abbrev pub RecordHolds : RecordOf → Type 0
RecordHolds (an_asking at caller retry task command) = IsName caller × IfSome retry (λ r. r.number < 2 ^ 32) × (task.0 < 2 ^ 32) × CommandHolds command
RecordHolds _ = Unit {0}
