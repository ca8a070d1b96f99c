-- The command that a body gives.
use Rattle.std.specs.Prelude.{ℕ, Bool, true, false, List, [], ◌∷◌, Option, Some, None, unwrap_or, IsSome, Result, Ok, Err}
use Rattle.ht_base.specs.declared.event.Command.{Command}
use Rattle.ht_base.specs.declared.event.Command.TheVariants as command
use Rattle.ht_base.specs.declared.end.End.{End}
use Rattle.ht_base.specs.declared.end.End.TheVariants.{At, After}
use Rattle.ht_base.specs.declared.moment.Moment.{Moment}
use Rattle.ht_base.specs.declared.retry.Retry.{Retry}
use Rattle.ht_api.specs.declared.asked.Asked.{Asked}
use Rattle.ht_api.specs.declared.asked.Asked.TheVariants as asked
use Rattle.ht_api.specs.declared.fields.Fields.{Fields}
use Rattle.ht_api.specs.declared.keys.Key.{Key}
use Rattle.ht_api.specs.declared.keys.Key.TheVariants.{Device, Number, Model, Person, Fault, Role, Owners, Persons, Priority, Until, For, OneEnd, ActivateAt, Text, Sub, Input, Output, SomeOutput}
use Rattle.ht_api.specs.declared.refusal.ApiRefusal.{ApiRefusal}
use Rattle.ht_api.specs.declared.refusal.ApiRefusal.TheVariants.{Field}
use Rattle.ht_api.specs.Bodies.{json_in}
use Rattle.ht_api.specs.Fields.{fields_from}
use Rattle.ht_api.specs.Keys.{key_name}

-- with a required value, which the fields of a body have
abbrev pub needing : {A : Type 0} → Key → Option A → (A → Result Command ApiRefusal) → Result Command ApiRefusal
needing key None make = Err (Field (key_name key))
needing key (Some a) make = make a

-- at a moment, or behind a period, one of which the fields of a body have
abbrev pub end_of : Option Moment → Option ℕ → Result End ApiRefusal
end_of (Some moment) period = Ok (At moment)
end_of None (Some period) = Ok (After period)
end_of None None = Err (Field (key_name OneEnd))

abbrev pub suspended : Result End ApiRefusal → Result Command ApiRefusal
suspended (Err why) = Err why
suspended (Ok end) = Ok (command.SuspendUntil end)

abbrev pub command_of : Asked → Fields → Result Command ApiRefusal
command_of asked.Create f = Ok (command.Create f.model (unwrap_or f.input []) f.activate_at)
command_of asked.Claim f = Ok command.Claim
command_of asked.Start f = Ok command.Start
command_of asked.Stop f = Ok command.Stop
command_of asked.Release f = Ok command.Release
command_of asked.Delegate f = needing Person f.person (λ person. Ok (command.Delegate person))
command_of asked.Forward f = needing Owners f.owners (λ persons. Ok (command.Forward persons))
command_of asked.Nominate f = needing Owners f.owners (λ persons. Ok (command.Nominate persons))
command_of asked.Activate f = Ok command.Activate
command_of asked.SetRole f = needing Role f.role (λ role. needing Persons f.persons (λ persons. Ok (command.SetRole role persons)))
command_of asked.SetPriority f = needing Priority f.priority (λ priority. Ok (command.SetPriority priority))
command_of asked.Suspend f = Ok command.Suspend
command_of asked.SuspendUntil f = suspended (end_of f.until f.period)
command_of asked.Resume f = Ok command.Resume
command_of asked.SetOutput f = needing SomeOutput f.some_output (λ output. Ok (command.SetOutput output))
command_of asked.Complete f = Ok (command.Complete (unwrap_or f.output []))
command_of asked.Fail f = Ok (command.Fail f.fault)
command_of asked.Skip f = Ok command.Skip
command_of asked.Exit f = Ok command.Exit
command_of asked.Error f = Ok command.Error
command_of asked.AddComment f = needing Text f.text (λ text. Ok (command.AddComment text))
command_of asked.InstantiateSubTask f = needing Sub f.sub (λ sub. Ok (command.InstantiateSubTask sub))

-- its number, if it has one
abbrev pub retry_from : Option ℕ → Option ℕ → Option Retry
retry_from None number = None
retry_from (Some device) None = None
retry_from (Some device) (Some number) = Some (record { device = device; number = number })

-- a command with its number
abbrev pub Numbered : Type 0
Numbered = Option Retry × Command

abbrev pub numbered : Option Retry → Result Command ApiRefusal → Result Numbered ApiRefusal
numbered retry (Err why) = Err why
numbered retry (Ok c) = Ok (retry, c)

abbrev pub command_from : Asked → Result Fields ApiRefusal → Result Numbered ApiRefusal
command_from asked (Err why) = Err why
command_from asked (Ok f) = numbered (retry_from f.device f.number) (command_of asked f)

abbrev pub command_in : Asked → List ℕ → Result Numbered ApiRefusal
command_in asked bytes = command_from asked (fields_from asked (json_in bytes))

-- ---- required keys

abbrev pub Has : Key → Fields → Type 0
Has Device f = IsSome f.device
Has Number f = IsSome f.number
Has Model f = IsSome f.model
Has Person f = IsSome f.person
Has Fault f = IsSome f.fault
Has Role f = IsSome f.role
Has Owners f = IsSome f.owners
Has Persons f = IsSome f.persons
Has Priority f = IsSome f.priority
Has Until f = IsSome f.until
Has For f = IsSome f.period
Has OneEnd f = ⊥
Has ActivateAt f = IsSome f.activate_at
Has Text f = IsSome f.text
Has Sub f = IsSome f.sub
Has Input f = IsSome f.input
Has Output f = IsSome f.output
Has SomeOutput f = IsSome f.some_output

abbrev pub HasIf : Bool → Key → Fields → Type 0
HasIf true key f = Has key f
HasIf false key f = Unit {0}

-- the required keys have a value
abbrev pub HasAll : List (Key × Bool) → Fields → Type 0
HasAll [] f = Unit {0}
HasAll (row ∷ rows) f = HasIf row.1 row.0 f × HasAll rows f
