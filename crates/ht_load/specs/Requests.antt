-- The requests of a load, each of which is made of three numbers.
use Rattle.std.specs.Prelude.{ℕ, ◌+◌, ◌%◌, ◌==◌, ◌||◌, List, [], ◌++◌, Some, None, codes, decimal, if◌then◌else◌}
use Rattle.ht_base.specs.declared.event.Command.{Command}
use Rattle.ht_base.specs.declared.event.Command.TheVariants.{Claim, Complete, Create, Start}
use Rattle.ht_base.specs.declared.event.Event.{Event}
use Rattle.ht_base.specs.declared.event.Event.TheVariants.{Ask}
use Rattle.ht_load.specs.Draws.{drawn, next}

-- one of the sixteen persons of the built-in office
abbrev pub caller_of : ℕ → List ℕ
caller_of b = codes "p" ++ decimal (b % 16)

-- a task of its model
abbrev pub create_unit : Command
create_unit = Create (Some (codes "unit")) [] None

abbrev pub command_of : ℕ → Command
command_of kind = if kind == 1 then Claim else (if kind == 2 then Start else Complete [])

-- A create where there is no task, and else for one number in four; for the others a command on one of the tasks. Request
-- number k is at the moment k.
abbrev pub event_of : ℕ → ℕ → ℕ → ℕ → ℕ → Event
event_of k tasks a b c =
    if (tasks == 0) || (a % 4 == 0) then Ask (record { 0 = k }) (caller_of b) None (record { 0 = 0 }) create_unit
    else Ask (record { 0 = k }) (caller_of b) None (record { 0 = 1 + c % tasks }) (command_of (a % 4))

-- three numbers further
abbrev pub thrice : ℕ → ℕ
thrice x = next (next (next x))

-- request number k, where drawing has come to x and there are so many tasks
abbrev pub request : ℕ → ℕ → ℕ → Event
request x k tasks = event_of k tasks (drawn (next x)) (drawn (next (next x))) (drawn (thrice x))
