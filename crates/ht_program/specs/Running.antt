-- What a run does to a connection and to its office.
use Rattle.std.specs.Prelude.{◌≡◌, ◌≢◌, ◌⊎◌, ℕ, false, List, [], ◌∷◌, ◌++◌, None, Option, Some}
use Rattle.std.specs.List.{AllByRecursion}
use Rattle.ht_outside.specs.Causes.{Rose}
use Rattle.ht_outside.specs.Tells.{SourceState, SinkState, Grows}
use Rattle.ht_desk.specs.States.{State}
use Rattle.ht_desk.specs.Steps.{Steps, store_reply}
use Rattle.ht_serve.specs.declared.ending.Ending.{Ending}
use Rattle.ht_serve.specs.declared.ending.Ending.TheVariants.{Done, Wire, Budget, ReadFault, WriteFault, Memory}
use Rattle.ht_serve.specs.Calls.{Call, StepsMade}
use Rattle.ht_serve.specs.Exchanges.{Exchange, status_of}
use Rattle.ht_serve.specs.Serving.{Served, sides}
use Rattle.ht_program.specs.Folding.{Decided, IsOutput, office_of}

-- what the two ends of a connection tell
pub record Streams : Type 0 where
  pub input : SourceState
  pub output : SinkState

abbrev pub streams : SourceState → SinkState → Streams
streams input output = record { input = input; output = output }

-- a run ended without a fault, and without want of memory
abbrev pub IsSettled : Ending → Type 0
IsSettled Done = Unit {0}
IsSettled (Wire code) = Unit {0}
IsSettled Budget = Unit {0}
IsSettled ReadFault = ⊥
IsSettled WriteFault = ⊥
IsSettled Memory = ⊥

-- no reply tells want of memory, whose status is 500, or that a disk failed, whose status is 503
abbrev pub AreDecided : List Exchange → Type 0
AreDecided [] = Unit {0}
AreDecided (x ∷ xs) = (status_of x.outcome ≢ 500) × (status_of x.outcome ≢ 503) × AreDecided xs

-- A connection was served to its ending, at these moments, by a durable office that went from one state to another. No
-- request was turned away.
pub record Ran (moment : ℕ → ℕ) (most : ℕ) (s t : State) (old new : Streams) (ending : Ending) : Type 0 where
  pub clock : Option (ℕ → ℕ)
  pub served : Served (StepsMade Steps s t) ⊥ false most 0 (sides old.input old.output (Some moment)) (sides new.input new.output clock) [] ending
  -- without a fault, and with memory for each reply, what was written is a function of the bytes read and of the office
  pub written : s.doubt ≡ None → IsSettled ending → AreDecided served.exchanges
      → (out : List ℕ) × IsOutput (Decided s.limit) moment most (office_of s) served.taken out × Grows old.output.written new.output.written out

-- no reply of these calls tells that a disk failed
abbrev pub NoneFailed : List Call → Type 0
NoneFailed made = AllByRecursion (λ c. (c.reply).answer ≢ store_reply.answer) made

-- the line was written, wholly unless the count of faults rose
pub record Complains (old new : SinkState) (line : List ℕ) : Type 0 where
  pub front : List ℕ
  pub rest : List ℕ
  pub line_is : line ≡ front ++ rest
  pub wrote : Grows old.written new.written front
  pub whole : (rest ≡ []) ⊎ Rose old.faults new.faults
