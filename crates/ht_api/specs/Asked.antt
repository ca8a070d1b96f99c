-- The operations on a task by their names in paths.
use Rattle.std.specs.Prelude.{ℕ, List, [], ◌∷◌, Option, Some, None, bytes_eq, codes, if◌then◌else◌}
use Rattle.ht_api.specs.declared.asked.Asked.{Asked}
use Rattle.ht_api.specs.declared.asked.Asked.TheVariants as asked

abbrev pub operations : List (List ℕ × Asked)
operations =
    (codes "claim", asked.Claim)
    ∷ (codes "start", asked.Start)
    ∷ (codes "stop", asked.Stop)
    ∷ (codes "release", asked.Release)
    ∷ (codes "delegate", asked.Delegate)
    ∷ (codes "forward", asked.Forward)
    ∷ (codes "nominate", asked.Nominate)
    ∷ (codes "activate", asked.Activate)
    ∷ (codes "setRole", asked.SetRole)
    ∷ (codes "setPriority", asked.SetPriority)
    ∷ (codes "suspend", asked.Suspend)
    ∷ (codes "suspendUntil", asked.SuspendUntil)
    ∷ (codes "resume", asked.Resume)
    ∷ (codes "setOutput", asked.SetOutput)
    ∷ (codes "complete", asked.Complete)
    ∷ (codes "fail", asked.Fail)
    ∷ (codes "skip", asked.Skip)
    ∷ (codes "exit", asked.Exit)
    ∷ (codes "error", asked.Error)
    ∷ (codes "addComment", asked.AddComment)
    ∷ (codes "instantiateSubTask", asked.InstantiateSubTask)
    ∷ []

-- the first of this name
abbrev pub named_in : List (List ℕ × Asked) → List ℕ → Option Asked
named_in [] name = None
named_in (row ∷ rows) name = if bytes_eq name row.0 then Some row.1 else named_in rows name

abbrev pub asked_in : List ℕ → Option Asked
asked_in name = named_in operations name
