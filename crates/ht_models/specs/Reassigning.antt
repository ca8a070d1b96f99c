-- Which models have escalations that reassign a task (WS-HumanTask 1.1, 4.9), told of the models that
-- were read.
use Rattle.std.specs.Prelude.{◌≡◌, ℕ, false, All, List, Some, None, slice_get}
use Rattle.ht_models.specs.Model.{ModelOf}

-- one whose tasks need no owner gives them to nobody
abbrev pub ReassignsOwned : ModelOf → Type 0
ReassignsOwned m = m.owner_required ≡ false → All (λ d. All (λ e. e.reassign ≡ None) d.escalations) m.deadlines

abbrev pub ReassignOwned : List ModelOf → Type 0
ReassignOwned models = (place : ℕ) (m : ModelOf) → slice_get models place ≡ Some m → ReassignsOwned m
