-- What an entry of a models text says: a task model with all that is written of it. Assignments and
-- conditions are texts here, which are read behind this.
use Rattle.std.specs.Prelude.{ℕ, Bool, true, false, not, List, [], ◌∷◌, Option, Some, None, codes, is_some, option_map}
use Rattle.std.specs.Option.{option_and_then}
use Rattle.toml.specs.Data.{Data, Members, as_bool, as_str, as_table}
use Rattle.ht_toml.specs.Keys.{◌also◌, keyed, optional, otherwise, required, under}
use Rattle.ht_toml.specs.Values.{list_of, named, word_of}
use Rattle.ht_entries.specs.declared.choices.Composition.{Composition}
use Rattle.ht_entries.specs.declared.choices.Composition.TheVariants.{Sequential, Parallel}
use Rattle.ht_entries.specs.declared.choices.Delegation.{Delegation}
use Rattle.ht_entries.specs.declared.choices.Delegation.TheVariants.{Anybody, Nobody, PotentialOwners, Other}
use Rattle.ht_entries.specs.declared.choices.Trigger.{Trigger}
use Rattle.ht_entries.specs.declared.choices.Trigger.TheVariants.{Manual, Automatic}
use Rattle.ht_entries.specs.Deadlines.{DeadlineText, deadline_of}
use Rattle.ht_entries.specs.Finishes.{FinishText, finish_of}
use Rattle.ht_entries.specs.Parts.{Part, part_of}
use Rattle.ht_entries.specs.SubEntries.{SubEntry, sub_of}

-- ---- the words of some keys

-- to whom an owner may delegate a task (WS-HumanTask 1.1, "potentialDelegatees")
abbrev pub delegations : List (List ℕ × Delegation)
delegations =
    (codes "anybody", Anybody) ∷ (codes "nobody", Nobody)
    ∷ (codes "potentialOwners", PotentialOwners) ∷ (codes "other", Other) ∷ []

-- whether sub tasks come one behind another or all at once (WS-HumanTask 1.1, 3.2)
abbrev pub compositions : List (List ℕ × Composition)
compositions = (codes "sequential", Sequential) ∷ (codes "parallel", Parallel) ∷ []

-- whether it is done by the owner, or follows
abbrev pub triggers : List (List ℕ × Trigger)
triggers = (codes "manual", Manual) ∷ (codes "automatic", Automatic) ∷ []

-- ---- a model

-- What may be missing and has no value of its own then is None. So is a delegation that isn't given,
-- though anybody is meant, since a model without owners may give none.
pub record ModelEntry : Type 0 where
  pub name : List ℕ
  pub priority : Option (List ℕ)
  pub skipable : Bool
  pub owner_required : Bool
  pub delegation : Option Delegation
  pub delegatees : Option (List ℕ)
  pub potential_owners : Option (List ℕ)
  pub excluded_owners : Option (List ℕ)
  pub administrators : Option (List ℕ)
  pub stakeholders : Option (List ℕ)
  pub composition : Composition
  pub instantiation : Trigger
  pub completion : Trigger
  pub input : List Part
  pub output : List Part
  pub subs : List SubEntry
  pub deadlines : List DeadlineText
  pub finishes : List FinishText

-- It is read in four parts, of which each has some of its keys.

-- which task it is, and whose
pub record Heading : Type 0 where
  pub name : List ℕ
  pub priority : Option (List ℕ)
  pub skipable : Bool
  pub owner_required : Bool
  pub delegation : Option Delegation
  pub delegatees : Option (List ℕ)

abbrev pub heading : List ℕ → Option (List ℕ) → Bool → Bool → Option Delegation → Option (List ℕ) → Heading
heading name priority skipable owner_required delegation delegatees = record {
  name = name;
  priority = priority;
  skipable = skipable;
  owner_required = owner_required;
  delegation = delegation;
  delegatees = delegatees;
}

abbrev pub heading_in : Members → Option Heading
heading_in ms =
    option_map heading (required named (codes "name") ms)
    also optional as_str (codes "priority") ms
    also otherwise false as_bool (codes "skipable") ms
    also otherwise true as_bool (codes "ownerRequired") ms
    also optional (word_of delegations) (codes "delegation") ms
    also optional as_str (codes "delegatees") ms

-- who has to do with it
pub record RoleTexts : Type 0 where
  pub potential_owners : Option (List ℕ)
  pub excluded_owners : Option (List ℕ)
  pub administrators : Option (List ℕ)
  pub stakeholders : Option (List ℕ)

abbrev pub role_texts : Option (List ℕ) → Option (List ℕ) → Option (List ℕ) → Option (List ℕ) → RoleTexts
role_texts potential_owners excluded_owners administrators stakeholders = record {
  potential_owners = potential_owners;
  excluded_owners = excluded_owners;
  administrators = administrators;
  stakeholders = stakeholders;
}

abbrev pub roles_in : Members → Option RoleTexts
roles_in ms =
    option_map role_texts (optional as_str (codes "potentialOwners") ms)
    also optional as_str (codes "excludedOwners") ms
    also optional as_str (codes "administrators") ms
    also optional as_str (codes "stakeholders") ms

-- its sub tasks, and when it ends by them
pub record SubTexts : Type 0 where
  pub composition : Composition
  pub instantiation : Trigger
  pub completion : Trigger
  pub subs : List SubEntry
  pub finishes : List FinishText

abbrev pub sub_texts : Composition → Trigger → Trigger → List SubEntry → List FinishText → SubTexts
sub_texts composition instantiation completion subs finishes = record {
  composition = composition;
  instantiation = instantiation;
  completion = completion;
  subs = subs;
  finishes = finishes;
}

abbrev pub subs_in : Members → Option SubTexts
subs_in ms =
    option_map sub_texts (otherwise Sequential (word_of compositions) (codes "composition") ms)
    also otherwise Manual (word_of triggers) (codes "instantiation") ms
    also otherwise Manual (word_of triggers) (codes "completion") ms
    also otherwise [] (list_of sub_of) (codes "sub") ms
    also otherwise [] (list_of finish_of) (codes "finish") ms

-- what it is given, what it gives, and what is due
pub record DataTexts : Type 0 where
  pub input : List Part
  pub output : List Part
  pub deadlines : List DeadlineText

abbrev pub data_texts : List Part → List Part → List DeadlineText → DataTexts
data_texts input output deadlines = record { input = input; output = output; deadlines = deadlines }

abbrev pub data_in : Members → Option DataTexts
data_in ms =
    option_map data_texts (otherwise [] (list_of part_of) (codes "input") ms)
    also otherwise [] (list_of part_of) (codes "output") ms
    also otherwise [] (list_of deadline_of) (codes "deadline") ms

abbrev pub model_entry : Heading → RoleTexts → SubTexts → DataTexts → ModelEntry
model_entry h r s d = record {
  name = h.name;
  priority = h.priority;
  skipable = h.skipable;
  owner_required = h.owner_required;
  delegation = h.delegation;
  delegatees = h.delegatees;
  potential_owners = r.potential_owners;
  excluded_owners = r.excluded_owners;
  administrators = r.administrators;
  stakeholders = r.stakeholders;
  composition = s.composition;
  instantiation = s.instantiation;
  completion = s.completion;
  input = d.input;
  output = d.output;
  subs = s.subs;
  deadlines = d.deadlines;
  finishes = s.finishes;
}

abbrev pub entry_keys : List (List ℕ)
entry_keys =
    codes "name" ∷ codes "priority" ∷ codes "skipable" ∷ codes "ownerRequired" ∷ codes "delegation" ∷ codes "delegatees"
    ∷ codes "potentialOwners" ∷ codes "excludedOwners" ∷ codes "administrators" ∷ codes "stakeholders"
    ∷ codes "composition" ∷ codes "instantiation" ∷ codes "completion"
    ∷ codes "input" ∷ codes "output" ∷ codes "sub" ∷ codes "deadline" ∷ codes "finish" ∷ []

abbrev pub entry_values : Members → Option ModelEntry
entry_values ms = option_map model_entry (heading_in ms) also roles_in ms also subs_in ms also data_in ms

-- delegatees are given exactly with the delegation other
abbrev pub is_other : Option Delegation → Bool
is_other None = false
is_other (Some Anybody) = false
is_other (Some Nobody) = false
is_other (Some PotentialOwners) = false
is_other (Some Other) = true

abbrev pub same : Bool → Bool → Bool
same true b = b
same false b = not b

abbrev pub has_its_delegatees : ModelEntry → Bool
has_its_delegatees m = same (is_other m.delegation) (is_some m.delegatees)

abbrev pub entry_in : Members → Option ModelEntry
entry_in ms = under has_its_delegatees (keyed entry_keys entry_values ms)

abbrev pub entry_of : Data → Option ModelEntry
entry_of d = option_and_then entry_in (as_table d)
