-- The deadlines of a model and their escalations (WS-HumanTask 1.1, 4.9).
use Rattle.std.specs.Prelude.{ℕ, Bool, List, [], ◌∷◌, Option, codes, is_some, option_map}
use Rattle.std.specs.Option.{option_and_then}
use Rattle.toml.specs.Data.{Data, Members, as_str, as_table}
use Rattle.ht_base.specs.declared.moment.Moment.{Moment}
use Rattle.ht_toml.specs.Keys.{◌also◌, exactly_one, keyed, optional, otherwise, required, under}
use Rattle.ht_toml.specs.Values.{list_of, word_of}
use Rattle.ht_entries.specs.declared.deadlines.DeadlineKind.{DeadlineKind}
use Rattle.ht_entries.specs.declared.deadlines.DeadlineKind.TheVariants.{Start, Completion}
use Rattle.ht_entries.specs.Labels.{label_of}
use Rattle.ht_entries.specs.Times.{instant_of, period_of}

-- ---- an escalation

-- when it is triggered, which is always where no condition is given; and whom it tells or gives the
-- task to, of which one assignment is given
pub record EscalationText : Type 0 where
  pub name : List ℕ
  pub when : Option (List ℕ)
  pub notify : Option (List ℕ)
  pub reassign : Option (List ℕ)

abbrev pub escalation_text : List ℕ → Option (List ℕ) → Option (List ℕ) → Option (List ℕ) → EscalationText
escalation_text name when notify reassign = record { name = name; when = when; notify = notify; reassign = reassign }

abbrev pub escalation_keys : List (List ℕ)
escalation_keys = codes "name" ∷ codes "when" ∷ codes "notify" ∷ codes "reassign" ∷ []

abbrev pub escalation_values : Members → Option EscalationText
escalation_values ms =
    option_map escalation_text (required label_of (codes "name") ms)
    also optional as_str (codes "when") ms
    also optional as_str (codes "notify") ms
    also optional as_str (codes "reassign") ms

-- exactly one of notify and reassign
abbrev pub has_one_effect : EscalationText → Bool
has_one_effect e = exactly_one (is_some e.notify ∷ is_some e.reassign ∷ [])

abbrev pub escalation_in : Members → Option EscalationText
escalation_in ms = under has_one_effect (keyed escalation_keys escalation_values ms)

abbrev pub escalation_of : Data → Option EscalationText
escalation_of d = option_and_then escalation_in (as_table d)

-- ---- a deadline

-- whether it is one of starting or of completing, and its end: so many milliseconds after the
-- creation of the task, or a moment, or what an input part says
pub record DeadlineText : Type 0 where
  pub name : List ℕ
  pub kind : DeadlineKind
  pub period : Option ℕ
  pub at : Option Moment
  pub part : Option (List ℕ)
  pub escalations : List EscalationText

abbrev pub deadline_text : List ℕ → DeadlineKind → Option ℕ → Option Moment → Option (List ℕ) → List EscalationText → DeadlineText
deadline_text name kind period at part escalations = record {
  name = name;
  kind = kind;
  period = period;
  at = at;
  part = part;
  escalations = escalations;
}

abbrev pub deadline_kinds : List (List ℕ × DeadlineKind)
deadline_kinds = (codes "start", Start) ∷ (codes "completion", Completion) ∷ []

abbrev pub deadline_keys : List (List ℕ)
deadline_keys =
    codes "name" ∷ codes "kind" ∷ codes "for" ∷ codes "at" ∷ codes "part" ∷ codes "escalation" ∷ []

abbrev pub deadline_values : Members → Option DeadlineText
deadline_values ms =
    option_map deadline_text (required label_of (codes "name") ms)
    also required (word_of deadline_kinds) (codes "kind") ms
    also optional period_of (codes "for") ms
    also optional instant_of (codes "at") ms
    also optional label_of (codes "part") ms
    also otherwise [] (list_of escalation_of) (codes "escalation") ms

-- exactly one of for, at and part
abbrev pub has_one_end : DeadlineText → Bool
has_one_end d = exactly_one (is_some d.period ∷ is_some d.at ∷ is_some d.part ∷ [])

abbrev pub deadline_in : Members → Option DeadlineText
deadline_in ms = under has_one_end (keyed deadline_keys deadline_values ms)

abbrev pub deadline_of : Data → Option DeadlineText
deadline_of d = option_and_then deadline_in (as_table d)
