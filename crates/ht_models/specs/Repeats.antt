-- Names that stand twice in a model.
use Rattle.std.specs.Prelude.{ℕ, Bool, false, ◌||◌, List, [], ◌∷◌, map, bytes_eq}
use Rattle.std.specs.List.{list_any}
use Rattle.ht_entries.specs.Deadlines.{DeadlineText}
use Rattle.ht_entries.specs.ModelEntries.{ModelEntry}

-- two of the names are one
abbrev pub has_repeat : List (List ℕ) → Bool
has_repeat [] = false
has_repeat (name ∷ names) = list_any (bytes_eq name) names || has_repeat names

abbrev pub repeats_escalation : DeadlineText → Bool
repeats_escalation d = has_repeat (map (λ e. e.name) d.escalations)

-- two inputs, two outputs, two sub entries, two deadlines, or two escalations of one deadline
abbrev pub repeats_name : ModelEntry → Bool
repeats_name m =
    has_repeat (map (λ p. p.name) m.input)
    || has_repeat (map (λ p. p.name) m.output)
    || has_repeat (map (λ s. s.name) m.subs)
    || has_repeat (map (λ d. d.name) m.deadlines)
    || list_any repeats_escalation m.deadlines
