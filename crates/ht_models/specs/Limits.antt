-- How much a model may hold.
use Rattle.std.specs.Prelude.{ℕ, Bool, true, false, ◌||◌, nat_lt, List, length}
use Rattle.std.specs.List.{count_by, list_any}
use Rattle.ht_base.specs.declared.limits.TheConstants.{LARGEST_TREE, MOST_DEADLINES, MOST_ESCALATIONS, MOST_PARTS, MOST_SUBS}
use Rattle.ht_entries.specs.declared.deadlines.DeadlineKind.{DeadlineKind}
use Rattle.ht_entries.specs.declared.deadlines.DeadlineKind.TheVariants.{Start, Completion}
use Rattle.ht_entries.specs.ModelEntries.{ModelEntry}
use Rattle.ht_models.specs.SubTrees.{is_too_deep, size_of}

abbrev pub has_more : {A : Type 0} → ℕ → List A → Bool
has_more most items = nat_lt most (length items)

abbrev pub is_start : DeadlineKind → Bool
is_start Start = true
is_start Completion = false

abbrev pub is_completion : DeadlineKind → Bool
is_completion Start = false
is_completion Completion = true

-- more input parts, output parts, sub entries, deadlines of a kind or escalations of one than there may be
abbrev pub holds_too_much : ModelEntry → Bool
holds_too_much m =
    has_more MOST_PARTS m.input
    || has_more MOST_PARTS m.output
    || has_more MOST_SUBS m.subs
    || nat_lt MOST_DEADLINES (count_by (λ d. is_start d.kind) m.deadlines)
    || nat_lt MOST_DEADLINES (count_by (λ d. is_completion d.kind) m.deadlines)
    || list_any (λ d. has_more MOST_ESCALATIONS d.escalations) m.deadlines

-- its tree has more levels or more tasks than it may have
abbrev pub has_too_large_tree : List ModelEntry → ℕ → Bool
has_too_large_tree t place = is_too_deep t place || nat_lt LARGEST_TREE (size_of t place)
