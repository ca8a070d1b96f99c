-- Worked examples of the definitions. A wrong reading of one fails the check.
use Rattle.std.specs.Prelude.{◌≡◌, refl, ℕ, List, [], ◌∷◌, ◌++◌, Some, None, codes}
use Rattle.std.specs.Fmt.{digits}
use Rattle.csv.specs.Writing.{default_writer, fields_text, is_blank, row_text}
use Rattle.ht_base.specs.declared.state.State.TheVariants.{Completed, Reserved}
use Rattle.ht_export.specs.Dates.{date_of}
use Rattle.ht_export.specs.Lines.{export_text, head_line, line}
use Rattle.ht_export.specs.Moments.{moment_text}
use Rattle.ht_finding.specs.Examples.{office}
use Rattle.ht_tree.specs.declared.row.Row.{Row}
use Rattle.ht_tree.specs.Creating.{new_row}
use Rattle.ht_tree.specs.Examples.{unit}
use Rattle.ht_tree.specs.Tables.{TablesOf, empty_tables}

-- ---- moments

the_first : moment_text 0 ≡ codes "1970-01-01T00:00:00.000Z"
unfolding date_of
the_first = refl

in_a_leap_year : moment_text 1709210096789 ≡ codes "2024-02-29T12:34:56.789Z"
unfolding date_of
in_a_leap_year = refl

the_day_behind : moment_text 1709251200000 ≡ codes "2024-03-01T00:00:00.000Z"
unfolding date_of
the_day_behind = refl

-- 2100 is no leap year
in_a_hundredth_year : moment_text 4107542400000 ≡ codes "2100-03-01T00:00:00.000Z"
unfolding date_of
in_a_hundredth_year = refl

the_last : moment_text 253402300799999 ≡ codes "9999-12-31T23:59:59.999Z"
unfolding date_of
the_last = refl

-- ---- lines

abbrev nothing_yet : TablesOf
nothing_yet = empty_tables (unit ∷ []) office

-- a task of dan's
abbrev first : Row
first = new_row nothing_yet unit 0 None 3 [] None (record { 0 = 1000 })

without_parent_and_owner : line nothing_yet first ≡ codes "1,,unit,Created,,,dan,5,1970-01-01T00:00:01.000Z\n"
unfolding line date_of fields_text is_blank digits
without_parent_and_owner = refl

-- a sub task that anna has claimed
abbrev second : Row
second = record first { task = record { 0 = 2 }; parent = Some (record { 0 = 1 }, 0); state = Reserved; owner = Some 0; priority = 0; created = record { 0 = 1709210096789 } }

with_parent_and_owner : line nothing_yet second ≡ codes "2,1,unit,Reserved,anna,,dan,0,2024-02-29T12:34:56.789Z\n"
unfolding line date_of fields_text is_blank digits
with_parent_and_owner = refl

-- one that ben has completed
abbrev third : Row
third = record first { task = record { 0 = 3 }; state = Completed; last_owner = Some 1; priority = 10; created = record { 0 = 86399999 } }

with_last_owner : line nothing_yet third ≡ codes "3,,unit,Completed,,ben,dan,10,1970-01-01T23:59:59.999Z\n"
unfolding line date_of fields_text is_blank digits
with_last_owner = refl

-- ---- the text

-- its head line is the record of these words
abbrev columns : List (List ℕ)
columns = codes "task" ∷ codes "parent" ∷ codes "model" ∷ codes "state" ∷ codes "owner" ∷ codes "lastOwner" ∷ codes "initiator" ∷ codes "priority" ∷ codes "created" ∷ []

the_head_line : row_text default_writer columns ≡ head_line
unfolding fields_text is_blank
the_head_line = refl

of_no_tasks : export_text nothing_yet ≡ codes "task,parent,model,state,owner,lastOwner,initiator,priority,created\n"
of_no_tasks = refl

of_two_tasks : export_text (record nothing_yet { rows = first ∷ second ∷ [] }) ≡ head_line ++ codes "1,,unit,Created,,,dan,5,1970-01-01T00:00:01.000Z\n2,1,unit,Reserved,anna,,dan,0,2024-02-29T12:34:56.789Z\n"
unfolding line date_of fields_text is_blank digits
of_two_tasks = refl
