-- Worked examples of the definitions. A wrong reading of one fails the check.
use Rattle.std.specs.Prelude.{◌≡◌, refl, ℕ, true, false, List, [], ◌∷◌, map, Option, Some, None, codes}
use Rattle.std.specs.declared.cmp.Ordering.TheVariants.{Less}
use Rattle.ht_base.specs.declared.query.Which.{Which}
use Rattle.ht_base.specs.declared.query.Which.TheVariants as which
use Rattle.ht_base.specs.declared.role.Role.{Role}
use Rattle.ht_base.specs.declared.role.Role.TheVariants as role
use Rattle.ht_base.specs.declared.role.Roles.{Roles}
use Rattle.ht_base.specs.declared.state.State.TheVariants.{Completed, Created, Error, Exited, Failed, InProgress, Obsolete, Ready, Reserved, SuspendedReady}
use Rattle.ht_finding.specs.Examples.{office}
use Rattle.ht_lists.specs.Lists.{compare_rows, is_in_role, is_shown, notice_page_of, page_of, part_of, tasks_of}
use Rattle.ht_lists.specs.Sorted.{sorted_by}
use Rattle.ht_tree.specs.declared.notice.Notice.{Notice}
use Rattle.ht_tree.specs.declared.row.Row.{Row}
use Rattle.ht_tree.specs.Creating.{new_row}
use Rattle.ht_tree.specs.Examples.{unit}
use Rattle.ht_tree.specs.Tables.{TablesOf, empty_tables}

-- ---- in which order

abbrev nothing_yet : TablesOf
nothing_yet = empty_tables (unit ∷ []) office

-- a task of dan's, whose potential owners are anna and ben, and its administrator cora
abbrev first : Row
first = new_row nothing_yet unit 0 None 3 [] None (record { 0 = 1000 })

abbrev task_of : ℕ → ℕ → ℕ → Row
task_of number priority moment = record first { task = record { 0 = number }; priority = priority; created = record { 0 = moment } }

-- 0 is the highest priority, whatever the moment and the number
by_priority : compare_rows (task_of 2 0 9000) (task_of 1 5 1000) ≡ Less
by_priority = refl

-- of one priority the older, whatever the number
by_age : compare_rows (task_of 2 5 1000) (task_of 1 5 2000) ≡ Less
by_age = refl

by_number : compare_rows (task_of 1 5 1000) (task_of 2 5 1000) ≡ Less
by_number = refl

abbrev numbers : List Row → List ℕ
numbers rows = map (λ r. r.task.0) rows

in_order : numbers (sorted_by compare_rows (task_of 1 5 1000 ∷ task_of 2 5 2000 ∷ task_of 3 5 1000 ∷ task_of 4 10 500 ∷ task_of 5 0 9000 ∷ [])) ≡ 5 ∷ 1 ∷ 3 ∷ 2 ∷ 4 ∷ []
in_order = refl

-- ---- a part of a list

two_behind_one : part_of {A = ℕ} 1 2 (5 ∷ 1 ∷ 3 ∷ 2 ∷ []) ≡ 1 ∷ 3 ∷ []
two_behind_one = refl

fewer_than_asked : part_of {A = ℕ} 3 2 (5 ∷ 1 ∷ 3 ∷ 2 ∷ []) ≡ 2 ∷ []
fewer_than_asked = refl

none_behind_the_last : part_of {A = ℕ} 4 2 (5 ∷ 1 ∷ 3 ∷ 2 ∷ []) ≡ []
none_behind_the_last = refl

-- ---- which tasks

abbrev no_role : Roles
no_role = record { initiator = false; stakeholder = false; potential_owner = false; actual_owner = false; administrator = false; operator = false }

-- who only operates the server has no generic human role in a task
not_by_operating : is_in_role None (record no_role { operator = true }) ≡ false
not_by_operating = refl

by_any_role : map (is_in_role None) (record no_role { initiator = true } ∷ record no_role { stakeholder = true } ∷ record no_role { potential_owner = true } ∷ record no_role { actual_owner = true } ∷ record no_role { administrator = true } ∷ no_role ∷ []) ≡ true ∷ true ∷ true ∷ true ∷ true ∷ false ∷ []
by_any_role = refl

-- an actual owner may be no potential owner
an_owner_alone : is_in_role (Some role.PotentialOwner) (record no_role { actual_owner = true }) ≡ false
an_owner_alone = refl

-- a potential owner of another's task
of_another : is_in_role (Some role.ActualOwner) (record no_role { potential_owner = true }) ≡ false
of_another = refl

-- live are those that haven't ended
the_live : map (is_shown which.Live) (Created ∷ Ready ∷ Reserved ∷ InProgress ∷ SuspendedReady ∷ Completed ∷ Failed ∷ Error ∷ Exited ∷ Obsolete ∷ []) ≡ true ∷ true ∷ true ∷ true ∷ true ∷ false ∷ false ∷ false ∷ false ∷ false ∷ []
the_live = refl

-- a suspended task isn't in the state that it had
the_ready : map (is_shown (which.Only Ready)) (Ready ∷ SuspendedReady ∷ Completed ∷ []) ≡ true ∷ false ∷ false ∷ []
the_ready = refl

-- ---- a person's tasks

-- three of dan's, of which anna has claimed the first and completed the second
abbrev three : TablesOf
three = record nothing_yet { rows = record first { state = Reserved; owner = Some 0 } ∷ record (task_of 2 5 2000) { state = Completed; last_owner = Some 0 } ∷ record (task_of 3 0 3000) { state = Ready } ∷ [] }

abbrev asked : ℕ → Option Role → Which → List ℕ
asked person role which = numbers (tasks_of three person role which)

live_of_ben : asked 1 None which.Live ≡ 3 ∷ 1 ∷ []
live_of_ben = refl

all_of_ben : asked 1 (Some role.PotentialOwner) which.All ≡ 3 ∷ 1 ∷ 2 ∷ []
all_of_ben = refl

-- who has owned a task owns it no more
owned_by_anna : asked 0 (Some role.ActualOwner) which.All ≡ 1 ∷ []
owned_by_anna = refl

ready_of_dan : asked 3 (Some role.Initiator) (which.Only Ready) ≡ 3 ∷ []
ready_of_dan = refl

-- root operates the server, and has no role in them
none_of_root : asked 4 None which.All ≡ []
none_of_root = refl

-- the whole list is counted, whatever is passed over
a_page : page_of three 1 None which.Live 1 1 ≡ record { rows = record { created = record { 0 = 1000 }; model = codes "unit"; owner = Some (codes "anna"); priority = 5; state = Reserved; task = record { 0 = 1 } } ∷ []; total = 2 }
a_page = refl

past_the_end : page_of three 1 None which.Live 7 1 ≡ record { rows = []; total = 2 }
past_the_end = refl

-- ---- notifications

abbrev told : List ℕ → ℕ → Notice
told recipients moment = record { task = record { 0 = 1 }; deadline = codes "two"; escalation = codes "tell"; moment = record { 0 = moment }; recipients = recipients }

abbrev sent : TablesOf
sent = record nothing_yet { notices = told (2 ∷ []) 6000 ∷ told (2 ∷ 3 ∷ []) 11000 ∷ [] }

-- each has the number that it has among all
told_to_dan : notice_page_of sent 3 0 10 ≡ record { rows = record { deadline = codes "two"; escalation = codes "tell"; moment = record { 0 = 11000 }; number = 2; task = record { 0 = 1 } } ∷ []; total = 1 }
told_to_dan = refl

the_second_of_cora : notice_page_of sent 2 1 10 ≡ record { rows = record { deadline = codes "two"; escalation = codes "tell"; moment = record { 0 = 11000 }; number = 2; task = record { 0 = 1 } } ∷ []; total = 2 }
the_second_of_cora = refl

none_of_anna : notice_page_of sent 0 0 10 ≡ record { rows = []; total = 0 }
none_of_anna = refl
