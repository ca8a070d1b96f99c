-- The JSON of each answer (RFC 8259), whose text has no space and the keys in byte order.
use Rattle.std.specs.Prelude.{ℕ, ◌≤◌, List, [], ◌∷◌, ◌++◌, length, Option, Some, None, codes}
use Rattle.serde_json.specs.Data.{Data, boolean, string}
use Rattle.serde_json.specs.Written.{compact_text}
use Rattle.ht_base.specs.declared.limits.TheConstants.{LONGEST_NAME}
use Rattle.ht_base.specs.declared.reply.Answer.{Answer}
use Rattle.ht_base.specs.declared.reply.Answer.TheVariants.{Done, Turned, Sheet, Page, Notices, Refused}
use Rattle.ht_base.specs.declared.reply.Limit.{Limit}
use Rattle.ht_base.specs.declared.reply.Limit.TheVariants.{Tasks, Comments, Journal}
use Rattle.ht_base.specs.declared.reply.Refusal.{Refusal}
use Rattle.ht_base.specs.declared.reply.Refusal.TheVariants as refusal
use Rattle.ht_base.specs.declared.reply.Unknown.TheVariants as unknown
use Rattle.ht_base.specs.declared.sheet.Sheet.{Sheet as TaskSheet}
use Rattle.ht_base.specs.State.{state_name}
use Rattle.ht_api.specs.Contents.{comments_data, list_data, moment_or_null, name_or_null, names, notice_items, page_items, part_rows, roles_data, row_object, states_data, task_or_null, tasks_data, whole}

-- ---- refusals

abbrev pub fault : List ℕ → List (List ℕ × Data) → Data
fault name rest = row_object ((codes "fault", string name) ∷ rest)

-- which names something
abbrev pub named_fault : List ℕ → List ℕ → List ℕ → Data
named_fault name key what = fault name ((key, string what) ∷ [])

-- which tells a number
abbrev pub counted_fault : List ℕ → List ℕ → ℕ → Data
counted_fault name key number = fault name ((key, whole number) ∷ [])

abbrev pub limit_name : Limit → List ℕ
limit_name Tasks = codes "tasks"
limit_name Comments = codes "comments"
limit_name Journal = codes "journal"

abbrev pub refusal_data : Refusal → Data
refusal_data refusal.Head = fault (codes "Head") []
refusal_data refusal.Fields = fault (codes "Fields") []
refusal_data refusal.Coding = fault (codes "Coding") []
refusal_data refusal.Body = fault (codes "Body") []
refusal_data refusal.Route = fault (codes "Route") []
refusal_data refusal.Method = fault (codes "Method") []
refusal_data refusal.Json = fault (codes "Json") []
refusal_data (refusal.Field key) = named_fault (codes "Field") (codes "field") key
refusal_data refusal.Person = fault (codes "Person") []
refusal_data (refusal.NumberStale last) = counted_fault (codes "NumberStale") (codes "last") last
refusal_data (refusal.NumberReused last) = counted_fault (codes "NumberReused") (codes "last") last
refusal_data (refusal.Task task) = counted_fault (codes "Task") (codes "task") task.0
refusal_data (refusal.Role needs) = fault (codes "Role") ((codes "needs", roles_data needs) ∷ [])
refusal_data (refusal.State allowed state) =
    row_object ((codes "allowed", states_data allowed) ∷ (codes "fault", string (codes "State")) ∷ (codes "state", string (state_name state)) ∷ [])
refusal_data (refusal.Unknown (unknown.Model name)) = named_fault (codes "Unknown") (codes "model") name
refusal_data (refusal.Unknown (unknown.Person name)) = named_fault (codes "Unknown") (codes "person") name
refusal_data (refusal.PartRefused part) = named_fault (codes "PartRefused") (codes "part") part
refusal_data refusal.Ownerless = fault (codes "Ownerless") []
refusal_data refusal.ByGroup = fault (codes "ByGroup") []
refusal_data (refusal.Excluded person) = named_fault (codes "Excluded") (codes "person") person
refusal_data (refusal.NotDelegatee person) = named_fault (codes "NotDelegatee") (codes "person") person
refusal_data refusal.NoOwners = fault (codes "NoOwners") []
refusal_data (refusal.NoOutput part) = named_fault (codes "NoOutput") (codes "part") part
refusal_data refusal.NotSkipable = fault (codes "NotSkipable") []
refusal_data refusal.UntilPast = fault (codes "UntilPast") []
refusal_data (refusal.SubRefused sub) = named_fault (codes "SubRefused") (codes "sub") sub
refusal_data (refusal.Limit limit) = named_fault (codes "Limit") (codes "limit") (limit_name limit)
refusal_data refusal.Store = fault (codes "Store") []
refusal_data refusal.Spent = fault (codes "Spent") []
refusal_data refusal.Memory = fault (codes "Memory") []

-- ---- the sheet, in three parts

abbrev pub first_rows : TaskSheet → List (List ℕ × Data)
first_rows s =
    (codes "administrators", names s.administrators)
    ∷ (codes "byGroup", boolean s.by_group)
    ∷ (codes "comments", comments_data s.comments)
    ∷ (codes "created", whole s.created.0)
    ∷ (codes "excludedOwners", names s.excluded_owners)
    ∷ (codes "fault", name_or_null s.fault)
    ∷ (codes "initiator", string s.initiator)
    ∷ []

abbrev pub middle_rows : TaskSheet → List (List ℕ × Data)
middle_rows s =
    (codes "input", row_object (part_rows s.input))
    ∷ (codes "lastOwner", name_or_null s.last_owner)
    ∷ (codes "model", string s.model)
    ∷ (codes "output", row_object (part_rows s.output))
    ∷ (codes "owner", name_or_null s.owner)
    ∷ (codes "parent", task_or_null s.parent)
    ∷ (codes "potentialOwners", names s.potential_owners)
    ∷ []

abbrev pub last_rows : TaskSheet → List (List ℕ × Data)
last_rows s =
    (codes "priority", whole s.priority)
    ∷ (codes "stakeholders", names s.stakeholders)
    ∷ (codes "started", boolean s.started)
    ∷ (codes "state", string (state_name s.state))
    ∷ (codes "subs", tasks_data s.subs)
    ∷ (codes "task", whole s.task.0)
    ∷ (codes "until", moment_or_null s.until)
    ∷ (codes "waits", moment_or_null s.waits)
    ∷ []

unfoldable pub sheet_data : TaskSheet → Data
sheet_data s = row_object (first_rows s ++ (middle_rows s ++ last_rows s))

-- ---- answers

abbrev pub answer_data : Answer → Data
answer_data (Done task state owner) =
    row_object ((codes "owner", name_or_null owner) ∷ (codes "state", string (state_name state)) ∷ (codes "task", whole task.0) ∷ [])
answer_data Turned = row_object []
answer_data (Sheet s) = sheet_data s
answer_data (Page p) = list_data (page_items p.rows) p.total
answer_data (Notices p) = list_data (notice_items p.rows) p.total
answer_data (Refused why) = refusal_data why

abbrev pub answer_text : Answer → List ℕ
answer_text a = compact_text (answer_data a)

-- the answer tells what the tables hold: a sheet, a page or notices
abbrev pub IsTold : Answer → Type 0
IsTold (Done task state owner) = ⊥
IsTold Turned = ⊥
IsTold (Sheet s) = Unit {0}
IsTold (Page p) = Unit {0}
IsTold (Notices p) = Unit {0}
IsTold (Refused why) = ⊥

-- the name, if there is one, is no longer than a name may be
abbrev pub IsShort : Option (List ℕ) → Type 0
IsShort None = Unit {0}
IsShort (Some name) = length name ≤ LONGEST_NAME
