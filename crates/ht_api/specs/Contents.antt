-- The members of a reply as JSON.
use Rattle.std.specs.Prelude.{ℕ, ℤ, pos, negsuc, List, [], ◌∷◌, map, filter, codes, Option, Some, None}
use Rattle.std.specs.Borrow.{Bor}
use Rattle.serde_json.specs.Data.{Data, null, boolean, number, string, array, object, unsigned, negative, Items, no_items, item, Members, no_members, member}
use Rattle.ht_base.specs.declared.moment.Moment.{Moment}
use Rattle.ht_base.specs.declared.notice_page.NoticeRow.{NoticeRow}
use Rattle.ht_base.specs.declared.page.PageRow.{PageRow}
use Rattle.ht_base.specs.declared.parts.Parts.{Parts}
use Rattle.ht_base.specs.declared.role.Roles.{Roles}
use Rattle.ht_base.specs.declared.scalar.Scalar.{Scalar}
use Rattle.ht_base.specs.declared.scalar.Scalar.TheVariants as scalar
use Rattle.ht_base.specs.declared.shown_comments.ShownComment.{ShownComment}
use Rattle.ht_base.specs.declared.state.StateSet.{StateSet}
use Rattle.ht_base.specs.declared.task_id.TaskId.{TaskId}
use Rattle.ht_base.specs.Role.{all_roles, contains_role, role_name}
use Rattle.ht_base.specs.State.{all_states, contains_state, state_name}
use Rattle.ht_api.specs.declared.contents.Content.{Content}
use Rattle.ht_api.specs.declared.contents.Content.TheVariants as content

abbrev pub texts : List (List ℕ) → Items
texts [] = no_items
texts (t ∷ ts) = item (string t) (texts ts)

abbrev pub names : List (List ℕ) → Data
names ns = array (texts ns)

abbrev pub whole : ℕ → Data
whole n = number (unsigned n)

abbrev pub name_or_null : Option (List ℕ) → Data
name_or_null None = null
name_or_null (Some name) = string name

abbrev pub task_or_null : Option TaskId → Data
task_or_null None = null
task_or_null (Some task) = whole task.0

abbrev pub task_items : List TaskId → Items
task_items [] = no_items
task_items (t ∷ ts) = item (whole t.0) (task_items ts)

-- the tasks by their numbers
abbrev pub tasks_data : List TaskId → Data
tasks_data ts = array (task_items ts)

abbrev pub moment_or_null : Option Moment → Data
moment_or_null None = null
moment_or_null (Some moment) = whole moment.0

-- the roles of a set by name, in the order in which roles are listed
abbrev pub roles_data : Roles → Data
roles_data set = names (map role_name (filter (contains_role set) all_roles))

-- the states of a set likewise
abbrev pub states_data : StateSet → Data
states_data set = names (map state_name (filter (contains_state set) all_states))

-- an object with these members
abbrev pub members : List (List ℕ × Data) → Members
members [] = no_members
members (r ∷ rs) = member r.0 r.1 (members rs)

abbrev pub row_object : List (List ℕ × Data) → Data
row_object rs = object (members rs)

abbrev pub integer : ℤ → Data
integer (pos n) = whole n
integer (negsuc n) = number (negative (negsuc n))

abbrev pub scalar_data : Scalar → Data
scalar_data (scalar.Text text) = string text
scalar_data (scalar.Int n) = integer n
scalar_data (scalar.Truth b) = boolean b

-- the parts that have a value, by their names
abbrev pub part_rows : Parts → List (List ℕ × Data)
part_rows parts = map (λ p. (p.0, scalar_data p.1)) parts

abbrev pub comment_data : ShownComment → Data
comment_data c = row_object ((codes "moment", whole c.moment.0) ∷ (codes "person", string c.person) ∷ (codes "text", string c.text) ∷ [])

abbrev pub comment_items : List ShownComment → Items
comment_items [] = no_items
comment_items (c ∷ cs) = item (comment_data c) (comment_items cs)

-- the comments in their order
abbrev pub comments_data : List ShownComment → Data
comments_data cs = array (comment_items cs)

-- ---- lists

-- what a list tells of a task
abbrev pub page_row_rows : PageRow → List (List ℕ × Data)
page_row_rows r =
    (codes "created", whole r.created.0)
    ∷ (codes "model", string r.model)
    ∷ (codes "owner", name_or_null r.owner)
    ∷ (codes "priority", whole r.priority)
    ∷ (codes "state", string (state_name r.state))
    ∷ (codes "task", whole r.task.0)
    ∷ []

abbrev pub page_items : List PageRow → Items
page_items [] = no_items
page_items (r ∷ rs) = item (row_object (page_row_rows r)) (page_items rs)

-- what a list tells of a notification
abbrev pub notice_row_rows : NoticeRow → List (List ℕ × Data)
notice_row_rows r =
    (codes "deadline", string r.deadline)
    ∷ (codes "escalation", string r.escalation)
    ∷ (codes "moment", whole r.moment.0)
    ∷ (codes "number", whole r.number)
    ∷ (codes "task", whole r.task.0)
    ∷ []

abbrev pub notice_items : List NoticeRow → Items
notice_items [] = no_items
notice_items (r ∷ rs) = item (row_object (notice_row_rows r)) (notice_items rs)

-- a part of a list, and how many rows the whole list has
abbrev pub list_data : Items → ℕ → Data
list_data rows total = row_object ((codes "rows", array rows) ∷ (codes "total", whole total) ∷ [])

-- ---- as the code has them

abbrev pub content_data : Content → Data
content_data (content.Name name) = string name
content_data (content.MaybeName name) = name_or_null name
content_data (content.Text text) = string text.now
content_data (content.Number n) = whole n
content_data (content.MaybeTask task) = task_or_null task
content_data (content.MaybeMoment moment) = moment_or_null moment
content_data (content.State state) = string (state_name state)
content_data (content.Truth b) = boolean b
content_data (content.Names ns) = names ns.now
content_data (content.Parts parts) = row_object (part_rows parts.now)
content_data (content.Comments cs) = comments_data cs.now
content_data (content.Roles roles) = roles_data roles
content_data (content.States states) = states_data states
content_data (content.Tasks tasks) = tasks_data tasks.now

abbrev pub rows_of : List (Bor (List ℕ) × Content) → List (List ℕ × Data)
rows_of [] = []
rows_of (m ∷ ms) = (m.0.now, content_data m.1) ∷ rows_of ms
