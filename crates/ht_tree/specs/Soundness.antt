-- What always holds of the tables: of each row, in groups by the fields that they speak of, and of
-- all rows together.
use Rattle.std.specs.Prelude.{◌≡◌, ℕ, ◌+◌, ◌<◌, ◌≤◌, bytes_eq, nat_lt, Bool, true, false, ◌&&◌, ◌||◌, List, [], ◌∷◌, length, Option, Some, is_some, IsTrue, IfSome}
use Rattle.std.specs.Option.{option_map_or}
use Rattle.std.specs.List.{All, AllByRecursion, list_all, list_any}
use Rattle.ht_base.specs.declared.limits.TheConstants.{LONGEST_TEXT, LOWEST_PRIORITY, MOST_COMMENTS, MOST_TASKS}
use Rattle.ht_base.specs.declared.moment.Moment.{Moment}
use Rattle.ht_base.specs.declared.state.State.{State}
use Rattle.ht_base.specs.declared.state.State.TheVariants.{Created, InProgress, SuspendedInProgress, Completed, Failed, Error, Exited, Obsolete}
use Rattle.ht_base.specs.declared.task_id.TaskId.{TaskId}
use Rattle.ht_base.specs.declared.value.Value.{Value}
use Rattle.ht_base.specs.declared.value.Value.TheVariants as values
use Rattle.ht_base.specs.declared.values.Values.{Values}
use Rattle.ht_base.specs.Moment.{last_moment}
use Rattle.ht_base.specs.Ordered.{AscendBy}
use Rattle.ht_base.specs.Persons.{AllBelow, Ascends, has}
use Rattle.ht_base.specs.State.{contains_state}
use Rattle.ht_expr.specs.declared.kinds.Side.{Side}
use Rattle.ht_expr.specs.declared.kinds.Side.TheVariants.{Input, Output}
use Rattle.ht_value.specs.Environment.{may_be}
use Rattle.ht_expr.specs.Kinds.{Declared, declared_kind}
use Rattle.ht_models.specs.Kinded.{parts_of}
use Rattle.ht_models.specs.Model.{DeadlineOf, ModelOf}
use Rattle.ht_rules.specs.Sets.{states_of}
use Rattle.ht_rules.specs.States.{created, owned, suspended}
use Rattle.ht_tree.specs.declared.comments.Comment.{Comment}
use Rattle.ht_tree.specs.declared.notice.Notice.{Notice}
use Rattle.ht_tree.specs.declared.row.Row.{Row}
use Rattle.ht_tree.specs.Families.{AreFamilies}
use Rattle.ht_tree.specs.Rows.{model_in, row_at}
use Rattle.ht_tree.specs.Sizes.{total_size}
use Rattle.ht_tree.specs.Slots.{IsSoundSlot, slot_cmp}
use Rattle.ht_tree.specs.Tables.{TablesOf}

-- ---- states (WS-HumanTask 1.1, 4.10)

-- somebody owns the task
abbrev pub is_owned : State → Bool
is_owned state = contains_state owned state

abbrev pub is_suspended : State → Bool
is_suspended state = contains_state suspended state

abbrev pub is_created : State → Bool
is_created state = contains_state created state

-- ---- where a task is filed

-- of as many models
pub record IsFiled (models : ℕ) (task : TaskId) (above : Option (TaskId × ℕ)) (place : ℕ) : Type 0 where
  pub model : place < models
  -- the parent is a task of a lower number
  pub parent : IfSome above (λ p. (1 ≤ p.0.0) × (p.0.0 < task.0))

-- ---- who has to do with it

-- each of them is one of as many persons
pub record AreKnown (persons first : ℕ) (last : Option ℕ) (owners others admins holders : List ℕ) : Type 0 where
  pub initiator : first < persons
  pub last_owner : IfSome last (λ p. p < persons)
  pub potential_owners : AllBelow persons owners
  pub excluded_owners : AllBelow persons others
  pub administrators : AllBelow persons admins
  pub stakeholders : AllBelow persons holders

-- nobody of the first is in the second
abbrev pub AreApart : List ℕ → List ℕ → Type 0
AreApart ps qs = (p : ℕ) → has p ps ≡ true → has p qs ≡ false

pub record ArePeople (persons first : ℕ) (last : Option ℕ) (owners others admins holders : List ℕ) : Type 0 where
  pub known : AreKnown persons first last owners others admins holders
  -- an excluded owner is never potential owner (WS-HumanTask 1.1, 3.1)
  pub apart : AreApart owners others
  pub potential_ascend : Ascends owners
  pub excluded_ascend : Ascends others
  pub administrators_ascend : Ascends admins
  pub stakeholders_ascend : Ascends holders

-- ---- whose it is

-- by its model the task has an owner, sooner or later
abbrev pub needs_owner : Option ModelOf → Bool
needs_owner model = option_map_or (λ m. m.owner_required) model true

-- a task that never has one is only in these states
abbrev pub is_ownerless : State → Bool
is_ownerless state = contains_state (states_of (Created ∷ InProgress ∷ SuspendedInProgress ∷ Completed ∷ Failed ∷ Error ∷ Exited ∷ Obsolete ∷ [])) state

pub record IsWhose (persons : ℕ) (needs : Bool) (others : List ℕ) (state : State) (owner : Option ℕ) : Type 0 where
  -- there is an actual owner exactly in the owned states (WS-HumanTask 1.1, 4.10), if there ever is one
  pub owned : is_some owner ≡ (needs && is_owned state)
  pub ownerless : (needs || is_ownerless state) ≡ true
  pub known : IfSome owner (λ p. p < persons)
  -- an excluded owner is never owner (WS-HumanTask 1.1, 3.1)
  pub allowed : IfSome owner (λ p. has p others ≡ false)

-- ---- when it was created, for when it waits, and until when it is suspended

pub record IsTimed (state : State) (made : Moment) (start end : Option Moment) : Type 0 where
  pub waits : IsTrue (is_some start) → IsTrue (is_created state)
  pub until : IsTrue (is_some end) → IsTrue (is_suspended state)
  pub created_within : made.0 ≤ last_moment
  pub waits_within : IfSome start (λ m. m.0 ≤ last_moment)
  pub until_within : IfSome end (λ m. m.0 ≤ last_moment)

-- ---- how it is noted

pub record IsNoted (persons level : ℕ) (comments : List Comment) : Type 0 where
  pub priority_within : level ≤ LOWEST_PRIORITY
  pub few : length comments ≤ MOST_COMMENTS
  pub known : All (λ c. c.person < persons) comments
  pub moments_within : All (λ c. c.moment.0 ≤ last_moment) comments
  pub texts_within : All (λ c. (1 ≤ length c.text) × (length c.text ≤ LONGEST_TEXT)) comments

-- ---- what it holds of what its model declares

-- the value is one of a declared part, and of its kind
abbrev pub is_declared : Declared → Side → List ℕ × Value → Bool
is_declared kinds side v = is_some (declared_kind kinds side v.0) && may_be (declared_kind kinds side v.0) v.1

-- a person who is a value is one of as many
abbrev pub is_known : ℕ → List ℕ × Value → Bool
is_known persons (name, values.Person p) = nat_lt p persons
is_known persons _ = true

-- a text that is a value is one of as many bytes
abbrev pub is_short : ℕ → List ℕ × Value → Bool
is_short most (name, values.Text text) = nat_lt (length text) (most + 1)
is_short most _ = true

-- a moment that is a value is at most the last one
abbrev pub is_timely : List ℕ × Value → Bool
is_timely (name, values.Instant m) = nat_lt m.0 (last_moment + 1)
is_timely _ = true

pub record AreHeld (kinds : Declared) (persons : ℕ) (side : Side) (parts : Values) : Type 0 where
  pub declared : list_all (is_declared kinds side) parts ≡ true
  pub known : list_all (is_known persons) parts ≡ true
  pub texts_within : list_all (is_short LONGEST_TEXT) parts ≡ true
  pub moments_within : list_all is_timely parts ≡ true

pub record IsHeldBy (persons : ℕ) (m : ModelOf) (given set : Values) (passed : List ℕ) : Type 0 where
  pub input : AreHeld (parts_of m.input m.output) persons Input given
  pub output : AreHeld (parts_of m.input m.output) persons Output set
  -- the deadlines that were taken are the model's, each once
  pub taken : AllBelow (length m.deadlines) passed
  pub taken_ascend : Ascends passed

abbrev pub IsHeld : ℕ → Option ModelOf → Values → Values → List ℕ → Type 0
IsHeld persons model input output taken = IfSome model (λ m. IsHeldBy persons m input output taken)

-- ---- a row is sound

pub record IsSoundIn (models : List ModelOf) (persons : ℕ) (row : Row) : Type 0 where
  pub filed : IsFiled (length models) row.task row.parent row.model
  pub held : IsHeld persons (model_in models row) row.input row.output row.taken
  pub who : ArePeople persons row.initiator row.last_owner row.potential_owners row.excluded_owners row.administrators row.stakeholders
  pub whose : IsWhose persons (needs_owner (model_in models row)) row.excluded_owners row.state row.owner
  pub when : IsTimed row.state row.created row.waits row.until
  pub how : IsNoted persons row.priority row.comments

abbrev pub IsSoundRow : TablesOf → Row → Type 0
IsSoundRow t row = IsSoundIn t.models (length t.people.persons) row

-- ---- a row fits: what it names is there

pub record FitsIn (models : List ModelOf) (persons : ℕ) (row : Row) : Type 0 where
  pub filed : IsFiled (length models) row.task row.parent row.model
  pub held : IsHeld persons (model_in models row) row.input row.output row.taken
  pub who : AreKnown persons row.initiator row.last_owner row.potential_owners row.excluded_owners row.administrators row.stakeholders
  pub owner : IfSome row.owner (λ p. p < persons)
  pub commenters : All (λ c. c.person < persons) row.comments
  pub waits : IsTrue (is_some row.waits) → IsTrue (is_created row.state)
  pub until : IsTrue (is_some row.until) → IsTrue (is_suspended row.state)

abbrev pub Fits : TablesOf → Row → Type 0
Fits t row = FitsIn t.models (length t.people.persons) row

-- ---- a notification is sound

-- an escalation of this name is one of a deadline of that name
abbrev pub has_escalation : List DeadlineOf → Notice → Bool
has_escalation deadlines n = list_any (λ d. bytes_eq d.name n.deadline && list_any (λ e. bytes_eq e.name n.escalation) d.escalations) deadlines

-- its task is there, and the task's model has the escalation; the recipients are persons of as many
pub record IsSoundNotice (models : List ModelOf) (persons : ℕ) (rows : List Row) (n : Notice) : Type 0 where
  pub row : Row
  pub there : row_at n.task.0 rows ≡ Some row
  pub escalation : option_map_or (λ m. has_escalation m.deadlines n) (model_in models row) false ≡ true
  pub recipients : AllBelow persons n.recipients
  pub recipients_ascend : Ascends n.recipients
  pub moment_within : n.moment.0 ≤ last_moment

-- ---- tables are sound

pub record IsSound (t : TablesOf) : Type 0 where
  -- the rows are in the order of their numbers, from 1 without gaps
  pub numbered : (task : ℕ) (row : Row) → row_at task t.rows ≡ Some row → row.task.0 ≡ task
  pub rows_sound : (task : ℕ) (row : Row) → row_at task t.rows ≡ Some row → IsSoundRow t row
  pub families : AreFamilies t.models t.rows
  pub notices_sound : AllByRecursion (IsSoundNotice t.models (length t.people.persons) t.rows) t.notices
  -- there is one slot at most of each device of a person
  pub slots_ascend : AscendBy slot_cmp t.slots
  pub slots_sound : AllByRecursion (IsSoundSlot t.people (length t.rows)) t.slots
  pub last_within : t.last ≤ last_moment
  -- the trees of the top tasks have at most as many tasks as there may be
  pub tasks_within : total_size t.models t.rows ≤ MOST_TASKS

-- where the first tables are sound, so are the second: said of whole calls, since what a call passes
-- through on its way needn't be sound
abbrev pub KeepsSound : TablesOf → TablesOf → Type 0
KeepsSound old new = IsSound old → IsSound new
