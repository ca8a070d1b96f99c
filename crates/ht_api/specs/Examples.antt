-- Worked examples of the definitions. A wrong reading of one fails the check.
use Rattle.std.specs.Prelude.{◌≡◌, refl, ℕ, List, [], ◌∷◌, Option, Some, None, Ok, Err, codes, Bool, false, true, ◌&&◌, negsuc, ⊤}
use Rattle.std.specs.Fmt.{digits}
use Rattle.std.specs.Str.{chars, is_utf8}
use Rattle.serde_json.proofs.OnLiterals.{serde_json_on_literals}
use Rattle.serde_json.specs.Data.{Data, Members, member, no_members, object}
use Rattle.serde_json.specs.Find.{get}
use Rattle.serde_json.specs.Written.{compact_text}
use Rattle.ht_base.specs.declared.end.End.TheVariants.{At, After}
use Rattle.ht_base.specs.declared.event.Command.TheVariants as command
use Rattle.ht_base.specs.declared.event.Event.TheVariants.{Ask, Read}
use Rattle.ht_base.specs.declared.query.Query.TheVariants as query
use Rattle.ht_base.specs.declared.query.Which.TheVariants.{Live, All, Only}
use Rattle.ht_base.specs.declared.notice_page.NoticeRow.{NoticeRow}
use Rattle.ht_base.specs.declared.page.PageRow.{PageRow}
use Rattle.ht_base.specs.declared.reply.Answer.TheVariants.{Done, Turned, Sheet, Page, Notices, Refused}
use Rattle.ht_base.specs.declared.reply.Answer.{Answer}
use Rattle.ht_base.specs.declared.reply.Refusal.{Refusal}
use Rattle.ht_base.specs.declared.reply.Refusal.TheVariants as refusal
use Rattle.ht_base.specs.declared.reply.Unknown.TheVariants as unknown
use Rattle.ht_base.specs.declared.role.Role.TheVariants.{ActualOwner, PotentialOwner}
use Rattle.ht_base.specs.declared.role_list.RoleList.TheVariants.{Stakeholders}
use Rattle.ht_base.specs.declared.scalar.Scalar.TheVariants.{Int, Text}
use Rattle.ht_base.specs.declared.sheet.Sheet.{Sheet as TaskSheet}
use Rattle.ht_base.specs.declared.state.State.TheVariants.{InProgress, Ready, Reserved}
use Rattle.ht_base.specs.Role.{no_roles, with_role}
use Rattle.ht_base.specs.State.{no_states, with_state}
use Rattle.ht_base.specs.Values.{is_before}
use Rattle.ht_wire.specs.declared.request.Request.{Request}
use Rattle.ht_api.specs.declared.asked.Asked.TheVariants as asked
use Rattle.ht_api.specs.declared.refusal.ApiRefusal.TheVariants.{Route, Method, Json, Field, Person}
use Rattle.ht_api.specs.declared.routes.Place.TheVariants as place
use Rattle.ht_api.specs.Bodies.{json_in}
use Rattle.ht_api.specs.Commands.{command_in}
use Rattle.ht_api.specs.Contents.{comments_data, notice_row_rows, page_row_rows, row_object, tasks_data}
use Rattle.ht_api.specs.Events.{event_due}
use Rattle.ht_api.specs.Numbers.{task_in}
use Rattle.ht_api.specs.Refusals.{wire_refusal}
use Rattle.ht_api.specs.Replies.{answer_data, answer_text, refusal_data, sheet_data}
use Rattle.ht_api.specs.Routes.{place_of}

-- what an example unfolds
unfoldable on_literals : ⊤
unfolding chars is_utf8 digits serde_json_on_literals
on_literals = tt

abbrev request : List ℕ → List ℕ → Option (List ℕ) → List ℕ → Request
request method target person body =
    record { method = method; target = record { items = target; spare = 0 }; person = person; last = false; body = record { items = body; spare = 0 } }

-- ---- places

a_task : place_of (codes "/tasks/4294967295") ≡ Some (place.Task (record { 0 = 4294967295 }))
unfolding on_literals
a_task = refl

an_operation : place_of (codes "/tasks/12/setRole") ≡ Some (place.Operation (record { 0 = 12 }) asked.SetRole)
unfolding on_literals
an_operation = refl

a_comment : place_of (codes "/tasks/12/addComment") ≡ Some (place.Operation (record { 0 = 12 }) asked.AddComment)
unfolding on_literals
a_comment = refl

a_query : place_of (codes "/tasks/1?a") ≡ None
unfolding on_literals
a_query = refl

no_operation : place_of (codes "/tasks/1/create") ≡ None
unfolding on_literals
no_operation = refl

-- ---- lists, by the parts of their paths

a_live_list : place_of (codes "/lists/any/live/0/10") ≡ Some (place.List None Live 0 10)
unfolding on_literals
a_live_list = refl

a_list_of_a_state : place_of (codes "/lists/potentialOwner/InProgress/4294967295/100") ≡ Some (place.List (Some PotentialOwner) (Only InProgress) 4294967295 100)
unfolding on_literals
a_list_of_a_state = refl

an_operator_has_no_list : place_of (codes "/lists/operator/live/0/10") ≡ None
unfolding on_literals
an_operator_has_no_list = refl

a_number_with_a_leading_zero : place_of (codes "/lists/any/Ready/00/10") ≡ None
unfolding on_literals
a_number_with_a_leading_zero = refl

no_rows_are_told : place_of (codes "/lists/any/live/0/0") ≡ None
unfolding on_literals
no_rows_are_told = refl

a_row_too_many : place_of (codes "/lists/any/live/0/101") ≡ None
unfolding on_literals
a_row_too_many = refl

a_part_is_left_out : place_of (codes "/lists/any/live/0") ≡ None
unfolding on_literals
a_part_is_left_out = refl

a_part_is_empty : place_of (codes "/lists//live/0/10") ≡ None
unfolding on_literals
a_part_is_empty = refl

a_role_in_another_case : place_of (codes "/lists/actualowner/all/0/1") ≡ None
unfolding on_literals
a_role_in_another_case = refl

the_last_notifications : place_of (codes "/notifications/4294967295/100") ≡ Some (place.Notifications 4294967295 100)
unfolding on_literals
the_last_notifications = refl

from_too_far : place_of (codes "/notifications/4294967296/1") ≡ None
unfolding on_literals
from_too_far = refl

an_empty_part_behind : place_of (codes "/notifications/0/10/") ≡ None
unfolding on_literals
an_empty_part_behind = refl

no_first_slash : place_of (codes "notifications/0/10") ≡ None
unfolding on_literals
no_first_slash = refl

a_word_alone : place_of (codes "/tasks") ≡ Some place.Tasks
unfolding on_literals
a_word_alone = refl

a_longer_word : place_of (codes "/tasksx") ≡ None
unfolding on_literals
a_longer_word = refl

one_too_many : task_in (codes "4294967296") ≡ None
one_too_many = refl

a_leading_zero : task_in (codes "01") ≡ None
a_leading_zero = refl

no_task : task_in (codes "0") ≡ None
no_task = refl

-- ---- bodies

no_bytes : json_in [] ≡ Some (object no_members)
no_bytes = refl

a_blank : json_in (codes " ") ≡ None
unfolding on_literals
a_blank = refl

the_last_of_equal_keys : command_in asked.Create (codes "{\"model\":1,\"model\":\"b\"}") ≡ Ok (None, command.Create (Some (codes "b")) [] None)
unfolding on_literals
the_last_of_equal_keys = refl

parts_by_name : command_in asked.Create (codes "{\"input\":{\"b\":-1,\"a\":\"x\"}}") ≡ Ok (None, command.Create None ((codes "a", Text (codes "x")) ∷ (codes "b", Int (negsuc 0)) ∷ []) None)
unfolding on_literals
parts_by_name = refl

a_key_outside_goes_first : command_in asked.Create (codes "{\"model\":1,\"x\":1}") ≡ Err (Field (codes "body"))
unfolding on_literals
a_key_outside_goes_first = refl

the_first_key_of_the_table : command_in asked.SetRole (codes "{\"persons\":1}") ≡ Err (Field (codes "role"))
unfolding on_literals
the_first_key_of_the_table = refl

a_later_activation : command_in asked.Create (codes "{\"activateAt\":5000}") ≡ Ok (None, command.Create None [] (Some (record { 0 = 5000 })))
unfolding on_literals
a_later_activation = refl

-- it is looked at behind the model and before the input
no_activation : command_in asked.Create (codes "{\"input\":1,\"activateAt\":\"5000\"}") ≡ Err (Field (codes "activateAt"))
unfolding on_literals
no_activation = refl

the_last_moment : command_in asked.SuspendUntil (codes "{\"until\":253402300799999}") ≡ Ok (None, command.SuspendUntil (At (record { 0 = 253402300799999 })))
unfolding on_literals
the_last_moment = refl

behind_the_last_moment : command_in asked.SuspendUntil (codes "{\"until\":253402300800000}") ≡ Err (Field (codes "until"))
unfolding on_literals
behind_the_last_moment = refl

an_end_by_its_moment : command_in asked.SuspendUntil (codes "{\"until\":5000}") ≡ Ok (None, command.SuspendUntil (At (record { 0 = 5000 })))
unfolding on_literals
an_end_by_its_moment = refl

an_end_by_a_period : command_in asked.SuspendUntil (codes "{\"for\":\"PT10S\"}") ≡ Ok (None, command.SuspendUntil (After 10000))
unfolding on_literals
an_end_by_a_period = refl

two_ends : command_in asked.SuspendUntil (codes "{\"for\":1,\"until\":5000}") ≡ Err (Field (codes "until"))
unfolding on_literals
two_ends = refl

no_end : command_in asked.SuspendUntil [] ≡ Err (Field (codes "until"))
no_end = refl

-- the keys of a command's number are looked at before its end
two_ends_of_a_device_alone : command_in asked.SuspendUntil (codes "{\"for\":1,\"until\":5000,\"device\":1}") ≡ Err (Field (codes "number"))
unfolding on_literals
two_ends_of_a_device_alone = refl

no_period : command_in asked.SuspendUntil (codes "{\"for\":\"10\"}") ≡ Err (Field (codes "for"))
unfolding on_literals
no_period = refl

persons_may_be_none : command_in asked.SetRole (codes "{\"persons\":[],\"role\":\"stakeholders\"}") ≡ Ok (None, command.SetRole Stakeholders [])
unfolding on_literals
persons_may_be_none = refl

owners_may_not : command_in asked.Forward (codes "{\"persons\":[]}") ≡ Err (Field (codes "persons"))
unfolding on_literals
owners_may_not = refl

a_name_twice : command_in asked.Nominate (codes "{\"persons\":[\"a\",\"b\",\"a\"]}") ≡ Err (Field (codes "persons"))
unfolding on_literals
a_name_twice = refl

a_fault_may_be_named : command_in asked.Fail (codes "{\"fault\":\"lost\"}") ≡ Ok (None, command.Fail (Some (codes "lost")))
unfolding on_literals
a_fault_may_be_named = refl

nothing_is_set : command_in asked.SetOutput (codes "{\"output\":{}}") ≡ Err (Field (codes "output"))
unfolding on_literals
nothing_is_set = refl

a_task_ends_without_output : command_in asked.Complete [] ≡ Ok (None, command.Complete [])
unfolding on_literals
a_task_ends_without_output = refl

a_sub_task_by_its_name : command_in asked.InstantiateSubTask (codes "{\"sub\":\"x\"}") ≡ Ok (None, command.InstantiateSubTask (codes "x"))
unfolding on_literals
a_sub_task_by_its_name = refl

no_sub_task : command_in asked.InstantiateSubTask [] ≡ Err (Field (codes "sub"))
no_sub_task = refl

no_text : command_in asked.AddComment (codes "{\"text\":\"\"}") ≡ Err (Field (codes "text"))
unfolding on_literals
no_text = refl

a_text_of_another_operation : command_in asked.Exit (codes "{\"text\":\"x\"}") ≡ Err (Field (codes "body"))
unfolding on_literals
a_text_of_another_operation = refl

no_whole_number : command_in asked.SetPriority (codes "{\"priority\":1.0}") ≡ Err (Field (codes "priority"))
unfolding on_literals
no_whole_number = refl

no_lower_priority : command_in asked.SetPriority (codes "{\"priority\":11}") ≡ Err (Field (codes "priority"))
unfolding on_literals
no_lower_priority = refl

-- a device and a number stand together, before the keys of the operation
a_number : command_in asked.Claim (codes "{\"number\":5,\"device\":1}") ≡ Ok (Some (record { device = 1; number = 5 }), command.Claim)
unfolding on_literals
a_number = refl

a_device_alone : command_in asked.Claim (codes "{\"device\":15}") ≡ Err (Field (codes "number"))
unfolding on_literals
a_device_alone = refl

-- the device is looked at first
a_device_alone_that_is_none : command_in asked.Claim (codes "{\"device\":16}") ≡ Err (Field (codes "device"))
unfolding on_literals
a_device_alone_that_is_none = refl

a_number_alone : command_in asked.Claim (codes "{\"number\":0}") ≡ Err (Field (codes "device"))
unfolding on_literals
a_number_alone = refl

no_number : command_in asked.Delegate (codes "{\"device\":0,\"number\":4294967296}") ≡ Err (Field (codes "number"))
unfolding on_literals
no_number = refl

-- ---- events

a_create : event_due (request (codes "POST") (codes "/tasks") (Some (codes "dan")) (codes "{\"model\":\"unit\"}")) 1000 ≡ Ok (Ask (record { 0 = 1000 }) (codes "dan") None (record { 0 = 0 }) (command.Create (Some (codes "unit")) [] None))
unfolding on_literals
a_create = refl

a_sheet : event_due (request (codes "GET") (codes "/tasks/1") (Some (codes "ben")) (codes "{")) 5 ≡ Ok (Read (codes "ben") (query.Sheet (record { 0 = 1 })))
unfolding on_literals
a_sheet = refl

a_list : event_due (request (codes "GET") (codes "/lists/actualOwner/all/20/10") (Some (codes "ben")) []) 5 ≡ Ok (Read (codes "ben") (query.Tasks (Some ActualOwner) All 20 10))
unfolding on_literals
a_list = refl

notifications : event_due (request (codes "GET") (codes "/notifications/0/1") (Some (codes "cora")) []) 5 ≡ Ok (Read (codes "cora") (query.Notices 0 1))
unfolding on_literals
notifications = refl

a_list_by_another_method : event_due (request (codes "POST") (codes "/lists/any/live/0/10") None []) 5 ≡ Err Method
unfolding on_literals
a_list_by_another_method = refl

a_list_of_nobody : event_due (request (codes "GET") (codes "/lists/any/live/0/10") None []) 5 ≡ Err Person
unfolding on_literals
a_list_of_nobody = refl

the_place_goes_first : event_due (request (codes "PUT") (codes "/tasks/0") None (codes "{")) 5 ≡ Err Route
unfolding on_literals
the_place_goes_first = refl

then_the_method : event_due (request (codes "post") (codes "/tasks") None (codes "{")) 5 ≡ Err Method
unfolding on_literals
then_the_method = refl

then_the_body : event_due (request (codes "POST") (codes "/tasks/1/claim") None (codes "{")) 5 ≡ Err Json
unfolding on_literals
then_the_body = refl

then_the_caller : event_due (request (codes "POST") (codes "/tasks/1/claim") None []) 5 ≡ Err Person
unfolding on_literals
then_the_caller = refl

-- ---- replies

no_owner : answer_text (Done (record { 0 = 1 }) Ready None) ≡ codes "{\"owner\":null,\"state\":\"Ready\",\"task\":1}"
unfolding on_literals
no_owner = refl

an_owner : answer_text (Done (record { 0 = 12 }) Reserved (Some (codes "p0"))) ≡ codes "{\"owner\":\"p0\",\"state\":\"Reserved\",\"task\":12}"
unfolding on_literals
an_owner = refl

roles_in_order : answer_text (Refused (refusal.Role (with_role (with_role no_roles ActualOwner) PotentialOwner))) ≡ codes "{\"fault\":\"Role\",\"needs\":[\"potentialOwner\",\"actualOwner\"]}"
unfolding on_literals
roles_in_order = refl

allowed_goes_first : answer_text (Refused (refusal.State (with_state no_states Ready) Reserved)) ≡ codes "{\"allowed\":[\"Ready\"],\"fault\":\"State\",\"state\":\"Reserved\"}"
unfolding on_literals
allowed_goes_first = refl

a_person_unknown : answer_text (Refused (refusal.Unknown (unknown.Person (codes "ben")))) ≡ codes "{\"fault\":\"Unknown\",\"person\":\"ben\"}"
unfolding on_literals
a_person_unknown = refl

a_sub_task_refused : answer_text (Refused (refusal.SubRefused (codes "y"))) ≡ codes "{\"fault\":\"SubRefused\",\"sub\":\"y\"}"
unfolding on_literals
a_sub_task_refused = refl

a_turn : answer_text Turned ≡ codes "{}"
unfolding on_literals
a_turn = refl

subs_in_order : compact_text (tasks_data (record { 0 = 3 } ∷ record { 0 = 12 } ∷ [])) ≡ codes "[3,12]"
unfolding on_literals
subs_in_order = refl

comments_in_order :
    compact_text (comments_data (record { moment = record { 0 = 9 }; person = codes "ben"; text = codes "a\"" } ∷ record { moment = record { 0 = 5 }; person = codes "anna"; text = codes "b" } ∷ []))
    ≡ codes "[{\"moment\":9,\"person\":\"ben\",\"text\":\"a\\\"\"},{\"moment\":5,\"person\":\"anna\",\"text\":\"b\"}]"
unfolding on_literals
comments_in_order = refl

an_empty_page : answer_text (Page (record { rows = []; total = 3 })) ≡ codes "{\"rows\":[],\"total\":3}"
unfolding on_literals
an_empty_page = refl

a_page :
    answer_text (Page (record { rows = record { created = record { 0 = 500 }; model = codes "unit"; owner = Some (codes "ben"); priority = 5; state = Reserved; task = record { 0 = 2 } } ∷ record { created = record { 0 = 0 }; model = codes "m"; owner = None; priority = 10; state = Ready; task = record { 0 = 1 } } ∷ []; total = 2 }))
    ≡ codes "{\"rows\":[{\"created\":500,\"model\":\"unit\",\"owner\":\"ben\",\"priority\":5,\"state\":\"Reserved\",\"task\":2},{\"created\":0,\"model\":\"m\",\"owner\":null,\"priority\":10,\"state\":\"Ready\",\"task\":1}],\"total\":2}"
unfolding on_literals
a_page = refl

notices_of_one :
    answer_text (Notices (record { rows = record { deadline = codes "late"; escalation = codes "tell"; moment = record { 0 = 61000 }; number = 4; task = record { 0 = 7 } } ∷ []; total = 12 }))
    ≡ codes "{\"rows\":[{\"deadline\":\"late\",\"escalation\":\"tell\",\"moment\":61000,\"number\":4,\"task\":7}],\"total\":12}"
unfolding on_literals
notices_of_one = refl

a_sheet_has_comments : (s : TaskSheet) → get (codes "comments") (answer_data (Sheet s)) ≡ Some (comments_data s.comments)
unfolding sheet_data
a_sheet_has_comments s = refl

a_sheet_has_sub_tasks : (s : TaskSheet) → get (codes "subs") (answer_data (Sheet s)) ≡ Some (tasks_data s.subs)
unfolding sheet_data
a_sheet_has_sub_tasks s = refl

a_body_too_long : wire_refusal 413 ≡ refusal.Body
a_body_too_long = refl

-- ---- the keys of each answer stand in byte order

abbrev ascends_from : List ℕ → Members → Bool
ascends_from key no_members = true
ascends_from key (member k d ms) = is_before key k && ascends_from k ms

abbrev ascends : Data → Bool
ascends (object (member k d ms)) = ascends_from k ms
ascends d = true

refusals_ascend : (why : Refusal) → ascends (refusal_data why) ≡ true
refusals_ascend refusal.Head = refl
refusals_ascend refusal.Fields = refl
refusals_ascend refusal.Coding = refl
refusals_ascend refusal.Body = refl
refusals_ascend refusal.Route = refl
refusals_ascend refusal.Method = refl
refusals_ascend refusal.Json = refl
refusals_ascend (refusal.Field key) = refl
refusals_ascend refusal.Person = refl
refusals_ascend (refusal.NumberStale last) = refl
refusals_ascend (refusal.NumberReused last) = refl
refusals_ascend (refusal.Task task) = refl
refusals_ascend (refusal.Role needs) = refl
refusals_ascend (refusal.State allowed state) = refl
refusals_ascend (refusal.Unknown (unknown.Model name)) = refl
refusals_ascend (refusal.Unknown (unknown.Person name)) = refl
refusals_ascend (refusal.PartRefused part) = refl
refusals_ascend refusal.Ownerless = refl
refusals_ascend refusal.ByGroup = refl
refusals_ascend (refusal.Excluded person) = refl
refusals_ascend (refusal.NotDelegatee person) = refl
refusals_ascend refusal.NoOwners = refl
refusals_ascend (refusal.NoOutput part) = refl
refusals_ascend refusal.NotSkipable = refl
refusals_ascend refusal.UntilPast = refl
refusals_ascend (refusal.SubRefused sub) = refl
refusals_ascend (refusal.Limit limit) = refl
refusals_ascend refusal.Store = refl
refusals_ascend refusal.Spent = refl
refusals_ascend refusal.Memory = refl

page_rows_ascend : (r : PageRow) → ascends (row_object (page_row_rows r)) ≡ true
page_rows_ascend r = refl

notice_rows_ascend : (r : NoticeRow) → ascends (row_object (notice_row_rows r)) ≡ true
notice_rows_ascend r = refl

answers_ascend : (a : Answer) → ascends (answer_data a) ≡ true
unfolding sheet_data
answers_ascend (Done task state owner) = refl
answers_ascend Turned = refl
answers_ascend (Sheet s) = refl
answers_ascend (Page p) = refl
answers_ascend (Notices p) = refl
answers_ascend (Refused why) = refusals_ascend why
