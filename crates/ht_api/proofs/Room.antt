-- The room that the short replies take at most.
use Rattle.std.proofs.Common.{ℕ, ◌+◌, ◌*◌, ◌/◌, ◌%◌, ◌^◌, ◌<◌, ◌≤◌, List, [], ◌∷◌, length, length-append, map, filter, Bool, true, false, cond, Option, Some, None, Result, Ok, Err, IsOk, OnErr, codes, decimal, nat_lt, refl, arith}
use Rattle.std.specs.Char.{digit_char}
use Rattle.std.proofs.lemmas.Fmt.{length-decimal-le}
use Rattle.json.proofs.Printed.Trees.{room-append}
use Rattle.json.specs.Print.{escape, escape_byte, escape_letter, quoted}
use Rattle.json.specs.Token.{Token, end_object}
use Rattle.json.specs.Tree.{members_tokens, room}
use Rattle.serde_json.specs.Data.{Data, string}
use Rattle.serde_json.specs.Written.{members_outline}
use Rattle.ht_base.specs.declared.limits.TheConstants.{LONGEST_NAME}
use Rattle.ht_base.specs.declared.reply.Answer.TheVariants.{Done}
use Rattle.ht_base.specs.declared.reply.Refusal.TheVariants as refusal
use Rattle.ht_base.specs.declared.role.Roles.{Roles}
use Rattle.ht_base.specs.declared.state.State.{State}
use Rattle.ht_base.specs.declared.state.State.TheVariants.{Created, Ready, Reserved, InProgress, SuspendedReady, SuspendedReserved, SuspendedInProgress, Completed, Failed, Error, Exited, Obsolete}
use Rattle.ht_base.specs.declared.state.StateSet.{StateSet}
use Rattle.ht_base.specs.declared.task_id.TaskId.{TaskId}
use Rattle.ht_base.specs.Role.{all_roles, contains_role, role_name}
use Rattle.ht_base.specs.State.{all_states, contains_state, state_name}
use Rattle.ht_api.specs.Contents.{members, names, row_object}
use Rattle.ht_api.specs.Replies.{IsShort, answer_data, counted_fault, fault, named_fault, refusal_data}
use Rattle.ht_api.specs.Writing.{texts_left, tokens_of}

either_le : (b : Bool) (n : ℕ) (xs ys : List ℕ) → length xs ≤ n → length ys ≤ n → length (cond b xs ys) ≤ n
either_le true n xs ys p q = p
either_le false n xs ys p q = q

length-escape_byte : (x : ℕ) → length (escape_byte x) ≤ 6
unfolding escape_byte
length-escape_byte x =
    let rest = cond (nat_lt x 32) (92 ∷ 117 ∷ 48 ∷ 48 ∷ digit_char (x / 16) ∷ digit_char (x % 16) ∷ []) (x ∷ []) in
    let short : length rest ≤ 6 = either_le (nat_lt x 32) 6 (92 ∷ 117 ∷ 48 ∷ 48 ∷ digit_char (x / 16) ∷ digit_char (x % 16) ∷ []) (x ∷ []) (omega arith) (omega arith) in
    either_le (nat_lt 0 (escape_letter x)) 6 (92 ∷ escape_letter x ∷ []) rest (omega arith) short

length-escape : (s : List ℕ) → length (escape s) ≤ 6 * length s
length-escape [] = omega arith
length-escape (x ∷ xs) = omega (arith, length-escape xs, length-escape_byte x, length-append (escape_byte x) (escape xs))

length-quoted : (s : List ℕ) → length (quoted s) ≤ 6 * length s + 2
length-quoted s = omega (arith, length-escape s, length-append (escape s) (34 ∷ []))

-- fewer texts take less
module _ {A : Type 0} (name : A → List ℕ) where
  kept_room : (b : Bool) (x : A) (xs ys : List A) → room (texts_left (map name xs)) ≤ room (texts_left (map name ys))
      → room (texts_left (map name (cond b (x ∷ xs) xs))) ≤ room (texts_left (map name (x ∷ ys)))
  kept_room true x xs ys h = omega arith
  kept_room false x xs ys h = omega arith

  filter_room : (test : A → Bool) (xs : List A) → room (texts_left (map name (filter test xs))) ≤ room (texts_left (map name xs))
  filter_room test [] = omega arith
  filter_room test (x ∷ xs) = kept_room (test x) x (filter test xs) xs (filter_room test xs)

state_short : (s : State) → length (state_name s) ≤ 19
state_short Created = omega arith
state_short Ready = omega arith
state_short Reserved = omega arith
state_short InProgress = omega arith
state_short SuspendedReady = omega arith
state_short SuspendedReserved = omega arith
state_short SuspendedInProgress = omega arith
state_short Completed = omega arith
state_short Failed = omega arith
state_short Error = omega arith
state_short Exited = omega arith
state_short Obsolete = omega arith

id_short : (task : ℕ) → task < 2 ^ 64 → length (decimal task) ≤ 20
id_short task h = length-decimal-le 20 task (omega arith) (omega arith) h

pub done_room : (task : TaskId) (s : State) (owner : Option (List ℕ)) → task.0 < 2 ^ 64 → IsShort owner → room (tokens_of (answer_data (Done task s owner))) ≤ 1024
unfolding escape_byte
done_room task s None t o = omega (arith, id_short task.0 t, length-quoted (state_name s), state_short s)
done_room task s (Some name) t o = omega (arith, id_short task.0 t, length-quoted (state_name s), state_short s, length-quoted name)

pub fault_room : (name : List ℕ) → length name ≤ 16 → room (tokens_of (fault name [])) ≤ 1024
unfolding escape_byte
fault_room name h = omega (arith, length-quoted name)

pub named_fault_room : (name key what : List ℕ) → length name ≤ 16 → length key ≤ 16 → length what ≤ LONGEST_NAME → room (tokens_of (named_fault name key what)) ≤ 1024
unfolding escape_byte
named_fault_room name key what n k w = omega (arith, length-quoted name, length-quoted key, length-quoted what, length-append (quoted key) (58 ∷ []))

pub counted_fault_room : (name key : List ℕ) (number : ℕ) → length name ≤ 16 → length key ≤ 16 → number < 2 ^ 64 → room (tokens_of (counted_fault name key number)) ≤ 1024
unfolding escape_byte
counted_fault_room name key number n k small = omega (arith, length-quoted name, length-quoted key, id_short number small, length-append (quoted key) (58 ∷ []))

all_roles_room : room (texts_left (map role_name all_roles)) ≤ 200
unfolding escape_byte
all_roles_room = omega arith

with_roles : (ts : List (List ℕ)) → room (texts_left ts) ≤ 200 → room (tokens_of (fault (codes "Role") ((codes "needs", names ts) ∷ []))) ≤ 1024
unfolding escape_byte
with_roles ts h = omega (arith, room-append (texts_left ts) (end_object ∷ []))

pub role_room : (needs : Roles) → room (tokens_of (refusal_data (refusal.Role needs))) ≤ 1024
role_room needs = with_roles (map role_name (filter (contains_role needs) all_roles)) (omega (arith, filter_room role_name (contains_role needs) all_roles, all_roles_room))

all_states_room : room (texts_left (map state_name all_states)) ≤ 400
unfolding escape_byte
all_states_room = omega arith

later : List (List ℕ × Data) → List Token
later rs = members_tokens (members_outline (members rs))

with_states : (ts : List (List ℕ)) (s : List ℕ) → length s ≤ 19 → room (texts_left ts) ≤ 400
    → room (tokens_of (row_object ((codes "allowed", names ts) ∷ (codes "fault", string (codes "State")) ∷ (codes "state", string s) ∷ []))) ≤ 1024
unfolding escape_byte later
with_states ts s short h =
    omega (arith, length-quoted s, room-append (texts_left ts) (later ((codes "fault", string (codes "State")) ∷ (codes "state", string s) ∷ [])))

pub state_room : (allowed : StateSet) (s : State) → room (tokens_of (refusal_data (refusal.State allowed s))) ≤ 1024
state_room allowed s = with_states (map state_name (filter (contains_state allowed) all_states)) (state_name s) (state_short s) (omega (arith, filter_room state_name (contains_state allowed) all_states, all_states_room))

-- what is said of a write that has room enough
pub has_room : {E : Type 0} (r : Result (Unit {0}) E) (spare n : ℕ) → OnErr r (spare < n) → n ≤ 1024 → 1024 ≤ spare → IsOk r
has_room (Ok u) spare n f le enough = refl
has_room (Err e) spare n f le enough = absurd (omega arith)
