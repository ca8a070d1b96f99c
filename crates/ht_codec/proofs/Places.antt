-- A refusal names no place behind the last byte.
use Rattle.std.proofs.Common.{◌≡◌, ℕ, ◌^◌, Bool, zero, suc, ◌≤◌, refl, List, [], ◌∷◌, ◌++◌, length, Option, Some, None, arith, inl, inr}
use Rattle.std.specs.Int.{Width, w16, w32, w64}
use Rattle.ht_base.specs.declared.operation.Op.{Op}
use Rattle.ht_base.specs.declared.operation.Op.TheVariants.{Create, Claim, Start, Stop, Release, Delegate, Forward, Nominate, Activate, SetRole, SetPriority, Suspend, SuspendUntil, Resume, SetOutput, Complete, Fail, Skip, Exit, Error, AddComment, InstantiateSubTask, Get}
use Rattle.ht_codec.specs.Fields.{device_byte, device_of, end_byte, end_kind_of, end_line, retry_line, role_byte, role_of, scalar_byte, scalar_kind_of, scalar_line, moment, period, name_length, name, device, retry_number, next_retry, retry, text_length, text, some_text, names_count, new_name, names, some_names, int, truth, scalar_kind, next_scalar, scalar, parts_count, last_name, name_behind, new_part, parts, some_parts, role, priority, end_kind, next_end, end, opening_length, opening_text}
use Rattle.ht_codec.specs.Forms.{Form, IsShort, nothing, byte, number, ◌then◌, tested, coded, sized, flag, flag_byte, flag_of, option, Line, Next, led, ItemsFail, listed}
use Rattle.ht_codec.specs.Reading.{place}
use Rattle.ht_codec.specs.Records.{Refuses, kind_byte, kind_of, op_byte, op_with, question_line, record_line, creation, op, next_command, task_and_op, asker, head, next_question, question, kind, next_record, entry, place_of}
use Rattle.ht_codec.specs.declared.kinds.EndKind.{EndKind}
use Rattle.ht_codec.specs.declared.kinds.EndKind.TheVariants as end_kinds
use Rattle.ht_codec.specs.declared.kinds.RecordKind.{RecordKind}
use Rattle.ht_codec.specs.declared.kinds.RecordKind.TheVariants.{Opening, Turn, Asked}
use Rattle.ht_codec.specs.declared.kinds.ScalarKind.{ScalarKind}
use Rattle.ht_codec.specs.declared.kinds.ScalarKind.TheVariants.{Text, Int, Truth}
use Rattle.ht_codec.specs.declared.refusal.CodecRefusal.{CodecRefusal}
use Rattle.ht_codec.specs.declared.refusal.CodecRefusal.TheVariants.{Range, Tag, Trailing}

-- of all ways to fail
abbrev Within : (ℕ → List ℕ → CodecRefusal → Type 0) → Type 0
Within Fails = (whole : ℕ) (left : List ℕ) (fault : CodecRefusal) → Fails whole left fault → place_of fault ≤ whole

-- of a field
abbrev Inside : {X : Type 0} → Form X → Type 0
Inside a = Within a.Fails

-- ---- a fault and its place

short_inside : (needed whole : ℕ) (left : List ℕ) (fault : CodecRefusal) → IsShort needed whole left fault → place_of fault ≤ whole
short_inside needed whole left fault h = rw h.is (omega arith)

-- a fault at the first byte that is left
left_inside : (at : ℕ → CodecRefusal) → ((n : ℕ) → place_of (at n) ≡ n) → (whole : ℕ) (left : List ℕ) (fault : CodecRefusal) → fault ≡ at (place whole left) → place_of fault ≤ whole
left_inside at told whole left fault is = rw (is, told (place whole left)) (omega arith)

nothing_inside : Inside nothing
nothing_inside whole left fault h = absurd h

byte_inside : Inside byte
byte_inside whole left fault h = short_inside _ whole left fault h

number_inside : (w : Width) (limit : ℕ) → Inside (number w limit)
number_inside w limit whole left fault h = short_inside _ whole left fault h

then_inside : {X Y : Type 0} (a : Form X) (b : Form Y) → Inside a → Inside b → Inside (a then b)
then_inside a b first second whole left fault (inl here) = first whole left fault here
then_inside a b first second whole left fault (inr behind) = second whole behind.rest fault behind.fails

tested_inside : {X : Type 0} (test : X → Bool) (a : Form X) → Inside a → Inside (tested test a)
tested_inside test a first whole left fault (inl here) = first whole left fault here
tested_inside test a first whole left fault (inr behind) = left_inside Range (λ n. refl) whole left fault behind.fails.1

coded_inside : {X Y : Type 0} (refusal : ℕ → CodecRefusal) (decode : X → Option Y) (encode : Y → X) (a : Form X) → ((n : ℕ) → place_of (refusal n) ≡ n) → Inside a → Inside (coded refusal decode encode a)
coded_inside refusal decode encode a told first whole left fault (inl here) = first whole left fault here
coded_inside refusal decode encode a told first whole left fault (inr behind) = left_inside refusal told whole left fault behind.fails.1

sized_inside : (n : Form ℕ) → Inside n → Inside (sized n)
sized_inside n first whole left fault (inl here) = first whole left fault here
sized_inside n first whole left fault (inr behind) = short_inside _ whole behind.rest fault behind.fails

flag_inside : Inside flag
unfolding flag
flag_inside = coded_inside Tag flag_of flag_byte byte (λ n. refl) byte_inside

option_inside : {X : Type 0} (a : Form X) → Inside a → Inside (option a)
option_inside a value whole left fault (inl here) = flag_inside whole left fault here
option_inside a value whole left fault (inr behind) = value whole behind.rest fault behind.fails.1

led_inside : {X Z : Type 0} (a : Form X) (next : X → Next Z) (lines : Z → Line X) → Inside a → ((x : X) → Within (next x).Fails) → Inside (led a next lines)
led_inside a next lines first others whole left fault (inl here) = first whole left fault here
led_inside a next lines first others whole left fault (inr behind) = others behind.value whole behind.rest fault behind.fails

items_inside : {X : Type 0} (item : List X → Form X) → ((front : List X) → Inside (item front)) → (n : ℕ) (front : List X) → Within (ItemsFail item n front)
unfolding ItemsFail
items_inside item each zero front whole left fault h = absurd h
items_inside item each (suc n) front whole left fault (inl here) = each front whole left fault here
items_inside item each (suc n) front whole left fault (inr behind) = items_inside item each n (front ++ behind.value ∷ []) whole behind.rest fault behind.fails

listed_inside : {X : Type 0} (count : Form ℕ) (item : List X → Form X) → Inside count → ((front : List X) → Inside (item front)) → Inside (listed count item)
listed_inside count item first each whole left fault (inl here) = first whole left fault here
listed_inside count item first each whole left fault (inr behind) = items_inside item each behind.value [] whole behind.rest fault behind.fails

-- ---- the fields

moment_inside : Inside moment
unfolding moment
moment_inside = tested_inside _ (number w64 (2 ^ 64)) (number_inside w64 (2 ^ 64))

period_inside : Inside period
unfolding period
period_inside = tested_inside _ (number w64 (2 ^ 64)) (number_inside w64 (2 ^ 64))

name_length_inside : Inside name_length
unfolding name_length
name_length_inside = tested_inside _ byte byte_inside

name_inside : Inside name
unfolding name
name_inside = tested_inside _ _ (sized_inside name_length name_length_inside)

device_inside : Inside device
unfolding device
device_inside = coded_inside Range device_of device_byte byte (λ n. refl) byte_inside

retry_number_inside : Inside retry_number
unfolding retry_number
retry_number_inside = tested_inside _ (number w32 (2 ^ 32)) (number_inside w32 (2 ^ 32))

next_retry_inside : (d : Option ℕ) → Within (next_retry d).Fails
next_retry_inside None = nothing_inside
next_retry_inside (Some d) = retry_number_inside

retry_inside : Inside retry
unfolding retry
retry_inside = led_inside device next_retry retry_line device_inside next_retry_inside

text_length_inside : Inside text_length
unfolding text_length
text_length_inside = tested_inside _ (number w16 (2 ^ 16)) (number_inside w16 (2 ^ 16))

text_inside : Inside text
unfolding text
text_inside = tested_inside _ (sized text_length) (sized_inside text_length text_length_inside)

some_text_inside : Inside some_text
unfolding some_text
some_text_inside = tested_inside _ text text_inside

opening_length_inside : Inside opening_length
unfolding opening_length
opening_length_inside = tested_inside _ (number w32 (2 ^ 32)) (number_inside w32 (2 ^ 32))

opening_text_inside : Inside opening_text
unfolding opening_text
opening_text_inside = sized_inside opening_length opening_length_inside

names_count_inside : Inside names_count
unfolding names_count
names_count_inside = tested_inside _ (number w16 (2 ^ 16)) (number_inside w16 (2 ^ 16))

new_name_inside : (front : List (List ℕ)) → Inside (new_name front)
unfolding new_name
new_name_inside front = tested_inside _ name name_inside

names_inside : Inside names
unfolding names
names_inside = listed_inside names_count new_name names_count_inside new_name_inside

some_names_inside : Inside some_names
unfolding some_names
some_names_inside = tested_inside _ names names_inside

int_inside : Inside int
unfolding int
int_inside = number_inside w64 (2 ^ 64)

truth_inside : Inside truth
unfolding truth
truth_inside = coded_inside Range flag_of flag_byte byte (λ n. refl) byte_inside

scalar_kind_inside : Inside scalar_kind
unfolding scalar_kind
scalar_kind_inside = coded_inside Tag scalar_kind_of scalar_byte byte (λ n. refl) byte_inside

next_scalar_inside : (k : ScalarKind) → Within (next_scalar k).Fails
next_scalar_inside Text = text_inside
next_scalar_inside Int = int_inside
next_scalar_inside Truth = truth_inside

scalar_inside : Inside scalar
unfolding scalar
scalar_inside = led_inside scalar_kind next_scalar scalar_line scalar_kind_inside next_scalar_inside

parts_count_inside : Inside parts_count
unfolding parts_count
parts_count_inside = tested_inside _ byte byte_inside

name_behind_inside : (last : Option (List ℕ)) → Inside (name_behind last)
unfolding name_behind
name_behind_inside last = tested_inside _ name name_inside

parts_inside : Inside parts
unfolding parts
parts_inside = listed_inside parts_count new_part parts_count_inside (λ front. then_inside (name_behind (last_name front)) scalar (name_behind_inside (last_name front)) scalar_inside)

some_parts_inside : Inside some_parts
unfolding some_parts
some_parts_inside = tested_inside _ parts parts_inside

role_inside : Inside role
unfolding role
role_inside = coded_inside Range role_of role_byte byte (λ n. refl) byte_inside

priority_inside : Inside priority
unfolding priority
priority_inside = tested_inside _ byte byte_inside

end_kind_inside : Inside end_kind
unfolding end_kind
end_kind_inside = coded_inside Tag end_kind_of end_byte byte (λ n. refl) byte_inside

next_end_inside : (k : EndKind) → Within (next_end k).Fails
next_end_inside end_kinds.At = moment_inside
next_end_inside end_kinds.After = period_inside

end_inside : Inside end
unfolding end
end_inside = led_inside end_kind next_end end_line end_kind_inside next_end_inside

-- ---- records

op_inside : Inside op
unfolding op
op_inside = coded_inside Tag op_with op_byte byte (λ n. refl) byte_inside

creation_inside : Inside creation
creation_inside = then_inside (option name) (parts then option moment) (option_inside name name_inside) (then_inside parts (option moment) parts_inside (option_inside moment moment_inside))

next_command_inside : (o : Op) → Within (next_command o).Fails
next_command_inside Create = creation_inside
next_command_inside Claim = nothing_inside
next_command_inside Start = nothing_inside
next_command_inside Stop = nothing_inside
next_command_inside Release = nothing_inside
next_command_inside Delegate = name_inside
next_command_inside Forward = some_names_inside
next_command_inside Nominate = some_names_inside
next_command_inside Activate = nothing_inside
next_command_inside SetRole = then_inside role names role_inside names_inside
next_command_inside SetPriority = priority_inside
next_command_inside Suspend = nothing_inside
next_command_inside SuspendUntil = end_inside
next_command_inside Resume = nothing_inside
next_command_inside SetOutput = some_parts_inside
next_command_inside Complete = parts_inside
next_command_inside Fail = option_inside name name_inside
next_command_inside Skip = nothing_inside
next_command_inside Exit = nothing_inside
next_command_inside Error = nothing_inside
next_command_inside AddComment = some_text_inside
next_command_inside InstantiateSubTask = name_inside
next_command_inside Get = λ whole left fault is. left_inside Tag (λ n. refl) whole left fault is

task_inside : Inside task_and_op
unfolding task_and_op
task_inside = tested_inside _ (number w32 (2 ^ 32) then op) (then_inside (number w32 (2 ^ 32)) op (number_inside w32 (2 ^ 32)) op_inside)

head_inside : Inside head
head_inside = then_inside asker task_and_op (then_inside moment (name then retry) moment_inside (then_inside name retry name_inside retry_inside)) task_inside

question_inside : Inside question
question_inside = led_inside head next_question question_line head_inside (λ h. next_command_inside h.1.1)

kind_inside : Inside kind
unfolding kind
kind_inside = coded_inside Tag kind_of kind_byte byte (λ n. refl) byte_inside

next_record_inside : (k : RecordKind) → Within (next_record k).Fails
next_record_inside Opening = then_inside opening_text opening_text opening_text_inside opening_text_inside
next_record_inside Turn = moment_inside
next_record_inside Asked = question_inside

entry_inside : Inside entry
unfolding entry
entry_inside = led_inside kind next_record record_line kind_inside next_record_inside

pub refusal_inside : (bytes : List ℕ) (why : CodecRefusal) → Refuses bytes why → place_of why ≤ length bytes
refusal_inside bytes why (inl fails) = entry_inside (length bytes) bytes why fails
refusal_inside bytes why (inr behind) = left_inside Trailing (λ n. refl) (length bytes) behind.rest why behind.fails.1
