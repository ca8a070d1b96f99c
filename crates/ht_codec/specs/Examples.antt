-- Worked examples of the definitions. A wrong reading of one fails the check.
use Rattle.std.specs.Prelude.{◌≡◌, ℕ, List, [], ◌∷◌, ◌++◌, Some, None, Err, codes, pos, true, refl}
use Rattle.ht_base.specs.Records.RecordOf.{a_turn, an_asking, an_opening}
use Rattle.ht_base.specs.declared.end.End.TheVariants as ends
use Rattle.ht_base.specs.declared.event.Command.{Command}
use Rattle.ht_base.specs.declared.event.Command.TheVariants.{AddComment, Claim, Create, Forward, SetOutput, SetRole, SuspendUntil}
use Rattle.ht_base.specs.declared.role_list.RoleList.TheVariants as roles
use Rattle.ht_base.specs.declared.scalar.Scalar.TheVariants.{Int, Text, Truth}
use Rattle.ht_codec.specs.Fields.{device, end, end_kind, int, moment, name, name_behind, name_length, names, names_count, new_name, opening_length, opening_text, parts, parts_count, period, retry, retry_number, role, scalar, scalar_kind, some_names, some_parts, some_text, text, text_length, truth}
use Rattle.ht_codec.specs.Forms.{flag, read_items}
use Rattle.ht_codec.specs.Records.{command_line, entry, kind, op, read_all, task_and_op}
use Rattle.ht_codec.specs.declared.refusal.CodecRefusal.TheVariants.{Range, Short, Tag, Trailing}

-- ---- spellings

a_turn_at_1000 : entry.text (a_turn (record { 0 = 1000 })) ≡ 1 ∷ 232 ∷ 3 ∷ 0 ∷ 0 ∷ 0 ∷ 0 ∷ 0 ∷ 0 ∷ []
unfolding entry kind moment
a_turn_at_1000 = refl

-- the bytes of both texts, each behind its length
two_texts : entry.text (an_opening (codes "mo") (codes "p")) ≡ 0 ∷ 2 ∷ 0 ∷ 0 ∷ 0 ∷ 109 ∷ 111 ∷ 1 ∷ 0 ∷ 0 ∷ 0 ∷ 112 ∷ []
unfolding entry kind opening_text opening_length
two_texts = refl

-- at 2000 anna, with no number, asks of a task
abbrev pub head_of_anna : List ℕ
head_of_anna = 2 ∷ 208 ∷ 7 ∷ 0 ∷ 0 ∷ 0 ∷ 0 ∷ 0 ∷ 0 ∷ 4 ∷ 97 ∷ 110 ∷ 110 ∷ 97 ∷ 16 ∷ []

a_claim_by_anna : entry.text (an_asking (record { 0 = 2000 }) (codes "anna") None (record { 0 = 1 }) Claim) ≡ head_of_anna ++ (1 ∷ 0 ∷ 0 ∷ 0 ∷ 2 ∷ [])
unfolding entry kind moment name name_length retry device task_and_op op
a_claim_by_anna = refl

-- a device and its number stand in front of the task
a_numbered_claim : entry.text (an_asking (record { 0 = 0 }) (codes "b") (Some (record { device = 3; number = 258 })) (record { 0 = 7 }) Claim) ≡ 2 ∷ 0 ∷ 0 ∷ 0 ∷ 0 ∷ 0 ∷ 0 ∷ 0 ∷ 0 ∷ 1 ∷ 98 ∷ 3 ∷ 2 ∷ 1 ∷ 0 ∷ 0 ∷ 7 ∷ 0 ∷ 0 ∷ 0 ∷ 2 ∷ []
unfolding entry kind moment name name_length retry device retry_number task_and_op op
a_numbered_claim = refl

-- ---- fields of commands

abbrev pub fields_of : Command → List ℕ
fields_of c = (command_line c).text

a_create_of_a_model : fields_of (Create (Some (codes "m")) ((codes "a", Text (codes "x")) ∷ []) (Some (record { 0 = 7000 }))) ≡ 1 ∷ 1 ∷ 109 ∷ 1 ∷ 1 ∷ 97 ∷ 0 ∷ 1 ∷ 0 ∷ 120 ∷ 1 ∷ 88 ∷ 27 ∷ 0 ∷ 0 ∷ 0 ∷ 0 ∷ 0 ∷ 0 ∷ []
unfolding flag name name_length parts parts_count name_behind scalar scalar_kind text text_length moment
a_create_of_a_model = refl

two_persons : fields_of (Forward (codes "ben" ∷ codes "c" ∷ [])) ≡ 2 ∷ 0 ∷ 3 ∷ 98 ∷ 101 ∷ 110 ∷ 1 ∷ 99 ∷ []
unfolding some_names names names_count new_name name name_length
two_persons = refl

-- the persons of a role may be none
nobody_excluded : fields_of (SetRole roles.ExcludedOwners []) ≡ 1 ∷ 0 ∷ 0 ∷ []
unfolding role names names_count
nobody_excluded = refl

a_second_long : fields_of (SuspendUntil (ends.After 1000)) ≡ 1 ∷ 232 ∷ 3 ∷ 0 ∷ 0 ∷ 0 ∷ 0 ∷ 0 ∷ 0 ∷ []
unfolding end end_kind period
a_second_long = refl

two_scalars : fields_of (SetOutput ((codes "a", Int (pos 5)) ∷ (codes "b", Truth true) ∷ [])) ≡ 2 ∷ 1 ∷ 97 ∷ 1 ∷ 5 ∷ 0 ∷ 0 ∷ 0 ∷ 0 ∷ 0 ∷ 0 ∷ 0 ∷ 1 ∷ 98 ∷ 2 ∷ 1 ∷ []
unfolding some_parts parts parts_count name_behind name name_length scalar scalar_kind int truth
two_scalars = refl

a_comment : fields_of (AddComment (codes "soon")) ≡ 4 ∷ 0 ∷ 115 ∷ 111 ∷ 111 ∷ 110 ∷ []
unfolding some_text text text_length
a_comment = refl

-- ---- the first fault

no_bytes : read_all [] ≡ Err (Short 0)
unfolding read_all entry kind
no_bytes = refl

no_such_record : read_all (3 ∷ []) ≡ Err (Tag 0)
unfolding read_all entry kind
no_such_record = refl

a_cut_turn : read_all (1 ∷ 232 ∷ 3 ∷ 0 ∷ 0 ∷ 0 ∷ 0 ∷ 0 ∷ []) ≡ Err (Short 8)
unfolding read_all entry kind moment
a_cut_turn = refl

a_byte_behind_a_turn : read_all (1 ∷ 232 ∷ 3 ∷ 0 ∷ 0 ∷ 0 ∷ 0 ∷ 0 ∷ 0 ∷ 7 ∷ []) ≡ Err (Trailing 9)
unfolding read_all entry kind moment
a_byte_behind_a_turn = refl

-- one millisecond behind the last moment
a_moment_too_late : read_all (2 ∷ 0 ∷ 220 ∷ 31 ∷ 210 ∷ 119 ∷ 230 ∷ 0 ∷ 0 ∷ []) ≡ Err (Range 1)
unfolding read_all entry kind moment
a_moment_too_late = refl

-- a length out of its range is told before the bytes are missed
a_text_too_long : read_all (0 ∷ 1 ∷ 0 ∷ 4 ∷ 0 ∷ []) ≡ Err (Range 1)
unfolding read_all entry kind opening_text opening_length
a_text_too_long = refl

-- the operation is read before task 0 is judged
no_task_to_claim : read_all (head_of_anna ++ (0 ∷ 0 ∷ 0 ∷ 0 ∷ 2 ∷ [])) ≡ Err (Range 15)
unfolding read_all entry kind moment name name_length retry device task_and_op op
no_task_to_claim = refl

no_such_operation : read_all (head_of_anna ++ (0 ∷ 0 ∷ 0 ∷ 0 ∷ 23 ∷ [])) ≡ Err (Tag 19)
unfolding read_all entry kind moment name name_length retry device task_and_op op
no_such_operation = refl

a_name_twice : read_all (head_of_anna ++ (1 ∷ 0 ∷ 0 ∷ 0 ∷ 7 ∷ 2 ∷ 0 ∷ 1 ∷ 98 ∷ 1 ∷ 98 ∷ [])) ≡ Err (Range 24)
unfolding read_all entry kind moment name name_length retry device task_and_op op some_names names names_count new_name read_items
a_name_twice = refl

-- a name out of order is told before its scalar is read
a_part_out_of_order : read_all (head_of_anna ++ (1 ∷ 0 ∷ 0 ∷ 0 ∷ 16 ∷ 2 ∷ 1 ∷ 98 ∷ 2 ∷ 1 ∷ 1 ∷ 97 ∷ 9 ∷ [])) ≡ Err (Range 25)
unfolding read_all entry kind moment name name_length retry device task_and_op op parts parts_count name_behind scalar scalar_kind truth read_items
a_part_out_of_order = refl

-- 1,024 names are announced, and none comes
no_names_come : read_all (head_of_anna ++ (1 ∷ 0 ∷ 0 ∷ 0 ∷ 7 ∷ 0 ∷ 4 ∷ [])) ≡ Err (Short 22)
unfolding read_all entry kind moment name name_length retry device task_and_op op some_names names names_count new_name read_items
no_names_come = refl
