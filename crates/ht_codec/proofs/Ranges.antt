-- What a field may hold is what is valid.
use Rattle.std.proofs.Common.{◌≡◌, ℕ, ◌^◌, ◌<◌, ◌≤◌, Bool, true, false, nat_le, ltb, eqb, cond, not, ◌&&◌, List, [], ◌∷◌, length, Option, Some, None, refl, arith}
use Rattle.std.specs.Prelude.{IfSome, FitsSigned, ℤ}
use Rattle.std.specs.Int.{w64}
use Rattle.std.specs.List.{All, list_all}
use Rattle.std.specs.Str.{is_utf8}
use Rattle.std.proofs.lemmas.Bool.{le-leb, leb-true, lt-ltb, ltb-true}
use Rattle.std.proofs.lemmas.Bool.Decides.{nat_tests}
use Rattle.ht_base.specs.Events.{AreGiven, AreNames, IsCommand, IsEnd, IsRetry, IsTaskOf, is_short, suits}
use Rattle.ht_base.specs.Moment.{last_moment}
use Rattle.ht_base.specs.Name.{IsName, is_name_byte}
use Rattle.ht_base.specs.Records.{RecordOf}
use Rattle.ht_base.specs.Records.RecordOf.{an_opening, a_turn, an_asking}
use Rattle.ht_base.specs.Values.{Ascend}
use Rattle.ht_base.specs.declared.limits.TheConstants.{LAST_DEVICE, LONGEST_NAME, LONGEST_OFFICE_TEXT, LONGEST_PERIOD, LONGEST_TEXT, LOWEST_PRIORITY}
use Rattle.ht_base.specs.declared.end.End.{End}
use Rattle.ht_base.specs.declared.end.End.TheVariants as ends
use Rattle.ht_base.specs.declared.event.Command.{Command}
use Rattle.ht_base.specs.declared.event.Command.TheVariants as commands
use Rattle.ht_base.specs.declared.moment.Moment.{Moment}
use Rattle.ht_base.specs.declared.retry.Retry.{Retry}
use Rattle.ht_base.specs.declared.scalar.Scalar.{Scalar}
use Rattle.ht_base.specs.declared.scalar.Scalar.TheVariants as scalars
use Rattle.ht_base.specs.declared.task_id.TaskId.{TaskId}
use Rattle.ht_codec.specs.declared.fields.TheConstants.{NO_DEVICE}
use Rattle.ht_codec.specs.Fields.{moment, period, name_length, name, device_of, device, retry_number, retry, text_length, text, some_text, names_count, names, some_names, int, truth, scalar_kind, scalar, parts_count, parts, some_parts, priority, end_kind, end, opening_length, opening_text}
use Rattle.ht_codec.specs.Records.{op, command_line, task_and_op, entry, IsRecord}
use Rattle.ht_codec.proofs.Distinct.{PartFits, ascending_items, distinct_items, items_distinct, items_short}
use Rattle.ht_codec.proofs.Steps.{some_is}

-- ---- moments, periods and names

pub moment_fits : (m : Moment) → m.0 ≤ last_moment → moment.Fits m
unfolding moment
moment_fits m h = (omega arith, le-leb _ _ h)

pub moment_valid : (m : Moment) → moment.Fits m → m.0 ≤ last_moment
unfolding moment
moment_valid m h = leb-true _ _ h.1

pub period_fits : (n : ℕ) → n ≤ LONGEST_PERIOD → period.Fits n
unfolding period
period_fits n h = (omega arith, le-leb _ _ h)

pub period_valid : (n : ℕ) → period.Fits n → n ≤ LONGEST_PERIOD
unfolding period
period_valid n h = leb-true _ _ h.1

-- how many bytes a name has
length_test : (n : ℕ) (rest : Bool) → (not (eqb n 0) && nat_le n LONGEST_NAME && rest) ≡ true → (nat_le 1 n && nat_le n LONGEST_NAME) ≡ true
length_test n rest h = grind (arith, nat_tests)

length_within : (n : ℕ) → (nat_le 1 n && nat_le n LONGEST_NAME) ≡ true → n ≤ LONGEST_NAME
length_within n h = grind (arith, nat_tests)

length_low : (n : ℕ) → (nat_le 1 n && nat_le n LONGEST_NAME) ≡ true → n < 256
length_low n h = let within = length_within n h in omega arith

pub name_fits : (n : List ℕ) → IsName n → name.Fits n
unfolding name name_length
name_fits n h = let t = length_test (length n) (list_all is_name_byte n) h in ((length_low (length n) t, t), h)

pub name_valid : (n : List ℕ) → name.Fits n → IsName n
unfolding name
name_valid n h = h.1

pub name_short : (n : List ℕ) → name.Fits n → length n ≤ LONGEST_NAME
unfolding name name_length
name_short n h = length_within (length n) h.0.1

-- ---- the device and the number of a command

low_device : (d : ℕ) → d ≤ LAST_DEVICE → device_of d ≡ Some (Some d)
low_device d h = let low : ltb d NO_DEVICE ≡ true = lt-ltb d NO_DEVICE (omega arith) in rw low refl

device_low : (d : ℕ) → device_of d ≡ Some (Some d) → d ≤ LAST_DEVICE
device_low d h = at (ltb d NO_DEVICE) (eqb d NO_DEVICE) refl h
  where
    at : (low none : Bool) → ltb d NO_DEVICE ≡ low → cond low (Some (Some d)) (cond none (Some None) None) ≡ Some (Some d) → d ≤ LAST_DEVICE
    at true none is e = let lt = ltb-true d NO_DEVICE is in omega arith
    at false true is e = absurd (let same : None ≡ Some d = some_is None (Some d) e in cc)
    at false false is e = absurd cc

pub retry_number_fits : (n : ℕ) → n < 2 ^ 32 → 1 ≤ n → retry_number.Fits n
unfolding retry_number
retry_number_fits n short h = (short, le-leb _ _ h)

pub no_retry_fits : retry.Fits None
unfolding retry device
no_retry_fits = ((omega arith, refl), tt)

pub some_retry_fits : (r : Retry) → IsRetry r → retry_number.Fits r.number → retry.Fits (Some r)
unfolding retry device
some_retry_fits r h n = let low = h.0 in ((omega arith, low_device r.device h.0), n)

pub retry_valid : (r : Option Retry) → retry.Fits r → IfSome r IsRetry
unfolding retry device retry_number
retry_valid None h = tt
retry_valid (Some r) h = (device_low r.device h.0.1, leb-true _ _ h.1.1)

-- ---- texts

pub text_fits : (t : List ℕ) → is_utf8 t ≡ true → length t ≤ LONGEST_TEXT → text.Fits t
unfolding text text_length
text_fits t utf8 h = ((omega arith, le-leb _ _ h), utf8)

pub text_valid : (t : List ℕ) → text.Fits t → length t ≤ LONGEST_TEXT
unfolding text text_length
text_valid t h = leb-true _ _ h.0.1

pub some_text_fits : (t : List ℕ) → text.Fits t → 1 ≤ length t → some_text.Fits t
unfolding some_text
some_text_fits t fits h = (fits, le-leb _ _ h)

pub some_text_valid : (t : List ℕ) → some_text.Fits t → (1 ≤ length t) × (length t ≤ LONGEST_TEXT)
unfolding some_text
some_text_valid t h = (leb-true _ _ h.1, text_valid t h.0)

pub opening_text_fits : (t : List ℕ) → length t ≤ LONGEST_OFFICE_TEXT → opening_text.Fits t
unfolding opening_text opening_length
opening_text_fits t h = (omega arith, le-leb _ _ h)

pub opening_text_valid : (t : List ℕ) → opening_text.Fits t → length t ≤ LONGEST_OFFICE_TEXT
unfolding opening_text opening_length
opening_text_valid t h = leb-true _ _ h.1

-- ---- lists of names

pub names_fits : (ns : List (List ℕ)) → AreNames ns → All name.Fits ns → names.Fits ns
unfolding names names_count
names_fits ns h are = let few = h.few in ((omega arith, le-leb _ _ h.few), distinct_items [] ns h.distinct are)

pub names_valid : (ns : List (List ℕ)) → names.Fits ns → AreNames ns
unfolding names names_count
names_valid ns h = record { few = leb-true _ _ h.0.1; distinct = items_distinct ns h.1 }

pub some_names_fits : (ns : List (List ℕ)) → names.Fits ns → 1 ≤ length ns → some_names.Fits ns
unfolding some_names
some_names_fits ns fits h = (fits, le-leb _ _ h)

pub some_names_valid : (ns : List (List ℕ)) → some_names.Fits ns → AreNames ns × (1 ≤ length ns)
unfolding some_names
some_names_valid ns h = (names_valid ns h.0, leb-true _ _ h.1)

-- ---- scalars and parts

pub scalar_text_fits : (t : List ℕ) → text.Fits t → scalar.Fits (scalars.Text t)
unfolding scalar scalar_kind
scalar_text_fits t h = ((omega arith, refl), h)

pub scalar_int_fits : (z : ℤ) → FitsSigned w64 z → scalar.Fits (scalars.Int z)
unfolding scalar scalar_kind int
scalar_int_fits z h = ((omega arith, refl), h)

pub scalar_truth_fits : (b : Bool) → scalar.Fits (scalars.Truth b)
unfolding scalar scalar_kind truth
scalar_truth_fits true = ((omega arith, refl), (omega arith, refl))
scalar_truth_fits false = ((omega arith, refl), (omega arith, refl))

scalar_short : (v : List ℕ × Scalar) → scalar.Fits v.1 → is_short LONGEST_TEXT v ≡ true
unfolding scalar
scalar_short (n, scalars.Text t) h = let short = text_valid t h.1 in lt-ltb _ _ (omega arith)
scalar_short (n, scalars.Int z) h = refl
scalar_short (n, scalars.Truth b) h = refl

pub parts_fits : (vs : List (List ℕ × Scalar)) → AreGiven vs → Ascend vs → All PartFits vs → parts.Fits vs
unfolding parts parts_count
parts_fits [] h ascend are = ((omega arith, refl), tt)
parts_fits (v ∷ vs) h ascend are = let few = h.few in ((omega arith, le-leb _ _ h.few), ascending_items [] v vs refl ascend are)

pub parts_valid : (vs : List (List ℕ × Scalar)) → parts.Fits vs → AreGiven vs
unfolding parts parts_count
parts_valid vs h = record { few = leb-true _ _ h.0.1; short = items_short [] vs scalar_short h.1 }

pub some_parts_fits : (vs : List (List ℕ × Scalar)) → parts.Fits vs → 1 ≤ length vs → some_parts.Fits vs
unfolding some_parts
some_parts_fits vs fits h = (fits, le-leb _ _ h)

pub some_parts_valid : (vs : List (List ℕ × Scalar)) → some_parts.Fits vs → AreGiven vs × (1 ≤ length vs)
unfolding some_parts
some_parts_valid vs h = (parts_valid vs h.0, leb-true _ _ h.1)

-- ---- a priority, and the end of a suspension

pub priority_fits : (n : ℕ) → n ≤ LOWEST_PRIORITY → priority.Fits n
unfolding priority
priority_fits n h = (omega arith, le-leb _ _ h)

pub priority_valid : (n : ℕ) → priority.Fits n → n ≤ LOWEST_PRIORITY
unfolding priority
priority_valid n h = leb-true _ _ h.1

pub end_fits : (e : End) → IsEnd e → end.Fits e
unfolding end end_kind
end_fits (ends.At m) h = ((omega arith, refl), moment_fits m h)
end_fits (ends.After n) h = ((omega arith, refl), period_fits n h)

pub end_valid : (e : End) → end.Fits e → IsEnd e
unfolding end
end_valid (ends.At m) h = moment_valid m h.1
end_valid (ends.After n) h = period_valid n h.1

-- ---- options

pub some_moment_valid : (m : Option Moment) → IfSome m moment.Fits → IfSome m (λ v. v.0 ≤ last_moment)
some_moment_valid None h = tt
some_moment_valid (Some m) h = moment_valid m h

pub some_moment_fits : (m : Option Moment) → IfSome m (λ v. v.0 ≤ last_moment) → IfSome m moment.Fits
some_moment_fits None h = tt
some_moment_fits (Some m) h = moment_fits m h

-- ---- commands

pub command_valid : (c : Command) → (command_line c).Fits → IsCommand c
command_valid (commands.Create model input activate_at) h = (parts_valid input h.1.0, some_moment_valid activate_at h.1.1)
command_valid (commands.Forward persons) h = some_names_valid persons h
command_valid (commands.Nominate persons) h = some_names_valid persons h
command_valid (commands.SetRole r persons) h = names_valid persons h.1
command_valid (commands.SetPriority p) h = priority_valid p h
command_valid (commands.SuspendUntil e) h = end_valid e h
command_valid (commands.SetOutput output) h = some_parts_valid output h
command_valid (commands.Complete output) h = parts_valid output h
command_valid (commands.AddComment t) h = some_text_valid t h
command_valid _ h = tt

-- the operation of each command is one that is kept
pub op_fits : (c : Command) → op.Fits (command_line c).head
unfolding op
op_fits (commands.Create model input activate_at) = (omega arith, refl)
op_fits _ = (omega arith, refl)

task_valid : (c : Command) (task : TaskId) → suits task.0 (command_line c).head ≡ true → IsTaskOf c task
task_valid (commands.Create model input activate_at) task h = h
task_valid _ task h = h

pub task_fits : (c : Command) (task : TaskId) → IsTaskOf c task → suits task.0 (command_line c).head ≡ true
task_fits (commands.Create model input activate_at) task h = h
task_fits _ task h = h

-- ---- records

-- what may be kept is valid
pub fits_is_valid : (r : RecordOf) → entry.Fits r → IsRecord r
unfolding entry task_and_op
fits_is_valid (an_opening models people) h = (opening_text_valid models h.1.0, opening_text_valid people h.1.1)
fits_is_valid (a_turn at) h = moment_valid at h.1
fits_is_valid (an_asking at caller retry task command) h =
    (moment_valid at h.1.0.0.0, retry_valid retry h.1.0.0.1.1, task_valid command task h.1.0.1.1, command_valid command h.1.1)
