-- A record's fields may hold just what is valid and of its types.
use Rattle.std.proofs.Common.{◌≡◌, ℕ, ◌^◌, ◌<◌, get_or, List, [], ◌∷◌, ◌++◌, length, Option, Some, None, refl, subst, arith, IsTrue, true}
use Rattle.std.specs.Prelude.{IfSome}
use Rattle.std.specs.List.{All}
use Rattle.std.specs.Str.{is_utf8}
use Rattle.std.proofs.lemmas.Bool.{ltb-true}
use Rattle.std.proofs.lemmas.List.Elements.{All-cons, All-nil}
use Rattle.ht_base.specs.Events.{AreGiven, AreNames, IsCommand, IsRetry, is_short}
use Rattle.ht_base.specs.Name.{IsName}
use Rattle.ht_base.specs.Records.{RecordOf}
use Rattle.ht_base.specs.Records.RecordOf.{a_turn, an_asking, an_opening}
use Rattle.ht_base.specs.declared.limits.TheConstants.{LONGEST_TEXT}
use Rattle.ht_base.specs.declared.event.Command.{Command}
use Rattle.ht_base.specs.declared.event.Command.TheVariants as commands
use Rattle.ht_base.specs.declared.retry.Retry.{Retry}
use Rattle.ht_base.specs.declared.role_list.RoleList.{RoleList}
use Rattle.ht_base.specs.declared.role_list.RoleList.TheVariants as roles
use Rattle.ht_base.specs.declared.scalar.Scalar.{Scalar}
use Rattle.ht_base.specs.declared.scalar.Scalar.TheVariants as scalars
use Rattle.ht_codec.specs.Fields.{int, is_behind, name, name_behind, names, new_name, new_part, parts, retry, retry_number, role, scalar, some_names, some_parts, some_text, text}
use Rattle.ht_codec.specs.Forms.{ItemsFit}
use Rattle.ht_codec.specs.Records.{IsRecord, command_line, entry, kind, task_and_op}
use Rattle.ht_codec.specs.Types.{CommandHolds, PartsHold, RecordHolds, ScalarHolds}
use Rattle.ht_codec.proofs.Distinct.{last_pushed, short_at}
use Rattle.ht_codec.proofs.Ranges.{end_fits, moment_fits, name_fits, name_valid, names_fits, no_retry_fits, op_fits, opening_text_fits, parts_fits, priority_fits, retry_number_fits, scalar_int_fits, scalar_text_fits, scalar_truth_fits, some_moment_fits, some_names_fits, some_parts_fits, some_retry_fits, some_text_fits, task_fits, text_fits}

-- ---- from what is valid and of its types

scalar_fits : (s : Scalar) → ScalarHolds s → is_short LONGEST_TEXT ([], s) ≡ true → scalar.Fits s
scalar_fits (scalars.Text t) h short = let lt = ltb-true (length t) 513 short in scalar_text_fits t (text_fits t h (omega arith))
scalar_fits (scalars.Int z) h short = scalar_int_fits z h
scalar_fits (scalars.Truth b) h short = scalar_truth_fits b

given_fit : (vs : List (List ℕ × Scalar)) → AreGiven vs → PartsHold vs → parts.Fits vs
given_fit vs given h = parts_fits vs given h.ascend (λ k d lt. (name_fits (get_or vs k d).0 (h.names k d lt), scalar_fits (get_or vs k d).1 (h.scalars k d lt) (short_at vs k d lt given.short)))

named_fit : (ns : List (List ℕ)) → AreNames ns → All IsName ns → names.Fits ns
named_fit ns are h = names_fits ns are (λ k d lt. name_fits (get_or ns k d) (h k d lt))

some_name_fits : (n : Option (List ℕ)) → IfSome n IsName → IfSome n name.Fits
some_name_fits None h = tt
some_name_fits (Some n) h = name_fits n h

role_fits : (r : RoleList) → role.Fits r
unfolding role
role_fits roles.PotentialOwners = (omega arith, refl)
role_fits roles.ExcludedOwners = (omega arith, refl)
role_fits roles.Administrators = (omega arith, refl)
role_fits roles.Stakeholders = (omega arith, refl)

number_fits : (r : Option Retry) → IfSome r IsRetry → IfSome r (λ n. n.number < 2 ^ 32) → retry.Fits r
number_fits None h k = no_retry_fits
number_fits (Some r) h k = some_retry_fits r h (retry_number_fits r.number k h.1)

command_fits : (c : Command) → IsCommand c → CommandHolds c → (command_line c).Fits
command_fits (commands.Create model input activate_at) h k = (some_name_fits model k.0, (given_fit input h.0 k.1, some_moment_fits activate_at h.1))
command_fits (commands.Delegate person) h k = name_fits person k
command_fits (commands.Forward persons) h k = some_names_fits persons (named_fit persons h.0 k) h.1
command_fits (commands.Nominate persons) h k = some_names_fits persons (named_fit persons h.0 k) h.1
command_fits (commands.SetRole r persons) h k = (role_fits r, named_fit persons h k)
command_fits (commands.SetPriority p) h k = priority_fits p h
command_fits (commands.SuspendUntil e) h k = end_fits e h
command_fits (commands.SetOutput output) h k = some_parts_fits output (given_fit output h.0 k) h.1
command_fits (commands.Complete output) h k = given_fit output h k
command_fits (commands.Fail fault) h k = some_name_fits fault k
command_fits (commands.AddComment t) h k = some_text_fits t (text_fits t k h.1) h.0
command_fits (commands.InstantiateSubTask sub) h k = name_fits sub k
command_fits _ h k = tt

pub valid_fits : (r : RecordOf) → IsRecord r → RecordHolds r → entry.Fits r
unfolding entry kind task_and_op
valid_fits (an_opening models people) h k = ((omega arith, refl), (opening_text_fits models h.0, opening_text_fits people h.1))
valid_fits (a_turn at) h k = ((omega arith, refl), moment_fits at h)
valid_fits (an_asking at caller retry task command) h k =
    ((omega arith, refl), (((moment_fits at h.0, (name_fits caller k.0, number_fits retry h.1 k.1)), ((k.2, op_fits command), task_fits command task h.2)), command_fits command h.3 k.3))

-- ---- and back

scalar_holds : (s : Scalar) → scalar.Fits s → ScalarHolds s
unfolding scalar text int
scalar_holds (scalars.Text t) h = h.1.1
scalar_holds (scalars.Int z) h = h.1
scalar_holds (scalars.Truth b) h = tt

items_hold : (front vs : List (List ℕ × Scalar)) → ItemsFit new_part front vs → PartsHold vs
unfolding name_behind
items_hold front [] fits = record { names = All-nil (λ p. IsName p.0); scalars = All-nil (λ p. ScalarHolds p.1); ascend = tt }
items_hold front (v ∷ []) fits = record {
  names = All-cons (λ p. IsName p.0) v [] (name_valid v.0 fits.0.0.0) (All-nil (λ p. IsName p.0));
  scalars = All-cons (λ p. ScalarHolds p.1) v [] (scalar_holds v.1 fits.0.1) (All-nil (λ p. ScalarHolds p.1));
  ascend = tt;
}
items_hold front (v ∷ w ∷ vs) fits =
    let rest = items_hold (front ++ v ∷ []) (w ∷ vs) fits.1 in
    record {
      names = All-cons (λ p. IsName p.0) v (w ∷ vs) (name_valid v.0 fits.0.0.0) rest.names;
      scalars = All-cons (λ p. ScalarHolds p.1) v (w ∷ vs) (scalar_holds v.1 fits.0.1) rest.scalars;
      ascend = (subst (λ (o : Option (List ℕ)). IsTrue (is_behind o w.0)) (last_pushed front v) fits.1.0.0.1, rest.ascend);
    }

parts_hold : (vs : List (List ℕ × Scalar)) → parts.Fits vs → PartsHold vs
unfolding parts
parts_hold vs h = items_hold [] vs h.1

some_parts_hold : (vs : List (List ℕ × Scalar)) → some_parts.Fits vs → PartsHold vs
unfolding some_parts
some_parts_hold vs h = parts_hold vs h.0

items_named : (front ns : List (List ℕ)) → ItemsFit new_name front ns → All IsName ns
unfolding new_name
items_named front [] fits = All-nil IsName
items_named front (n ∷ ns) fits = All-cons IsName n ns (name_valid n fits.0.0) (items_named (front ++ n ∷ []) ns fits.1)

names_hold : (ns : List (List ℕ)) → names.Fits ns → All IsName ns
unfolding names
names_hold ns h = items_named [] ns h.1

some_names_hold : (ns : List (List ℕ)) → some_names.Fits ns → All IsName ns
unfolding some_names
some_names_hold ns h = names_hold ns h.0

some_name_holds : (n : Option (List ℕ)) → IfSome n name.Fits → IfSome n IsName
some_name_holds None h = tt
some_name_holds (Some n) h = name_valid n h

some_text_holds : (t : List ℕ) → some_text.Fits t → is_utf8 t ≡ true
unfolding some_text text
some_text_holds t h = h.0.1

number_holds : (r : Option Retry) → retry.Fits r → IfSome r (λ n. n.number < 2 ^ 32)
unfolding retry retry_number
number_holds None h = tt
number_holds (Some r) h = h.1.0

command_holds : (c : Command) → (command_line c).Fits → CommandHolds c
command_holds (commands.Create model input activate_at) h = (some_name_holds model h.0, parts_hold input h.1.0)
command_holds (commands.Delegate person) h = name_valid person h
command_holds (commands.Forward persons) h = some_names_hold persons h
command_holds (commands.Nominate persons) h = some_names_hold persons h
command_holds (commands.SetRole r persons) h = names_hold persons h.1
command_holds (commands.SetOutput output) h = some_parts_hold output h
command_holds (commands.Complete output) h = parts_hold output h
command_holds (commands.Fail fault) h = some_name_holds fault h
command_holds (commands.AddComment t) h = some_text_holds t h
command_holds (commands.InstantiateSubTask sub) h = name_valid sub h
command_holds _ h = tt

pub fits_holds : (r : RecordOf) → entry.Fits r → RecordHolds r
unfolding entry task_and_op
fits_holds (an_opening models people) h = tt
fits_holds (a_turn at) h = tt
fits_holds (an_asking at caller retry task command) h =
    (name_valid caller h.1.0.0.1.0, number_holds retry h.1.0.0.1.1, h.1.0.1.0.0, command_holds command h.1.1)
