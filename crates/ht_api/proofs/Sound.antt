-- The values of a body and its command are in their limits.
use Rattle.std.proofs.Common.{◌≡◌, ◌≤◌, refl, ap, subst, ℕ, List, [], length, Option, Some, None, unwrap_or, Result, Ok, Err}
use Rattle.std.specs.Prelude.{IfSome, IsTrue}
use Rattle.serde_json.specs.Data.{Data}
use Rattle.ht_base.specs.declared.limits.TheConstants.{LAST_DEVICE, LAST_NUMBER, LONGEST_PERIOD, LONGEST_TEXT, LOWEST_PRIORITY}
use Rattle.ht_base.specs.declared.event.Command.{Command}
use Rattle.ht_base.specs.declared.event.Command.TheVariants as command
use Rattle.ht_base.specs.declared.operation.Op.TheVariants as op
use Rattle.ht_base.specs.declared.scalar.Scalar.{Scalar}
use Rattle.ht_base.specs.declared.task_id.TaskId.{TaskId}
use Rattle.ht_base.specs.declared.retry.Retry.{Retry}
use Rattle.ht_base.specs.Moment.{last_moment}
use Rattle.ht_base.specs.declared.end.End.TheVariants.{At, After}
use Rattle.ht_base.specs.declared.moment.Moment.{Moment}
use Rattle.ht_base.specs.Events.{AreGiven, AreNames, IsCommand, IsRetry, IsTaskOf, suits}
use Rattle.ht_api.specs.declared.asked.Asked.{Asked}
use Rattle.ht_api.specs.declared.asked.Asked.TheVariants as asked
use Rattle.ht_api.specs.declared.fields.Fields.{Fields}
use Rattle.ht_api.specs.declared.keys.Key.{Key}
use Rattle.ht_api.specs.declared.keys.Key.TheVariants.{Device, Number, Model, Person, Role, Owners, Persons, Priority, Until, For, ActivateAt, Text, Sub, Input, Output, SomeOutput}
use Rattle.ht_api.specs.declared.refusal.ApiRefusal.{ApiRefusal}
use Rattle.ht_api.specs.Commands.{Numbered, command_from, command_in, command_of, end_of, needing, numbered, retry_from, suspended}
use Rattle.ht_api.specs.Bodies.{json_in}
use Rattle.ht_api.specs.Fields.{fields_from, no_fields, number_keys, rows_in, with_key}
use Rattle.ht_api.proofs.Fitting.{given, if_there, moment_fits, no_parts, owners_fit, period_fits, persons_fit, some_given, text_fits, whole_fits}
use Rattle.ht_api.proofs.ByKey.{Value, field, fitting, key_keeps}
use Rattle.ht_api.proofs.Required.{from_number, taken_kept}

-- ---- fields

-- the value of a key is in its limits
abbrev pub IsSound : (key : Key) → Value key → Type 0
IsSound Device n = n ≤ LAST_DEVICE
IsSound Number n = 1 ≤ n
IsSound Owners names = AreNames names × (1 ≤ length names)
IsSound Persons names = AreNames names
IsSound Priority n = n ≤ LOWEST_PRIORITY
IsSound Until m = m.0 ≤ last_moment
IsSound For n = n ≤ LONGEST_PERIOD
IsSound ActivateAt m = m.0 ≤ last_moment
IsSound Text text = (1 ≤ length text) × (length text ≤ LONGEST_TEXT)
IsSound Input parts = AreGiven parts
IsSound Output parts = AreGiven parts
IsSound SomeOutput parts = AreGiven parts × (1 ≤ length parts)
IsSound key a = Unit {0}

fitting_sound : (key : Key) (d : Data) (a : Value key) → fitting key d ≡ Some a → IsSound key a
fitting_sound Device d a e = (whole_fits 0 LAST_DEVICE d a e).1
fitting_sound Number d a e = (whole_fits 1 LAST_NUMBER d a e).0
fitting_sound Owners d a e = owners_fit d a e
fitting_sound Persons d a e = persons_fit d a e
fitting_sound Priority d a e = (whole_fits 0 LOWEST_PRIORITY d a e).1
fitting_sound Until d a e = moment_fits d a e
fitting_sound For d a e = period_fits d a e
fitting_sound ActivateAt d a e = moment_fits d a e
fitting_sound Text d a e = text_fits d a e
fitting_sound Input d a e = given d a e
fitting_sound Output d a e = given d a e
fitting_sound SomeOutput d a e = some_given d a e
fitting_sound key d a e = tt

abbrev pub AreSound : Fields → Type 0
AreSound f = (key : Key) → IfSome (field key f) (IsSound key)

sound_with : (j : Key) (d : Data) (f g : Fields) → with_key j d f ≡ Some g → AreSound f → AreSound g
sound_with j d f g e s = key_keeps (λ key o. IfSome o (IsSound key)) j d f g e (fitting_sound j d) s

none_sound : AreSound no_fields
none_sound Model = tt
none_sound key = tt

fields_sound : (asked : Asked) (o : Option Data) (g : Fields) → fields_from asked o ≡ Ok g → AreSound g
fields_sound asked None g e = cc
fields_sound asked (Some d) g e =
    let q = from_number asked d g e in
    taken_kept AreSound sound_with (rows_in asked d) d q.0 g q.2 (taken_kept AreSound sound_with (number_keys d) d no_fields q.0 q.1 none_sound)

-- ---- commands

-- a command that may stand in an event of this task
abbrev pub FitsTask : TaskId → Command → Type 0
FitsTask task c = IsTaskOf c task × IsCommand c

-- the task that an operation is asked of: none for a create, and for any other one as a claim names it
abbrev pub IsTask : Asked → TaskId → Type 0
IsTask asked.Create task = IsTrue (suits task.0 op.Create)
IsTask _ task = IsTrue (suits task.0 op.Claim)

given_or_none : (o : Option (List (List ℕ × Scalar))) → IfSome o AreGiven → AreGiven (unwrap_or o [])
given_or_none None h = no_parts
given_or_none (Some parts) h = h

module _ (task : TaskId) (c : Command) where
  plain : (made : Command) → ◌≡◌ {A = Result Command ApiRefusal} (Ok made) (Ok c) → FitsTask task made → FitsTask task c
  plain made e h = let same : made ≡ c = cc in subst (FitsTask task) same h

  need : {A : Type 0} (key : Key) (o : Option A) (make : A → Result Command ApiRefusal) → needing key o make ≡ Ok c → ((a : A) → o ≡ Some a → make a ≡ Ok c → FitsTask task c) → FitsTask task c
  need key None make e all = cc
  need key (Some a) make e all = all a refl e

  ends : (until : Option Moment) (period : Option ℕ) → IfSome until (λ m. m.0 ≤ last_moment) → IfSome period (λ n. n ≤ LONGEST_PERIOD) → IsTrue (suits task.0 op.Claim) → suspended (end_of until period) ≡ Ok c → FitsTask task c
  ends (Some moment) period u p t e = plain (command.SuspendUntil (At moment)) e (t, u)
  ends None (Some period) u p t e = plain (command.SuspendUntil (After period)) e (t, p)
  ends None None u p t e = cc

  fits : (what : Asked) (f : Fields) → command_of what f ≡ Ok c → AreSound f → IsTask what task → FitsTask task c
  fits asked.Create f e s t = plain (command.Create f.model (unwrap_or f.input []) f.activate_at) e (t, (given_or_none f.input (s Input), s ActivateAt))
  fits asked.Delegate f e s t = need Person f.person (λ person. Ok (command.Delegate person)) e (λ person is made. plain (command.Delegate person) made (t, tt))
  fits asked.Forward f e s t =
      need Owners f.owners (λ persons. Ok (command.Forward persons)) e (λ persons is made. plain (command.Forward persons) made (t, if_there f.owners _ persons (s Owners) is))
  fits asked.Nominate f e s t =
      need Owners f.owners (λ persons. Ok (command.Nominate persons)) e (λ persons is made. plain (command.Nominate persons) made (t, if_there f.owners _ persons (s Owners) is))
  fits asked.SetRole f e s t =
      need Role f.role (λ role. needing Persons f.persons (λ persons. Ok (command.SetRole role persons))) e (λ role there rest.
      need Persons f.persons (λ persons. Ok (command.SetRole role persons)) rest (λ persons is made. plain (command.SetRole role persons) made (t, if_there f.persons _ persons (s Persons) is)))
  fits asked.SetPriority f e s t =
      need Priority f.priority (λ priority. Ok (command.SetPriority priority)) e (λ priority is made. plain (command.SetPriority priority) made (t, if_there f.priority _ priority (s Priority) is))
  fits asked.SuspendUntil f e s t = ends f.until f.period (s Until) (s For) t e
  fits asked.SetOutput f e s t =
      need SomeOutput f.some_output (λ output. Ok (command.SetOutput output)) e (λ output is made. plain (command.SetOutput output) made (t, if_there f.some_output _ output (s SomeOutput) is))
  fits asked.Complete f e s t = plain (command.Complete (unwrap_or f.output [])) e (t, given_or_none f.output (s Output))
  fits asked.AddComment f e s t =
      need Text f.text (λ text. Ok (command.AddComment text)) e (λ text is made. plain (command.AddComment text) made (t, if_there f.text _ text (s Text) is))
  fits asked.InstantiateSubTask f e s t = need Sub f.sub (λ sub. Ok (command.InstantiateSubTask sub)) e (λ sub is made. plain (command.InstantiateSubTask sub) made (t, tt))
  fits what f e s t = plain _ e (t, tt)

-- ---- numbers

retry_sound : (f : Fields) → AreSound f → IfSome (retry_from f.device f.number) IsRetry
retry_sound f s = at f.device f.number (s Device) (s Number)
  where
    at : (device number : Option ℕ) → IfSome device (λ n. n ≤ LAST_DEVICE) → IfSome number (λ n. 1 ≤ n) → IfSome (retry_from device number) IsRetry
    at None number low some = tt
    at (Some device) None low some = tt
    at (Some device) (Some number) low some = (low, some)

-- a numbered command that may stand in an event of this task
pub record FitsEvent (task : TaskId) (sent : Numbered) : Type 0 where
  pub retry : IfSome sent.0 IsRetry
  pub command : FitsTask task sent.1

from_numbered : (r : Result Command ApiRefusal) (retry : Option Retry) (sent : Numbered) → numbered retry r ≡ Ok sent → (retry ≡ sent.0) × (r ≡ Ok sent.1)
from_numbered (Err why) retry sent e = cc
from_numbered (Ok c) retry sent e = let same : ◌≡◌ {A = Numbered} (retry, c) sent = cc in (ap (λ (s : Numbered). s.0) same, ap (λ (s : Numbered). Ok s.1) same)

module _ (task : TaskId) (sent : Numbered) where
  from_fields : (what : Asked) (o : Option Data) (r : Result Fields ApiRefusal) → fields_from what o ≡ r → command_from what r ≡ Ok sent → IsTask what task → FitsEvent task sent
  from_fields what o (Err why) is e t = cc
  from_fields what o (Ok f) is e t =
      let sound = fields_sound what o f is in
      let parts = from_numbered (command_of what f) (retry_from f.device f.number) sent e in
      record { retry = subst (λ (r : Option Retry). IfSome r IsRetry) parts.0 (retry_sound f sound); command = fits task sent.1 what f parts.1 sound t }

  pub command_fits : (what : Asked) (body : List ℕ) → command_in what body ≡ Ok sent → IsTask what task → FitsEvent task sent
  command_fits what body e t = from_fields what (json_in body) _ refl e t
