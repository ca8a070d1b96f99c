-- How long spellings are at most.
use Rattle.std.proofs.Common.{◌≡◌, ℕ, ◌+◌, ◌*◌, ◌^◌, ◌≤◌, get_or, List, [], ◌∷◌, ◌++◌, length, Option, Some, None, subst, sym, ap, arith}
use Rattle.std.specs.Prelude.{IfSome}
use Rattle.std.specs.Int.{w16, w32, w64}
use Rattle.std.specs.List.{flat_map}
use Rattle.std.proofs.lemmas.List.{length-append}
use Rattle.ht_base.specs.Records.{RecordOf}
use Rattle.ht_base.specs.Records.RecordOf.{a_turn, an_asking, an_opening}
use Rattle.ht_base.specs.declared.end.End.{End}
use Rattle.ht_base.specs.declared.end.End.TheVariants as ends
use Rattle.ht_base.specs.declared.event.Command.{Command}
use Rattle.ht_base.specs.declared.event.Command.TheVariants as commands
use Rattle.ht_base.specs.declared.retry.Retry.{Retry}
use Rattle.ht_base.specs.declared.scalar.Scalar.{Scalar}
use Rattle.ht_base.specs.declared.scalar.Scalar.TheVariants as scalars
use Rattle.ht_codec.specs.Fields.{device, end, end_kind, int, moment, name, name_behind, name_length, names, names_count, new_name, new_part, opening_length, opening_text, parts, parts_count, period, priority, retry, retry_number, role, scalar, scalar_kind, some_names, some_parts, some_text, text, text_length, truth}
use Rattle.ht_codec.specs.Forms.{Form, ItemsFit, flag, number, option, sized, tested, ◌then◌}
use Rattle.ht_codec.specs.Records.{Spells, command_line, creation, entry, Head, head, kind, op, task_and_op}
use Rattle.ht_codec.proofs.ListLaws.{AreLawful}
use Rattle.ht_codec.proofs.Ranges.{name_short, names_valid, opening_text_valid, parts_valid, text_valid}
use Rattle.ht_codec.proofs.FieldLaws.{new_names_lawful, new_parts_lawful}

pub record IsWithin {X : Type 0} (a : Form X) (most : ℕ) : Type 0 where
  pub each : (x : X) → a.Fits x → length (a.text x) ≤ most

-- ---- fields of fields

then_within : {X Y : Type 0} (a : Form X) (b : Form Y) (m n : ℕ) → IsWithin a m → IsWithin b n → IsWithin (a then b) (m + n)
then_within a b m n la lb = record { each = λ x fits. let p = la.each x.0 fits.0 in let q = lb.each x.1 fits.1 in omega (arith, length-append (a.text x.0) (b.text x.1)) }

tested_within : {X : Type 0} (test : X → _) (a : Form X) (m : ℕ) → IsWithin a m → IsWithin (tested test a) m
tested_within test a m la = record { each = λ x fits. la.each x fits.0 }

option_within : {X : Type 0} (a : Form X) (m : ℕ) → IsWithin a m → IsWithin (option a) (1 + m)
unfolding flag
option_within {X} a m la = record { each = each }
  where
    each : (o : Option X) → IfSome o a.Fits → length ((option a).text o) ≤ 1 + m
    each None fits = omega arith
    each (Some x) fits = let p = la.each x fits in omega arith

sized_within : (n : Form ℕ) (k most : ℕ) → IsWithin n k → ((m : ℕ) → n.Fits m → m ≤ most) → IsWithin (sized n) (k + most)
sized_within n k most ln low = record { each = λ bytes fits. let p = ln.each (length bytes) fits in let q = low (length bytes) fits in omega (arith, length-append (n.text (length bytes)) bytes) }

items_within : {X : Type 0} (item : List X → Form X) → AreLawful item → (k : ℕ) → ((front : List X) → IsWithin (item front) k) → (front xs : List X) → ItemsFit item front xs → length (flat_map (item []).text xs) ≤ length xs * k
items_within item li k within front [] fits = omega arith
items_within item li k within front (x ∷ xs) fits =
    let p = items_within item li k within (front ++ x ∷ []) xs fits.1 in
    let q : length ((item []).text x) ≤ k = subst (λ (l : List ℕ). length l ≤ k) (li.same front x) ((within front).each x fits.0) in
    omega (arith, length-append ((item []).text x) (flat_map (item []).text xs))

-- ---- the fields

number16 : (limit : ℕ) → IsWithin (number w16 limit) 2
number16 limit = record { each = λ n fits. omega arith }

number32 : (limit : ℕ) → IsWithin (number w32 limit) 4
number32 limit = record { each = λ n fits. omega arith }

number64 : (limit : ℕ) → IsWithin (number w64 limit) 8
number64 limit = record { each = λ n fits. omega arith }

moment_within : IsWithin moment 8
unfolding moment
moment_within = record { each = λ m fits. (number64 (2 ^ 64)).each m.0 fits.0 }

period_within : IsWithin period 8
unfolding period
period_within = tested_within _ _ 8 (number64 (2 ^ 64))

name_within : IsWithin name 33
unfolding name name_length
name_within = record { each = λ n fits. let short = name_short n fits in omega arith }

retry_within : IsWithin retry 5
unfolding retry device retry_number
retry_within = record { each = each }
  where
    each : (r : Option Retry) → retry.Fits r → length (retry.text r) ≤ 5
    each None fits = omega arith
    each (Some r) fits = omega arith

text_within : IsWithin text 514
unfolding text text_length
text_within = record { each = λ t fits. let short = text_valid t fits in omega arith }

some_text_within : IsWithin some_text 514
unfolding some_text
some_text_within = record { each = λ t fits. text_within.each t fits.0 }

opening_text_within : IsWithin opening_text 262148
unfolding opening_text opening_length
opening_text_within = record { each = λ t fits. let short = opening_text_valid t fits in omega arith }

new_name_within : (front : List (List ℕ)) → IsWithin (new_name front) 33
unfolding new_name
new_name_within front = record { each = λ n fits. name_within.each n fits.0 }

names_within : IsWithin names 33794
unfolding names names_count
names_within = record {
  each = λ ns fits.
      let few = (names_valid ns fits).few in
      let items = items_within new_name new_names_lawful 33 new_name_within [] ns fits.1 in
      omega arith;
}

some_names_within : IsWithin some_names 33794
unfolding some_names
some_names_within = record { each = λ ns fits. names_within.each ns fits.0 }

scalar_within : IsWithin scalar 515
unfolding scalar scalar_kind int truth
scalar_within = record { each = each }
  where
    each : (v : Scalar) → scalar.Fits v → length (scalar.text v) ≤ 515
    each (scalars.Text t) fits = let short = text_within.each t fits.1 in omega arith
    each (scalars.Int z) fits = omega arith
    each (scalars.Truth b) fits = omega arith

new_part_within : (front : List (List ℕ × Scalar)) → IsWithin (new_part front) 548
unfolding name_behind
new_part_within front = record { each = λ v fits. let n = name_within.each v.0 fits.0.0 in let s = scalar_within.each v.1 fits.1 in omega (arith, length-append (name.text v.0) (scalar.text v.1)) }

parts_within : IsWithin parts 4385
unfolding parts parts_count
parts_within = record {
  each = λ vs fits.
      let few = (parts_valid vs fits).few in
      let items = items_within new_part new_parts_lawful 548 new_part_within [] vs fits.1 in
      omega arith;
}

some_parts_within : IsWithin some_parts 4385
unfolding some_parts
some_parts_within = record { each = λ vs fits. parts_within.each vs fits.0 }

end_within : IsWithin end 9
unfolding end end_kind
end_within = record { each = each }
  where
    each : (e : End) → end.Fits e → length (end.text e) ≤ 9
    each (ends.At m) fits = let short = moment_within.each m fits.1 in omega arith
    each (ends.After n) fits = let short = period_within.each n fits.1 in omega arith

creation_within : IsWithin creation 4428
creation_within = then_within _ _ 34 4394 (option_within name 33 name_within) (then_within parts _ 4385 9 parts_within (option_within moment 8 moment_within))

role_names_within : (r : _) (ns : List (List ℕ)) → names.Fits ns → length (role.text r ++ names.text ns) ≤ 33795
unfolding role
role_names_within r ns fits = let short = names_within.each ns fits in omega arith

-- ---- records

fields_within : (c : Command) → (command_line c).Fits → length (command_line c).text ≤ 33795
unfolding priority
fields_within (commands.Create model input activate_at) fits = let p = creation_within.each (model, (input, activate_at)) fits in omega arith
fields_within (commands.Delegate person) fits = let p = name_within.each person fits in omega arith
fields_within (commands.Forward persons) fits = let p = some_names_within.each persons fits in omega arith
fields_within (commands.Nominate persons) fits = let p = some_names_within.each persons fits in omega arith
fields_within (commands.SetRole r persons) fits = role_names_within r persons fits.1
fields_within (commands.SetPriority p) fits = omega arith
fields_within (commands.SuspendUntil e) fits = let p = end_within.each e fits in omega arith
fields_within (commands.SetOutput output) fits = let p = some_parts_within.each output fits in omega arith
fields_within (commands.Complete output) fits = let p = parts_within.each output fits in omega arith
fields_within (commands.Fail fault) fits = let p = (option_within name 33 name_within).each fault fits in omega arith
fields_within (commands.AddComment t) fits = let p = some_text_within.each t fits in omega arith
fields_within (commands.InstantiateSubTask sub) fits = let p = name_within.each sub fits in omega arith
fields_within _ fits = omega arith

task_within : IsWithin task_and_op 5
unfolding task_and_op op
task_within = record { each = λ x fits. omega arith }

head_within : IsWithin head 51
head_within = then_within _ task_and_op 46 5 (then_within moment _ 8 38 moment_within (then_within name retry 33 5 name_within retry_within)) task_within

-- the longest are openings
entry_within : (r : RecordOf) → entry.Fits r → length (entry.text r) ≤ 524297
unfolding entry kind
entry_within (an_opening models people) fits =
    let p = opening_text_within.each models fits.1.0 in
    let q = opening_text_within.each people fits.1.1 in
    omega (arith, length-append (opening_text.text models) (opening_text.text people))
entry_within (a_turn at) fits = let p = moment_within.each at fits.1 in omega arith
entry_within (an_asking at caller retry task command) fits =
    let h : Head = ((at, (caller, retry)), (task.0, (command_line command).head)) in
    let p = head_within.each h fits.1.0 in
    let q = fields_within command fits.1.1 in
    omega (arith, length-append (head.text h) (command_line command).text)

pub spelling_is_short : (r : RecordOf) (bytes : List ℕ) → Spells r bytes → (1 ≤ length bytes) × (length bytes ≤ 524297)
unfolding entry kind
spelling_is_short r bytes spells = (some r bytes spells.1, subst (λ (l : List ℕ). length l ≤ 524297) (sym spells.1) (entry_within r spells.0)) where
  some : (r : RecordOf) (bytes : List ℕ) → bytes ≡ entry.text r → 1 ≤ length bytes
  some r bytes e = let l = ap length e in omega arith

pub first_byte : (r : RecordOf) (bytes : List ℕ) → Spells r bytes → get_or bytes 0 0 ≤ 6
unfolding entry kind
first_byte r bytes spells = subst (λ (l : List ℕ). get_or l 0 0 ≤ 6) (sym spells.1) (low r) where
  low : (r : RecordOf) → get_or (entry.text r) 0 0 ≤ 6
  low (an_opening models people) = omega arith
  low (a_turn at) = omega arith
  low (an_asking at caller retry task command) = omega arith
