-- That a finished task's output stays held: what its settings set is of declared parts and their kinds.
use Rattle.std.proofs.Common.{◌≡◌, ℕ, ◌+◌, ◌≤◌, zero, suc, nat_lt, Bool, true, false, ◌&&◌, cond, List, [], ◌∷◌, All, bytes_eq, filter, find, length, Option, None, Some, IfSome, if◌then◌else◌, option_map, refl, sym, ap, ◌∙◌, subst, arith}
use Rattle.std.proofs.lemmas.Bool.{and_parts}
use Rattle.std.proofs.lemmas.Bool.Decides.{nat_tests}
use Rattle.std.proofs.lemmas.List.Elements.{All-append, All-filter, All-head, All-nil, All-tail}
use Rattle.std.proofs.lemmas.Option.{get_or_from_slice_get}
use Rattle.std.specs.List.{list_all}
use Rattle.std.specs.Option.{option_or}
use Rattle.std.specs.Prelude.{is_none}
use Rattle.ht_base.specs.declared.limits.TheConstants.{LONGEST_TEXT}
use Rattle.ht_aggregate.specs.Aggregates.{IsAggregate}
use Rattle.ht_aggregate.specs.Given.{text_in, texts}
use Rattle.ht_aggregate.proofs.PublicLaws.{result_kind, result_short}
use Rattle.ht_base.specs.declared.how.How.{How}
use Rattle.ht_base.specs.declared.how.How.TheVariants as how
use Rattle.ht_base.specs.declared.kind.Kind.{Kind}
use Rattle.ht_base.specs.declared.kind.Kind.TheVariants as kind
use Rattle.ht_base.specs.declared.value.Value.{Value}
use Rattle.ht_base.specs.declared.value.Value.TheVariants as values
use Rattle.ht_base.specs.declared.values.Values.{Values}
use Rattle.ht_base.specs.Kinds.{kind_of_how, kind_of_value}
use Rattle.ht_base.specs.Values.{value_of}
use Rattle.ht_compose.specs.Finding.{Finds}
use Rattle.ht_compose.specs.Finishes.{Sets, all_ended, applies, chosen, completed, default, of_kind, values_for, with_result}
use Rattle.ht_compose.proofs.Choosing.{held_by}
use Rattle.ht_compose.proofs.Settings.{kept_all}
use Rattle.ht_expr.specs.declared.kinds.Side.TheVariants.{Output}
use Rattle.ht_base.specs.State.{is_completed}
use Rattle.ht_expr.specs.Kinds.{Declared, declared_kind}
use Rattle.ht_expr.specs.KindTable.{same_kind}
use Rattle.ht_entries.specs.Finishes.{Setting}
use Rattle.ht_models.specs.Kinded.{IsSettable, parts_of}
use Rattle.ht_models.specs.Model.{FinishOf, ModelOf}
use Rattle.ht_models.specs.SetOutputs.{SetsOutputs}
use Rattle.ht_tree.specs.declared.row.Row.{Row}
use Rattle.ht_tree.specs.Creating.{sees}
use Rattle.ht_tree.specs.Families.{is_of_entry}
use Rattle.ht_tree.specs.Soundness.{AreHeld, IsHeldBy, IsSound, IsSoundRow, is_known, is_short, is_timely}
use Rattle.ht_tree.specs.Tables.{TablesOf, model_of, task_row}
use Rattle.ht_tree.proofs.PublicLaws.{some_at, updated_held}

-- ---- texts are short

abbrev IsShort : Value → Type 0
IsShort v = is_short LONGEST_TEXT ([], v) ≡ true

short_at : (name : List ℕ) (v : Value) → is_short LONGEST_TEXT (name, v) ≡ true → IsShort v
short_at name (values.Text text) short = short
short_at name _ short = refl

-- the value of a name
short_of : (name : List ℕ) (vs : List (List ℕ × Value)) → list_all (is_short LONGEST_TEXT) vs ≡ true → IfSome (value_of name vs) IsShort
short_of name [] short = tt
short_of name (v ∷ vs) short =
    let both = and_parts (is_short LONGEST_TEXT v) (list_all (is_short LONGEST_TEXT) vs) short in
    at (bytes_eq v.0 name) both.0 (short_of name vs both.1)
  where
    at : (b : Bool) → is_short LONGEST_TEXT v ≡ true → IfSome (value_of name vs) IsShort → IfSome (option_map (λ (w : List ℕ × Value). w.1) (cond b (Some v) (find (λ w. bytes_eq w.0 name) vs))) IsShort
    at true one rest = short_at v.0 v.1 one
    at false one rest = rest

of_kind_short : (k : Kind) (o : Option Value) → IfSome o IsShort → IfSome (of_kind k o) IsShort
of_kind_short k None short = tt
of_kind_short k (Some v) short = at (same_kind k (kind_of_value v))
  where
    at : (b : Bool) → IfSome (if b then Some v else None) IsShort
    at true = short
    at false = tt

low : (m : ℕ) → nat_lt m (LONGEST_TEXT + 1) ≡ true → m ≤ LONGEST_TEXT
low m is = grind (arith, nat_tests)

text_short : (v : Value) → IsShort v → IfSome (text_in v) (λ t. length t ≤ LONGEST_TEXT)
text_short (values.Text text) short = low (length text) short
text_short _ short = tt

-- the output of a task has only short texts
abbrev HasShort : Row → Type 0
HasShort s = list_all (is_short LONGEST_TEXT) s.output ≡ true

texts_short : (how : How) (from : List ℕ) (subs : List Row) → All HasShort subs → All (λ t. length t ≤ LONGEST_TEXT) (texts (values_for how from subs))
texts_short how from subs short =
    kept_all IsShort (λ t. length t ≤ LONGEST_TEXT) text_in text_short (values_for how from subs)
    (kept_all HasShort IsShort (λ s. of_kind (kind_of_how how) (value_of from s.output))
    (λ s is. of_kind_short (kind_of_how how) (value_of from s.output) (short_of from s.output is)) subs short)

-- ---- one result

no_person : (h : How) → kind.Person ≡ kind_of_how h → ⊥
no_person how.Concat is = cc
no_person _ is = cc

no_moment : (h : How) → kind.Instant ≡ kind_of_how h → ⊥
no_moment how.Concat is = cc
no_moment _ is = cc

within : (m : ℕ) → m ≤ LONGEST_TEXT → nat_lt m (LONGEST_TEXT + 1) ≡ true
within m short = grind (arith, nat_tests)

same_itself : (k : Kind) → same_kind k k ≡ true
same_itself kind.Text = refl
same_itself _ = refl

held_alone : (kinds : Declared) (persons : ℕ) (k : Kind) (name : List ℕ) (v : Value) → declared_kind kinds Output name ≡ Some k → same_kind k (kind_of_value v) ≡ true → is_known persons (name, v) ≡ true → is_short LONGEST_TEXT (name, v) ≡ true → is_timely (name, v) ≡ true → AreHeld kinds persons Output ((name, v) ∷ [])
held_alone kinds persons k name v declared fits known short timely = record {
  declared = rw (declared, fits) refl;
  known = rw known refl;
  texts_within = rw short refl;
  moments_within = rw timely refl;
}

result_held : (kinds : Declared) (persons : ℕ) (s : Setting) (vs : List Value) (v : Value) → IsSettable kinds s → All (λ t. length t ≤ LONGEST_TEXT) (texts vs) → IsAggregate s.how vs (Some v) → AreHeld kinds persons Output ((s.part, v) ∷ [])
result_held kinds persons s vs v settable short is = at v (result_kind s.how vs v is) is
  where
    fits : (k : Kind) → k ≡ kind_of_how s.how → same_kind (kind_of_how s.how) k ≡ true
    fits k same = ap (λ (x : Kind). same_kind (kind_of_how s.how) x) same ∙ same_itself (kind_of_how s.how)

    at : (w : Value) → kind_of_value w ≡ kind_of_how s.how → IsAggregate s.how vs (Some w) → AreHeld kinds persons Output ((s.part, w) ∷ [])
    at (values.Text text) same one = held_alone kinds persons (kind_of_how s.how) s.part (values.Text text) settable (fits kind.Text same) refl (within (length text) (result_short s.how vs text short one)) refl
    at (values.Int n) same one = held_alone kinds persons (kind_of_how s.how) s.part (values.Int n) settable (fits kind.Int same) refl refl refl
    at (values.Truth b) same one = held_alone kinds persons (kind_of_how s.how) s.part (values.Truth b) settable (fits kind.Truth same) refl refl refl
    at (values.Person p) same one = absurd (no_person s.how same)
    at (values.Instant m) same one = absurd (no_moment s.how same)

-- ---- all of them

pub results_held : (kinds : Declared) (persons : ℕ) (subs : List Row) (ss : List Setting) (old new : Values) → All HasShort subs → All (IsSettable kinds) ss → AreHeld kinds persons Output old → Sets subs ss old new → AreHeld kinds persons Output new
results_held kinds persons subs [] old new short settable held set = let P : Values → Type 0 = λ vs. AreHeld kinds persons Output vs in subst P (sym set) held
results_held kinds persons subs (s ∷ ss) old new short settable held set =
    results_held kinds persons subs ss (with_result s.part set.0 old) new short (All-tail (IsSettable kinds) s ss settable) (at set.0 set.1) set.2
  where
    at : (result : Option Value) → IsAggregate s.how (values_for s.how s.from subs) result → AreHeld kinds persons Output (with_result s.part result old)
    at None is = held
    at (Some v) is = updated_held kinds persons Output old ((s.part, v) ∷ []) held (result_held kinds persons s (values_for s.how s.from subs) v (All-head (IsSettable kinds) s ss settable) (texts_short s.how s.from subs short) is)

-- ---- the output of a finished task

-- an element that is found has what all have
found_among : {X : Type 0} (test : X → Bool) (P : X → Type 0) (xs : List X) (x : X) → All P xs → find test xs ≡ Some x → P x
found_among test P [] x all is = cc
found_among {X = X} test P (y ∷ xs) x all is = at (test y) (All-head P y xs all) (λ h. found_among test P xs x (All-tail P y xs all) h) is
  where
    at : (b : Bool) → P y → (find test xs ≡ Some x → P x) → cond b (Some y) (find test xs) ≡ Some x → P x
    at true one rest h = let same : y ≡ x = cc in subst P same one
    at false one rest h = rest h

chosen_among : (P : FinishOf → Type 0) (rows : List Row) (m : ModelOf) (row : Row) (f : FinishOf) → All P m.finishes → chosen rows m row ≡ Some f → P f
chosen_among P rows m row f all is =
    first (find (applies (parts_of m.input m.output) (sees rows row)) m.finishes) (λ g h. found_among (applies (parts_of m.input m.output) (sees rows row)) P m.finishes g all h) is
  where
    last : (b : Bool) → (if b then default m.finishes else None) ≡ Some f → P f
    last true h = found_among (λ g. is_none g.when) P m.finishes f all h
    last false h = cc

    first : (o : Option FinishOf) → ((g : FinishOf) → o ≡ Some g → P g) → option_or o (if all_ended row.task.0 (length m.subs) rows then default m.finishes else None) ≡ Some f → P f
    first (Some g) one h = one f h
    first None one h = last (all_ended row.task.0 (length m.subs) rows) h

completed_all : (P : Row → Type 0) (task n : ℕ) (rows : List Row) → All P rows → All P (completed task n rows)
completed_all P task zero rows all = All-nil P
completed_all P task (suc n) rows all =
    let test : Row → Bool = λ s. is_of_entry task n s && is_completed s.state in
    All-append P (completed task n rows) (filter test rows) (completed_all P task n rows all) (All-filter test P rows all)

module _ (u : TablesOf) (sound : IsSound u) where
  row_short : (row : Row) → IsSoundRow u row → HasShort row
  row_short row fine =
      let m = some_at u.models row.model (fine.filed).model in
      let P : Option ModelOf → Type 0 = λ o. IfSome o (λ x. IsHeldBy (length u.people.persons) x row.input row.output row.taken) in
      let held : IsHeldBy (length u.people.persons) m.0 row.input row.output row.taken = subst P m.1 fine.held in
      held.output.texts_within

  rows_short : All HasShort u.rows
  rows_short = λ k d low.
      let row = some_at u.rows k low in
      let is = get_or_from_slice_get u.rows k row.0 d row.1 in
      subst HasShort (sym is) (row_short row.0 (sound.rows_sound (suc k) row.0 row.1))

  module _ (row : Row) (m : ModelOf) (output : Values) (there : task_row u row.task.0 ≡ Some row) (of_model : model_of u row ≡ Some m) (settable : SetsOutputs m) (found : Finds u row m (Some output)) where
    held : IsHeldBy (length u.people.persons) m row.input row.output row.taken
    held = held_by u sound row m there of_model

    pub found_held : AreHeld (parts_of m.input m.output) (length u.people.persons) Output output
    found_held =
        results_held (parts_of m.input m.output) (length u.people.persons) (completed row.task.0 (length m.subs) u.rows) found.0.settings row.output output
        (completed_all HasShort row.task.0 (length m.subs) u.rows rows_short)
        (chosen_among (λ f. All (IsSettable (parts_of m.input m.output)) f.settings) u.rows m row found.0 settable found.1)
        held.output found.2

    -- so the row stays sound with it
    pub found_sound : IsSoundRow u (record row { output = output })
    found_sound =
        let old = sound.rows_sound row.task.0 row there in
        let P : Option ModelOf → Type 0 = λ o. IfSome o (λ x. IsHeldBy (length u.people.persons) x row.input output row.taken) in
        let new : IsHeldBy (length u.people.persons) m row.input output row.taken = record { input = held.input; output = found_held; taken = held.taken; taken_ascend = held.taken_ascend } in
        record {
          filed = old.filed;
          held = subst P (sym of_model) new;
          who = old.who;
          whose = old.whose;
          when = old.when;
          how = old.how;
        }
