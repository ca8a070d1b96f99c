-- The input of a sub task, which is mapped from that of its parent, may be held.
use Rattle.std.proofs.Common.{◌≡◌, ℕ, ◌&&◌, Bool, true, false, cond, List, [], ◌∷◌, All, bytes_eq, Option, Some, None, is_some, option_map, filter_map, refl, ap₂, subst, sym}
use Rattle.std.specs.Prelude.{find}
use Rattle.std.proofs.lemmas.Bool.{and_parts}
use Rattle.std.proofs.lemmas.List.Elements.{All-head, All-tail}
use Rattle.std.proofs.lemmas.Slice.Eq.{bytes_eq-Decides}
use Rattle.std.specs.List.{list_all}
use Rattle.ht_base.specs.declared.limits.TheConstants.{LONGEST_TEXT}
use Rattle.ht_base.specs.declared.kind.Kind.{Kind}
use Rattle.ht_base.specs.declared.value.Value.{Value}
use Rattle.ht_base.specs.declared.value.Value.TheVariants as values
use Rattle.ht_base.specs.declared.values.Values.{Values}
use Rattle.ht_base.specs.Values.{value_of}
use Rattle.ht_compose.specs.Items.{mapped}
use Rattle.ht_expr.specs.declared.kinds.Side.TheVariants.{Input}
use Rattle.ht_value.specs.Environment.{may_be}
use Rattle.ht_models.specs.Kinded.{parts_of}
use Rattle.ht_models.specs.MappedInputs.{IsMappedPair}
use Rattle.ht_models.specs.Model.{ModelOf}
use Rattle.ht_entries.specs.SubEntries.{SubEntry}
use Rattle.ht_tree.proofs.PublicLaws.{updated_held}
use Rattle.ht_tree.specs.Soundness.{AreHeld, is_declared, is_known, is_short, is_timely}

-- a value that is found passes, under its name, what all do
found_passes : (test : List ℕ × Value → Bool) (name : List ℕ) (v : Value) (vs : List (List ℕ × Value)) → list_all test vs ≡ true → value_of name vs ≡ Some v → test (name, v) ≡ true
found_passes test name v [] all is = cc
found_passes test name v (w ∷ ws) all is =
    let both = and_parts (test w) (list_all test ws) all in
    at (bytes_eq w.0 name) refl both.0 is (found_passes test name v ws both.1)
  where
    at : (b : Bool) → bytes_eq w.0 name ≡ b → test w ≡ true → option_map (λ (x : List ℕ × Value). x.1) (cond b (Some w) (find (λ x. bytes_eq x.0 name) ws)) ≡ Some v → (value_of name ws ≡ Some v → test (name, v) ≡ true) → test (name, v) ≡ true
    at true same one h rest =
        let T : List ℕ × Value → Type 0 = λ x. test x ≡ true in
        let first : w.0 ≡ name = (bytes_eq-Decides w.0 name).0 same in
        let second : w.1 ≡ v = cc in
        let pair : w ≡ (name, v) = ap₂ (λ (a : List ℕ) (b : Value). (a, b)) first second in
        subst T pair one
    at false other one h rest = rest h

-- whichever the name
known_so : (persons : ℕ) (a b : List ℕ) (v : Value) → is_known persons (a, v) ≡ true → is_known persons (b, v) ≡ true
known_so persons a b (values.Person p) h = h
known_so persons a b (values.Text text) h = h
known_so persons a b (values.Int n) h = h
known_so persons a b (values.Truth t) h = h
known_so persons a b (values.Instant m) h = h

short_so : (a b : List ℕ) (v : Value) → is_short LONGEST_TEXT (a, v) ≡ true → is_short LONGEST_TEXT (b, v) ≡ true
short_so a b (values.Person p) h = h
short_so a b (values.Text text) h = h
short_so a b (values.Int n) h = h
short_so a b (values.Truth t) h = h
short_so a b (values.Instant m) h = h

timely_so : (a b : List ℕ) (v : Value) → is_timely (a, v) ≡ true → is_timely (b, v) ≡ true
timely_so a b (values.Person p) h = h
timely_so a b (values.Text text) h = h
timely_so a b (values.Int n) h = h
timely_so a b (values.Truth t) h = h
timely_so a b (values.Instant m) h = h

-- the value of an input part of a sub task
abbrev pub mapped_value : Values → List ℕ × List ℕ → Option (List ℕ × Value)
mapped_value input pair = option_map (λ v. (pair.0, v)) (value_of pair.1 input)

module _ (n m : ModelOf) (persons : ℕ) (input : Values) (held : AreHeld (parts_of m.input m.output) persons Input input) where
  one_more : (pair : List ℕ × List ℕ) (v : Value) (vs : Values) → IsMappedPair n m pair → value_of pair.1 input ≡ Some v → AreHeld (parts_of n.input n.output) persons Input vs → AreHeld (parts_of n.input n.output) persons Input ((pair.0, v) ∷ vs)
  one_more pair v vs is found all =
      let declared = found_passes (is_declared (parts_of m.input m.output) Input) pair.1 v input held.declared found in
      let known = known_so persons pair.1 pair.0 v (found_passes (is_known persons) pair.1 v input held.known found) in
      let short = short_so pair.1 pair.0 v (found_passes (is_short LONGEST_TEXT) pair.1 v input held.texts_within found) in
      let timely = timely_so pair.1 pair.0 v (found_passes is_timely pair.1 v input held.moments_within found) in
      let D : Option Kind → Type 0 = λ k. (is_some k && may_be k v) ≡ true in
      let own : is_declared (parts_of n.input n.output) Input (pair.0, v) ≡ true = subst D (sym is.same) declared in
      record {
        declared = rw own all.declared;
        known = rw known all.known;
        texts_within = rw short all.texts_within;
        moments_within = rw timely all.moments_within;
      }

  all_mapped : (pairs : List (List ℕ × List ℕ)) → All (IsMappedPair n m) pairs → AreHeld (parts_of n.input n.output) persons Input (filter_map (mapped_value input) pairs)
  all_mapped [] are = record { declared = refl; known = refl; texts_within = refl; moments_within = refl }
  all_mapped (pair ∷ pairs) are =
      go (value_of pair.1 input) refl (All-head (IsMappedPair n m) pair pairs are) (all_mapped pairs (All-tail (IsMappedPair n m) pair pairs are))
    where
      go : (o : Option Value) → value_of pair.1 input ≡ o → IsMappedPair n m pair → AreHeld (parts_of n.input n.output) persons Input (filter_map (mapped_value input) pairs) → AreHeld (parts_of n.input n.output) persons Input (filter_map (mapped_value input) (pair ∷ pairs))
      go None found is rest = rw found rest
      go (Some v) found is rest = rw found (one_more pair v (filter_map (mapped_value input) pairs) is found rest)

  pub mapped_held : (entry : SubEntry) → All (IsMappedPair n m) entry.input → AreHeld (parts_of n.input n.output) persons Input (mapped entry input)
  mapped_held entry are =
      updated_held (parts_of n.input n.output) persons Input [] (filter_map (mapped_value input) entry.input) (record { declared = refl; known = refl; texts_within = refl; moments_within = refl }) (all_mapped entry.input are)
