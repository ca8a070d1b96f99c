-- Worked examples of what an entry of a models text says, and of its expressions. A wrong reading of
-- one fails the check.
use Rattle.std.specs.Prelude.{◌≡◌, ℕ, refl, true, false, List, [], ◌∷◌, Some, None, codes, pos}
use Rattle.toml.specs.Data.{Data, boolean, integer, string}
use Rattle.ht_base.specs.declared.kind.Kind.TheVariants.{Text, Int, Truth}
use Rattle.ht_expr.specs.declared.kinds.Side.TheVariants.{Input, Output}
use Rattle.ht_entries.specs.declared.choices.Composition.TheVariants.{Sequential, Parallel}
use Rattle.ht_entries.specs.declared.choices.Delegation.TheVariants.{Nobody, Other}
use Rattle.ht_entries.specs.declared.choices.Trigger.TheVariants.{Manual, Automatic}
use Rattle.ht_entries.specs.declared.deadlines.DeadlineKind.TheVariants.{Start}
use Rattle.ht_entries.specs.Deadlines.{deadline_text, escalation_text}
use Rattle.ht_models.specs.Expressions.{assignment, declared, expression, expressions}
use Rattle.ht_entries.specs.Finishes.{finish_text}
use Rattle.ht_entries.specs.ModelEntries.{ModelEntry, entry_of}
use Rattle.ht_entries.specs.Parts.{part}
use Rattle.ht_entries.specs.ShapeExamples.{given, listed, says}
use Rattle.ht_entries.specs.SubEntries.{sub_entry}

-- ---- what an entry says

-- a model of which nothing is given but its name
abbrev pub bare : List ℕ → ModelEntry
bare name = record {
  name = name;
  priority = None;
  skipable = false;
  owner_required = true;
  delegation = None;
  delegatees = None;
  potential_owners = None;
  excluded_owners = None;
  administrators = None;
  stakeholders = None;
  composition = Sequential;
  instantiation = Manual;
  completion = Manual;
  input = [];
  output = [];
  subs = [];
  deadlines = [];
  finishes = [];
}

abbrev entry : List (List ℕ × Data) → Data
entry rows = given (says (codes "name") (codes "m") ∷ rows)

what_is_missing : entry_of (entry []) ≡ Some (bare (codes "m"))
what_is_missing = refl

each_word : entry_of (entry (
    says (codes "delegation") (codes "nobody") ∷ says (codes "composition") (codes "parallel")
    ∷ says (codes "instantiation") (codes "automatic") ∷ says (codes "completion") (codes "automatic")
    ∷ (codes "skipable", boolean true) ∷ (codes "ownerRequired", boolean false) ∷ []))
    ≡ Some (record (bare (codes "m")) {
      delegation = Some Nobody;
      composition = Parallel;
      instantiation = Automatic;
      completion = Automatic;
      skipable = true;
      owner_required = false;
    })
each_word = refl

made_by_themselves_and_completed_by_hand : entry_of (entry (says (codes "instantiation") (codes "automatic") ∷ [])) ≡ Some (record (bare (codes "m")) { instantiation = Automatic })
made_by_themselves_and_completed_by_hand = refl

made_by_hand_and_completed_by_itself : entry_of (entry (says (codes "completion") (codes "automatic") ∷ [])) ≡ Some (record (bare (codes "m")) { completion = Automatic })
made_by_hand_and_completed_by_itself = refl

each_text : entry_of (entry (
    says (codes "priority") (codes "3") ∷ says (codes "potentialOwners") (codes "a") ∷ says (codes "excludedOwners") (codes "b")
    ∷ says (codes "administrators") (codes "c") ∷ says (codes "stakeholders") (codes "d")
    ∷ says (codes "delegation") (codes "other") ∷ says (codes "delegatees") (codes "e") ∷ []))
    ≡ Some (record (bare (codes "m")) {
      priority = Some (codes "3");
      potential_owners = Some (codes "a");
      excluded_owners = Some (codes "b");
      administrators = Some (codes "c");
      stakeholders = Some (codes "d");
      delegation = Some Other;
      delegatees = Some (codes "e");
    })
each_text = refl

abbrev text_part : Data
text_part = given (says (codes "name") (codes "p") ∷ says (codes "kind") (codes "text") ∷ [])

each_list : entry_of (entry (
    (codes "input", listed (text_part ∷ [])) ∷ (codes "output", listed (text_part ∷ text_part ∷ []))
    ∷ (codes "sub", listed (given (says (codes "name") (codes "x") ∷ says (codes "model") (codes "unit") ∷ []) ∷ []))
    ∷ (codes "deadline", listed (given (says (codes "name") (codes "one") ∷ says (codes "kind") (codes "start") ∷ says (codes "part") (codes "p") ∷ []) ∷ []))
    ∷ (codes "finish", listed (given [] ∷ [])) ∷ []))
    ≡ Some (record (bare (codes "m")) {
      input = part (codes "p") Text false ∷ [];
      output = part (codes "p") Text false ∷ part (codes "p") Text false ∷ [];
      subs = sub_entry (codes "x") (codes "unit") [] ∷ [];
      deadlines = deadline_text (codes "one") Start None None (Some (codes "p")) [] ∷ [];
      finishes = finish_text None [] ∷ [];
    })
each_list = refl

no_name : entry_of (given (says (codes "priority") (codes "5") ∷ [])) ≡ None
no_name = refl

another_key : entry_of (entry (says (codes "subs") (codes "x") ∷ [])) ≡ None
another_key = refl

a_priority_that_is_a_number : entry_of (entry ((codes "priority", integer (pos 5)) ∷ [])) ≡ None
a_priority_that_is_a_number = refl

a_truth_that_is_a_text : entry_of (entry (says (codes "skipable") (codes "true") ∷ [])) ≡ None
a_truth_that_is_a_text = refl

an_owner_that_is_a_number : entry_of (entry ((codes "ownerRequired", integer (pos 0)) ∷ [])) ≡ None
an_owner_that_is_a_number = refl

another_composition : entry_of (entry (says (codes "composition") (codes "automatic") ∷ [])) ≡ None
another_composition = refl

another_instantiation : entry_of (entry (says (codes "instantiation") (codes "parallel") ∷ [])) ≡ None
another_instantiation = refl

another_completion : entry_of (entry ((codes "completion", boolean true) ∷ [])) ≡ None
another_completion = refl

another_delegation : entry_of (entry (says (codes "delegation") (codes "everybody") ∷ [])) ≡ None
another_delegation = refl

other_without_delegatees : entry_of (entry (says (codes "delegation") (codes "other") ∷ [])) ≡ None
other_without_delegatees = refl

delegatees_without_other : entry_of (entry (says (codes "delegatees") (codes "nobody") ∷ [])) ≡ None
delegatees_without_other = refl

delegatees_with_another_word : entry_of (entry (says (codes "delegation") (codes "anybody") ∷ says (codes "delegatees") (codes "nobody") ∷ [])) ≡ None
delegatees_with_another_word = refl

one_input : entry_of (entry ((codes "input", text_part) ∷ [])) ≡ None
one_input = refl

an_input_that_is_a_text : entry_of (entry ((codes "input", listed (text_part ∷ string (codes "p") ∷ [])) ∷ [])) ≡ None
an_input_that_is_a_text = refl

-- ---- its expressions

in_the_order_of_the_keys :
    expressions (record (bare (codes "m")) {
      priority = Some (codes "1");
      stakeholders = Some (codes "2");
      potential_owners = Some (codes "3");
      deadlines = deadline_text (codes "one") Start (Some 1) None None (
          escalation_text (codes "a") (Some (codes "4")) (Some (codes "5")) None ∷ escalation_text (codes "b") None None (Some (codes "6")) ∷ []) ∷ [];
      finishes = finish_text (Some (codes "7")) [] ∷ finish_text None [] ∷ [];
    })
    ≡ (expression Int, codes "1") ∷ (assignment, codes "3") ∷ (assignment, codes "2")
    ∷ (expression Truth, codes "4") ∷ (assignment, codes "5") ∷ (assignment, codes "6") ∷ (expression Truth, codes "7") ∷ []
in_the_order_of_the_keys = refl

its_parts : declared (record (bare (codes "m")) { input = part (codes "p") Text true ∷ []; output = part (codes "p") Int false ∷ [] })
    ≡ (Input, codes "p", Text) ∷ (Output, codes "p", Int) ∷ []
its_parts = refl
