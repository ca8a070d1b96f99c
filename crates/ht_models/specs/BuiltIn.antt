-- The models text of an office that brings none, and what it reads to.
use Rattle.std.specs.Prelude.{ℕ, true, false, List, [], None, codes}
use Rattle.ht_expr.specs.Trees.{everybody, integer, nobody}
use Rattle.ht_entries.specs.declared.choices.Composition.TheVariants.{Sequential}
use Rattle.ht_entries.specs.declared.choices.Delegation.TheVariants.{Anybody}
use Rattle.ht_entries.specs.declared.choices.Trigger.TheVariants.{Manual}
use Rattle.ht_models.specs.Model.{ModelOf}

abbrev pub built_in_text : List ℕ
built_in_text = codes "[[model]]\nname = \"unit\"\npotentialOwners = \"everybody\"\n"

-- a model of which nothing is said but its name
abbrev pub plain_model : List ℕ → ModelOf
plain_model name = record {
  name = name;
  priority = integer 5;
  skipable = false;
  owner_required = true;
  delegation = Anybody;
  delegatees = None;
  potential_owners = nobody;
  excluded_owners = nobody;
  administrators = None;
  stakeholders = None;
  composition = Sequential;
  instantiation = Manual;
  completion = Manual;
  input = [];
  output = [];
  subs = [];
  deadlines = [];
  finishes = [];
  size = 1;
}

-- tasks that everybody may own
abbrev pub unit : ModelOf
unit = record (plain_model (codes "unit")) { potential_owners = everybody }
