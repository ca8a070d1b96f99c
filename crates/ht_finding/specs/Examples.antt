-- Worked examples of the definitions. A wrong reading of one fails the check.
use Rattle.std.specs.Prelude.{◌≡◌, refl, ℕ, ℤ, pos, true, false, List, [], ◌∷◌, codes}
use Rattle.ht_base.specs.declared.kind.Kind.TheVariants as Kind
use Rattle.ht_base.specs.declared.value.Value.TheVariants as values
use Rattle.ht_base.specs.declared.values.Values.{Values}
use Rattle.ht_value.specs.declared.environment.Env.{Env}
use Rattle.ht_expr.specs.declared.kinds.Side.TheVariants.{Input}
use Rattle.ht_expr.specs.declared.operator.Operator.TheVariants as operator
use Rattle.ht_expr.specs.Kinds.{Declared}
use Rattle.ht_expr.specs.Trees.{binary, everybody, except, group, initiator, integer, intersect, nobody, part, priority, union, user, when}
use Rattle.ht_finding.specs.Assigning.{Sight, potential_owners, resolved, sight}
use Rattle.ht_people.specs.declared.entries.PersonEntry.{PersonEntry}
use Rattle.ht_people.specs.Directory.{DirectoryOf}

abbrev person : List ℕ → PersonEntry
person name = record { name = name; operator = false }

-- anna, ben, cora, dan and root, who is an operator, and the clerks anna and ben
abbrev pub office : DirectoryOf
office = record {
  persons = person (codes "anna") ∷ person (codes "ben") ∷ person (codes "cora") ∷ person (codes "dan") ∷ record { name = codes "root"; operator = true } ∷ [];
  groups = record { name = codes "clerks"; members = 0 ∷ 1 ∷ [] } ∷ [];
}

-- ---- whom an assignment finds, for a task of dan's

abbrev env : ℤ → Values → Env
env number input = record { input = input; output = []; priority = number; initiator = 3; subs = [] }

-- a task of dan's without parts
abbrev dans : Sight
dans = sight [] (env (pos 5) [])

-- one whose input parts are a person and a number
abbrev boss_and_sum : Declared
boss_and_sum = (Input, codes "boss", Kind.Person) ∷ (Input, codes "sum", Kind.Int) ∷ []

abbrev given_boss : Sight
given_boss = sight boss_and_sum (env (pos 2) ((codes "boss", values.Person 1) ∷ []))

abbrev given_nothing : Sight
given_nothing = sight boss_and_sum (env (pos 2) [])

all_of_them : resolved office dans everybody ≡ 0 ∷ 1 ∷ 2 ∷ 3 ∷ 4 ∷ []
all_of_them = refl

none_of_them : resolved office dans nobody ≡ []
none_of_them = refl

who_created_it : resolved office dans initiator ≡ 3 ∷ []
who_created_it = refl

one_of_them : resolved office dans (user (codes "cora")) ≡ 2 ∷ []
one_of_them = refl

-- a group is no user, and a name of nobody finds nobody
a_group_as_user : resolved office dans (user (codes "clerks")) ≡ []
a_group_as_user = refl

no_name : resolved office dans (group (codes "no clerks")) ≡ []
no_name = refl

the_clerks : resolved office dans (group (codes "clerks")) ≡ 0 ∷ 1 ∷ []
the_clerks = refl

-- in ascending order, and nobody twice
clerks_and_others : resolved office dans (union (user (codes "dan")) (union (group (codes "clerks")) (user (codes "anna")))) ≡ 0 ∷ 1 ∷ 3 ∷ []
clerks_and_others = refl

clerks_but_one : resolved office dans (except (group (codes "clerks")) (user (codes "anna"))) ≡ 1 ∷ []
clerks_but_one = refl

clerks_and_one : resolved office dans (intersect everybody (user (codes "ben"))) ≡ 1 ∷ []
clerks_and_one = refl

who_is_given : resolved office given_boss (part Input (codes "boss")) ≡ 1 ∷ []
who_is_given = refl

nobody_is_given : resolved office given_nothing (part Input (codes "boss")) ≡ []
nobody_is_given = refl

by_the_priority : resolved office given_nothing (when (binary operator.Less priority (integer 3)) (user (codes "anna")) everybody) ≡ 0 ∷ []
by_the_priority = refl

by_another_priority : resolved office dans (when (binary operator.Less priority (integer 3)) everybody (user (codes "ben"))) ≡ 1 ∷ []
by_another_priority = refl

-- an unset part is nobody, who is no initiator
by_who_is_unset : resolved office given_nothing (when (binary operator.Equal initiator (part Input (codes "boss"))) everybody nobody) ≡ []
by_who_is_unset = refl

-- an excluded owner is never a potential owner
all_excluded : potential_owners office dans (user (codes "anna")) (resolved office dans (user (codes "anna"))) ≡ []
all_excluded = refl

one_excluded : potential_owners office dans (group (codes "clerks")) (resolved office dans (user (codes "ben"))) ≡ 0 ∷ []
one_excluded = refl
