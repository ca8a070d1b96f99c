-- What a contract sees of assignments and answers: the addresses of boxes are left out.
use Rattle.std.specs.Prelude.{◌≡◌, ⊤, Result, Ok, Err}
use Rattle.ht_expr.specs.declared.assignment.Assign.{Assign}
use Rattle.ht_expr.specs.declared.assignment.Assign.TheVariants as assign
use Rattle.ht_expr.specs.declared.kinds.Side.TheVariants.{Input}
use Rattle.ht_expr.specs.declared.refusal.ExprRefusal.{ExprRefusal}
use Rattle.ht_expr.specs.Kinds.{Declared}
use Rattle.ht_expr.specs.Nodes.{ExprOf}
use Rattle.ht_expr.specs.Trees.{Tree, initiator, part}
use Rattle.ht_expr.specs.Trees.{nobody, everybody, user, group, union, intersect, except, when}

abbrev pub shown : Assign → Tree
shown assign.Nobody = nobody
shown assign.Everybody = everybody
shown assign.Initiator = initiator
shown (assign.In name) = part Input name
shown (assign.User name) = user name
shown (assign.Group name) = group name
shown (assign.Union' i a j b) = union (shown a) (shown b)
shown (assign.Intersect' i a j b) = intersect (shown a) (shown b)
shown (assign.Except' i a j b) = except (shown a) (shown b)
shown (assign.When' c j a k b) = when c.value.tree (shown a) (shown b)

-- these parts are declared for each expression in it
abbrev pub AreDeclared : Declared → Assign → Type 0
AreDeclared kinds (assign.Union' i a j b) = AreDeclared kinds a × AreDeclared kinds b
AreDeclared kinds (assign.Intersect' i a j b) = AreDeclared kinds a × AreDeclared kinds b
AreDeclared kinds (assign.Except' i a j b) = AreDeclared kinds a × AreDeclared kinds b
AreDeclared kinds (assign.When' c j a k b) = (c.value.kinds ≡ kinds) × AreDeclared kinds a × AreDeclared kinds b
AreDeclared kinds _ = ⊤

abbrev pub expr_answer : Result ExprOf ExprRefusal → Result Tree ExprRefusal
expr_answer (Ok e) = Ok e.tree
expr_answer (Err e) = Err e

abbrev pub shown_answer : Result Assign ExprRefusal → Result Tree ExprRefusal
shown_answer (Ok a) = Ok (shown a)
shown_answer (Err e) = Err e
