-- People assignments (WS-HumanTask 1.1, 3.5): the trees that stand where an assignment is asked for.
use Rattle.std.specs.Prelude.{Bool, true, false, not, List, [], ◌∷◌, ◌++◌}
use Rattle.std.specs.List.{list_all}
use Rattle.ht_expr.specs.Trees.{Tree}
pub use Rattle.ht_expr.specs.Trees.{nobody, everybody, initiator, part, user, group, union, intersect, except, when}

abbrev pub Assignment : Type 0
Assignment = Tree

-- the assignment and all that it holds, but for expressions
abbrev pub parts : Assignment → List Assignment
parts (union a b) = union a b ∷ (parts a ++ parts b)
parts (intersect a b) = intersect a b ∷ (parts a ++ parts b)
parts (except a b) = except a b ∷ (parts a ++ parts b)
parts (when c a b) = when c a b ∷ (parts a ++ parts b)
parts a = a ∷ []

-- it finds persons whom it doesn't name one by one
abbrev pub is_collective : Assignment → Bool
is_collective everybody = true
is_collective (group name) = true
is_collective _ = false

-- neither group nor everybody stands anywhere in it
abbrev pub is_individual : Assignment → Bool
is_individual a = list_all (λ p. not (is_collective p)) (parts a)

-- it looks at a part or at an expression
abbrev pub is_looking : Assignment → Bool
is_looking (part side name) = true
is_looking (when c a b) = true
is_looking _ = false

-- neither in nor when stands anywhere in it
abbrev pub is_plain : Assignment → Bool
is_plain a = list_all (λ p. not (is_looking p)) (parts a)
