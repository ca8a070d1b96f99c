-- What a contract sees of the tree of an expression: the addresses of its boxes are left out.
use Rattle.ht_expr.specs.declared.node.Node.{Node}
use Rattle.ht_expr.specs.declared.node.Node.TheVariants as node
use Rattle.ht_expr.specs.Kinds.{Declared}
use Rattle.ht_expr.specs.Trees.{Tree, integer, text, truth, priority, initiator, part, is_set, count, count_text, count_true, brackets, negative, opposite, binary, choice}

abbrev pub shown_node : Node → Tree
shown_node (node.Number n) = integer n
shown_node (node.Text x) = text x
shown_node (node.Truth b) = truth b
shown_node node.Priority = priority
shown_node node.Initiator = initiator
shown_node (node.Part side name) = part side name
shown_node (node.IsSet side name) = is_set side name
shown_node (node.Count c) = count c
shown_node (node.CountText p x) = count_text p x
shown_node (node.CountTrue p) = count_true p
shown_node (node.Brackets' i e) = brackets (shown_node e)
shown_node (node.Negative' i e) = negative (shown_node e)
shown_node (node.Not' i e) = opposite (shown_node e)
shown_node (node.Binary' o i l j r) = binary o (shown_node l) (shown_node r)
shown_node (node.If' i c j a k b) = choice (shown_node c) (shown_node a) (shown_node b)

-- an expression: its tree, and the parts that are declared for it
pub record ExprOf : Type 0 where
  pub tree : Tree
  pub kinds : Declared
