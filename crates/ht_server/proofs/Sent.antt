-- A durable office may cross to another thread, whatever it holds.
use denote.Param.Send.{IsSend, sendable, struct_send, view_send}
use denote.Hole.FixSend.{Sends, fix_send}
use denote.RattleType.{RattleType}
use denote.Ref.{NamedLft}
use Rattle.std.proofs.Common.{[], ◌∷◌}
use denote.Param.SendFields.{FieldsHave, as_row_send, declared_send, variants_send}
use Rattle.std.proofs.Crossing.{Box-send, crosses}
use Rattle.std.proofs.MapsCrossing as maps
use Rattle.std.specs.contracts.boxed.Box as boxes
use Rattle.std.specs.contracts.alloc.Global as heap
use Rattle.std.below.std_heap.specs.contracts.GlobalAllocator.TheImpl.{ghosts}
use Rattle.ht_base.specs.contracts.name.Name as name
use Rattle.ht_base.specs.contracts.txt.Txt as txt
use Rattle.ht_expr.specs.contracts.kinds.Kinds as kinds
use Rattle.ht_expr.specs.contracts.node.Node as node
use Rattle.ht_expr.specs.contracts.node.Node.TheKnot as node_knot
use Rattle.ht_expr.specs.declared.node.Node.TheBlock as node_block
use Rattle.ht_expr.specs.declared.assignment.Assign.TheBlock as assign_block
use Rattle.ht_expr.specs.contracts.expression.Expr as expr
use Rattle.ht_expr.specs.contracts.expression.Expr.TheInside as inside
use Rattle.ht_expr.specs.contracts.assignment.Assign as assign
use Rattle.ht_expr.specs.contracts.assignment.Assign.TheKnot as assign_knot
use Rattle.ht_base.specs.contracts.persons.Persons as persons
use Rattle.ht_base.specs.contracts.values.Values as values
use Rattle.ht_entries.specs.contracts.sub_entries.SubEntry as sub_entry
use Rattle.ht_models.specs.contracts.model.Escalation as escalation
use Rattle.ht_models.specs.contracts.model.Deadline as deadline
use Rattle.ht_models.specs.contracts.model.Finish as finish
use Rattle.ht_models.specs.contracts.model.Model as model
use Rattle.ht_models.specs.contracts.models.Models as models
use Rattle.ht_people.specs.contracts.directory.Directory as directory
use Rattle.ht_tree.specs.contracts.comments.Comments as comments
use Rattle.ht_tree.specs.contracts.row.Row as row
use Rattle.ht_tree.specs.contracts.notice.Notice as notice
use Rattle.ht_tree.specs.contracts.index.Index as index
use Rattle.ht_tree.specs.contracts.puts.Puts as puts
use Rattle.ht_tree.specs.contracts.plan.Plan as plan
use Rattle.ht_tree.specs.contracts.tables.Tables as tables
use Rattle.ht_desk.specs.contracts.doubt.Doubt as doubt
use Rattle.ht_desk.specs.contracts.desk_state.DeskState as desk_state
use Rattle.ht_program.specs.contracts.machine.Machine as machine

abbrev boxed : RattleType → RattleType
boxed R = boxes.the_row R heap.the_row ghosts

pub name_send : IsSend name.the_row
name_send = search (sendable, crosses, maps.crosses) depth 60 fits 20000

pub txt_send : IsSend txt.the_row
txt_send = search (sendable, crosses, maps.crosses) depth 60 fits 20000

pub kinds_send : IsSend kinds.the_row
kinds_send = search (name_send, sendable, crosses, maps.crosses) depth 60 fits 20000

node_step : (i : _) → Sends node_knot.ring i
node_step node_block.member-Node = record { send = λ h all. variants_send (node_knot.type-Node (h node_block.member-Node) (h node_block.member-Node) (h node_block.member-Node) (h node_block.member-Node) (h node_block.member-Node) (h node_block.member-Node) (h node_block.member-Node) (h node_block.member-Node)) (search (all, as_row_send, txt_send, Box-send, sendable) depth 30 fits 20000) }

node_hole_send : IsSend node.the_hole
node_hole_send = fix_send node_knot.ring node_step node_knot.member-Node

node_box_send : IsSend (boxed node.the_hole)
node_box_send = Box-send node.the_hole node_hole_send

pub node_send : IsSend node.the_row
node_send = search (node_box_send, txt_send, sendable) depth 30 fits 20000

pub expr_send : IsSend expr.the_row
expr_send = let fields : FieldsHave IsSend (node.the_field ∷ kinds.the_field ∷ []) = (node_send, (kinds_send, tt)) in view_send _ _ _ _ _ (declared_send inside.the_type fields)

assign_step : (i : _) → Sends assign_knot.ring i
assign_step assign_block.member-Assign = record { send = λ h all. variants_send (assign_knot.type-Assign (h assign_block.member-Assign) (h assign_block.member-Assign) (h assign_block.member-Assign) (h assign_block.member-Assign) (h assign_block.member-Assign) (h assign_block.member-Assign) (h assign_block.member-Assign) (h assign_block.member-Assign)) (search (all, as_row_send, expr_send, txt_send, Box-send, sendable) depth 30 fits 20000) }

assign_hole_send : IsSend assign.the_hole
assign_hole_send = fix_send assign_knot.ring assign_step assign_knot.member-Assign

pub assign_send : IsSend assign.the_row
assign_send = search (assign_hole_send, expr_send, txt_send, sendable, crosses) depth 60 fits 20000

pub persons_send : IsSend persons.the_row
persons_send = search (sendable, crosses, maps.crosses) depth 60 fits 20000

pub values_send : IsSend values.the_row
values_send = search (name_send, txt_send, sendable, crosses, maps.crosses) depth 60 fits 20000

pub sub_entry_send : IsSend sub_entry.the_row
sub_entry_send = search (name_send, sendable, crosses, maps.crosses) depth 60 fits 20000

pub escalation_send : IsSend escalation.the_row
escalation_send = search (assign_send, expr_send, name_send, sendable, crosses, maps.crosses) depth 60 fits 20000

pub deadline_send : IsSend deadline.the_row
deadline_send = search (escalation_send, assign_send, expr_send, name_send, txt_send, sendable, crosses, maps.crosses) depth 60 fits 20000

pub finish_send : IsSend finish.the_row
finish_send = search (expr_send, name_send, txt_send, sendable, crosses, maps.crosses) depth 60 fits 20000

pub model_send : IsSend model.the_row
model_send = declared_send model.the_type (search (finish_send, deadline_send, sub_entry_send, assign_send, expr_send, name_send, as_row_send, sendable, crosses, maps.crosses) depth 60 fits 20000)

pub models_send : IsSend models.the_row
models_send = search (model_send, name_send, sendable, crosses, maps.crosses) depth 60 fits 20000

pub directory_send : IsSend directory.the_row
directory_send = search (name_send, sendable, crosses, maps.crosses) depth 60 fits 20000

pub comments_send : IsSend comments.the_row
comments_send = search (txt_send, name_send, sendable, crosses, maps.crosses) depth 60 fits 20000

pub row_send : IsSend row.the_row
row_send = search (comments_send, values_send, persons_send, name_send, sendable, crosses, maps.crosses) depth 60 fits 20000

pub notice_send : IsSend notice.the_row
notice_send = search (persons_send, name_send, sendable, crosses, maps.crosses) depth 60 fits 20000

pub index_send : IsSend index.the_row
index_send = search (sendable, crosses, maps.crosses) depth 60 fits 20000

pub puts_send : IsSend puts.the_row
puts_send = search (index_send, row_send, values_send, persons_send, name_send, sendable, crosses, maps.crosses) depth 60 fits 20000

pub plan_send : IsSend plan.the_row
plan_send = search (puts_send, notice_send, row_send, sendable, crosses, maps.crosses) depth 60 fits 20000

pub tables_send : IsSend tables.the_row
tables_send = search (row_send, notice_send, models_send, directory_send, values_send, name_send, sendable, crosses, maps.crosses) depth 60 fits 20000

pub doubt_send : IsSend doubt.the_row
doubt_send = search (plan_send, sendable, crosses, maps.crosses) depth 60 fits 20000

pub desk_state_send : IsSend desk_state.the_row
desk_state_send = search (tables_send, doubt_send, sendable, crosses, maps.crosses) depth 60 fits 20000

-- with the disk of its journal, where this may
pub machine_send : (κ : NamedLft) (D : RattleType) → IsSend D → IsSend (machine.the_row κ D desk_state.the_row)
machine_send κ D s = declared_send (machine.the_type κ D desk_state.the_row) (search (s, desk_state_send, as_row_send, sendable) depth 30)
