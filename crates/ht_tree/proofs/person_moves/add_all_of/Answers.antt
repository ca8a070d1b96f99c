use Rattle.std.proofs.Common.{option_map}
use Rattle.ht_tree.specs.declared.listed_by.ListedBy.TheVariants as by
use Rattle.ht_tree.specs.ListedBy.{has_task_role, is_in_lists, is_person, stands_under}
use Rattle.ht_tree.proofs.Moving.{adds_then, on_ok, role_parts}
use Rattle.ht_tree.proofs.person_moves.add_all_of.Goals as goal

pub returns : goal.returns
returns c =
    let row = c.args.row.now in
    on_ok c.add_owner.result
    (λ last. adds_then c.args.task c.args.comes (λ key. is_in_lists key row) (λ key. is_person key row.owner) (λ key. has_task_role key row) (λ key. stands_under by.Person key (option_map (λ r. r.now) c.args.other)) c.args.moves.now.items c.add_listed.new.moves.items c.add_owner.new.moves.items (λ key. role_parts key row) c.in_ok-add_listed.ensures last)
    c.add_owner.ensures
