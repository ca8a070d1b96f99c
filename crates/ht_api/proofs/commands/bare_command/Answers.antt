use Rattle.std.proofs.Common.{Some, subst, sym}
use Rattle.serde_json.specs.Data.{object, no_members}
use Rattle.ht_api.specs.declared.fields.Fields.{Fields}
use Rattle.ht_api.specs.Commands.{HasAll}
use Rattle.ht_api.specs.Fields.{no_fields}
use Rattle.ht_api.specs.Keys.{keys_of}
use Rattle.ht_api.proofs.Required.{has_required}
use Rattle.ht_api.proofs.commands.bare_command.Goals as goal

pub command_of-requires : goal.command_of-requires
command_of-requires c =
    let H : Fields → Type 0 = λ f. HasAll (keys_of c.args.asked) f in
    subst H (sym c.new.ensures) (has_required c.args.asked (Some (object no_members)) no_fields (sym c.in_ok-take_none.ensures))
