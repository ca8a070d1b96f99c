use Rattle.std.proofs.Common.{sym}
use Rattle.ht_api.specs.Bodies.{json_in}
use Rattle.ht_api.proofs.Required.{has_required}
use Rattle.ht_api.proofs.commands.full_command.Goals as goal

pub command_of-requires : goal.command_of-requires
command_of-requires c = has_required c.args.asked (json_in c.args.body.now) c.fill.new.fields (sym c.in_ok-fill.ensures)
