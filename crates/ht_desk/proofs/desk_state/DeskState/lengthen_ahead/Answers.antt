use Rattle.std.proofs.Common.{◌∙◌, sym}
use Rattle.ht_desk.proofs.desk_state.DeskState.lengthen_ahead.Goals as goal

pub returns-clause-same : goal.returns-clause-same
returns-clause-same g c beside texts s at = record {
  tables = at.tables;
  kept = c.lengthen_ahead.ensures.kept _ at.kept;
  doubted = c.lengthen_ahead.ensures.doubt.1 ∙ at.doubted;
  awaited = at.awaited;
  failures = at.failures;
  limited = at.limited ∙ sym c.lengthen_ahead.ensures.same.2;
  counted = at.counted;
  spelled = at.spelled;
  sound = at.sound;
  office = at.office;
}

pub returns-clause-stands : goal.returns-clause-stands
returns-clause-stands g c stands = (stands.0, stands.1, stands.2, returns-clause-same g c stands.0 stands.1 stands.2 stands.3)
