use Rattle.std.proofs.Common.{◌≤◌, ◌++◌, take}
use Rattle.std.specs.List.{flat_map}
use Rattle.ht_export.specs.Lines.{head_line, line}
use Rattle.ht_export.specs.Pieces.{IsBetween, Leaves, gathered}
use Rattle.ht_export.proofs.exporting.export.Given as goal

abbrev pub invariant-loop-before : goal.invariant-loop-before
invariant-loop-before g l = record {
  leaves : Leaves (g.K.Sink.sink_state l.fn.output).written (g.K.Sink.sink_state l.output).written (head_line ++ flat_map (line l.tables.tables) (take l.before l.tables.tables.rows)) (gathered l.lines);
  between : IsBetween l.lines;
  later : (g.K.Sink.sink_state l.fn.output).faults ≤ (g.K.Sink.sink_state l.output).faults;
}
