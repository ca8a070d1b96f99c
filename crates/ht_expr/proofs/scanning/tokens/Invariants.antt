use Rattle.std.proofs.Common.{length}
use denote.Text.{Utf8}
use denote.Shadow.{shadow}
use Rattle.ht_expr.specs.Scanning.{HasFound}
use Rattle.ht_expr.proofs.scanning.tokens.Given as goal

abbrev pub invariant-loop-rest : goal.invariant-loop-rest
invariant-loop-rest l = record { utf8 : shadow (Utf8 l.rest); found : HasFound l.text l.rest l.tokens.items l.is_too_long }

abbrev pub decreases-loop-rest : goal.decreases-loop-rest
decreases-loop-rest l = length l.rest
