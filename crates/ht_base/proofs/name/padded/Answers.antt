use Rattle.std.proofs.Common.{ℕ, List, ◌++◌, length, drop, replicate, ap, ◌∙◌}
use Rattle.std.proofs.lemmas.List.{drop-replicate}
use Rattle.ht_base.proofs.name.padded.Goals as goal
use Rattle.ht_base.specs.declared.limits.TheConstants.{LONGEST_NAME}

pub returns : goal.returns
returns c = ap (λ (s : List ℕ). s ++ drop (length c.args.bytes.now) (replicate LONGEST_NAME 0)) c.copy_from_slice.ensures.after ∙ ap (λ (s : List ℕ). c.args.bytes.now ++ s) (drop-replicate (length c.args.bytes.now) LONGEST_NAME 0)
