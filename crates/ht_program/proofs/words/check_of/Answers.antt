use Rattle.std.proofs.Common.{map}
use Rattle.ht_program.proofs.Options.{bytes_of}
use Rattle.ht_program.proofs.Said.{of_check}
use Rattle.ht_program.proofs.words.check_of.Goals as goal

pub returns-then-not-are_options-clause-none : goal.returns-then-not-are_options-clause-none
returns-then-not-are_options-clause-none c = λ w. of_check (map bytes_of c.args.options.now) w (λ v. ⊥) (λ is. let allowed = is.allowed in absurd (cc))
