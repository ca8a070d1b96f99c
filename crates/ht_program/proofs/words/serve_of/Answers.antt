use Rattle.std.proofs.Common.{map}
use Rattle.ht_program.proofs.Options.{bytes_of}
use Rattle.ht_program.proofs.Said.{of_serve}
use Rattle.ht_program.proofs.words.serve_of.Goals as goal

pub returns-then-not-are_options-clause-none : goal.returns-then-not-are_options-clause-none
returns-then-not-are_options-clause-none c = λ w. of_serve (map bytes_of c.args.options.now) w (λ v. ⊥) (λ service is. let allowed = is.allowed in absurd (cc))

pub returns-in_default-clause-none : goal.returns-in_default-clause-none
returns-in_default-clause-none c = λ w. of_serve (map bytes_of c.args.options.now) w (λ v. ⊥) (λ service is. let said = is.said in c.in_default.ensures'.none service said.1)
