use Rattle.std.proofs.Common.{◌∙◌, bytes_eq, string_bytes, rules, tests}
use Rattle.std.proofs.lemmas.Iterator.{YieldsList-from_slice}
use Rattle.std.proofs.lemmas.Iterator.Search.{any_from_yields_List}
use Rattle.ht_program.proofs.Options.{one_of_texts}
use Rattle.ht_program.proofs.words.is_one_of.Goals as goal

pub returns : goal.returns
returns c =
    any_from_yields_List (λ s. bytes_eq s.now (string_bytes c.args.word.now)) _ _ _ c.any.ensures.ran (YieldsList-from_slice c.args.names.now cc) (λ x b q k. search (rules, tests))
    ∙ one_of_texts (λ s. s.now) c.args.names.now (string_bytes c.args.word.now)
