use Rattle.std.proofs.Common.{ap, ◌∙◌}
use Rattle.ht_index.specs.Sets.{tasks_in, words_left}
use Rattle.ht_index.proofs.TasksLeft.{all_left}
use Rattle.ht_index.proofs.rest.Rest.over.Goals as goal

pub returns : goal.returns
returns c =
    let words = c.args.words.now in
    ap (λ b. tasks_in (words_left 0 b words)) c.word.ensures ∙ all_left words
