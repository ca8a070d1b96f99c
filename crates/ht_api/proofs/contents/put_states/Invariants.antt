use Rattle.std.proofs.Common.{drop, filter, map}
use Rattle.serde_json.specs.Data.{array}
use Rattle.ht_base.specs.State.{contains_state, state_name}
use Rattle.ht_api.specs.Contents.{texts}
use Rattle.ht_api.specs.Writing.{Going, texts_left, tokens_of}
use Rattle.ht_api.proofs.contents.put_states.Given as goal

abbrev pub invariant-loop-state : goal.invariant-loop-state
invariant-loop-state l =
    Going l.fn.writer l.writer (tokens_of (array (texts (map state_name (filter (contains_state l.set) l.all)))))
    (texts_left (map state_name (filter (contains_state l.set) (drop l.state-index l.all))))
