use Rattle.std.proofs.Common.{drop}
use Rattle.serde_json.specs.Data.{array}
use Rattle.ht_api.specs.Contents.{texts}
use Rattle.ht_api.specs.Writing.{Going, texts_left, tokens_of}
use Rattle.ht_api.proofs.contents.put_names.Given as goal

abbrev pub invariant-loop-name : goal.invariant-loop-name
invariant-loop-name l = Going l.fn.writer l.writer (tokens_of (array (texts l.names))) (texts_left (drop l.name-index l.names))
