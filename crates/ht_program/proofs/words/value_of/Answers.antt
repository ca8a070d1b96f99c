use Rattle.std.proofs.Common.{◌∙◌, map, sym}
use Rattle.std.proofs.lemmas.List.{length-map}
use Rattle.ht_program.proofs.Options.{bytes_of, short_none}
use Rattle.ht_program.proofs.words.value_of.Goals as goal

pub returns : goal.returns
returns c = sym (c.loop-rest.invariant ∙ short_none c.args.name.now (map bytes_of c.loop-rest.rest.now) (rw (length-map c.loop-rest.rest.now bytes_of) c.in_default.len_below))
