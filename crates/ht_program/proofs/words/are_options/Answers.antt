use Rattle.std.proofs.Common.{◌∙◌, ◌-◌, map, drop, take, length, sym}
use Rattle.std.proofs.lemmas.List.{length-map}
use Rattle.ht_program.proofs.Options.{bytes_of, ends_options, first_two, more_options, not_options}
use Rattle.ht_program.proofs.words.are_options.Goals as goal

pub returns-then-not-begin_options : goal.returns-then-not-begin_options
returns-then-not-begin_options c =
    let rest = c.loop-rest.rest.now in
    let front = first_two rest c.name-item.result c.value-item.result c.in-len2-up.len_at_least c.name-item.is c.value-item.is in
    sym (c.loop-rest.invariant ∙ not_options (map (λ s. s.now) c.args.names.now) (map bytes_of rest) (bytes_of c.name-item.result) (bytes_of c.value-item.result) (map bytes_of (take (length rest - 2) (drop 2 rest))) c.begin_options.result front c.begin_options.ensures c.if-not-begin_options.true)

pub loop-rest-preserved : goal.loop-rest-preserved
loop-rest-preserved c =
    let rest = c.loop-rest.rest.now in
    let front = first_two rest c.name-item.result c.value-item.result c.in-len2-up.len_at_least c.name-item.is c.value-item.is in
    c.loop-rest.invariant ∙ more_options (map (λ s. s.now) c.args.names.now) (map bytes_of rest) (bytes_of c.name-item.result) (bytes_of c.value-item.result) (map bytes_of (take (length rest - 2) (drop 2 rest))) c.begin_options.result front c.begin_options.ensures c.if-not-begin_options.false

pub returns : goal.returns
returns c =
    let rest = c.loop-rest.rest.now in
    ends_options (map (λ s. s.now) c.args.names.now) (map bytes_of rest) c.is_empty.result (rw (length-map rest bytes_of) c.in_default.len_below) (rw (length-map rest bytes_of) c.is_empty.ensures) ∙ sym c.loop-rest.invariant
