use Rattle.std.proofs.Common.{◌-◌, ◌∙◌, sym, ap, length, arith}
use Rattle.ht_codec.specs.Fields.{is_behind, last_name}
use Rattle.ht_codec.proofs.LastNames.{last_is}
use Rattle.ht_codec.proofs.parts.is_behind.Goals as goal

pub returns-in-len1-up : goal.returns-in-len1-up
returns-in-len1-up c =
    let some = c.in-len1-up.len_at_least in
    let last = last_is c.as_slice.result.now (length c.as_slice.result.now - 1) c.index-last.result (omega arith) in
    c.lt.ensures ∙ ap (λ o. is_behind o c.args.name.now) (sym last) ∙ ap (λ vs. is_behind (last_name vs) c.args.name.now) c.as_slice.ensures.value
