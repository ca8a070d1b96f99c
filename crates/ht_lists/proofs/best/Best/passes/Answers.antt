use Rattle.std.proofs.Common.{◌+◌, sym}
use Rattle.ht_lists.specs.Keys.{key_of}
use Rattle.ht_lists.proofs.BestKeys.{behind_is}
use Rattle.ht_lists.proofs.best.Best.passes.Goals as goal

pub returns : goal.returns
returns c = λ is total.
    let b = c.args.self.now in
    let behind = c.is_plainly_behind.ensures is in
    let same = behind_is b.limit b.keys (key_of c.args.row.now) c.args.offers.now.bound behind c.requires.priority c.requires.bounds in
    λ i. record { limit = b.limit; keys = sym same i; total = total + 1 }
