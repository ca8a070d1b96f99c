use Rattle.std.proofs.Common.{◌+◌, sym}
use Rattle.ht_lists.specs.Keys.{key_of}
use Rattle.ht_lists.proofs.BestKeys.{behind_is}
use Rattle.ht_lists.proofs.best.Best.offer.Goals as goal

pub returns-then-is_plainly_behind-clause-offered : goal.returns-then-is_plainly_behind-clause-offered
returns-then-is_plainly_behind-clause-offered c =
    let b = c.args.self.now in
    let behind = c.is_plainly_behind.ensures c.if-is_plainly_behind.true in
    let same = behind_is b.limit b.keys (key_of c.args.row.now) c.args.offers.now.bound behind c.requires.priority c.requires.bounds in
    λ i. record { limit = b.limit; keys = sym same i; total = c.args.offers.now.total + 1 }
