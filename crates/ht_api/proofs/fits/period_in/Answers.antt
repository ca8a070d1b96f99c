use Rattle.std.proofs.Common.{rules}
use Rattle.ht_api.proofs.Fitting.{period_is}
use Rattle.ht_api.proofs.fits.period_in.Goals as goal

pub returns : goal.returns
returns c =
    let same = period_is c.in_ok-as_str.field-0.now c.period.result c.period.ensures.reads c.period.ensures.exact in
    search rules
