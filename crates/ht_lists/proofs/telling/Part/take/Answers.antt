use Rattle.std.proofs.Common.{◌-◌, refl, arith}
use Rattle.ht_lists.proofs.Results.{on_ok_then}
use Rattle.ht_lists.proofs.Told.{takes}
use Rattle.ht_lists.proofs.telling.Part.take.Goals as goal

pub returns-clause-looks : goal.returns-clause-looks
returns-clause-looks c =
    let old = c.args.self.now in
    on_ok_then c.push.result c.push.ensures.ok (λ is later. record {
      all = takes old.rows c.push.new.self old.passed old.left (old.left - 1) c.args.row later (omega arith) (omega arith) refl is;
      total = omega arith;
    })
