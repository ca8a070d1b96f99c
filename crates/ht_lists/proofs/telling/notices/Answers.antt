use Rattle.std.proofs.Common.{◌∙◌, ◌+◌, ap, drop, length, sym, arith}
use Rattle.ht_lists.specs.Lists.{told_from}
use Rattle.ht_lists.specs.Parts.{all_of}
use Rattle.ht_lists.proofs.Told.{next_told}
use Rattle.ht_lists.proofs.telling.notices.Goals as goal

pub loop-before-preserved : goal.loop-before-preserved
loop-before-preserved c =
    let notices = c.args.tables.now.tables.notices in
    let i = c.loop-before.before in
    let person = c.args.person in
    let later = told_from (i + 1 + 1) person (drop (i + 1) notices) in
    let looks = c.in_ok-look_at.ensures.looks later in
    let next = next_told notices i person c.in-Some.notice.now c.in-Some.ensures.value in
    let sizes = ap length next in
    record {
      part = looks.all ∙ ap (all_of c.loop-before.part) (sym next) ∙ c.loop-before.invariant.part;
      total = omega (arith, looks.total, sizes, c.loop-before.invariant.total);
      few = omega (arith, c.in_ok-look_at.ensures.few);
    }
