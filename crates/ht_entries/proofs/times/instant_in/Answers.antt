use Rattle.std.proofs.Common.{◌≡◌, Option, Some, None, refl, ap}
use Rattle.ht_base.specs.declared.moment.Moment.{Moment}
use Rattle.ht_entries.specs.Instants.{instant_of, moment, parts_of}
use Rattle.ht_entries.proofs.InstantCuts.{instant_exact, instant_reads}
use Rattle.ht_entries.proofs.times.instant_in.Goals as goal

pub returns-in-Some : goal.returns-in-Some
returns-in-Some c =
    let read = c.in-Some.ensures.exact in
    instant_reads c.args.text.now c.in-Some.moment read.0 read.1 (ap moment read.2)

pub returns-in-None : goal.returns-in-None
returns-in-None c = by (instant_of c.args.text.now) refl
  where
    by : (said : Option Moment) → instant_of c.args.text.now ≡ said → None ≡ said
    by None is = refl
    by (Some at) is =
        absurd (let read = c.in-None.ensures.reads (parts_of c.args.text.now) (instant_exact c.args.text.now at is) in cc)
