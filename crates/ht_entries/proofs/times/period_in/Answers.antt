use Rattle.std.proofs.Common.{◌≡◌, ℕ, Option, Some, None, refl, sym, ap, ◌∙◌}
use Rattle.ht_base.specs.Periods.{period_of}
use Rattle.ht_base.proofs.PublicLaws.{period_exact, period_reads}
use Rattle.ht_entries.proofs.times.period_in.Goals as goal

pub returns-in-Some : goal.returns-in-Some
returns-in-Some c =
    let read = c.in-Some.ensures.exact in
    ap Some read.2 ∙ sym (period_reads c.args.text.now read.0 read.1)

pub returns-in-None : goal.returns-in-None
returns-in-None c = by (period_of c.args.text.now) refl
  where
    by : (said : Option ℕ) → period_of c.args.text.now ≡ said → None ≡ said
    by None is = refl
    by (Some ms) is =
        let found = period_exact c.args.text.now ms is in
        absurd (let read = c.in-None.ensures.reads found.0 found.1 in cc)
