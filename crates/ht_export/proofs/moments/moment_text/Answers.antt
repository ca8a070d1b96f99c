use Rattle.std.proofs.Common.{◌/◌, ◌≡◌, ◌∙◌, ap, refl}
use Rattle.ht_export.specs.Dates.{date_of}
use Rattle.ht_export.specs.Moments.{date_text}
use Rattle.ht_export.proofs.Dates.{date_is}
use Rattle.ht_export.proofs.moments.moment_text.Goals as goal

pub returns : goal.returns
returns c =
    let day = c.args.at.0 / 86400000 in
    let date : c.date_digits.result ≡ date_text (date_of day) = c.date_digits.ensures ∙ ap date_text (date_is c.date_of.result day c.date_of.ensures) in
    rw (c.put-4.ensures, c.put-3.ensures, c.put-2.ensures, c.put.ensures, c.new-text.ensures, date, c.time_digits.ensures) refl
