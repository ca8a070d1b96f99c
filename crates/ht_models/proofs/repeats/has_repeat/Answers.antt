use Rattle.std.proofs.Common.{sym}
use Rattle.ht_models.proofs.Repeated.{no_repeat, repeat_found}
use Rattle.ht_models.proofs.repeats.has_repeat.Goals as goal

pub returns-in-Ok : goal.returns-in-Ok
returns-in-Ok g c =
    rw (← c.in_ok-names.ensures, ← c.deref.ensures.value) (sym (no_repeat c.deref.result.now c.in-Ok.ensures.distinct))

pub returns-in-Err-Repeated : goal.returns-in-Err-Repeated
returns-in-Err-Repeated g c =
    let place = c.in-Err-Repeated.field-0-0 in
    let least = c.in-Err-Repeated.ensures.repeated place c.in-Err-Repeated.field-0-is in
    rw (← c.in_ok-names.ensures, ← c.deref.ensures.value) (sym (repeat_found c.deref.result.now place least.holds))
