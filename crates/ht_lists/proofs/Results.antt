-- What follows from a call that succeeds.
use Rattle.std.proofs.Common.{Result, Ok, Err, OnOk}

pub on_ok_then : {T E P Q : Type 0} (r : Result T E) → OnOk r P → (P → Q) → OnOk r Q
on_ok_then (Ok t) p f = f p
on_ok_then (Err e) p f = tt
