-- How long a journal of records is.
use Rattle.std.proofs.Common.{◌≡◌, ◌+◌, List, [], ◌∷◌, ◌++◌, length, arith}
use Rattle.ht_base.specs.Records.{RecordOf}
use Rattle.ht_desk.specs.Records.{length_of, spelling}

pub length_push : (records : List RecordOf) (r : RecordOf) → length_of (records ++ r ∷ []) ≡ length_of records + 5 + length (spelling r)
length_push [] r = omega arith
length_push (x ∷ records) r = let e = length_push records r in omega arith
