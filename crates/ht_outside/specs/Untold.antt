-- A disk that tells no images has no law of them to keep.
use Rattle.std.proofs.Common.{◌≡◌, true, false}

pub untold : {A : Type 0} → false ≡ true → A
untold same = absurd (cc)
