-- How a name lies in its padded array.
use Rattle.std.specs.Prelude.{◌≡◌, ℕ, ◌-◌, ◌≤◌, List, ◌++◌, length, take, drop, replicate}
use Rattle.std.proofs.Common.{sym, ap, ◌∙◌, arith, take-append-drop}
use Rattle.std.proofs.lemmas.List.{length-take-le}
use Rattle.ht_base.specs.declared.limits.TheConstants.{LONGEST_NAME}
use Rattle.ht_base.specs.declared.name.Name.TheInside.{Inside}
use Rattle.ht_base.specs.Name.{IsName}

-- the bytes before the padding
abbrev pub bytes_of : Inside → List ℕ
bytes_of n = take n.len n.bytes

pub record IsKept (n : Inside) : Type 0 where
  pub name : IsName (bytes_of n)
  pub within : n.len ≤ LONGEST_NAME
  pub room : length n.bytes ≡ LONGEST_NAME
  pub padded : drop n.len n.bytes ≡ replicate (LONGEST_NAME - n.len) 0

-- the array that these bytes are kept in
abbrev pub kept : List ℕ → Inside
kept bytes = record { bytes = bytes ++ replicate (LONGEST_NAME - length bytes) 0; len = length bytes }

pub kept_bytes_of : (n : Inside) → IsKept n → kept (bytes_of n) ≡ n
kept_bytes_of n k =
    let len : length (take n.len n.bytes) ≡ n.len = length-take-le n.len n.bytes (let r = k.room in let w = k.within in omega arith) in
    let whole : take n.len n.bytes ++ replicate (LONGEST_NAME - length (take n.len n.bytes)) 0 ≡ n.bytes =
    ap (λ m. take n.len n.bytes ++ replicate (LONGEST_NAME - m) 0) len ∙ ap (λ l. take n.len n.bytes ++ l) (sym k.padded) ∙ take-append-drop n.len n.bytes in
    λ i. record { bytes = whole i; len = len i }
