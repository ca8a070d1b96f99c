-- How a read moves the place where a list of bytes is cut.
use Rattle.std.proofs.Common.{◌≡◌, ℕ, ◌+◌, ◌-◌, ◌<◌, ◌≤◌, List, [], ◌++◌, length, take, drop, min, sym, ap, ◌∙◌, arith}
use Rattle.std.proofs.lemmas.List.{take-append-drop, drop-drop}
use Rattle.std.proofs.Math.Seq.{take-add}
use Rattle.std.proofs.Math.ListN.{drop_of_length-le}
use Rattle.ht_outside.specs.Scripted.{flow_at}
use Rattle.ht_outside.specs.Tells.{Flow, Moves}

moves_on : (at last n : ℕ) (bytes : List ℕ) → Moves (flow_at at last bytes) (flow_at (at + n) at bytes) (take n (drop at bytes))
moves_on at last n bytes = record {
  left = sym (take-append-drop n (drop at bytes)) ∙ ap (λ l. take n (drop at bytes) ++ l) (drop-drop n at bytes);
  taken = take-add at n bytes;
}

at_end : (at n : ℕ) (bytes into : List ℕ) → n ≡ min (length into) (length bytes - at) → n ≡ 0 → 0 < length into → drop (at + n) bytes ≡ []
at_end at n bytes into is none some = drop_of_length-le bytes (omega arith)

pub read_moves : (old : Flow) (at last n : ℕ) (bytes into : List ℕ) → flow_at at last bytes ≡ old → n ≡ min (length into) (length bytes - at) → take n into ≡ take n (drop at bytes)
    → (n ≤ length into) × Moves old (flow_at (at + n) at bytes) (take n into) × (n ≡ 0 → 0 < length into → drop (at + n) bytes ≡ [])
read_moves old at last n bytes into flow is copied = (omega arith, rw (← flow, copied) (moves_on at last n bytes), at_end at n bytes into is)
