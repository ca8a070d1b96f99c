-- How the bytes of a buffer lie in it.
use Rattle.std.specs.Prelude.{ℕ, ◌≤◌, List, length, slice_range}
use Rattle.ht_wire.specs.declared.limits.TheConstants.{LONGEST_HEAD}
use Rattle.ht_wire.specs.declared.buffer.Buffer.TheInside.{Inside}

abbrev pub pending_of : Inside → List ℕ
pending_of b = slice_range b.bytes.items b.start b.end

pub record IsKept (b : Inside) : Type 0 where
  pub order : b.start ≤ b.end
  pub within : b.end ≤ length b.bytes.items
  pub size : LONGEST_HEAD ≤ length b.bytes.items
