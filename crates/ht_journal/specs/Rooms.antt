-- A disk with room for all that is written doesn't fail.
use Rattle.std.specs.Prelude.{◌≡◌, ℕ, ◌≤◌, Option, Some}

-- the disk tells a room of at least so many bytes
pub record IsRoomy (room : Option ℕ) (least : ℕ) : Type 0 where
  pub most : ℕ
  pub is : room ≡ Some most
  pub enough : least ≤ most
