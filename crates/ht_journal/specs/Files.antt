-- What the bytes of a journal file stand for: the header, and then by turns a gate and a frame. A gate
-- is open where it holds 1. The bodies of the file are those behind its open gates, up to the first gate
-- that is closed. What follows that gate has no meaning.
use Rattle.std.specs.Prelude.{◌≡◌, ◌==◌, ℕ, zero, suc, ◌+◌, ◌-◌, ◌^◌, ◌<◌, ◌≤◌, ◌&&◌, Bool, List, [], ◌∷◌, ◌++◌, length, take, drop, Result, Ok, Err, nat_le, nat_lt, if◌then◌else◌, bytes_eq}
use Rattle.std.specs.List.{AllByRecursion}
use Rattle.std.specs.Int.{w32, to_le_bytes, from_le_bytes}
use Rattle.ht_outside.specs.Disks.{written}
use Rattle.ht_journal.specs.declared.limits.TheConstants.{LONGEST_BODY}

-- the first eight bytes of a journal file: HTJ1, and a carriage return, a line feed, the byte 26 and a line feed
abbrev pub header : List ℕ
header = 0x48 ∷ 0x54 ∷ 0x4a ∷ 0x31 ∷ 0x0d ∷ 0x0a ∷ 0x1a ∷ 0x0a ∷ []

-- a length in four bytes, the lowest first
unfoldable pub length_bytes : ℕ → List ℕ
length_bytes n = to_le_bytes w32 n

-- the length that the first four bytes spell
unfoldable pub length_at : List ℕ → ℕ
length_at bytes = from_le_bytes w32 bytes

-- a body with its length before it
abbrev pub frame : List ℕ → List ℕ
frame body = length_bytes (length body) ++ body

-- what stands behind an open gate at `at` is whole: a body of at most 1,048,576 bytes with its length, and
-- then a gate, all in the file's first 4,294,967,296 bytes
abbrev pub is_whole : ℕ → List ℕ → Bool
is_whole at behind = nat_le (length_at behind) LONGEST_BODY && (nat_lt (4 + length_at behind) (length behind) && nat_lt (at + 5 + length_at behind) (2 ^ 32))

-- one body more in front, unless there is damage
abbrev pub with_body : List ℕ → Result (List (List ℕ)) ℕ → Result (List (List ℕ)) ℕ
with_body body (Ok bodies) = Ok (body ∷ bodies)
with_body body (Err at) = Err at

-- Of the bytes from the place `at` on, where `over` bytes are passed over before a gate: the bodies behind
-- open gates, or the place of the first open gate whose frame isn't whole
unfoldable pub bodies_from : ℕ → ℕ → List ℕ → Result (List (List ℕ)) ℕ
bodies_from at over [] = Ok []
bodies_from at (suc over) (byte ∷ bytes) = bodies_from (suc at) over bytes
bodies_from at zero (gate ∷ bytes) =
    if gate == 1
    then (if is_whole at bytes
    then with_body (take (length_at bytes) (drop 4 bytes)) (bodies_from (suc at) (4 + length_at bytes) bytes)
    else Err at)
    else Ok []

-- The bodies of a file, or the place at which it is damaged. A file of at most 9 bytes has none: it is one
-- that was never begun, or whose beginning a crash cut short
unfoldable pub contents : List ℕ → Result (List (List ℕ)) ℕ
contents file =
    if nat_le (length file) 9
    then Ok []
    else (if bytes_eq (take 8 file) header then bodies_from 8 0 (drop 8 file) else Err 0)

-- open gates with the frames of these bodies
abbrev pub frames : List (List ℕ) → List ℕ
frames [] = []
frames (body ∷ bodies) = 1 ∷ (frame body ++ frames bodies)

-- all that stands before the closed gate of a file with these bodies
abbrev pub front : List (List ℕ) → List ℕ
front bodies = header ++ frames bodies

-- The length of a journal with these bodies, which is the place behind its closed gate: the header and one gate,
-- and for each body a gate more, the four bytes of its length, and its bytes
abbrev pub journal_length : List (List ℕ) → ℕ
journal_length [] = 9
journal_length (body ∷ bodies) = 5 + length body + journal_length bodies

-- the bodies have lengths that are allowed, and the closed gate is in the first 4,294,967,296 bytes
pub record Fit (bodies : List (List ℕ)) : Type 0 where
  pub small : AllByRecursion (λ body. length body ≤ LONGEST_BODY) bodies
  pub reach : length (front bodies) < 2 ^ 32

-- the file has these bodies and then a closed gate, with anything behind it
pub record Rests (bodies : List (List ℕ)) (file : List ℕ) : Type 0 where
  pub gate : ℕ
  pub rest : List ℕ
  pub split : file ≡ front bodies ++ gate ∷ rest
  pub closed : gate ≡ 1 → ⊥

-- The file has these bodies and then a gate that may hold anything. Behind it stand whole one body and more of them, with
-- their lengths and open gates between them, and a closed gate
pub record Doubts (bodies : List (List ℕ)) (body : List ℕ) (more : List (List ℕ)) (file : List ℕ) : Type 0 where
  pub gate : ℕ
  pub rest : List ℕ
  pub split : file ≡ front bodies ++ gate ∷ (frame body ++ (frames more ++ 0 ∷ rest))

-- A body was put behind the closed gate of a journal of this length: its frame stands there, with a gate 0 behind, and the
-- gate holds 1. No other byte changed
abbrev pub IsPut : ℕ → List ℕ → List ℕ → List ℕ → Type 0
IsPut place body old new = new ≡ written (place - 1) (1 ∷ []) (written place (frame body ++ 0 ∷ []) old)

-- It was appended: the file was lengthened so far by zeros, where it was shorter, and the body was put
abbrev pub IsAppended : ℕ → ℕ → List ℕ → List ℕ → List ℕ → Type 0
IsAppended far place body old new = IsPut place body (written far [] old) new
