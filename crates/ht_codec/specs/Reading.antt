-- Reading as a function of bytes: what is read and what is left, or the first fault.
use Rattle.std.specs.Prelude.{◌≡◌, ℕ, ◌-◌, List, length, Result, Ok, Err}
use Rattle.ht_codec.specs.declared.reader.Reader.{Reader}
use Rattle.ht_codec.specs.declared.refusal.CodecRefusal.{CodecRefusal}
use Rattle.ht_codec.specs.declared.refusal.CodecRefusal.TheVariants.{Short, Tag, Range, Trailing, Memory}

-- a value and the bytes behind it, or the first fault
abbrev pub Reading : Type 0 → Type 0
Reading X = Result (X × List ℕ) CodecRefusal

-- the next step, if this one doesn't fail
infixl 10 ◌>>=◌
abbrev pub ◌>>=◌ : {A B : Type 0} → Result A CodecRefusal → (A → Result B CodecRefusal) → Result B CodecRefusal
(Ok x) >>= f = f x
(Err e) >>= f = Err e

-- the place of the first byte that is left, of so many bytes
abbrev pub place : ℕ → List ℕ → ℕ
place whole left = whole - length left

-- ---- what a function that reads answers

-- It is what is read, by this function of all bytes' number and of those that are left. There may be
-- no memory at any time.
abbrev pub Gives : {X : Type 0} → (ℕ → List ℕ → Reading X) → Reader → Reader → Result X CodecRefusal → Type 0
Gives read old new (Ok x) = (read old.whole old.left.now ≡ Ok (x, new.left.now)) × (new.whole ≡ old.whole)
Gives read old new (Err Memory) = Unit {0}
Gives read old new (Err (Short n)) = read old.whole old.left.now ≡ Err (Short n)
Gives read old new (Err (Tag n)) = read old.whole old.left.now ≡ Err (Tag n)
Gives read old new (Err (Range n)) = read old.whole old.left.now ≡ Err (Range n)
Gives read old new (Err (Trailing n)) = read old.whole old.left.now ≡ Err (Trailing n)

-- the same of a value that contracts see as another
abbrev pub Shows : {X Y : Type 0} → (X → Y) → (ℕ → List ℕ → Reading Y) → Reader → Reader → Result X CodecRefusal → Type 0
Shows view read old new (Ok x) = (read old.whole old.left.now ≡ Ok (view x, new.left.now)) × (new.whole ≡ old.whole)
Shows view read old new (Err e) = Gives read old new (Err e)
