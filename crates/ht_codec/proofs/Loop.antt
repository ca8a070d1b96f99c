-- Reading items one after the other, as a loop does.
use Rattle.std.proofs.Common.{◌≡◌, ℕ, suc, ◌-◌, ◌+◌, ◌≤◌, ◌<◌, Bool, true, false, List, [], ◌∷◌, ◌++◌, Ok, Err, refl, sym, ◌∙◌, arith}
use Rattle.std.specs.Prelude.{IsUtf8}
use Rattle.std.specs.Str.{is_utf8}
use Rattle.std.proofs.lemmas.Str.{IsUtf8-from_is_utf8}
use Rattle.ht_codec.specs.declared.reader.Reader.{Reader}
use Rattle.ht_codec.specs.declared.refusal.CodecRefusal.{CodecRefusal}
use Rattle.ht_codec.specs.declared.refusal.CodecRefusal.TheVariants.{Short, Tag, Range, Trailing, Memory}
use Rattle.ht_codec.specs.Forms.{Form, read_items}
use Rattle.ht_codec.specs.Reading.{Reading, Gives}

pub goes_on : {X : Type 0} (item : List X → Form X) (count i : ℕ) (front : List X) (whole : ℕ) (left : List ℕ) (x : X) (rest : List ℕ) (total : Reading (List X)) → i < count → (item front).read whole left ≡ Ok (x, rest)
    → read_items item (count - i) front whole left ≡ total → read_items item (count - (i + 1)) (front ++ x ∷ []) whole rest ≡ total
unfolding read_items
goes_on item count i front whole left x rest total lt h so_far =
    let k : count - i ≡ suc (count - (i + 1)) = omega arith in
    let one : read_items item (count - i) front whole left ≡ read_items item (count - (i + 1)) (front ++ x ∷ []) whole rest = rw (k, h) refl in
    sym one ∙ so_far

stops : {X : Type 0} (item : List X → Form X) (count i : ℕ) (front : List X) (whole : ℕ) (left : List ℕ) (e : CodecRefusal) (total : Reading (List X)) → i < count → (item front).read whole left ≡ Err e
    → read_items item (count - i) front whole left ≡ total → total ≡ Err e
unfolding read_items
stops item count i front whole left e total lt h so_far =
    let k : count - i ≡ suc (count - (i + 1)) = omega arith in
    let one : read_items item (count - i) front whole left ≡ Err e = rw (k, h) refl in
    sym so_far ∙ one

pub ends : {X : Type 0} (item : List X → Form X) (count i : ℕ) (front : List X) (old mid after new : Reader) (e : CodecRefusal) → i < count → Gives (item front).read mid after (Err e)
    → read_items item (count - i) front mid.whole mid.left.now ≡ read_items item count [] old.whole old.left.now → Gives (read_items item count []) old new (Err e)
ends item count i front old mid after new Memory lt h so_far = tt
ends item count i front old mid after new (Short n) lt h so_far = stops item count i front mid.whole mid.left.now (Short n) _ lt h so_far
ends item count i front old mid after new (Tag n) lt h so_far = stops item count i front mid.whole mid.left.now (Tag n) _ lt h so_far
ends item count i front old mid after new (Range n) lt h so_far = stops item count i front mid.whole mid.left.now (Range n) _ lt h so_far
ends item count i front old mid after new (Trailing n) lt h so_far = stops item count i front mid.whole mid.left.now (Trailing n) _ lt h so_far

pub is_done : {X : Type 0} (item : List X → Form X) (count i : ℕ) (front : List X) (whole : ℕ) (left : List ℕ) (total : Reading (List X)) → count ≤ i → read_items item (count - i) front whole left ≡ total → total ≡ Ok (front, left)
unfolding read_items
is_done item count i front whole left total le so_far =
    let k : count - i ≡ 0 = omega arith in
    let one : read_items item (count - i) front whole left ≡ Ok (front, left) = rw k refl in
    sym so_far ∙ one

pub not_utf8 : (bytes : List ℕ) → (IsUtf8 bytes → ⊥) → is_utf8 bytes ≡ false
not_utf8 bytes isnt = at (is_utf8 bytes) refl
  where
    at : (b : Bool) → is_utf8 bytes ≡ b → b ≡ false
    at true e = absurd (isnt (IsUtf8-from_is_utf8 bytes e))
    at false e = refl
