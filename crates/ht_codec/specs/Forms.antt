-- What a field is, and how fields are put together.
use Rattle.std.specs.Prelude.{◌≡◌, ℕ, zero, suc, ◌<◌, Bool, true, false, List, [], ◌∷◌, ◌++◌, length, take, drop, Option, Some, None, IfSome, Ok, Err, nat_lt, IsTrue, ◌⊎◌, if◌then◌else◌}
use Rattle.std.specs.List.{flat_map}
use Rattle.std.specs.Int.{Width, byte_len, from_le_bytes, to_le_bytes}
use Rattle.ht_codec.specs.Reading.{Reading, ◌>>=◌, place}
use Rattle.ht_codec.specs.declared.refusal.CodecRefusal.{CodecRefusal}
use Rattle.ht_codec.specs.declared.refusal.CodecRefusal.TheVariants.{Range, Short, Tag}

pub record Form (X : Type 0) : Type 1 where
  -- the values that the field may hold
  pub Fits : X → Type 0
  -- the bytes that spell such a value
  pub text : X → List ℕ
  -- The bytes that are left don't begin with such a spelling, and this is why. The number is that of
  -- all bytes.
  pub Fails : ℕ → List ℕ → CodecRefusal → Type 0
  -- both as a function: the value that they begin with and the bytes behind it, or why there is none
  pub read : ℕ → List ℕ → Reading X

-- Bytes begin with a field's spelling, and behind it something fails.
pub record Behind {X : Type 0} (a : Form X) (left : List ℕ) (Fails : X → List ℕ → Type 0) : Type 0 where
  pub value : X
  pub rest : List ℕ
  pub fits : a.Fits value
  pub spelled : left ≡ a.text value ++ rest
  pub fails : Fails value rest

-- more bytes are needed than are left
pub record IsShort (needed whole : ℕ) (left : List ℕ) (fault : CodecRefusal) : Type 0 where
  pub few : length left < needed
  pub is : fault ≡ Short whole

-- ---- bytes and numbers

-- no bytes
abbrev pub nothing : Form (Unit {0})
nothing = record {
  Fits = λ x. Unit {0};
  text = λ x. [];
  Fails = λ whole left fault. ⊥;
  read = λ whole left. Ok (tt, left);
}

abbrev pub read_byte : ℕ → List ℕ → Reading ℕ
read_byte whole [] = Err (Short whole)
read_byte whole (b ∷ left) = Ok (b, left)

abbrev pub byte : Form ℕ
byte = record {
  Fits = λ n. n < 256;
  text = λ n. n ∷ [];
  Fails = λ whole left fault. IsShort 1 whole left fault;
  read = read_byte;
}

-- a number below a limit, its lowest byte first
abbrev pub number : Width → ℕ → Form ℕ
number w limit = record {
  Fits = λ n. n < limit;
  text = λ n. to_le_bytes w n;
  Fails = λ whole left fault. IsShort (byte_len w) whole left fault;
  read = λ whole left. if nat_lt (length left) (byte_len w) then Err (Short whole) else Ok (from_le_bytes w (take (byte_len w) left), drop (byte_len w) left);
}

-- ---- fields of fields

-- one field behind another
infixr 20 ◌then◌
abbrev pub ◌then◌ : {X Y : Type 0} → Form X → Form Y → Form (X × Y)
a then b = record {
  Fits = λ x. a.Fits x.0 × b.Fits x.1;
  text = λ x. a.text x.0 ++ b.text x.1;
  Fails = λ whole left fault. a.Fails whole left fault ⊎ Behind a left (λ x rest. b.Fails whole rest fault);
  read = λ whole left. a.read whole left >>= λ x. b.read whole x.1 >>= λ y. Ok ((x.0, y.0), y.1);
}

-- a field whose value passes a test, or else is out of its range: the fault is at its first byte
abbrev pub tested : {X : Type 0} → (X → Bool) → Form X → Form X
tested test a = record {
  Fits = λ x. a.Fits x × IsTrue (test x);
  text = a.text;
  Fails = λ whole left fault. a.Fails whole left fault ⊎ Behind a left (λ x rest. (test x ≡ false) × (fault ≡ Range (place whole left)));
  read = λ whole left. a.read whole left >>= λ x. if test x.0 then Ok x else Err (Range (place whole left));
}

-- a field whose value is seen as another
abbrev pub seen : {X Y : Type 0} → (X → Y) → (Y → X) → Form X → Form Y
seen to from a = record {
  Fits = λ y. a.Fits (from y);
  text = λ y. a.text (from y);
  Fails = a.Fails;
  read = λ whole left. a.read whole left >>= λ x. Ok (to x.0, x.1);
}

-- what a value means, if it means something
abbrev pub meant : {Y : Type 0} → CodecRefusal → Option Y → List ℕ → Reading Y
meant fault (Some y) left = Ok (y, left)
meant fault None left = Err fault

-- a field whose value is a code; one without a meaning is this fault, at its first byte
abbrev pub coded : {X Y : Type 0} → (ℕ → CodecRefusal) → (X → Option Y) → (Y → X) → Form X → Form Y
coded refusal decode encode a = record {
  Fits = λ y. a.Fits (encode y) × (decode (encode y) ≡ Some y);
  text = λ y. a.text (encode y);
  Fails = λ whole left fault. a.Fails whole left fault ⊎ Behind a left (λ x rest. (decode x ≡ None) × (fault ≡ refusal (place whole left)));
  read = λ whole left. a.read whole left >>= λ x. meant (refusal (place whole left)) (decode x.0) x.1;
}

-- a length, and that many bytes
abbrev pub sized : Form ℕ → Form (List ℕ)
sized n = record {
  Fits = λ bytes. n.Fits (length bytes);
  text = λ bytes. n.text (length bytes) ++ bytes;
  Fails = λ whole left fault. n.Fails whole left fault ⊎ Behind n left (λ count rest. IsShort count whole rest fault);
  read = λ whole left. n.read whole left >>= λ x. if nat_lt (length x.1) x.0 then Err (Short whole) else Ok (take x.0 x.1, drop x.0 x.1);
}

-- ---- options

abbrev pub flag_of : ℕ → Option Bool
flag_of zero = Some false
flag_of (suc zero) = Some true
flag_of (suc (suc n)) = None

abbrev pub flag_byte : Bool → ℕ
flag_byte false = 0
flag_byte true = 1

-- 0 or 1
unfoldable pub flag : Form Bool
flag = coded Tag flag_of flag_byte byte

abbrev pub option_text : {X : Type 0} → Form X → Option X → List ℕ
option_text a None = flag.text false
option_text a (Some x) = flag.text true ++ a.text x

-- 0, or 1 and the value
abbrev pub option : {X : Type 0} → Form X → Form (Option X)
option a = record {
  Fits = λ o. IfSome o a.Fits;
  text = option_text a;
  Fails = λ whole left fault. flag.Fails whole left fault ⊎ Behind flag left (λ there rest. IsTrue there × a.Fails whole rest fault);
  read = λ whole left. flag.read whole left >>= λ b. if b.0 then (a.read whole b.1 >>= λ x. Ok (Some x.0, x.1)) else Ok (None, b.1);
}

-- ---- a head that decides what stands behind it

-- Of a value: its head, whether what stands behind the head fits, and the bytes of it.
pub record Line (X : Type 0) : Type 1 where
  pub head : X
  pub Fits : Type 0
  pub text : List ℕ

-- behind the head stands this field, with this value
abbrev pub line : {X Y : Type 0} → X → Form Y → Y → Line X
line head a y = record { head = head; Fits = a.Fits y; text = a.text y }

-- Of a head: how what stands behind it fails, and how the whole value is read there.
pub record Next (Z : Type 0) : Type 1 where
  pub Fails : ℕ → List ℕ → CodecRefusal → Type 0
  pub read : ℕ → List ℕ → Reading Z

-- behind the head stands this field, and of what it holds the value is made
abbrev pub taken : {Y Z : Type 0} → (Y → Z) → Form Y → Next Z
taken to a = record { Fails = a.Fails; read = λ whole left. a.read whole left >>= λ y. Ok (to y.0, y.1) }

-- behind a head without a meaning nothing is read
abbrev pub meaningless : {Z : Type 0} → Next Z
meaningless = record { Fails = λ whole left fault. fault ≡ Tag (place whole left); read = λ whole left. Err (Tag (place whole left)) }

-- a head, and what it decides behind it
abbrev pub led : {X Z : Type 0} → Form X → (X → Next Z) → (Z → Line X) → Form Z
led a next lines = record {
  Fits = λ z. a.Fits (lines z).head × (lines z).Fits;
  text = λ z. a.text (lines z).head ++ (lines z).text;
  Fails = λ whole left fault. a.Fails whole left fault ⊎ Behind a left (λ x rest. (next x).Fails whole rest fault);
  read = λ whole left. a.read whole left >>= λ x. (next x.0).read whole x.1;
}

-- ---- lists

-- each item fits behind those in front of it
abbrev pub ItemsFit : {X : Type 0} → (List X → Form X) → List X → List X → Type 0
ItemsFit item front [] = Unit {0}
ItemsFit item front (x ∷ xs) = (item front).Fits x × ItemsFit item (front ++ x ∷ []) xs

-- of n more items behind those in front, one is the first to fail
unfoldable pub ItemsFail : {X : Type 0} → (List X → Form X) → ℕ → List X → ℕ → List ℕ → CodecRefusal → Type 0
ItemsFail item zero front whole left fault = ⊥
ItemsFail item (suc n) front whole left fault = (item front).Fails whole left fault ⊎ Behind (item front) left (λ x rest. ItemsFail item n (front ++ x ∷ []) whole rest fault)

unfoldable pub read_items : {X : Type 0} → (List X → Form X) → ℕ → List X → ℕ → List ℕ → Reading (List X)
read_items item zero front whole left = Ok (front, left)
read_items item (suc n) front whole left = (item front).read whole left >>= λ x. read_items item n (front ++ x.0 ∷ []) whole x.1

-- a count, and that many items, each of a form that may look at those in front of it
abbrev pub listed : {X : Type 0} → Form ℕ → (List X → Form X) → Form (List X)
listed count item = record {
  Fits = λ xs. count.Fits (length xs) × ItemsFit item [] xs;
  text = λ xs. count.text (length xs) ++ flat_map (item []).text xs;
  Fails = λ whole left fault. count.Fails whole left fault ⊎ Behind count left (λ n rest. ItemsFail item n [] whole rest fault);
  read = λ whole left. count.read whole left >>= λ n. read_items item n.0 [] whole n.1;
}
