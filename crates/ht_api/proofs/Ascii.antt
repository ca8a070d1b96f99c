-- ASCII targets: the test that they pass, and their parts are texts.
use Rattle.std.proofs.Common.{◌≡◌, ℕ, suc, ◌-◌, ◌<◌, refl, List, [], ◌∷◌, Bool, true, false, cond, drop, IsAscii}
use Rattle.std.specs.Char.{is_ascii}
use Rattle.std.specs.List.{list_all}
use Rattle.std.specs.Str.{IsUtf8}
use Rattle.std.proofs.lemmas.Bool.{lt-ltb}
use Rattle.std.proofs.lemmas.Str.{IsAscii-drop, IsAscii-take, IsUtf8-from_ascii}
use Rattle.std.proofs.lemmas.Str.Ascii.{IsAscii-nil}
use Rattle.matchit.specs.Params.{walk, part_of}

-- every part is a text
abbrev pub AreTexts : List (List ℕ × List ℕ) → Type 0
AreTexts [] = Unit {0}
AreTexts (p ∷ ps) = IsUtf8 p.1 × AreTexts ps

either : (b : Bool) (xs : List ℕ) → IsAscii xs → IsUtf8 (cond b xs [])
either true xs h = IsUtf8-from_ascii xs h
either false xs h = IsUtf8-from_ascii [] IsAscii-nil

part_is_text : (path : List ℕ) (start end : ℕ) → IsAscii path → IsUtf8 (part_of path start end)
part_is_text path start end h = either _ _ (IsAscii-take (drop start path) (end - start) (IsAscii-drop path start h))

pub are_texts : (pattern text path : List ℕ) (names : List (ℕ × ℕ)) (token at : ℕ) → IsAscii path → AreTexts (walk pattern text path names token at)
are_texts pattern text path [] token at h = tt
are_texts pattern text path (name ∷ names) token at h = (part_is_text path _ _ h, are_texts pattern text path names _ _ h)

pub ascii_passes : (target : List ℕ) → IsAscii target → list_all is_ascii target ≡ true
ascii_passes [] h = refl
ascii_passes (b ∷ bs) h = let small : b < 128 = h 0 in rw (lt-ltb b 128 small) (ascii_passes bs (λ i. h (suc i)))
