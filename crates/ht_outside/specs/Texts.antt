-- What is told of texts that are read by their names, and what a read answers.
use Rattle.std.specs.Prelude.{ℕ, ◌<◌, ◌≤◌, ◌≡◌, ◌⊎◌, List, [], ◌∷◌, ◌++◌, length, Bool, true, false, Option, Result, Ok, Err, MatchResult, ⊤}
use Rattle.ht_base.specs.Bytes.{BytesOf}
use Rattle.ht_outside.specs.declared.asked.Asked.{Asked}
use Rattle.ht_outside.specs.declared.text_fault.TextFault.{TextFault}
use Rattle.ht_outside.specs.declared.text_fault.TextFault.TheVariants.{Failed, TooLong, Memory}

-- the bytes of each name, if they are told, how many reads failed, and the reads so far, in order
pub record TextsState : Type 0 where
  pub texts : Option (List ℕ → List ℕ)
  pub faults : ℕ
  pub asked : List Asked

-- TooLong says that the text has more bytes than the limit, the other faults say nothing of it
abbrev pub SaysOf : ℕ → List ℕ → TextFault → Type 0
SaysOf limit text Failed = ⊤
SaysOf limit text TooLong = limit < length text
SaysOf limit text Memory = ⊤

-- the whole text was answered, and it has at most `limit` bytes, or a fault that may be said of it
abbrev pub ReadsWhole : ℕ → List ℕ → Result BytesOf TextFault → Type 0
ReadsWhole limit text result = MatchResult result (λ bytes. (bytes.items ≡ text) × (length text ≤ limit)) (SaysOf limit text)

-- whether a read answered Failed
abbrev pub is_failed : Result BytesOf TextFault → Bool
is_failed (Ok bytes) = false
is_failed (Err Failed) = true
is_failed (Err TooLong) = false
is_failed (Err Memory) = false

-- a read of this name stands behind the others, unless there was no memory to note it
abbrev pub IsNoted : Type 0 → List ℕ → TextsState → TextsState → Type 0
IsNoted WantsMemory name old new =
    (new.asked ≡ old.asked ++ record { name = name; before = old.faults } ∷ [])
    ⊎ (WantsMemory × (new.asked ≡ old.asked))
