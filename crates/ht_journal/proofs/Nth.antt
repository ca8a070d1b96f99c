-- Where the frame of one body stands among those of a file.
use Rattle.std.proofs.Common.{◌≡◌, ℕ, zero, suc, ◌+◌, ◌-◌, ◌<◌, ◌≤◌, min, List, [], ◌∷◌, ◌++◌, length, take, drop, get_or, refl, sym, ◌∙◌, ap, arith, append_assoc, length-append, take-append-drop, Option, Some, None, IfSome}
use Rattle.std.specs.List.{AllByRecursion}
use Rattle.std.specs.Int.{w32, from_le_bytes}
use Rattle.std.proofs.lemmas.List.{take_more, take_at, drop_at, drop-drop}
use Rattle.ht_journal.specs.declared.limits.TheConstants.{LONGEST_BODY}
use Rattle.ht_journal.specs.Bodies.{HasFront, IsBehind, IsNth}
use Rattle.ht_journal.specs.Files.{Fit, frame, frames, front, length_at, length_bytes}
use Rattle.ht_journal.specs.Parts.{Stands}
use Rattle.ht_journal.specs.Pieces.{IsPiece, IsRead}
use Rattle.ht_journal.specs.declared.state.Reader.{Reader}
use Rattle.ht_journal.proofs.Frames.{front-append, length_at-frame, length-front_push, length-length_bytes}
use Rattle.ht_journal.proofs.Scans.{length_read}

-- what holds of each holds of one
all_at : (P : List ℕ → Type 0) (xs : List (List ℕ)) (k : ℕ) → AllByRecursion P xs → k < length xs → P (get_or xs k [])
all_at P [] k all lt = absurd (omega arith)
all_at P (x ∷ xs) zero all lt = all.0
all_at P (x ∷ xs) (suc k) all lt = all_at P xs k all.1 (omega arith)

-- a file that stands with bodies begins with them
pub stands_front : (xs : List (List ℕ)) (doubt : Option (List ℕ)) (f : List ℕ) → Stands xs doubt f → HasFront xs f
stands_front xs None f rests = rests.split ∙ ap (λ (l : List ℕ). front xs ++ l) (sym (ap (drop (length (front xs))) rests.split ∙ drop_at (front xs) (rests.gate ∷ rests.rest) (length (front xs)) refl))
stands_front xs (Some body) f doubts =
    let behind : List ℕ = doubts.gate ∷ (frame body ++ (frames [] ++ 0 ∷ doubts.rest)) in
    doubts.split ∙ ap (λ (l : List ℕ). front xs ++ l) (sym (ap (drop (length (front xs))) doubts.split ∙ drop_at (front xs) behind (length (front xs)) refl))

module _ (xs : List (List ℕ)) (k : ℕ) (fit : Fit xs) (lt : k < length xs) where
  -- the body
  abbrev body : List ℕ
  body = get_or xs k []

  pub taken : take (k + 1) xs ≡ take k xs ++ body ∷ []
  taken = take_more xs k [] lt

  pub small : length body ≤ LONGEST_BODY
  small = all_at (λ x. length x ≤ LONGEST_BODY) xs k fit.small lt

  -- the next gate
  pub next_gate : length (front (take (k + 1) xs)) ≡ length (front (take k xs)) + (5 + length body)
  next_gate = ap (λ (l : List (List ℕ)). length (front l)) taken ∙ length-front_push (take k xs) body

  front_split : (rest : List ℕ) → front xs ++ rest ≡ front (take (k + 1) xs) ++ (frames (drop (k + 1) xs) ++ rest)
  front_split rest = ap (λ (l : List (List ℕ)). front l ++ rest) (sym (take-append-drop (k + 1) xs)) ∙ front-append (take (k + 1) xs) (drop (k + 1) xs) rest

  pub next_within : length (front (take (k + 1) xs)) ≤ length (front xs)
  next_within =
      let e = front_split [] in
      let a = length-append (front xs) [] in
      let b = length-append (front (take (k + 1) xs)) (frames (drop (k + 1) xs) ++ []) in
      omega (arith, ap length e)

  pub behind_gate : (f : List ℕ) → HasFront xs f → (rest : List ℕ) × (drop (length (front (take k xs)) + 1) f ≡ length_bytes (length body) ++ (body ++ rest))
  behind_gate f has =
      let R : List ℕ = frames (drop (k + 1) xs) ++ drop (length (front xs)) f in
      let before : List ℕ = front (take k xs) in
      let framed : front (take (k + 1) xs) ++ R ≡ (before ++ 1 ∷ []) ++ ((frame body ++ []) ++ R) =
      ap (λ (l : List (List ℕ)). front l ++ R) taken ∙ front-append (take k xs) (body ∷ []) R ∙ sym (append_assoc before (1 ∷ []) ((frame body ++ []) ++ R)) in
      let cut : drop (length before + 1) f ≡ (frame body ++ []) ++ R =
      ap (drop (length before + 1)) (has ∙ front_split (drop (length (front xs)) f) ∙ framed) ∙ drop_at (before ++ 1 ∷ []) ((frame body ++ []) ++ R) (length before + 1) (length-append before (1 ∷ [])) in
      ([] ++ R, cut ∙ append_assoc (frame body) [] R ∙ append_assoc (length_bytes (length body)) body ([] ++ R))

  pub length_there : (f : List ℕ) → HasFront xs f → length_at (drop (length (front (take k xs)) + 1) f) ≡ length body
  length_there f has = let b = behind_gate f has in let s = small in ap length_at b.1 ∙ length_at-frame (length body) (body ++ b.0) (omega arith)

  pub bytes_there : (f : List ℕ) → HasFront xs f → take (length body) (drop (length (front (take k xs)) + 5) f) ≡ body
  bytes_there f has =
      let b = behind_gate f has in
      let at = length (front (take k xs)) + 1 in
      let four : drop (at + 4) f ≡ body ++ b.0 =
      sym (drop-drop 4 at f) ∙ ap (drop 4) b.1 ∙ drop_at (length_bytes (length body)) (body ++ b.0) 4 (length-length_bytes (length body)) in
      ap (λ n. take (length body) (drop n f)) (omega arith) ∙ ap (take (length body)) four ∙ take_at body b.0 (length body) refl

-- what four bytes behind a gate say
pub told_behind : (o : Option (List ℕ)) (gate end n m : ℕ) (bytes : List ℕ) → length bytes ≡ 4 → n ≡ from_le_bytes w32 bytes → IfSome o (λ f. bytes ≡ take (length bytes) (drop (gate + 1) f)) → m ≡ min n LONGEST_BODY → IfSome o (IsBehind gate end (gate + 5) m)
told_behind None gate end n m bytes four is read cut = tt
told_behind (Some f) gate end n m bytes four is read cut =
    let same = length_read bytes (drop (gate + 1) f) n is (read ∙ ap (λ k. take k (drop (gate + 1) f)) four) in
    λ small within. (refl, omega arith)

pub told_cut : (o : Option (List ℕ)) (gate end n m at : ℕ) (bytes : List ℕ) → length bytes ≡ 4 → n ≡ from_le_bytes w32 bytes → IfSome o (λ f. bytes ≡ take (length bytes) (drop (gate + 1) f)) → m ≡ min n LONGEST_BODY → end < gate + 5 + m → IfSome o (IsBehind gate end at 0)
told_cut None gate end n m at bytes four is read cut over = tt
told_cut (Some f) gate end n m at bytes four is read cut over =
    let same = length_read bytes (drop (gate + 1) f) n is (read ∙ ap (λ k. take k (drop (gate + 1) f)) four) in
    λ small within. absurd (omega arith)

-- one body more is passed
pub told_step : (o : Option (List ℕ)) (xs : List (List ℕ)) (reader other : Reader) (end at n : ℕ) → Fit xs → end ≡ length (front xs) → reader.passed < length xs → IfSome o (HasFront xs) → IfSome o (IsRead xs reader)
    → IfSome o (IsBehind reader.gate end at n) → IfSome o (IsPiece other) → other.gate ≡ at + n → other.passed ≡ reader.passed + 1 → IfSome o (IsRead xs other)
told_step None xs reader other end at n fit place lt has read behind piece gate passed = tt
told_step (Some f) xs reader other end at n fit place lt has read behind piece gate passed =
    let k = reader.passed in
    let there : length_at (drop (reader.gate + 1) f) ≡ length (get_or xs k []) = ap (λ g. length_at (drop (g + 1) f)) read.gate ∙ length_there xs k fit lt f has in
    let next = next_gate xs k fit lt in
    let within = next_within xs k fit lt in
    let short = small xs k fit lt in
    let is = behind (omega arith) (omega (arith, read.gate)) in
    record { piece = piece; gate = omega (arith, read.gate, is.0, is.1) ∙ ap (λ j. length (front (take j xs))) (sym passed) }

-- the body is read
pub told_nth : (o : Option (List ℕ)) (xs : List (List ℕ)) (reader : Reader) (n end at len : ℕ) (bytes : List ℕ) → Fit xs → end ≡ length (front xs) → 1 ≤ n → n ≤ length xs → reader.passed ≡ n - 1 → IfSome o (HasFront xs) → IfSome o (IsRead xs reader)
    → IfSome o (IsBehind reader.gate end at len) → IfSome o (λ f. bytes ≡ take len (drop at f)) → IfSome o (λ _. IsNth xs n at bytes)
told_nth None xs reader n end at len bytes fit place some within passed has read behind is = tt
told_nth (Some f) xs reader n end at len bytes fit place some within passed has read behind is =
    let k = n - 1 in
    let lt : k < length xs = omega arith in
    let gate : reader.gate ≡ length (front (take k xs)) = read.gate ∙ ap (λ j. length (front (take j xs))) passed in
    let there : length_at (drop (reader.gate + 1) f) ≡ length (get_or xs k []) = ap (λ g. length_at (drop (g + 1) f)) gate ∙ length_there xs k fit lt f has in
    let next = next_gate xs k fit lt in
    let reach = next_within xs k fit lt in
    let short = small xs k fit lt in
    let found = behind (omega arith) (omega (arith, gate)) in
    let same : bytes ≡ get_or xs k [] =
    is ∙ ap (λ j. take len (drop j f)) (found.0 ∙ ap (λ g. g + 5) gate) ∙ ap (λ j. take j (drop (length (front (take k xs)) + 5) f)) (found.1 ∙ there) ∙ bytes_there xs k fit lt f has in
    record {
      bytes = ap (λ j. take j xs) (omega arith) ∙ taken xs k fit lt ∙ ap (λ (l : List ℕ). take k xs ++ l ∷ []) (sym same);
      place = found.0 ∙ ap (λ g. g + 5) gate;
    }
