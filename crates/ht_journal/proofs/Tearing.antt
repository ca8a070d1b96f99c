-- What writes behind a closed gate and over it leave, whole or torn.
use Rattle.std.proofs.Common.{◌≡◌, ◌≢◌, ◌⊎◌, inl, inr, ⊎_elim, ℕ, suc, ◌+◌, ◌≤◌, List, [], ◌∷◌, ◌++◌, length, take, drop, get_or, min, replicate, ◌-◌, refl, sym, ◌∙◌, ap, arith, append_assoc, length-append, take-append-drop}
use Rattle.std.proofs.lemmas.List.{take_at, drop_at, drop_more, length-take-le, length-replicate, take-append-le, take-take}
use Rattle.std.proofs.lemmas.Bool.{cases_eq}
use Rattle.ht_outside.proofs.TornWrites.{Holds-within, Torn-within}
use Rattle.ht_outside.specs.Disks.{Holds, Torn}
use Rattle.ht_journal.specs.Files.{frame, frames, front, Rests, Doubts}
use Rattle.ht_journal.proofs.Frames.{front-append}

-- bytes behind those that stay
pub front_stays : (xs : List ℕ) (gate : ℕ) (rest d c : List ℕ) (at : ℕ) → at ≡ length xs + 1 → d ≡ xs ++ gate ∷ rest → take at c ≡ take at d → c ≡ xs ++ gate ∷ drop at c
front_stays xs gate rest d c at place split before =
    let l : length (xs ++ gate ∷ []) ≡ at = length-append xs (gate ∷ []) ∙ sym place in
    let f : take at d ≡ xs ++ gate ∷ [] = ap (take at) (split ∙ sym (append_assoc xs (gate ∷ []) rest)) ∙ take_at (xs ++ gate ∷ []) rest at l in
    sym (take-append-drop at c) ∙ ap (λ (l : List ℕ). l ++ drop at c) (before ∙ f) ∙ append_assoc xs (gate ∷ []) (drop at c)

-- a file reaches past the gate that stands behind its front
pub reaches : (xs : List ℕ) (gate : ℕ) (rest d : List ℕ) → d ≡ xs ++ gate ∷ rest → length xs + 1 ≤ length d
reaches xs gate rest d split = omega (arith, ap length split ∙ length-append xs (gate ∷ rest))

-- a write somewhere behind the closed gate, in any torn form, leaves the bodies
pub torn_past : (xs : List (List ℕ)) (d c : List ℕ) (at n : ℕ) → length (front xs) + 1 ≤ at → Rests xs d → Torn at n d c → Rests xs c
torn_past xs d c at n past r torn =
    let from : ℕ = length (front xs) + 1 in
    let first : from ≤ min at (length d) = omega (arith, reaches (front xs) r.gate r.rest d r.split, past) in
    let before : take from c ≡ take from d =
    sym (take-take from (min at (length d)) c first) ∙ ap (take from) torn.before ∙ take-take from (min at (length d)) d first in
    record { gate = r.gate; rest = drop from c; split = front_stays (front xs) r.gate r.rest d c from refl r.split before; closed = r.closed }

-- what lengthens the file leaves the bodies
pub lengthened : (xs : List (List ℕ)) (d c : List ℕ) (at : ℕ) → length (front xs) + 1 ≤ at → Rests xs d → Holds at [] d c → Rests xs c
lengthened xs d c at past r holds =
    let from : ℕ = length (front xs) + 1 in
    let filler : List ℕ = replicate (at - length d) 0 in
    let within : from ≤ length d = reaches (front xs) r.gate r.rest d r.split in
    let long : at ≤ length (d ++ filler) = omega (arith, length-append d filler, length-replicate {A = ℕ} (at - length d) 0) in
    let start : List ℕ = take at (d ++ filler) in
    let size : length start ≡ at = length-take-le at (d ++ filler) long in
    let is : c ≡ (start ++ []) ++ drop (at + 0) d = holds in
    let before : take from c ≡ take from d =
    ap (take from) is ∙ take-append-le from (start ++ []) (drop (at + 0) d) (omega (arith, length-append start [], size, past))
    ∙ take-append-le from start [] (omega (arith, size, past)) ∙ take-take from at (d ++ filler) past ∙ take-append-le from d filler within in
    record { gate = r.gate; rest = drop from c; split = front_stays (front xs) r.gate r.rest d c from refl r.split before; closed = r.closed }

-- a write right behind it, in any torn form, leaves the bodies. So does what lengthens the file
pub torn_behind : (xs : List (List ℕ)) (d c : List ℕ) (at n : ℕ) → at ≡ length (front xs) + 1 → Rests xs d → Torn at n d c → Rests xs c
torn_behind xs d c at n place r torn =
    let within : at ≤ length d = omega (arith, reaches (front xs) r.gate r.rest d r.split, place) in
    record { gate = r.gate; rest = drop at c; split = front_stays (front xs) r.gate r.rest d c at place r.split (Torn-within at n d c within torn); closed = r.closed }

-- whole, it stages the bodies behind the gate
pub held_behind : (xs : List (List ℕ)) (body : List ℕ) (more : List (List ℕ)) (d c piece : List ℕ) (at : ℕ) → at ≡ length (front xs) + 1 → piece ≡ frame body ++ (frames more ++ 0 ∷ []) → Rests xs d → Holds at piece d c → Doubts xs body more c × Rests xs c
held_behind xs body more d c piece at place is r holds =
    let rest : List ℕ = drop (at + length piece) d in
    let l : length (front xs ++ r.gate ∷ []) ≡ at = length-append (front xs) (r.gate ∷ []) ∙ sym place in
    let f : take at d ≡ front xs ++ r.gate ∷ [] = ap (take at) (r.split ∙ sym (append_assoc (front xs) (r.gate ∷ []) r.rest)) ∙ take_at (front xs ++ r.gate ∷ []) r.rest at l in
    let within : at ≤ length d = omega (arith, reaches (front xs) r.gate r.rest d r.split, place) in
    let all : c ≡ front xs ++ r.gate ∷ (piece ++ rest) =
    Holds-within at piece d c within holds ∙ append_assoc (take at d) piece rest ∙ ap (λ (l : List ℕ). l ++ (piece ++ rest)) f ∙ append_assoc (front xs) (r.gate ∷ []) (piece ++ rest) in
    let regroup : piece ++ rest ≡ frame body ++ (frames more ++ 0 ∷ rest) =
    ap (λ (l : List ℕ). l ++ rest) is ∙ append_assoc (frame body) (frames more ++ 0 ∷ []) rest ∙ ap (λ (l : List ℕ). frame body ++ l) (append_assoc (frames more) (0 ∷ []) rest) in (
      record { gate = r.gate; rest = rest; split = all ∙ ap (λ (l : List ℕ). front xs ++ r.gate ∷ l) regroup },
      record { gate = r.gate; rest = piece ++ rest; split = all; closed = r.closed },
    )

-- a write of one byte over the gate, whole or torn, leaves what stands behind it
pub torn_gate : (xs : List (List ℕ)) (body : List ℕ) (more : List (List ℕ)) (d c : List ℕ) (at : ℕ) → at ≡ length (front xs) → Doubts xs body more d → Torn at 1 d c → Doubts xs body more c
torn_gate xs body more d c at place r torn =
    let behind : List ℕ = frame body ++ (frames more ++ 0 ∷ r.rest) in
    let long : length d ≡ at + suc (length behind) = ap length r.split ∙ length-append (front xs) (r.gate ∷ behind) ∙ ap (λ n. n + suc (length behind)) (sym place) in
    let l : length (front xs ++ r.gate ∷ []) ≡ at + 1 = length-append (front xs) (r.gate ∷ []) ∙ ap (λ n. n + 1) (sym place) in
    let before : take at c ≡ front xs = Torn-within at 1 d c (omega arith) torn ∙ ap (take at) r.split ∙ take_at (front xs) (r.gate ∷ behind) at (sym place) in
    let after : drop (at + 1) c ≡ behind = torn.after ∙ ap (drop (at + 1)) (r.split ∙ sym (append_assoc (front xs) (r.gate ∷ []) behind)) ∙ drop_at (front xs ++ r.gate ∷ []) behind (at + 1) l in
    let short = torn.no_shorter in
    let gate : ℕ = get_or c at 0 in
    record {
      gate = gate;
      rest = r.rest;
      split = sym (take-append-drop at c) ∙ ap (λ (l : List ℕ). l ++ drop at c) before ∙ ap (λ (l : List ℕ). front xs ++ l) (drop_more c at 0 (omega arith) ∙ ap (λ (l : List ℕ). gate ∷ l) after);
    }

-- an open gate before whole frames adds their bodies
pub opened : (xs : List (List ℕ)) (body : List ℕ) (more : List (List ℕ)) (c : List ℕ) (r : Doubts xs body more c) → r.gate ≡ 1 → Rests (xs ++ body ∷ more) c
opened xs body more c r is = record {
  gate = 0;
  rest = r.rest;
  split = r.split ∙ ap (λ g. front xs ++ g ∷ (frame body ++ (frames more ++ 0 ∷ r.rest))) is
      ∙ ap (λ (l : List ℕ). front xs ++ 1 ∷ l) (sym (append_assoc (frame body) (frames more) (0 ∷ r.rest)))
      ∙ sym (front-append xs (body ∷ more) (0 ∷ r.rest));
  closed = λ e. omega (arith, e);
}

pub shut : (xs : List (List ℕ)) (body : List ℕ) (more : List (List ℕ)) (c : List ℕ) (r : Doubts xs body more c) → r.gate ≢ 1 → Rests xs c
shut xs body more c r closed = record { gate = r.gate; rest = frame body ++ (frames more ++ 0 ∷ r.rest); split = r.split; closed = closed }

-- whatever the gate holds
pub either : (xs : List (List ℕ)) (body : List ℕ) (more : List (List ℕ)) (c : List ℕ) → Doubts xs body more c → Rests xs c ⊎ Rests (xs ++ body ∷ more) c
either xs body more c r = ⊎_elim (λ is. inr (opened xs body more c r is)) (λ closed. inl (shut xs body more c r closed)) (cases_eq r.gate 1)

-- the whole write of 1 over the gate
pub held_gate : (xs : List (List ℕ)) (body : List ℕ) (more : List (List ℕ)) (d c : List ℕ) (at : ℕ) → at ≡ length (front xs) → Doubts xs body more d → Holds at (1 ∷ []) d c → Rests (xs ++ body ∷ more) c
held_gate xs body more d c at place r holds =
    let behind : List ℕ = frame body ++ (frames more ++ 0 ∷ r.rest) in
    let l : length (front xs ++ r.gate ∷ []) ≡ at + 1 = length-append (front xs) (r.gate ∷ []) ∙ ap (λ n. n + 1) (sym place) in
    let before : take at d ≡ front xs = ap (take at) r.split ∙ take_at (front xs) (r.gate ∷ behind) at (sym place) in
    let after : drop (at + 1) d ≡ behind = ap (drop (at + 1)) (r.split ∙ sym (append_assoc (front xs) (r.gate ∷ []) behind)) ∙ drop_at (front xs ++ r.gate ∷ []) behind (at + 1) l in
    let within : at ≤ length d = omega (arith, reaches (front xs) r.gate behind d r.split, place) in
    let all : c ≡ front xs ++ 1 ∷ behind =
    Holds-within at (1 ∷ []) d c within holds ∙ append_assoc (take at d) (1 ∷ []) (drop (at + 1) d) ∙ ap (λ (l : List ℕ). l ++ (1 ∷ drop (at + 1) d)) before ∙ ap (λ (l : List ℕ). front xs ++ 1 ∷ l) after in
    opened xs body more c (record { gate = 1; rest = r.rest; split = all }) refl

-- nothing written is a torn write
pub still_torn : (at n : ℕ) (file : List ℕ) → Torn at n file file
still_torn at n file = record { before = refl; after = refl; no_shorter = omega arith; no_longer = omega arith }
