-- What is laid over a file leaves it as a torn write would.
use Rattle.std.proofs.Common.{◌≡◌, ℕ, ◌+◌, ◌-◌, ◌≤◌, List, ◌++◌, length, take, drop, min, replicate, sym, ap, ◌∙◌, arith, append-nil, append_assoc, length-append}
use Rattle.std.proofs.Math.Seq.{drop-append_seam}
use Rattle.std.proofs.lemmas.List.{length-take-le, length-drop, take-append-le, take-take, length-replicate}
use Rattle.ht_outside.specs.Disks.{padded, laid_over, Torn}

-- a file that reaches up to a place needs no filler
pub padded-within : (filler at : ℕ) (file : List ℕ) → at ≤ length file → padded filler at file ≡ file
padded-within filler at file within = let none : at - length file ≡ 0 = omega arith in ap (λ n. file ++ replicate n filler) none ∙ append-nil file

pub length-padded : (filler at : ℕ) (file : List ℕ) → length (padded filler at file) ≡ length file + (at - length file)
length-padded filler at file = length-append file (replicate (at - length file) filler) ∙ ap (λ n. length file + n) (length-replicate (at - length file) filler)

pub length-laid_over : (filler at : ℕ) (piece file : List ℕ) → length (laid_over filler at piece file) ≡ (at + length piece) + (length file - (at + length piece))
length-laid_over filler at piece file =
    let front : List ℕ = take at (padded filler at file) in
    let reach : length front ≡ at = length-take-le at (padded filler at file) (omega (arith, length-padded filler at file)) in
    let both : length (front ++ piece) ≡ at + length piece = length-append front piece ∙ ap (λ n. n + length piece) reach in
    length-append (front ++ piece) (drop (at + length piece) file) ∙ (ap (λ n. n + length (drop (at + length piece) file)) both ∙ ap (λ n. (at + length piece) + n) (length-drop (at + length piece) file))

-- what is laid over a file leaves it as a torn write would
pub laid_over_torn : (filler at : ℕ) (piece file : List ℕ) → Torn at (length piece) file (laid_over filler at piece file)
laid_over_torn filler at piece file =
    let whole : List ℕ = padded filler at file in
    let front : List ℕ = take at whole in
    let rest : List ℕ = drop (at + length piece) file in
    let long : length whole ≡ length file + (at - length file) = length-padded filler at file in
    let reach : length front ≡ at = length-take-le at whole (omega arith) in
    let both : length (front ++ piece) ≡ at + length piece = length-append front piece ∙ ap (λ n. n + length piece) reach in
    let all = length-laid_over filler at piece file in
    let m : ℕ = min at (length file) in
    record {
      before = ap (take m) (append_assoc front piece rest) ∙ (take-append-le m front (piece ++ rest) (omega arith) ∙ (take-take m at whole (omega arith) ∙ take-append-le m file (replicate (at - length file) filler) (omega arith)));
      after = ap (λ n. drop n (laid_over filler at piece file)) (sym both) ∙ drop-append_seam (front ++ piece) rest;
      no_shorter = omega arith;
      no_longer = omega arith;
    }
