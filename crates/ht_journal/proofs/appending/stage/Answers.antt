use Rattle.std.proofs.Common.{◌≡◌, ◌+◌, ◌-◌, ◌<◌, ◌++◌, ◌∷◌, [], List, ℕ, length, take, drop, ap, ◌∙◌, arith, length-drop, length-append}
use Rattle.std.proofs.lemmas.List.{take_at}
use Rattle.ht_journal.specs.Files.{length_bytes}
use Rattle.ht_journal.proofs.Writes.{filled}
use Rattle.ht_journal.proofs.appending.stage.Goals as goal

pub returns : goal.returns
unfolding length_bytes
returns c =
    let n = length c.args.body.now in
    let xs : List ℕ = c.copy_from_slice.new.self ++ drop 4 c.args.buffer.now in
    let a = c.copy_from_slice.ensures.after ∙ c.to_le_bytes.ensures in
    let four : length c.copy_from_slice.new.self ≡ 4 = ap length a in
    let front : take 4 xs ≡ length_bytes n = take_at c.copy_from_slice.new.self (drop 4 c.args.buffer.now) 4 four ∙ a in
    let b = c.copy_from_slice-2.ensures.after in
    let post : List ℕ = drop (4 + n - 4) (drop 4 xs) in
    let r = c.requires in
    let some : 0 < length post = omega (arith, length-drop (4 + n - 4) (drop 4 xs), length-drop 4 xs, length-append c.copy_from_slice.new.self (drop 4 c.args.buffer.now), length-drop 4 c.args.buffer.now) in
    filled (take 4 xs) c.copy_from_slice-2.new.self post n (ap length front) (ap length b) some
    ∙ ap (λ (l : List ℕ). (l ++ c.copy_from_slice-2.new.self) ++ 0 ∷ []) front
    ∙ ap (λ (l : List ℕ). (length_bytes n ++ l) ++ 0 ∷ []) b
