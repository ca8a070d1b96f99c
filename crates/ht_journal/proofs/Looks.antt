-- What a look at the gate of a doubt says.
use Rattle.std.proofs.Common.{◌≡◌, ◌≢◌, ℕ, ◌+◌, ◌≤◌, ◌^◌, List, ◌∷◌, ◌++◌, length, take, drop, get_or, refl, sym, ◌∙◌, ap, arith, Option, Some, None, IfSome, option_map}
use Rattle.std.specs.Option.{ForSome}
use Rattle.std.proofs.lemmas.List.{length-take, length-drop, length-take-le, get_or_at}
use Rattle.ht_journal.specs.declared.limits.TheConstants.{LONGEST_BODY}
use Rattle.ht_journal.specs.Files.{front, Fit, Rests, Doubts}
use Rattle.ht_journal.specs.Parts.{Stands, Reads}
use Rattle.ht_journal.proofs.Frames.{contents_rests}
use Rattle.ht_journal.proofs.Tearing.{opened, shut}
use Rattle.ht_journal.proofs.Writes.{reads_doubt, fit_push}

-- what the buffer holds of the body in doubt
abbrev pub held_body : List ℕ → ℕ → List ℕ
held_body buffer n = take n (drop 4 buffer)

pub stands_reads : (xs : List (List ℕ)) (buffer : List ℕ) (at : ℕ) (doubt : Option ℕ) → Fit xs → at ≡ length (front xs) + 1 → ForSome doubt (λ n. (n ≤ LONGEST_BODY) × (at + 5 + n ≤ 2 ^ 32)) → (c : List ℕ) → Stands xs (option_map (held_body buffer) doubt) c → Reads xs (option_map (held_body buffer) doubt) c
stands_reads xs buffer at None fit place fits c stands = contents_rests xs c fit stands
stands_reads xs buffer at (Some n) fit place fits c stands =
    let f = fits n refl in
    let l : length (held_body buffer n) ≤ n = omega (arith, length-take n (drop 4 buffer)) in
    reads_doubt xs (held_body buffer n) c fit (fit_push xs (held_body buffer n) fit (omega arith) (omega arith)) stands

pub doubt_size : (buffer body : List ℕ) (doubt : Option ℕ) (n : ℕ) → doubt ≡ Some n → option_map (held_body buffer) doubt ≡ Some body → n + 4 ≤ length buffer → length body ≡ n
doubt_size buffer body doubt n is e long =
    let x : Some (held_body buffer n) ≡ Some body = ap (option_map (held_body buffer)) (sym is) ∙ e in
    let y : held_body buffer n ≡ body = cc in
    ap length (sym y) ∙ length-take-le n (drop 4 buffer) (omega (arith, length-drop 4 buffer))

module _ (xs : List (List ℕ)) (body : List ℕ) (more : List (List ℕ)) (at gate : ℕ) (place : at ≡ length (front xs)) where
  gate_is : (f : List ℕ) (r : Doubts xs body more f) → gate ≡ get_or f at 0 → r.gate ≡ gate
  gate_is f r is = sym (is ∙ ap (λ (l : List ℕ). get_or l at 0) r.split ∙ get_or_at (front xs) r.gate _ 0 at (sym place))

  pub file_shut : (o : Option (List ℕ)) → gate ≢ 1 → IfSome o (Doubts xs body more) → IfSome o (λ f. gate ≡ get_or f at 0) → IfSome o (Rests xs)
  file_shut None closed told byte = tt
  file_shut (Some f) closed told byte = shut xs body more f told (λ e. closed (sym (gate_is f told byte) ∙ e))

  pub file_kept : (o : Option (List ℕ)) → gate ≡ 1 → IfSome o (Doubts xs body more) → IfSome o (λ f. gate ≡ get_or f at 0) → IfSome o (Rests (xs ++ body ∷ more))
  file_kept None is told byte = tt
  file_kept (Some f) is told byte = opened xs body more f told (gate_is f told byte ∙ is)
