-- What the calls of an append and of settling leave of the file and of the images.
use Rattle.std.proofs.Common.{◌≡◌, inl, inr, ⊎_elim, ℕ, ◌+◌, ◌-◌, ◌<◌, ◌≤◌, ◌^◌, List, [], ◌∷◌, ◌++◌, length, take, drop, sym, ◌∙◌, ap, subst, arith, Option, Some, None, IfSome, option_map, Ok, append_assoc, length-append, Result, Err, OnErr, set}
use Rattle.std.specs.List.{AllByRecursion}
use Rattle.std.proofs.lemmas.List.{length_push, take_at, drop_at, drop-take, take-take, set_at}
use Rattle.ht_outside.specs.Disks.{Both, Holds, Torn, Follows, Only, written}
use Rattle.ht_journal.specs.declared.limits.TheConstants.{LONGEST_BODY}
use Rattle.ht_journal.specs.Files.{IsPut, frame, front, Fit, Rests, Doubts, length_bytes}
use Rattle.ht_journal.specs.Parts.{Stands, Reads}
use Rattle.ht_journal.proofs.Frames.{contents_rests, length-front_push, length-length_bytes, length-frame}
use Rattle.ht_journal.proofs.Tearing.{torn_behind, held_behind, torn_gate, held_gate, either}
use Rattle.ht_journal.proofs.Moments.{both_told}

-- what the file has, the images have where they are the file
pub images_told : (o : Option (List ℕ)) (may_leave P : List ℕ → Type 0) → (f : List ℕ) × (o ≡ Some f) × may_leave f → IfSome o (λ f. Only f may_leave) → IfSome o P → (c : List ℕ) → may_leave c → P c
images_told None may_leave P now only told c left = let e = now.1 in absurd (cc)
images_told (Some f) may_leave P now only told c left = subst P (sym (only c left)) told

-- the new body fits
pub all_push : (xs : List (List ℕ)) (x : List ℕ) → AllByRecursion (λ body. length body ≤ LONGEST_BODY) xs → length x ≤ LONGEST_BODY → AllByRecursion (λ body. length body ≤ LONGEST_BODY) (xs ++ x ∷ [])
all_push [] x all small = (small, tt)
all_push (y ∷ xs) x all small = (all.0, all_push xs x all.1 small)

pub fit_push : (xs : List (List ℕ)) (x : List ℕ) → Fit xs → length x ≤ LONGEST_BODY → length (front xs) + (5 + length x) < 2 ^ 32 → Fit (xs ++ x ∷ [])
fit_push xs x fit small reach = record { small = all_push xs x fit.small small; reach = omega (arith, length-front_push xs x) }

-- what may be read of a file with one body in doubt
pub reads_doubt : (xs : List (List ℕ)) (body file : List ℕ) → Fit xs → Fit (xs ++ body ∷ []) → Doubts xs body [] file → Reads xs (Some body) file
reads_doubt xs body file fit more doubts = ⊎_elim
    (λ rests. inl (contents_rests xs file fit rests))
    (λ rests. inr (contents_rests (xs ++ body ∷ []) file more rests))
    (either xs body [] file doubts)

-- the body that a frame in the buffer holds
pub framed : (body buffer : List ℕ) → take (length body + 5) buffer ≡ frame body ++ 0 ∷ [] → take (length body) (drop 4 buffer) ≡ body
framed body buffer is =
    let n = length body in
    let l : length (frame body) ≡ 4 + n = length-frame body in
    let front : take (4 + n) buffer ≡ frame body = sym (take-take (4 + n) (n + 5) buffer (omega arith)) ∙ ap (take (4 + n)) is ∙ take_at (frame body) (0 ∷ []) (4 + n) l in
    sym (drop-take 4 n buffer) ∙ ap (drop 4) front ∙ drop_at (length_bytes n) body 4 (length-length_bytes n)

-- a buffer with a frame and a closed gate at its front
pub filled : (m b post : List ℕ) (n : ℕ) → length m ≡ 4 → length b ≡ n → 0 < length post → take (n + 5) (set (m ++ (b ++ post)) (4 + n) 0) ≡ (m ++ b) ++ 0 ∷ []
filled m b [] n lm lb some = absurd (omega arith)
filled m b (p ∷ ps) n lm lb some =
    let l : length (m ++ b) ≡ 4 + n = length-append m b ∙ (omega arith) in
    let k : length ((m ++ b) ++ 0 ∷ []) ≡ n + 5 = length_push (m ++ b) 0 ∙ (omega arith) in
    ap (λ (l : List ℕ). take (n + 5) (set l (4 + n) 0)) (sym (append_assoc m b (p ∷ ps)))
    ∙ ap (take (n + 5)) (set_at (m ++ b) p ps 0 (4 + n) l)
    ∙ ap (take (n + 5)) (sym (append_assoc (m ++ b) (0 ∷ []) ps))
    ∙ take_at ((m ++ b) ++ 0 ∷ []) ps (n + 5) k

-- the items behind a buffer that was lent as a slice
pub buffered : (len : ℕ) (new old items : List ℕ) → items ≡ take len (new ++ drop (length new) old) → length new ≡ len → items ≡ new
buffered len new old items is same = is ∙ take_at new (drop (length new) old) len same

pub length-staged : (body piece : List ℕ) → piece ≡ frame body ++ 0 ∷ [] → length piece ≡ length body + 5
length-staged body piece is = ap length is ∙ length_push (frame body) 0 ∙ omega (arith, length-frame body)

-- a body in doubt that the buffer has
pub in_doubt : (xs : List (List ℕ)) (body other : List ℕ) → other ≡ body → (c : List ℕ) → Doubts xs body [] c → Doubts xs other [] c
in_doubt xs body other e c doubts = subst (λ (b : List ℕ). Doubts xs b [] c) (sym e) doubts

pub at_err : {T E P : Type 0} (r : Result T E) → P → OnErr r P
at_err (Ok x) p = tt
at_err (Err e) p = p

-- where nothing is in doubt
module _ (h : ℕ → List ℕ) (doubt : Option ℕ) (certain : doubt ≡ None) (xs : List (List ℕ)) where
  pub from_certain : (c : List ℕ) → Stands xs (option_map h doubt) c → Rests xs c
  from_certain c stands = subst (λ (d : Option ℕ). Stands xs (option_map h d) c) certain stands

  pub to_certain : (c : List ℕ) → Rests xs c → Stands xs (option_map h doubt) c
  to_certain c rests = subst (λ (d : Option ℕ). Stands xs (option_map h d) c) (sym certain) rests

module _ (xs : List (List ℕ)) (body piece : List ℕ) (at : ℕ) (place : at ≡ length (front xs) + 1) (is : piece ≡ frame body ++ 0 ∷ []) where
  -- the first write
  pub file_behind : (n : ℕ) (old new : Option (List ℕ)) → IfSome old (Rests xs) → Both (Torn at n) old new → IfSome new (Rests xs)
  file_behind n old new told both = both_told _ old new (Rests xs) (Rests xs) both told (λ d c r torn. torn_behind xs d c at n place r torn)

  pub images_behind : (n : ℕ) (old new : List ℕ → Type 0) → ((c : List ℕ) → old c → Rests xs c) → Follows (Torn at n) old new → (c : List ℕ) → new c → Rests xs c
  images_behind n old new told follows c left = let from = follows c left in torn_behind xs from.0 c at n place (told from.0 from.1) from.2

  pub file_staged : (old new : Option (List ℕ)) → IfSome old (Rests xs) → Both (Holds at piece) old new → IfSome new (Doubts xs body [])
  file_staged old new told both = both_told _ old new (Rests xs) (Doubts xs body []) both told (λ d c r holds. (held_behind xs body [] d c piece at place is r holds).0)

module _ (xs : List (List ℕ)) (body : List ℕ) (at : ℕ) (place : at ≡ length (front xs)) where
  -- the second
  pub file_gate : (old new : Option (List ℕ)) → IfSome old (Doubts xs body []) → Both (Torn at 1) old new → IfSome new (Doubts xs body [])
  file_gate old new told both = both_told _ old new (Doubts xs body []) (Doubts xs body []) both told (λ d c r torn. torn_gate xs body [] d c at place r torn)

  pub images_gate : (old new : List ℕ → Type 0) → ((c : List ℕ) → old c → Doubts xs body [] c) → Follows (Torn at 1) old new → (c : List ℕ) → new c → Doubts xs body [] c
  images_gate old new told follows c left = let from = follows c left in torn_gate xs body [] from.0 c at place (told from.0 from.1) from.2

  pub file_opened : (old new : Option (List ℕ)) → IfSome old (Doubts xs body []) → Both (Holds at (1 ∷ [])) old new → IfSome new (Rests (xs ++ body ∷ []))
  file_opened old new told both = both_told _ old new (Doubts xs body []) (Rests (xs ++ body ∷ [])) both told (λ d c r holds. held_gate xs body [] d c at place r holds)

-- both writes of a body
pub put : (at : ℕ) (body piece : List ℕ) (o m n : Option (List ℕ)) → piece ≡ frame body ++ 0 ∷ [] → Both (Holds at piece) o m → Both (Holds (at - 1) (1 ∷ [])) m n → Both (IsPut at body) o n
put at body piece None None None is a b = tt
put at body piece None None (Some new) is a b = b
put at body piece None (Some mid) n is a b = absurd a
put at body piece (Some old) None n is a b = absurd a
put at body piece (Some old) (Some mid) None is a b = b
put at body piece (Some old) (Some mid) (Some new) is a b = b ∙ ap (written (at - 1) (1 ∷ [])) (a ∙ ap (λ (p : List ℕ). written at p old) is)
