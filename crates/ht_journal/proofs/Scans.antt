-- What is read at a gate.
use Rattle.std.proofs.Common.{◌≡◌, ◌⊎◌, inl, inr, ⊎_elim, ℕ, ◌+◌, ◌-◌, ◌<◌, ◌≤◌, ◌^◌, ◌&&◌, min, Bool, false, List, [], ◌∷◌, ◌++◌, length, take, drop, get_or, refl, sym, ◌∙◌, ap, subst, arith, append_assoc, length-append, take-append-drop, Option, Some, None, IfSome, IfOk, IfErr, cond, replicate, Result, Ok, Err, nat_le, nat_lt, OnOk, OnErr}
use Rattle.std.specs.Str.{bytes_eq}
use Rattle.std.specs.Int.{w32, from_le_bytes}
use Rattle.std.proofs.lemmas.Bool.Decides.{nat_tests}
use Rattle.std.proofs.lemmas.List.{drop_more, drop-drop, get_or-take, get_or-drop, length-drop, length-take-le, append-nil, length_push, length-replicate, drop_all}
use Rattle.std.proofs.lemmas.Nat.{le_bytes_4}
use Rattle.ht_journal.specs.declared.limits.TheConstants.{LONGEST_BODY}
use Rattle.ht_journal.specs.Files.{header, frame, front, contents, bodies_from, length_at, length_bytes, Fit, Rests}
use Rattle.ht_outside.specs.Disks.{Holds, Torn}
use Rattle.ht_journal.specs.Opening.{StandsAt, IsScanned}
use Rattle.ht_journal.specs.Reasons.{IsFault}
use Rattle.ht_journal.specs.declared.faults.JournalFault.{JournalFault}
use Rattle.ht_journal.specs.declared.faults.JournalFault.TheVariants.{Damaged, Store, Memory}
use Rattle.ht_journal.proofs.Frames.{walk_broken, front-append, length-front_push, contents_front, contents_short, with_bodies, with_bodies-err}
use Rattle.ht_journal.proofs.Writes.{fit_push}

pub length_at-take : (bytes : List ℕ) → length_at (take 4 bytes) ≡ length_at bytes
unfolding length_at
length_at-take [] = refl
length_at-take (a ∷ []) = refl
length_at-take (a ∷ b ∷ []) = refl
length_at-take (a ∷ b ∷ c ∷ []) = refl
length_at-take (a ∷ b ∷ c ∷ d ∷ bytes) = refl

pub bytes_read : (bytes : List ℕ) (n : ℕ) → length bytes ≡ 4 → ((i : ℕ) → get_or bytes i 0 < 256) → n ≡ from_le_bytes w32 bytes → length_bytes n ≡ bytes
unfolding length_bytes
bytes_read bytes n long small is = le_bytes_4 bytes n long small is

pub length_read : (bytes rest : List ℕ) (n : ℕ) → n ≡ from_le_bytes w32 bytes → bytes ≡ take 4 rest → length_at rest ≡ n
unfolding length_at
length_read bytes rest n is e = sym (length_at-take rest) ∙ ap (from_le_bytes w32) (sym e) ∙ sym is

not_whole : (gate l len : ℕ) → gate < len → (LONGEST_BODY < l) ⊎ (min len (2 ^ 32) ≤ gate + 5 + l) → (nat_le l LONGEST_BODY && (nat_lt (4 + l) (len - (gate + 1)) && nat_lt (gate + 5 + l) (2 ^ 32))) ≡ false
not_whole gate l len lt why = grind (arith, nat_tests)

pub open_gate : (o : Option (List ℕ)) (gate end : ℕ) (byte : List ℕ) → length byte ≡ 1 → IfSome o (λ f. end ≡ min (length f) (2 ^ 32)) → gate < end → get_or byte 0 0 ≡ 1 → IfSome o (λ f. byte ≡ take (length byte) (drop gate f))
    → IfSome o (λ f. drop gate f ≡ 1 ∷ drop (gate + 1) f)
open_gate None gate end byte one range lt is read = tt
open_gate (Some f) gate end byte one range lt is read =
    let same : get_or f gate 0 ≡ 1 = ap (λ n. get_or f n 0) (omega arith) ∙ sym (get_or-drop gate f 0 0) ∙ sym (get_or-take 1 (drop gate f) 0 0 (omega arith)) ∙ ap (λ (l : List ℕ). get_or l 0 0) (sym (read ∙ ap (λ n. take n (drop gate f)) one)) ∙ is in
    drop_more f gate 0 (omega arith) ∙ ap (λ n. n ∷ drop (gate + 1) f) same

pub broken : (o : Option (List ℕ)) (gate end : ℕ) → IfSome o (λ f. end ≡ min (length f) (2 ^ 32)) → gate < end → IfSome o (λ f. drop gate f ≡ 1 ∷ drop (gate + 1) f)
    → IfSome o (λ f. (LONGEST_BODY < length_at (drop (gate + 1) f)) ⊎ (end ≤ gate + 5 + length_at (drop (gate + 1) f))) → IfSome o (λ f. bodies_from gate 0 (drop gate f) ≡ Err gate)
broken None gate end range lt is why = tt
broken (Some f) gate end range lt is why =
    let rest : List ℕ = drop (gate + 1) f in
    let l : length rest ≡ length f - (gate + 1) = length-drop (gate + 1) f in
    ap (bodies_from gate 0) is ∙ walk_broken gate rest (ap (λ n. nat_le (length_at rest) LONGEST_BODY && (nat_lt (4 + length_at rest) n && nat_lt (gate + 5 + length_at rest) (2 ^ 32))) l
    ∙ not_whole gate (length_at rest) (length f) (omega arith) (⊎_elim (λ a. inl a) (λ (b : end ≤ gate + 5 + length_at rest). inr (omega arith)) why))

-- what the four bytes behind the gate say
pub too_long : (o : Option (List ℕ)) (gate end n : ℕ) (bytes : List ℕ) → length bytes ≡ 4 → n ≡ from_le_bytes w32 bytes → IfSome o (λ f. bytes ≡ take (length bytes) (drop (gate + 1) f)) → (LONGEST_BODY < n) ⊎ (end ≤ gate + 5 + n)
    → IfSome o (λ f. (LONGEST_BODY < length_at (drop (gate + 1) f)) ⊎ (end ≤ gate + 5 + length_at (drop (gate + 1) f)))
too_long None gate end n bytes four is read why = tt
too_long (Some f) gate end n bytes four is read why =
    let same = length_read bytes (drop (gate + 1) f) n is (read ∙ ap (λ k. take k (drop (gate + 1) f)) four) in
    subst (λ k. (LONGEST_BODY < k) ⊎ (end ≤ gate + 5 + k)) (sym same) why

pub too_short : (o : Option (List ℕ)) (gate end : ℕ) → end ≤ gate + 5 → IfSome o (λ f. (LONGEST_BODY < length_at (drop (gate + 1) f)) ⊎ (end ≤ gate + 5 + length_at (drop (gate + 1) f)))
too_short None gate end why = tt
too_short (Some f) gate end why = inr (omega arith)

pub stands : (o : Option (List ℕ)) (gate n : ℕ) (bytes : List ℕ) → length bytes ≡ 4 → ((i : ℕ) → get_or bytes i 0 < 256) → n ≡ from_le_bytes w32 bytes → IfSome o (λ f. drop gate f ≡ 1 ∷ drop (gate + 1) f) → IfSome o (λ f. bytes ≡ take (length bytes) (drop (gate + 1) f))
    → IfSome o (λ f. StandsAt gate f (Some n))
stands None gate n bytes four small is open_gate read = tt
stands (Some f) gate n bytes four small is open_gate read =
    let rest : List ℕ = drop (gate + 1) f in
    let e : take 4 rest ≡ length_bytes n = sym (read ∙ ap (λ k. take k rest) four) ∙ sym (bytes_read bytes n four small is) in
    let d : drop 4 rest ≡ drop (gate + 5) f = drop-drop 4 (gate + 1) f ∙ ap (λ k. drop k f) (omega arith) in
    open_gate ∙ ap (λ (l : List ℕ). 1 ∷ l) (sym (take-append-drop 4 rest) ∙ ap (λ (l : List ℕ). l ++ drop 4 rest) e ∙ ap (λ (l : List ℕ). length_bytes n ++ l) d)

-- before the first gate
pub scan_start : (o : Option (List ℕ)) → IfSome o (λ f. f ≡ header ++ drop 8 f) → IsScanned o 8 0
scan_start o headed = record { bodies = []; counted = refl; place = refl; fit = record { small = tt; reach = omega arith }; front_is = headed }

-- one frame on, of a disk that doesn't tell its bytes
on_untold : (gate count n end : ℕ) → IsScanned None gate count → n ≤ LONGEST_BODY → gate + 5 + n < end → end ≤ 2 ^ 32 → IsScanned None (gate + (5 + n)) (count + 1)
on_untold gate count n end s small within reach =
    let b : List ℕ = replicate n 0 in
    let size : length b ≡ n = length-replicate n 0 in
    record {
      bodies = s.bodies ++ b ∷ [];
      counted = omega (arith, s.counted, length_push s.bodies b);
      place = omega (arith, s.place, length-front_push s.bodies b);
      fit = fit_push s.bodies b s.fit (omega arith) (omega (arith, s.place));
      front_is = tt;
    }

on_told : (f : List ℕ) (gate count n end : ℕ) → IsScanned (Some f) gate count → n ≤ LONGEST_BODY → gate + 5 + n < end → end ≤ 2 ^ 32 → end ≡ min (length f) (2 ^ 32) → StandsAt gate f (Some n) → IsScanned (Some f) (gate + (5 + n)) (count + 1)
on_told f gate count n end s small within reach told at =
    let behind : List ℕ = drop (gate + 5) f in
    let b : List ℕ = take n behind in
    let rest : List ℕ = drop (gate + (5 + n)) f in
    let size : length b ≡ n = length-take-le n behind (omega (arith, length-drop (gate + 5) f)) in
    let split : behind ≡ b ++ rest = sym (take-append-drop n behind) ∙ ap (λ (l : List ℕ). b ++ l) (drop-drop n (gate + 5) f ∙ ap (λ k. drop k f) (omega arith)) in
    let framed : length_bytes n ++ behind ≡ (frame b ++ []) ++ rest =
    ap (λ (l : List ℕ). length_bytes n ++ l) split ∙ ap (λ k. length_bytes k ++ (b ++ rest)) (sym size) ∙ sym (append_assoc (length_bytes (length b)) b rest) ∙ ap (λ (l : List ℕ). l ++ rest) (sym (append-nil (frame b))) in
    record {
      bodies = s.bodies ++ b ∷ [];
      counted = omega (arith, s.counted, length_push s.bodies b);
      place = omega (arith, s.place, length-front_push s.bodies b);
      fit = fit_push s.bodies b s.fit (omega arith) (omega (arith, s.place));
      front_is = s.front_is ∙ ap (λ (l : List ℕ). front s.bodies ++ l) (at ∙ ap (λ (l : List ℕ). 1 ∷ l) framed) ∙ sym (front-append s.bodies (b ∷ []) rest);
    }

pub scan_on : (o : Option (List ℕ)) (gate count n end : ℕ) → IsScanned o gate count → n ≤ LONGEST_BODY → gate + 5 + n < end → end ≤ 2 ^ 32 → IfSome o (λ f. end ≡ min (length f) (2 ^ 32)) → IfSome o (λ f. StandsAt gate f (Some n)) → IsScanned o (gate + (5 + n)) (count + 1)
scan_on None gate count n end s small within reach told at = on_untold gate count n end s small within reach
scan_on (Some f) gate count n end s small within reach told at = on_told f gate count n end s small within reach told at

-- a closed gate ends the bodies
pub scan_end : (o : Option (List ℕ)) (gate count end : ℕ) (s : IsScanned o gate count) → gate < end → IfSome o (λ f. end ≡ min (length f) (2 ^ 32)) → IfSome o (λ f. StandsAt gate f None) → IfSome o (Rests s.bodies)
scan_end None gate count end s lt told at = tt
scan_end (Some f) gate count end s lt told at = record {
  gate = get_or f gate 0;
  rest = drop (gate + 1) f;
  split = s.front_is ∙ ap (λ (l : List ℕ). front s.bodies ++ l) (drop_more f gate 0 (omega arith));
  closed = at;
}

-- a broken frame
pub scan_fault : (o : Option (List ℕ)) (gate count end : ℕ) (s : IsScanned o gate count) → gate < end → 9 < end → IfSome o (λ f. end ≡ min (length f) (2 ^ 32)) → IfSome o (λ f. bodies_from gate 0 (drop gate f) ≡ Err gate) → IfSome o (λ f. contents f ≡ Err gate)
scan_fault None gate count end s lt long told at = tt
scan_fault (Some f) gate count end s lt long told at =
    let rest : List ℕ = drop gate f in
    let some : 0 < length rest = omega (arith, length-drop gate f) in
    let more : 9 < length (front s.bodies ++ rest) = subst (λ (l : List ℕ). 9 < length l) s.front_is (omega arith) in
    ap contents s.front_is ∙ contents_front s.bodies rest s.fit some more ∙ ap (λ k. with_bodies s.bodies (bodies_from k 0 rest)) (sym s.place) ∙ ap (with_bodies s.bodies) at ∙ with_bodies-err s.bodies gate

-- a fault of a call is one of the run
pub fault_on : (e : JournalFault) (damaged other : ℕ → Type 0) (before mid now : ℕ) → mid ≡ before → ((at : ℕ) → damaged at → other at) → IsFault damaged mid now e → IsFault other before now e
fault_on (Damaged at) damaged other before mid now still on h = (on at h.0, h.1 ∙ still)
fault_on Store damaged other before mid now still on h = omega arith
fault_on Memory damaged other before mid now still on h = h ∙ still

-- a new journal's file
pub began : (d c piece : List ℕ) → length d ≤ 9 → piece ≡ header ++ 0 ∷ [] → Holds 0 piece d c → Rests [] c
began d c piece short is holds = record {
  gate = 0;
  rest = [];
  split = holds ∙ ap (λ (l : List ℕ). piece ++ l) (drop_all (0 + length piece) d (omega (arith, ap length is))) ∙ append-nil piece ∙ is;
  closed = λ e. omega (arith, e);
}

pub begins : (d c : List ℕ) (n : ℕ) → length d ≤ 9 → n ≤ 9 → Torn 0 n d c → contents c ≡ Ok []
begins d c n short small torn = let l = torn.no_longer in contents_short c (omega arith)

-- the fault that a `?` hands on
pub at_fault : {T : Type 0} (r : Result T JournalFault) (e : JournalFault) (damaged : ℕ → Type 0) (before now : ℕ) → (y : JournalFault) × (r ≡ Err y) × (y ≡ e) → IsFault damaged before now e → IfErr r (IsFault damaged before now)
at_fault {T} r e damaged before now p h = subst (λ (q : Result T JournalFault). IfErr q (IsFault damaged before now)) (sym (p.1 ∙ ap Err p.2)) h

pub fit_none : Fit []
fit_none = record { small = tt; reach = omega arith }

-- a file with more than 9 bytes and another header
pub unheaded : (o : Option (List ℕ)) (n : ℕ) (is : Bool) → 9 < n → IfSome o (λ f. n ≡ length f) → IfSome o (λ f. is ≡ bytes_eq (take 8 f) header) → is ≡ false → IfSome o (λ f. contents f ≡ Err 0)
unfolding contents
unheaded None n is long size same other = tt
unheaded (Some f) n is long size same other =
    let l : nat_le (length f) 9 ≡ false = not_short (length f) (omega arith) in
    ap (λ b. cond b (Ok []) (cond (bytes_eq (take 8 f) header) (bodies_from 8 0 (drop 8 f)) (Err 0))) l ∙ ap (λ b. cond b (bodies_from 8 0 (drop 8 f)) (Err 0)) (sym same ∙ other)
  where
    not_short : (n : ℕ) → 9 < n → nat_le n 9 ≡ false
    not_short n more = grind (arith, nat_tests)

pub ok_both : {T E : Type 0} (r : Result T E) (P Q R : T → Type 0) → ((x : T) → P x → Q x → R x) → IfOk r P → IfOk r Q → IfOk r R
ok_both (Ok x) P Q R on p q = on x p q
ok_both (Err e) P Q R on p q = tt

-- one of the two outcomes of a call
pub by_result : {T E X Y Z : Type 0} (r : Result T E) → OnOk r X → OnErr r Y → (X → Z) → (Y → Z) → Z
by_result (Ok x) p q on other = on p
by_result (Err e) p q on other = other q

-- beginning a file keeps what it stands for
pub begin_torn : (d c : List ℕ) (n : ℕ) → n ≤ 9 → length d ≤ 9 → Torn 0 n d c → contents c ≡ contents d
begin_torn d c n small short torn = begins d c n short small torn ∙ sym (contents_short d short)

pub begin_held : (d c piece : List ℕ) → length piece ≤ 9 → length d ≤ 9 → Holds 0 piece d c → contents c ≡ contents d
begin_held d c piece small short holds = contents_short c (omega (arith, ap length holds, length-append piece (drop (0 + length piece) d), length-drop (0 + length piece) d)) ∙ sym (contents_short d short)
