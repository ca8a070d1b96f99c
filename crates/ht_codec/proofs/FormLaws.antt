-- What is known of each form, from its parts.
use Rattle.std.proofs.Common.{◌≡◌, ℕ, zero, suc, ◌^◌, ◌<◌, ◌≤◌, Bool, true, false, cond, ltb, eqb, List, [], ◌∷◌, ◌++◌, length, take, drop, Option, Some, None, Result, Ok, Err, refl, sym, ap, subst, ◌∙◌, append_assoc, arith, inl, inr, IsTrue, ◌⊎◌}
use Rattle.std.specs.Prelude.{IfSome}
use Rattle.std.specs.Int.{Width, w16, w32, w64, byte_len, from_le_bytes, to_le_bytes}
use Rattle.std.proofs.lemmas.Bool.{ltb-false, ltb-true, le-ltb, lt-ltb, eqb-true}
use Rattle.std.proofs.lemmas.List.{take_at, drop_at, take-append-drop, length-append, length-take}
use Rattle.std.proofs.lemmas.Nat.{le_bytes_2, le_bytes_4, le_bytes_8, from_le_bytes-to_le_bytes_2, from_le_bytes-to_le_bytes_4, from_le_bytes-to_le_bytes_8}
use Rattle.ht_codec.specs.Forms.{Form, Behind, IsShort, nothing, read_byte, byte, number, ◌then◌, tested, seen, meant, coded, sized, flag_of, flag_byte, flag, option_text, option, Line, line, meaningless, Next, taken, led}
use Rattle.ht_codec.specs.Records.{IsBytes}
use Rattle.ht_codec.specs.Reading.{Reading, ◌>>=◌, place}
use Rattle.ht_codec.specs.declared.refusal.CodecRefusal.{CodecRefusal}
use Rattle.ht_codec.specs.declared.refusal.CodecRefusal.TheVariants.{Memory, Range, Short, Tag}
use Rattle.ht_codec.proofs.Steps.{IsBytes-take, IsBytes-behind, no_cut, cut_in_two, ok_is, some_is, bind_ok, guard_ok, test_ok, test_is, meant_ok, bind_err, made_err, guard_err, test_err, meant_err}

pub record IsLawful {X : Type 0} (a : Form X) : Type 0 where
  -- what is read is spelled so
  pub takes : (whole : ℕ) (left : List ℕ) (x : X × List ℕ) → IsBytes left → a.read whole left ≡ Ok x → a.Fits x.0 × (left ≡ a.text x.0 ++ x.1)
  -- what is spelled so is read, whatever stands behind it
  pub again : (whole : ℕ) (x : X) (rest : List ℕ) → a.Fits x → a.read whole (a.text x ++ rest) ≡ Ok (x, rest)
  -- a spelling that is cut is short
  pub cut : (whole : ℕ) (x : X) (front : List ℕ) (c : ℕ) (more : List ℕ) → a.Fits x → a.text x ≡ front ++ c ∷ more → a.read whole front ≡ Err (Short whole)
  -- reading fails just where the field fails
  pub fails : (whole : ℕ) (left : List ℕ) (e : CodecRefusal) → IsBytes left → a.read whole left ≡ Err e → a.Fails whole left e
  pub failing : (whole : ℕ) (left : List ℕ) (e : CodecRefusal) → a.Fails whole left e → a.read whole left ≡ Err e
  -- and never for want of memory
  pub told : (whole : ℕ) (left : List ℕ) → a.read whole left ≡ Err Memory → ⊥

-- ---- a field, and what is done behind it

-- the first that fails decides
pub first_fails : {X B : Type 0} (a : Form X) → IsLawful a → (f : X × List ℕ → Result B CodecRefusal) (Fault : X → List ℕ → Type 0) (whole : ℕ) (left : List ℕ) (e : CodecRefusal) → IsBytes left
    → ((x : X) (rest : List ℕ) → IsBytes rest → f (x, rest) ≡ Err e → Fault x rest) → (a.read whole left >>= f) ≡ Err e → a.Fails whole left e ⊎ Behind a left Fault
first_fails a la f Fault whole left e are behind h =
    elim (bind_err (a.read whole left) f e h) [
      | inl here ↦ inl (la.fails whole left e are here)
      | inr p ↦
          let s = la.takes whole left p.0 are p.1 in
          inr (record { value = p.0.0; rest = p.0.1; fits = s.0; spelled = s.1; fails = behind p.0.0 p.0.1 (IsBytes-behind (a.text p.0.0) p.0.1 left s.1 are) p.2 })
    ]

pub first_failing : {X B : Type 0} (a : Form X) → IsLawful a → (f : X × List ℕ → Result B CodecRefusal) (Fault : X → List ℕ → Type 0) (whole : ℕ) (left : List ℕ) (e : CodecRefusal)
    → ((x : X) (rest : List ℕ) → Fault x rest → f (x, rest) ≡ Err e) → a.Fails whole left e ⊎ Behind a left Fault → (a.read whole left >>= f) ≡ Err e
first_failing a la f Fault whole left e behind (inl here) = rw (la.failing whole left e here) refl
first_failing a la f Fault whole left e behind (inr b) =
    let read : a.read whole left ≡ Ok (b.value, b.rest) = ap (a.read whole) b.spelled ∙ la.again whole b.value b.rest b.fits in
    rw read (behind b.value b.rest b.fails)

pub first_told : {X B : Type 0} (a : Form X) → IsLawful a → (f : X × List ℕ → Result B CodecRefusal) (whole : ℕ) (left : List ℕ) → ((x : X) (rest : List ℕ) → f (x, rest) ≡ Err Memory → ⊥) → (a.read whole left >>= f) ≡ Err Memory → ⊥
first_told a la f whole left behind h =
    elim (bind_err (a.read whole left) f Memory h) [
      | inl here ↦ la.told whole left here
      | inr p ↦ behind p.0.0 p.0.1 p.2
    ]

-- a cut is in the field, or behind it
pub first_cut : {X B : Type 0} (a : Form X) → IsLawful a → (f : X × List ℕ → Result B CodecRefusal) (whole : ℕ) (x : X) (behind front : List ℕ) (c : ℕ) (more : List ℕ) → a.Fits x
    → a.text x ++ behind ≡ front ++ c ∷ more → ((kept : List ℕ) → behind ≡ kept ++ c ∷ more → f (x, kept) ≡ Err (Short whole)) → (a.read whole front >>= f) ≡ Err (Short whole)
first_cut a la f whole x behind front c more fits e short =
    elim (cut_in_two (a.text x) behind front c more e) [
      | inl w ↦ rw (la.cut whole x front w.next w.more fits w.cut) refl
      | inr b ↦
          let read : a.read whole front ≡ Ok (x, b.kept) = ap (a.read whole) b.whole ∙ la.again whole x b.kept fits in
          rw read (short b.kept b.cut)
    ]

-- ---- bytes and numbers

pub nothing_lawful : IsLawful nothing
nothing_lawful = record {
  takes = λ whole left x are e. (tt, ap (λ (y : Unit {0} × List ℕ). y.1) (ok_is (tt, left) x e));
  again = λ whole x rest fits. refl;
  cut = λ whole x front c more fits e. absurd (no_cut front c more e);
  fails = λ whole left e are h. absurd cc;
  failing = λ whole left e h. absurd h;
  told = λ whole left h. cc;
}

pub byte_lawful : IsLawful byte
byte_lawful = record { takes = byte_takes; again = λ whole x rest fits. refl; cut = byte_cut; fails = byte_fails; failing = byte_failing; told = byte_told }
  where
    byte_takes : (whole : ℕ) (left : List ℕ) (x : ℕ × List ℕ) → IsBytes left → read_byte whole left ≡ Ok x → (x.0 < 256) × (left ≡ x.0 ∷ x.1)
    byte_takes whole [] x are e = absurd cc
    byte_takes whole (b ∷ left) x are e = subst (λ (y : ℕ × List ℕ). (y.0 < 256) × (b ∷ left ≡ y.0 ∷ y.1)) (ok_is (b, left) x e) (are 0, refl)

    byte_cut : (whole x : ℕ) (front : List ℕ) (c : ℕ) (more : List ℕ) → x < 256 → x ∷ [] ≡ front ++ c ∷ more → read_byte whole front ≡ Err (Short whole)
    byte_cut whole x [] c more fits e = refl
    byte_cut whole x (y ∷ front) c more fits e = let l = ap length e in absurd (omega (arith, length-append front (c ∷ more)))

    byte_fails : (whole : ℕ) (left : List ℕ) (e : CodecRefusal) → IsBytes left → read_byte whole left ≡ Err e → IsShort 1 whole left e
    byte_fails whole [] e are h = record { few = omega arith; is = cc }
    byte_fails whole (b ∷ left) e are h = absurd cc

    byte_told : (whole : ℕ) (left : List ℕ) → read_byte whole left ≡ Err Memory → ⊥
    byte_told whole [] h = cc
    byte_told whole (b ∷ left) h = cc

    byte_failing : (whole : ℕ) (left : List ℕ) (e : CodecRefusal) → IsShort 1 whole left e → read_byte whole left ≡ Err e
    byte_failing whole [] e h = ap (λ d. Err d) (sym h.is)
    byte_failing whole (b ∷ left) e h = let few = h.few in absurd (omega arith)

pub record IsWide (w : Width) (limit : ℕ) : Type 0 where
  pub len : (n : ℕ) → length (to_le_bytes w n) ≡ byte_len w
  pub back : (bytes : List ℕ) → length bytes ≡ byte_len w → IsBytes bytes → to_le_bytes w (from_le_bytes w bytes) ≡ bytes
  pub again : (n : ℕ) → n < limit → from_le_bytes w (to_le_bytes w n) ≡ n
  pub below : (bytes : List ℕ) → IsBytes bytes → from_le_bytes w bytes < limit

pub wide16 : IsWide w16 (2 ^ 16)
wide16 = record {
  len = λ n. refl;
  back = λ bytes len fits. le_bytes_2 bytes _ len fits refl;
  again = λ n lt. from_le_bytes-to_le_bytes_2 n lt;
  below = λ bytes fits. omega (arith, fits 0, fits 1);
}

pub wide32 : IsWide w32 (2 ^ 32)
wide32 = record {
  len = λ n. refl;
  back = λ bytes len fits. le_bytes_4 bytes _ len fits refl;
  again = λ n lt. from_le_bytes-to_le_bytes_4 n lt;
  below = λ bytes fits. omega (arith, fits 0, fits 1, fits 2, fits 3);
}

pub wide64 : IsWide w64 (2 ^ 64)
wide64 = record {
  len = λ n. refl;
  back = λ bytes len fits. le_bytes_8 bytes _ len fits refl;
  again = λ n lt. from_le_bytes-to_le_bytes_8 n lt;
  below = λ bytes fits. omega (arith, fits 0, fits 1, fits 2, fits 3, fits 4, fits 5, fits 6, fits 7);
}

-- bytes that are taken one after the other, unless there are too few
short_err : {A : Type 0} (needed whole : ℕ) (left : List ℕ) (x : A) (e : CodecRefusal) → cond (ltb (length left) needed) (Err (Short whole)) (Ok x) ≡ Err e → IsShort needed whole left e
short_err needed whole left x e h =
    let g = guard_err (ltb (length left) needed) (Short whole) x e h in
    record { few = ltb-true (length left) needed g.0; is = g.1 }

err_short : {A : Type 0} (needed whole : ℕ) (left : List ℕ) (x : A) (e : CodecRefusal) → IsShort needed whole left e → cond (ltb (length left) needed) (Err (Short whole)) (Ok x) ≡ Err e
err_short needed whole left x e h = rw (lt-ltb (length left) needed h.few) (ap (λ d. Err d) (sym h.is))

short_told : {A : Type 0} (needed whole : ℕ) (left : List ℕ) (x : A) → cond (ltb (length left) needed) (Err (Short whole)) (Ok x) ≡ Err Memory → ⊥
short_told needed whole left x h = let s = short_err needed whole left x Memory h in let is = s.is in cc

pub number_lawful : (w : Width) (limit : ℕ) → IsWide w limit → IsLawful (number w limit)
number_lawful w limit wide = record {
  takes = number_takes;
  again = number_again;
  cut = number_cut;
  fails = λ whole left e are h. short_err (byte_len w) whole left _ e h;
  failing = λ whole left e h. err_short (byte_len w) whole left _ e h;
  told = λ whole left h. short_told (byte_len w) whole left _ h;
}
  where
    number_takes : (whole : ℕ) (left : List ℕ) (x : ℕ × List ℕ) → IsBytes left → (number w limit).read whole left ≡ Ok x → (x.0 < limit) × (left ≡ to_le_bytes w x.0 ++ x.1)
    number_takes whole left x are e =
        let made : ℕ × List ℕ = (from_le_bytes w (take (byte_len w) left), drop (byte_len w) left) in
        let g = guard_ok (ltb (length left) (byte_len w)) (Short whole) made x e in
        let long : byte_len w ≤ length left = ltb-false _ _ g.0 in
        let front = wide.back (take (byte_len w) left) (omega (arith, length-take (byte_len w) left)) (IsBytes-take (byte_len w) left are) in
        subst (λ (y : ℕ × List ℕ). (y.0 < limit) × (left ≡ to_le_bytes w y.0 ++ y.1)) g.1 (wide.below (take (byte_len w) left) (IsBytes-take (byte_len w) left are), rw front (sym (take-append-drop (byte_len w) left)))

    number_again : (whole n : ℕ) (rest : List ℕ) → n < limit → (number w limit).read whole (to_le_bytes w n ++ rest) ≡ Ok (n, rest)
    number_again whole n rest lt =
        let len = wide.len n in
        let long : ltb (length (to_le_bytes w n ++ rest)) (byte_len w) ≡ false = le-ltb _ _ (omega (arith, length-append (to_le_bytes w n) rest)) in
        rw (long, take_at (to_le_bytes w n) rest (byte_len w) len, drop_at (to_le_bytes w n) rest (byte_len w) len, wide.again n lt) refl

    number_cut : (whole n : ℕ) (front : List ℕ) (c : ℕ) (more : List ℕ) → n < limit → to_le_bytes w n ≡ front ++ c ∷ more → (number w limit).read whole front ≡ Err (Short whole)
    number_cut whole n front c more lt e =
        let len = wide.len n in
        let l = ap length e in
        err_short (byte_len w) whole front _ (Short whole) (record { few = omega (arith, length-append front (c ∷ more)); is = refl })

-- ---- fields of fields

pub then_lawful : {X Y : Type 0} (a : Form X) (b : Form Y) → IsLawful a → IsLawful b → IsLawful (a then b)
then_lawful {X} {Y} a b la lb = record {
  takes = both_takes;
  again = both_again;
  cut = λ whole x front c more fits e. first_cut a la (behind whole) whole x.0 (b.text x.1) front c more fits.0 e (λ kept cut. rw (lb.cut whole x.1 kept c more fits.1 cut) refl);
  fails = λ whole left e are h. first_fails a la (behind whole) (λ x rest. b.Fails whole rest e) whole left e are (λ x rest are h. lb.fails whole rest e are (made_err (b.read whole rest) (λ y. ((x, y.0), y.1)) e h)) h;
  failing = λ whole left e h. first_failing a la (behind whole) (λ x rest. b.Fails whole rest e) whole left e (λ x rest h. rw (lb.failing whole rest e h) refl) h;
  told = λ whole left h. first_told a la (behind whole) whole left (λ x rest h. lb.told whole rest (made_err (b.read whole rest) (λ y. ((x, y.0), y.1)) Memory h)) h;
}
  where
    behind : ℕ → X × List ℕ → Reading (X × Y)
    behind whole x = b.read whole x.1 >>= λ y. Ok ((x.0, y.0), y.1)

    both_takes : (whole : ℕ) (left : List ℕ) (x : (X × Y) × List ℕ) → IsBytes left → (a then b).read whole left ≡ Ok x → (a.Fits x.0.0 × b.Fits x.0.1) × (left ≡ (a.text x.0.0 ++ b.text x.0.1) ++ x.1)
    both_takes whole left x are e =
        let p = bind_ok (a.read whole left) (λ u. b.read whole u.1 >>= λ v. Ok ((u.0, v.0), v.1)) x e in
        let q = bind_ok (b.read whole p.0.1) (λ v. Ok ((p.0.0, v.0), v.1)) x p.2 in
        let s = la.takes whole left p.0 are p.1 in
        let t = lb.takes whole p.0.1 q.0 (IsBytes-behind (a.text p.0.0) p.0.1 left s.1 are) q.1 in
        let parts : left ≡ (a.text p.0.0 ++ b.text q.0.0) ++ q.0.1 = s.1 ∙ ap (λ (l : List ℕ). a.text p.0.0 ++ l) t.1 ∙ sym (append_assoc (a.text p.0.0) (b.text q.0.0) q.0.1) in
        subst (λ (y : (X × Y) × List ℕ). (a.Fits y.0.0 × b.Fits y.0.1) × (left ≡ (a.text y.0.0 ++ b.text y.0.1) ++ y.1)) (ok_is ((p.0.0, q.0.0), q.0.1) x q.2) ((s.0, t.0), parts)

    both_again : (whole : ℕ) (x : X × Y) (rest : List ℕ) → a.Fits x.0 × b.Fits x.1 → (a then b).read whole ((a.text x.0 ++ b.text x.1) ++ rest) ≡ Ok (x, rest)
    both_again whole x rest fits = rw (append_assoc (a.text x.0) (b.text x.1) rest, la.again whole x.0 (b.text x.1 ++ rest) fits.0, lb.again whole x.1 rest fits.1) refl

pub tested_lawful : {X : Type 0} (test : X → Bool) (a : Form X) → IsLawful a → IsLawful (tested test a)
tested_lawful {X} test a la = record {
  takes = test_takes;
  again = λ whole x rest fits. rw (la.again whole x rest fits.0) (test_is (test x) (Ok (x, rest)) (Err (Range (place whole (a.text x ++ rest)))) fits.1);
  cut = λ whole x front c more fits e. rw (la.cut whole x front c more fits.0 e) refl;
  fails = λ whole left e are h. first_fails a la (judged whole left) (λ x rest. (test x ≡ false) × (e ≡ Range (place whole left))) whole left e are (λ x rest are h. test_err (test x) (Range (place whole left)) (x, rest) e h) h;
  failing = λ whole left e h. first_failing a la (judged whole left) (λ x rest. (test x ≡ false) × (e ≡ Range (place whole left))) whole left e (λ x rest h. rw h.0 (ap (λ d. Err d) (sym h.1))) h;
  told = λ whole left h. first_told a la (judged whole left) whole left (λ x rest h. let is = (test_err (test x) (Range (place whole left)) (x, rest) Memory h).1 in cc) h;
}
  where
    judged : ℕ → List ℕ → X × List ℕ → Reading X
    judged whole left x = cond (test x.0) (Ok x) (Err (Range (place whole left)))

    test_takes : (whole : ℕ) (left : List ℕ) (x : X × List ℕ) → IsBytes left → (tested test a).read whole left ≡ Ok x → (a.Fits x.0 × IsTrue (test x.0)) × (left ≡ a.text x.0 ++ x.1)
    test_takes whole left x are e =
        let p = bind_ok (a.read whole left) (λ u. cond (test u.0) (Ok u) (Err (Range (place whole left)))) x e in
        let g = test_ok (test p.0.0) (Range (place whole left)) p.0 x p.2 in
        let s = la.takes whole left p.0 are p.1 in
        subst (λ (y : X × List ℕ). (a.Fits y.0 × IsTrue (test y.0)) × (left ≡ a.text y.0 ++ y.1)) g.1 ((s.0, g.0), s.1)

pub seen_lawful : {X Y : Type 0} (to : X → Y) (from : Y → X) (a : Form X) → IsLawful a → ((x : X) → a.Fits x → from (to x) ≡ x) → ((y : Y) → a.Fits (from y) → to (from y) ≡ y) → IsLawful (seen to from a)
seen_lawful {X} {Y} to from a la back forth = record {
  takes = seen_takes;
  again = λ whole y rest fits. rw (la.again whole (from y) rest fits, forth y fits) refl;
  cut = λ whole y front c more fits e. rw (la.cut whole (from y) front c more fits e) refl;
  fails = λ whole left e are h. la.fails whole left e are (made_err (a.read whole left) (λ u. (to u.0, u.1)) e h);
  failing = λ whole left e h. rw (la.failing whole left e h) refl;
  told = λ whole left h. la.told whole left (made_err (a.read whole left) (λ u. (to u.0, u.1)) Memory h);
}
  where
    seen_takes : (whole : ℕ) (left : List ℕ) (y : Y × List ℕ) → IsBytes left → (seen to from a).read whole left ≡ Ok y → a.Fits (from y.0) × (left ≡ a.text (from y.0) ++ y.1)
    seen_takes whole left y are e =
        let p = bind_ok (a.read whole left) (λ u. Ok (to u.0, u.1)) y e in
        let s = la.takes whole left p.0 are p.1 in
        let same : from (to p.0.0) ≡ p.0.0 = back p.0.0 s.0 in
        subst (λ (z : Y × List ℕ). a.Fits (from z.0) × (left ≡ a.text (from z.0) ++ z.1)) (ok_is (to p.0.0, p.0.1) y p.2) (subst (λ (v : X). a.Fits v × (left ≡ a.text v ++ p.0.1)) (sym same) s)

pub coded_lawful : {X Y : Type 0} (refusal : ℕ → CodecRefusal) (decode : X → Option Y) (encode : Y → X) (a : Form X) → IsLawful a → ((n : ℕ) → refusal n ≡ Memory → ⊥) → ((x : X) (y : Y) → decode x ≡ Some y → encode y ≡ x) → IsLawful (coded refusal decode encode a)
coded_lawful {X} {Y} refusal decode encode a la told back = record {
  takes = coded_takes;
  again = λ whole y rest fits. rw (la.again whole (encode y) rest fits.0, fits.1) refl;
  cut = λ whole y front c more fits e. rw (la.cut whole (encode y) front c more fits.0 e) refl;
  fails = λ whole left e are h. first_fails a la (judged whole left) (λ x rest. (decode x ≡ None) × (e ≡ refusal (place whole left))) whole left e are (λ x rest are h. meant_err (refusal (place whole left)) (decode x) rest e h) h;
  failing = λ whole left e h. first_failing a la (judged whole left) (λ x rest. (decode x ≡ None) × (e ≡ refusal (place whole left))) whole left e (λ x rest h. rw h.0 (ap (λ d. Err d) (sym h.1))) h;
  told = λ whole left h. first_told a la (judged whole left) whole left (λ x rest h. told (place whole left) (sym (meant_err (refusal (place whole left)) (decode x) rest Memory h).1)) h;
}
  where
    judged : ℕ → List ℕ → X × List ℕ → Reading Y
    judged whole left x = meant (refusal (place whole left)) (decode x.0) x.1

    coded_takes : (whole : ℕ) (left : List ℕ) (y : Y × List ℕ) → IsBytes left → (coded refusal decode encode a).read whole left ≡ Ok y → (a.Fits (encode y.0) × (decode (encode y.0) ≡ Some y.0)) × (left ≡ a.text (encode y.0) ++ y.1)
    coded_takes whole left y are e =
        let p = bind_ok (a.read whole left) (λ u. meant (refusal (place whole left)) (decode u.0) u.1) y e in
        let s = la.takes whole left p.0 are p.1 in
        let d = meant_ok (refusal (place whole left)) (decode p.0.0) p.0.1 y p.2 in
        let same : encode y.0 ≡ p.0.0 = back p.0.0 y.0 d.0 in
        rw same ((s.0, d.0), s.1 ∙ ap (λ (l : List ℕ). a.text p.0.0 ++ l) d.1)

pub sized_lawful : (n : Form ℕ) → IsLawful n → IsLawful (sized n)
sized_lawful n ln = record {
  takes = sized_takes;
  again = sized_again;
  cut = λ whole x front c more fits e. first_cut n ln (bytes_of whole) whole (length x) x front c more fits e (sized_cut whole x c more);
  fails = λ whole left e are h. first_fails n ln (bytes_of whole) (λ count rest. IsShort count whole rest e) whole left e are (λ count rest are h. short_err count whole rest _ e h) h;
  failing = λ whole left e h. first_failing n ln (bytes_of whole) (λ count rest. IsShort count whole rest e) whole left e (λ count rest h. err_short count whole rest _ e h) h;
  told = λ whole left h. first_told n ln (bytes_of whole) whole left (λ count rest h. short_told count whole rest _ h) h;
}
  where
    bytes_of : ℕ → ℕ × List ℕ → Reading (List ℕ)
    bytes_of whole x = cond (ltb (length x.1) x.0) (Err (Short whole)) (Ok (take x.0 x.1, drop x.0 x.1))

    sized_cut : (whole : ℕ) (x : List ℕ) (c : ℕ) (more kept : List ℕ) → x ≡ kept ++ c ∷ more → bytes_of whole (length x, kept) ≡ Err (Short whole)
    sized_cut whole x c more kept e = let l = ap length e in err_short (length x) whole kept _ (Short whole) (record { few = omega (arith, length-append kept (c ∷ more)); is = refl })

    sized_takes : (whole : ℕ) (left : List ℕ) (x : List ℕ × List ℕ) → IsBytes left → (sized n).read whole left ≡ Ok x → n.Fits (length x.0) × (left ≡ (n.text (length x.0) ++ x.0) ++ x.1)
    sized_takes whole left x are e =
        let p = bind_ok (n.read whole left) (λ u. cond (ltb (length u.1) u.0) (Err (Short whole)) (Ok (take u.0 u.1, drop u.0 u.1))) x e in
        let k = p.0.0 in
        let rest = p.0.1 in
        let g = guard_ok (ltb (length rest) k) (Short whole) (take k rest, drop k rest) x p.2 in
        let s = ln.takes whole left p.0 are p.1 in
        let long : k ≤ length rest = ltb-false _ _ g.0 in
        let len : k ≡ length (take k rest) = omega (arith, length-take k rest) in
        let parts : left ≡ (n.text k ++ take k rest) ++ drop k rest = s.1 ∙ ap (λ (l : List ℕ). n.text k ++ l) (sym (take-append-drop k rest)) ∙ sym (append_assoc (n.text k) (take k rest) (drop k rest)) in
        let whole_of : n.Fits (length (take k rest)) × (left ≡ (n.text (length (take k rest)) ++ take k rest) ++ drop k rest) = subst (λ (m : ℕ). n.Fits m × (left ≡ (n.text m ++ take k rest) ++ drop k rest)) len (s.0, parts) in
        subst (λ (y : List ℕ × List ℕ). n.Fits (length y.0) × (left ≡ (n.text (length y.0) ++ y.0) ++ y.1)) g.1 whole_of

    sized_again : (whole : ℕ) (x rest : List ℕ) → n.Fits (length x) → (sized n).read whole ((n.text (length x) ++ x) ++ rest) ≡ Ok (x, rest)
    sized_again whole x rest fits =
        let long : ltb (length (x ++ rest)) (length x) ≡ false = le-ltb _ _ (omega (arith, length-append x rest)) in
        rw (append_assoc (n.text (length x)) x rest, ln.again whole (length x) (x ++ rest) fits, long, take_at x rest (length x) refl, drop_at x rest (length x) refl) refl

-- ---- options

pub flag_back : (n : ℕ) (b : Bool) → flag_of n ≡ Some b → flag_byte b ≡ n
flag_back zero b e = ap flag_byte (some_is b false (sym e))
flag_back (suc zero) b e = ap flag_byte (some_is b true (sym e))
flag_back (suc (suc n)) b e = absurd cc

pub flag_fits : (b : Bool) → flag.Fits b
unfolding flag
flag_fits false = (omega arith, refl)
flag_fits true = (omega arith, refl)

pub flag_lawful : IsLawful flag
unfolding flag
flag_lawful = coded_lawful Tag flag_of flag_byte byte byte_lawful (λ n e. cc) flag_back

pub option_lawful : {X : Type 0} (a : Form X) → IsLawful a → IsLawful (option a)
option_lawful {X} a la = record {
  takes = option_takes;
  again = option_again;
  cut = option_cut;
  fails = λ whole left e are h. first_fails flag flag_lawful (value_of whole) (λ there rest. IsTrue there × a.Fails whole rest e) whole left e are (λ there rest are h. value_fails whole there rest e are h) h;
  failing = λ whole left e h. first_failing flag flag_lawful (value_of whole) (λ there rest. IsTrue there × a.Fails whole rest e) whole left e (λ there rest h. rw h.0 (rw (la.failing whole rest e h.1) refl)) h;
  told = λ whole left h. first_told flag flag_lawful (value_of whole) whole left (value_told whole) h;
}
  where
    value_of : ℕ → Bool × List ℕ → Reading (Option X)
    value_of whole b = cond b.0 (a.read whole b.1 >>= λ x. Ok (Some x.0, x.1)) (Ok (None, b.1))

    value_fails : (whole : ℕ) (there : Bool) (rest : List ℕ) (e : CodecRefusal) → IsBytes rest → value_of whole (there, rest) ≡ Err e → IsTrue there × a.Fails whole rest e
    value_fails whole false rest e are h = absurd cc
    value_fails whole true rest e are h = (refl, la.fails whole rest e are (made_err (a.read whole rest) (λ x. (Some x.0, x.1)) e h))

    value_told : (whole : ℕ) (there : Bool) (rest : List ℕ) → value_of whole (there, rest) ≡ Err Memory → ⊥
    value_told whole false rest h = cc
    value_told whole true rest h = la.told whole rest (made_err (a.read whole rest) (λ x. (Some x.0, x.1)) Memory h)

    takes_at : (whole : ℕ) (bytes : List ℕ) (b : Bool) (left : List ℕ) (o : Option X × List ℕ) → IsBytes left → bytes ≡ flag.text b ++ left → cond b (a.read whole left >>= λ x. Ok (Some x.0, x.1)) (Ok (None, left)) ≡ Ok o → IfSome o.0 a.Fits × (bytes ≡ option_text a o.0 ++ o.1)
    takes_at whole bytes false left o are parts e =
        subst (λ (y : Option X × List ℕ). IfSome y.0 a.Fits × (bytes ≡ option_text a y.0 ++ y.1)) (ok_is (None, left) o e) (tt, parts)
    takes_at whole bytes true left o are parts e =
        let p = bind_ok (a.read whole left) (λ x. Ok (Some x.0, x.1)) o e in
        let s = la.takes whole left p.0 are p.1 in
        subst (λ (y : Option X × List ℕ). IfSome y.0 a.Fits × (bytes ≡ option_text a y.0 ++ y.1)) (ok_is (Some p.0.0, p.0.1) o p.2) (s.0, parts ∙ ap (λ (l : List ℕ). flag.text true ++ l) s.1 ∙ sym (append_assoc (flag.text true) (a.text p.0.0) p.0.1))

    option_takes : (whole : ℕ) (bytes : List ℕ) (o : Option X × List ℕ) → IsBytes bytes → (option a).read whole bytes ≡ Ok o → IfSome o.0 a.Fits × (bytes ≡ option_text a o.0 ++ o.1)
    option_takes whole bytes o are e =
        let p = bind_ok (flag.read whole bytes) (λ b. cond b.0 (a.read whole b.1 >>= λ x. Ok (Some x.0, x.1)) (Ok (None, b.1))) o e in
        let s = flag_lawful.takes whole bytes p.0 are p.1 in
        takes_at whole bytes p.0.0 p.0.1 o (IsBytes-behind (flag.text p.0.0) p.0.1 bytes s.1 are) s.1 p.2

    option_again : (whole : ℕ) (o : Option X) (rest : List ℕ) → IfSome o a.Fits → (option a).read whole (option_text a o ++ rest) ≡ Ok (o, rest)
    option_again whole None rest fits = rw (flag_lawful.again whole false rest (flag_fits false)) refl
    option_again whole (Some x) rest fits =
        rw (append_assoc (flag.text true) (a.text x) rest, flag_lawful.again whole true (a.text x ++ rest) (flag_fits true), la.again whole x rest fits) refl

    option_cut : (whole : ℕ) (o : Option X) (front : List ℕ) (c : ℕ) (more : List ℕ) → IfSome o a.Fits → option_text a o ≡ front ++ c ∷ more → (option a).read whole front ≡ Err (Short whole)
    option_cut whole None front c more fits e = rw (flag_lawful.cut whole false front c more (flag_fits false) e) refl
    option_cut whole (Some x) front c more fits e = first_cut flag flag_lawful (value_of whole) whole true (a.text x) front c more (flag_fits true) e (λ kept cut. rw (la.cut whole x kept c more fits cut) refl)

-- ---- a head that decides what stands behind it

-- what stands behind a head h
pub record Follows {X Z : Type 0} (lines : Z → Line X) (h : X) (left : List ℕ) (z : Z × List ℕ) : Type 0 where
  pub head : (lines z.0).head ≡ h
  pub fits : (lines z.0).Fits
  pub text : left ≡ (lines z.0).text ++ z.1

-- what is known of reading behind a head
pub record IsLine {X Z : Type 0} (lines : Z → Line X) (h : X) (next : Next Z) : Type 0 where
  pub takes : (whole : ℕ) (left : List ℕ) (z : Z × List ℕ) → IsBytes left → next.read whole left ≡ Ok z → Follows lines h left z
  pub fails : (whole : ℕ) (left : List ℕ) (e : CodecRefusal) → IsBytes left → next.read whole left ≡ Err e → next.Fails whole left e
  pub failing : (whole : ℕ) (left : List ℕ) (e : CodecRefusal) → next.Fails whole left e → next.read whole left ≡ Err e
  pub told : (whole : ℕ) (left : List ℕ) → next.read whole left ≡ Err Memory → ⊥

-- and of what stands behind the head of a value
pub record IsRead {X Z : Type 0} (next : Next Z) (l : Line X) (z : Z) : Type 0 where
  pub again : (whole : ℕ) (rest : List ℕ) → l.Fits → next.read whole (l.text ++ rest) ≡ Ok (z, rest)
  pub cut : (whole : ℕ) (front : List ℕ) (c : ℕ) (more : List ℕ) → l.Fits → l.text ≡ front ++ c ∷ more → next.read whole front ≡ Err (Short whole)

-- one line of a table of heads, and of one of values
pub taken_line : {X Y Z : Type 0} (lines : Z → Line X) (h : X) (to : Y → Z) (a : Form Y) → IsLawful a → ((y : Y) → (lines (to y)).head ≡ h) → ((y : Y) → a.Fits y → (lines (to y)).Fits) → ((y : Y) → a.text y ≡ (lines (to y)).text) → IsLine lines h (taken to a)
taken_line {X} {Y} {Z} lines h to a la head fits text = record {
  takes = line_takes;
  fails = λ whole left e are f. la.fails whole left e are (made_err (a.read whole left) (λ y. (to y.0, y.1)) e f);
  failing = λ whole left e f. rw (la.failing whole left e f) refl;
  told = λ whole left f. la.told whole left (made_err (a.read whole left) (λ y. (to y.0, y.1)) Memory f);
}
  where
    line_takes : (whole : ℕ) (left : List ℕ) (z : Z × List ℕ) → IsBytes left → (taken to a).read whole left ≡ Ok z → Follows lines h left z
    line_takes whole left z are e =
        let p = bind_ok (a.read whole left) (λ y. Ok (to y.0, y.1)) z e in
        let s = la.takes whole left p.0 are p.1 in
        let follows : Follows lines h left (to p.0.0, p.0.1) = record { head = head p.0.0; fits = fits p.0.0 s.0; text = s.1 ∙ ap (λ (l : List ℕ). l ++ p.0.1) (text p.0.0) } in
        subst (λ (y : Z × List ℕ). Follows lines h left y) (ok_is (to p.0.0, p.0.1) z p.2) follows

pub line_read : {X Y Z : Type 0} (h : X) (to : Y → Z) (a : Form Y) → IsLawful a → (y : Y) → IsRead (taken to a) (line h a y) (to y)
line_read h to a la y = record {
  again = λ whole rest fits. rw (la.again whole y rest fits) refl;
  cut = λ whole front c more fits e. rw (la.cut whole y front c more fits e) refl;
}

pub meaningless_line : {X Z : Type 0} (lines : Z → Line X) (h : X) → IsLine lines h meaningless
meaningless_line lines h = record {
  takes = λ whole left z are e. absurd cc;
  fails = λ whole left e are f. cc;
  failing = λ whole left e f. ap (λ d. Err d) (sym f);
  told = λ whole left f. cc;
}

pub led_lawful : {X Z : Type 0} (a : Form X) (next : X → Next Z) (lines : Z → Line X) → IsLawful a → ((h : X) → IsLine lines h (next h)) → ((z : Z) → IsRead (next (lines z).head) (lines z) z) → IsLawful (led a next lines)
led_lawful {X} {Z} a next lines la heads values = record {
  takes = led_takes;
  again = led_again;
  cut = λ whole z front c more fits e. first_cut a la (behind whole) whole (lines z).head (lines z).text front c more fits.0 e (λ kept cut. (values z).cut whole kept c more fits.1 cut);
  fails = λ whole left e are h. first_fails a la (behind whole) (λ x rest. (next x).Fails whole rest e) whole left e are (λ x rest are h. (heads x).fails whole rest e are h) h;
  failing = λ whole left e h. first_failing a la (behind whole) (λ x rest. (next x).Fails whole rest e) whole left e (λ x rest h. (heads x).failing whole rest e h) h;
  told = λ whole left h. first_told a la (behind whole) whole left (λ x rest h. (heads x).told whole rest h) h;
}
  where
    behind : ℕ → X × List ℕ → Reading Z
    behind whole x = (next x.0).read whole x.1

    led_takes : (whole : ℕ) (left : List ℕ) (z : Z × List ℕ) → IsBytes left → (led a next lines).read whole left ≡ Ok z → (a.Fits (lines z.0).head × (lines z.0).Fits) × (left ≡ (a.text (lines z.0).head ++ (lines z.0).text) ++ z.1)
    led_takes whole left z are e =
        let p = bind_ok (a.read whole left) (λ x. (next x.0).read whole x.1) z e in
        let s = la.takes whole left p.0 are p.1 in
        let f = (heads p.0.0).takes whole p.0.1 z (IsBytes-behind (a.text p.0.0) p.0.1 left s.1 are) p.2 in
        let t : a.Fits (lines z.0).head × (left ≡ a.text (lines z.0).head ++ p.0.1) = subst (λ (x : X). a.Fits x × (left ≡ a.text x ++ p.0.1)) (sym f.head) s in
        ((t.0, f.fits), t.1 ∙ ap (λ (l : List ℕ). a.text (lines z.0).head ++ l) f.text ∙ sym (append_assoc (a.text (lines z.0).head) (lines z.0).text z.1))

    led_again : (whole : ℕ) (z : Z) (rest : List ℕ) → a.Fits (lines z).head × (lines z).Fits → (led a next lines).read whole ((a.text (lines z).head ++ (lines z).text) ++ rest) ≡ Ok (z, rest)
    led_again whole z rest fits =
        rw (append_assoc (a.text (lines z).head) (lines z).text rest, la.again whole (lines z).head ((lines z).text ++ rest) fits.0) ((values z).again whole rest fits.1)

-- ---- tables from numbers to meanings

-- one line of a table
pub line_back : {A : Type 0} (encode : A → ℕ) (n k : ℕ) (x y : A) (rest : Option A) → encode x ≡ k → (rest ≡ Some y → encode y ≡ n) → cond (eqb n k) (Some x) rest ≡ Some y → encode y ≡ n
line_back {A} encode n k x y rest is more e = at (eqb n k) refl e
  where
    at : (b : Bool) → eqb n k ≡ b → cond b (Some x) rest ≡ Some y → encode y ≡ n
    at true test e = ap encode (sym (some_is x y e)) ∙ is ∙ sym (eqb-true _ _ test)
    at false test e = more e

abbrev missing : (A : Type 0) → Option A
missing A = None

pub no_line : {A : Type 0} (encode : A → ℕ) (n : ℕ) (y : A) → missing A ≡ Some y → encode y ≡ n
no_line encode n y e = absurd cc
