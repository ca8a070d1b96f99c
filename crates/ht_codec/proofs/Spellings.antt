-- Spellings of records, and why bytes are none.
use Rattle.std.proofs.Common.{◌≡◌, ℕ, ◌-◌, ◌≤◌, List, [], ◌∷◌, ◌++◌, length, Result, Ok, Err, refl, sym, ap, subst, ◌∙◌, arith, inl, inr, ◌⊎◌}
use Rattle.std.specs.Prelude.{IfErr, IfOk}
use Rattle.std.proofs.lemmas.List.{append-nil, length-append}
use Rattle.ht_base.specs.Records.{RecordOf, record_of}
use Rattle.ht_base.specs.declared.record.Record.{Record}
use Rattle.ht_codec.specs.Reading.{place}
use Rattle.ht_codec.specs.Records.{IsBytes, IsRecord, entry, Spells, Refuses, ended, read_all, Answers}
use Rattle.ht_codec.specs.declared.refusal.CodecRefusal.{CodecRefusal}
use Rattle.ht_codec.specs.declared.refusal.CodecRefusal.TheVariants.{Short, Tag, Range, Trailing, Memory}
use Rattle.ht_codec.proofs.FormLaws.{first_failing, first_fails, first_told}
use Rattle.ht_codec.proofs.Ranges.{fits_is_valid}
use Rattle.ht_codec.proofs.RecordLaws.{entry_lawful}
use Rattle.ht_codec.proofs.Steps.{bind_ok, ok_is}

-- ---- reading all of the bytes

ended_ok : (whole : ℕ) (x : RecordOf × List ℕ) (r : RecordOf) → ended whole x ≡ Ok r → (x.0 ≡ r) × (x.1 ≡ [])
ended_ok whole (s, []) r e = (ok_is s r e, refl)
ended_ok whole (s, b ∷ left) r e = absurd cc

ended_err : (whole : ℕ) (r : RecordOf) (rest : List ℕ) (e : CodecRefusal) → ended whole (r, rest) ≡ Err e → (1 ≤ length rest) × (e ≡ Trailing (place whole rest))
ended_err whole r [] e h = absurd cc
ended_err whole r (b ∷ rest) e h = (omega arith, cc)

err_ended : (whole : ℕ) (r : RecordOf) (rest : List ℕ) (e : CodecRefusal) → (1 ≤ length rest) × (e ≡ Trailing (place whole rest)) → ended whole (r, rest) ≡ Err e
err_ended whole r [] e h = absurd (omega (arith, h.0))
err_ended whole r (b ∷ rest) e h = ap (λ d. Err d) (sym h.1)

-- what is read is spelled so
pub read_is_spelled : (bytes : List ℕ) (r : RecordOf) → IsBytes bytes → read_all bytes ≡ Ok r → Spells r bytes
unfolding read_all
read_is_spelled bytes r are e =
    let p = bind_ok (entry.read (length bytes) bytes) (λ x. ended (length bytes) x) r e in
    let s = entry_lawful.takes (length bytes) bytes p.0 are p.1 in
    let d = ended_ok (length bytes) p.0 r p.2 in
    let whole : bytes ≡ entry.text p.0.0 = s.1 ∙ ap (λ (l : List ℕ). entry.text p.0.0 ++ l) d.1 ∙ append-nil (entry.text p.0.0) in
    subst (λ (x : RecordOf). Spells x bytes) d.0 (s.0, whole)

-- and what is spelled so is read
pub spelled_is_read : (bytes : List ℕ) (r : RecordOf) → Spells r bytes → read_all bytes ≡ Ok r
unfolding read_all
spelled_is_read bytes r spells =
    let e : bytes ≡ entry.text r ++ [] = spells.1 ∙ sym (append-nil (entry.text r)) in
    let again : entry.read (length bytes) bytes ≡ Ok (r, []) = ap (entry.read (length bytes)) e ∙ entry_lawful.again (length bytes) r [] spells.0 in
    rw again refl

-- where reading fails, the bytes are refused so
pub read_is_refused : (bytes : List ℕ) (e : CodecRefusal) → IsBytes bytes → read_all bytes ≡ Err e → Refuses bytes e
unfolding read_all
read_is_refused bytes e are h =
    first_fails entry entry_lawful (ended (length bytes)) (λ r rest. (1 ≤ length rest) × (e ≡ Trailing (place (length bytes) rest))) (length bytes) bytes e are (λ r rest are f. ended_err (length bytes) r rest e f) h

-- and what is refused so is read so
pub refused_is_read : (bytes : List ℕ) (e : CodecRefusal) → Refuses bytes e → read_all bytes ≡ Err e
unfolding read_all
refused_is_read bytes e h =
    first_failing entry entry_lawful (ended (length bytes)) (λ r rest. (1 ≤ length rest) × (e ≡ Trailing (place (length bytes) rest))) (length bytes) bytes e (λ r rest f. err_ended (length bytes) r rest e f) h

-- ---- laws

-- one spelling is one record's, and begins no other
pub one_record : (r s : RecordOf) (a b more : List ℕ) → Spells r a → Spells s b → b ≡ a ++ more → (r ≡ s) × (more ≡ [])
one_record r s a b more p q e =
    let first : entry.read 0 b ≡ Ok (r, more) = ap (entry.read 0) (e ∙ ap (λ (l : List ℕ). l ++ more) p.1) ∙ entry_lawful.again 0 r more p.0 in
    let second : entry.read 0 b ≡ Ok (s, []) = ap (entry.read 0) (q.1 ∙ sym (append-nil (entry.text s))) ∙ entry_lawful.again 0 s [] q.0 in
    let both = ok_is (r, more) (s, []) (sym first ∙ second) in
    (ap (λ (x : RecordOf × List ℕ). x.0) both, ap (λ (x : RecordOf × List ℕ). x.1) both)

ended_told : (whole : ℕ) (r : RecordOf) (rest : List ℕ) → ended whole (r, rest) ≡ Err Memory → ⊥
ended_told whole r [] h = cc
ended_told whole r (b ∷ rest) h = cc

-- bytes are never refused for want of memory
pub not_memory : (bytes : List ℕ) → Refuses bytes Memory → ⊥
unfolding read_all
not_memory bytes h = first_told entry entry_lawful (ended (length bytes)) (length bytes) bytes (λ r rest f. ended_told (length bytes) r rest f) (refused_is_read bytes Memory h)

-- bytes are refused for one reason
pub one_refusal : (bytes : List ℕ) (d e : CodecRefusal) → Refuses bytes d → Refuses bytes e → d ≡ e
one_refusal bytes d e p q = let f = refused_is_read bytes d p in let g = refused_is_read bytes e q in cc

-- a spelling is not refused
pub not_refused : (bytes : List ℕ) (r : RecordOf) (e : CodecRefusal) → Spells r bytes → Refuses bytes e → ⊥
not_refused bytes r e p q = let f = spelled_is_read bytes r p in let g = refused_is_read bytes e q in cc

-- bytes spell a record, or are refused
pub some_answer : (bytes : List ℕ) → IsBytes bytes → ((r : RecordOf) × Spells r bytes) ⊎ ((e : CodecRefusal) × Refuses bytes e)
some_answer bytes are = at (read_all bytes) refl
  where
    at : (answer : Result RecordOf CodecRefusal) → read_all bytes ≡ answer → ((r : RecordOf) × Spells r bytes) ⊎ ((e : CodecRefusal) × Refuses bytes e)
    at (Ok r) is = inl (r, read_is_spelled bytes r are is)
    at (Err e) is = inr (e, read_is_refused bytes e are is)

-- a spelling that is cut is short, at its length
pub cut_is_short : (r : RecordOf) (bytes front : List ℕ) (c : ℕ) (more : List ℕ) → IsBytes front → Spells r bytes → bytes ≡ front ++ c ∷ more → Refuses front (Short (length front))
unfolding read_all
cut_is_short r bytes front c more are spells e =
    let cut : entry.read (length front) front ≡ Err (Short (length front)) = entry_lawful.cut (length front) r front c more spells.0 (sym spells.1 ∙ e) in
    read_is_refused front (Short (length front)) are (rw cut refl)

-- a spelling with more behind it is refused at its end
pub then_trailing : (r : RecordOf) (bytes : List ℕ) (b : ℕ) (more : List ℕ) → Spells r bytes → Refuses (bytes ++ b ∷ more) (Trailing (length bytes))
then_trailing r bytes b more spells = inr (record {
  value = r;
  rest = b ∷ more;
  fits = spells.0;
  spelled = ap (λ (l : List ℕ). l ++ b ∷ more) spells.1;
  fails = (omega arith, let n : length bytes ≡ length (bytes ++ b ∷ more) - length (b ∷ more) = omega (arith, length-append bytes (b ∷ more)) in ap (λ k. Trailing k) n);
})

-- ---- what is answered

pub found_from : (bytes : List ℕ) (result : Result Record CodecRefusal) → IsBytes bytes → Answers result (read_all bytes) → IfOk result (λ r. Spells (record_of r) bytes)
found_from bytes (Ok r) are answers = read_is_spelled bytes (record_of r) are answers
found_from bytes (Err e) are answers = tt

pub valid_from : (bytes : List ℕ) (result : Result Record CodecRefusal) → IfOk result (λ r. Spells (record_of r) bytes) → IfOk result (λ r. IsRecord (record_of r))
valid_from bytes (Ok r) h = fits_is_valid (record_of r) h.0
valid_from bytes (Err e) h = tt

pub refused_from : (bytes : List ℕ) (result : Result Record CodecRefusal) → IsBytes bytes → Answers result (read_all bytes) → IfErr result (λ why. (why ≡ Memory) ⊎ Refuses bytes why)
refused_from bytes (Ok r) are answers = tt
refused_from bytes (Err Memory) are answers = inl refl
refused_from bytes (Err (Short n)) are answers = inr (read_is_refused bytes (Short n) are answers)
refused_from bytes (Err (Tag n)) are answers = inr (read_is_refused bytes (Tag n) are answers)
refused_from bytes (Err (Range n)) are answers = inr (read_is_refused bytes (Range n) are answers)
refused_from bytes (Err (Trailing n)) are answers = inr (read_is_refused bytes (Trailing n) are answers)
