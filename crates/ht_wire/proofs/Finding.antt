-- The answers of `next_head`: what stands in front of the bytes read so far.
use Rattle.std.proofs.Common.{◌≡◌, ℕ, ◌<◌, ◌≤◌, ◌⊎◌, inl, inr, List, [], ◌++◌, length, drop, min, arith, refl, append-nil, append_assoc, length-append, ap, sym, subst, ◌∙◌, Option, Some, None}
use Rattle.std.proofs.lemmas.List.{take_all, take-append-drop, length-take}
use Rattle.httparse.specs.Grammar.{HasNoRequest, NeverHasRequest, MayBecomeRequest}
use Rattle.httparse.specs.Spans.{RequestExceeds, RequestOverflows}
use Rattle.ht_outside.specs.Tells.{Flow, IsAtEnd}
use Rattle.ht_wire.specs.declared.limits.TheConstants.{LONGEST_HEAD, MOST_FIELDS}
use Rattle.ht_wire.specs.declared.buffer.FillFault.{FillFault}
use Rattle.ht_wire.specs.declared.buffer.FillFault.TheVariants as fault
use Rattle.ht_wire.specs.declared.reading.Next.{Next}
use Rattle.ht_wire.specs.declared.reading.Next.TheVariants as next
use Rattle.ht_wire.specs.Buffer.{Gains, IsReadOrNone, Stays}
use Rattle.ht_wire.specs.Buffering.{ReadsOn, ReadsWhereNeeded, failure}
use Rattle.ht_wire.specs.Heads.{IsBegun, IsEnd, IsTooLong}
use Rattle.ht_wire.specs.Reading.{Reads, Finds, IsRefusedOn, RefusedAt}
use Rattle.ht_wire.specs.Requests.{IsRefused, IsUnfinished}
use Rattle.ht_wire.specs.Window.{front}
use Rattle.ht_wire.proofs.Outcomes.{never_on, exceeds_on, overflows_on, front_of, front_full, more_on}
use Rattle.ht_wire.proofs.Steps.{none_gained, took_more, took_still}
use Rattle.ht_wire.proofs.Uniqueness.{exact_of}

-- ---- the front

pub front_short : (bytes : List ℕ) → length (front bytes) < LONGEST_HEAD → front bytes ≡ bytes
front_short bytes short =
    let size : length (front bytes) ≡ min LONGEST_HEAD (length bytes) = length-take LONGEST_HEAD bytes in
    take_all LONGEST_HEAD bytes (omega (arith, size, short))

pub front_most : (bytes : List ℕ) → length (front bytes) ≤ LONGEST_HEAD
front_most bytes = let size : length (front bytes) ≡ min LONGEST_HEAD (length bytes) = length-take LONGEST_HEAD bytes in omega (arith, size)

-- what lies in the front lies in the bytes
pub within_all : (n : ℕ) (bytes : List ℕ) → n ≤ length (front bytes) → n ≤ length bytes
within_all n bytes within = let size : length (front bytes) ≡ min LONGEST_HEAD (length bytes) = length-take LONGEST_HEAD bytes in omega (arith, size, within)

pub short_of : (bytes : List ℕ) → length (front bytes) < LONGEST_HEAD → length bytes < LONGEST_HEAD
short_of bytes short = let same = ap (λ (l : List ℕ). length l) (front_short bytes short) in omega (arith, same, short)

-- the bytes are their front and what stands behind it
pub whole_on : (bytes more : List ℕ) → bytes ++ more ≡ front bytes ++ (drop LONGEST_HEAD bytes ++ more)
whole_on bytes more = ap (λ l. l ++ more) (sym (take-append-drop LONGEST_HEAD bytes)) ∙ append_assoc (front bytes) (drop LONGEST_HEAD bytes) more

abbrev pub IsPartial : List ℕ → Type 0
IsPartial bytes = (IsEnd bytes → ⊥) × IsBegun bytes

end_all : (bytes : List ℕ) → IsEnd (front bytes) → IsEnd bytes
end_all bytes end = subst IsEnd (front_short bytes end.short) end

partial_all : (bytes : List ℕ) → IsPartial (front bytes) → IsPartial bytes
partial_all bytes partial = subst IsPartial (front_short bytes (partial.1).short) partial

pub none_blank : (bytes : List ℕ) → IsEnd (front bytes) → IsUnfinished bytes
none_blank bytes blank = inl (end_all bytes blank)

pub none_partial : (bytes : List ℕ) → IsPartial (front bytes) → IsUnfinished bytes
none_partial bytes partial = inr (inl (partial_all bytes partial).1)

-- a read that is made where bytes are needed is the first, or one was needed before
pub needed_before : {A : Type 0} (before after : A) (old mid : List ℕ) → ReadsWhereNeeded before after old mid → IsUnfinished mid → IsUnfinished old
needed_before before after old mid (inl same) now = subst IsUnfinished same.1 now
needed_before before after old mid (inr then) now = then

-- ---- answers

-- the answer is about the bytes that were buffered when it was found
reads_of : (f g : Option Flow) (old mid new : List ℕ) (n : Next) → ReadsOn IsUnfinished f g old mid → Finds mid g new n → Reads f g old new n
reads_of f g old mid new n a finds =
    let mine : Finds (old ++ a.taken) g new n = subst (λ (bytes : List ℕ). Finds bytes g new n) a.behind finds in
    record { taken = a.taken; takes = a.takes; finds = mine; exact = exact_of f g old new a.taken n a.takes mine; needed = a.needed }

-- they are buffered still
pub found : (f g : Option Flow) (old new : List ℕ) (n : Next) → ReadsOn IsUnfinished f g old new → Finds new g new n → Reads f g old new n
found f g old new n a finds = reads_of f g old new new n a finds

pub found_end : (f g h : Option Flow) (old mid new : List ℕ) → ReadsOn IsUnfinished f g old mid → IsReadOrNone g h → Gains g h mid new 0 → IsEnd (front mid) → Reads f h old new next.End
found_end f g h old mid new a last b blank =
    let same : new ≡ mid = none_gained g h mid new b in
    found f h old new next.End (took_more IsUnfinished f g h old mid new 0 a (none_blank mid blank) last b) (refl, (b.ended refl, rw same (end_all mid blank)))

long_on : (buf left : List ℕ) → length buf ≤ LONGEST_HEAD → (RequestExceeds MOST_FIELDS buf × RequestOverflows MOST_FIELDS buf) ⊎ ((LONGEST_HEAD ≤ length buf) × HasNoRequest buf × MayBecomeRequest buf) → IsTooLong (buf ++ left)
long_on buf left within (inl both) = inl (rw (front_of buf left within) (exceeds_on buf _ both.0), rw (front_of buf left within) (overflows_on buf _ both.1))
long_on buf left within (inr full) =
    inr (let more = length-append buf left in let filled = full.0 in omega (arith, more, filled), rw (front_full buf left within full.0) full.1, rw (front_full buf left within full.0) full.2)

abbrev SeesLong : List ℕ → Type 0
SeesLong buf = (RequestExceeds MOST_FIELDS buf × RequestOverflows MOST_FIELDS buf) ⊎ ((LONGEST_HEAD ≤ length buf) × HasNoRequest buf × MayBecomeRequest buf)

-- whatever follows
long_on_any : (new more : List ℕ) → (IsEnd (front new) → ⊥) → SeesLong (front new) → IsRefused (new ++ more) 431
long_on_any new more not_end seen = record {
  more = rw (whole_on new more) (more_on (front new) (drop LONGEST_HEAD new ++ more) not_end);
  why = inl (refl, rw (whole_on new more) (long_on (front new) (drop LONGEST_HEAD new ++ more) (front_most new) seen));
}

-- what is refused whatever follows is refused as it is, and with what is left
refused_on_any : (g : Option Flow) (new : List ℕ) (code : ℕ) → ((more : List ℕ) → IsRefused (new ++ more) code) → RefusedAt g new code
refused_on_any None new code on = (subst (λ (l : List ℕ). IsRefused l code) (append-nil new) (on []), tt)
refused_on_any (Some flow) new code on = (subst (λ (l : List ℕ). IsRefused l code) (append-nil new) (on []), on flow.left)

long_at : (g : Option Flow) (new : List ℕ) → (IsEnd (front new) → ⊥) → SeesLong (front new) → RefusedAt g new 431
long_at g new not_end seen = refused_on_any g new 431 (λ more. long_on_any new more not_end seen)

pub found_long : (f g : Option Flow) (old new : List ℕ) → ReadsOn IsUnfinished f g old new → (IsEnd (front new) → ⊥) × SeesLong (front new) → Reads f g old new (next.Refused 431)
found_long f g old new a seen = found f g old new (next.Refused 431) a (refl, long_at g new seen.0 seen.1)

never_in : (buf left : List ℕ) → length buf ≤ LONGEST_HEAD → NeverHasRequest buf → NeverHasRequest (front (buf ++ left))
never_in buf left within never = rw (front_of buf left within) (never_on buf _ never)

never_on_any : (new more : List ℕ) → (IsEnd (front new) → ⊥) → NeverHasRequest (front new) → IsRefused (new ++ more) 400
never_on_any new more not_end never = record {
  more = rw (whole_on new more) (more_on (front new) (drop LONGEST_HEAD new ++ more) not_end);
  why = inr (inl (refl, inl (rw (whole_on new more) (never_in (front new) (drop LONGEST_HEAD new ++ more) (front_most new) never))));
}

never_at : (g : Option Flow) (new : List ℕ) → (IsEnd (front new) → ⊥) → NeverHasRequest (front new) → RefusedAt g new 400
never_at g new not_end never = refused_on_any g new 400 (λ more. never_on_any new more not_end never)

pub found_never : (f g : Option Flow) (old new : List ℕ) → ReadsOn IsUnfinished f g old new → (IsEnd (front new) → ⊥) × NeverHasRequest (front new) → Reads f g old new (next.Refused 400)
found_never f g old new a never = found f g old new (next.Refused 400) a (refl, never_at g new never.0 never.1)

cut_at : (h : Option Flow) (bytes : List ℕ) → IsAtEnd h → (IsEnd bytes → ⊥) → length bytes < LONGEST_HEAD → HasNoRequest bytes → RefusedAt h bytes 400
cut_at h bytes at_end more short none = (now, all_there h at_end)
  where
    now : IsRefused bytes 400
    now = record { more = more; why = inr (inl (refl, inr (short, rw (take_all LONGEST_HEAD bytes (omega (arith, short))) none))) }

    all_there : (h : Option Flow) → IsAtEnd h → IsRefusedOn h bytes 400
    all_there None end = tt
    all_there (Some flow) end = subst (λ (l : List ℕ). IsRefused l 400) (sym (append-nil bytes) ∙ ap (λ (l : List ℕ). bytes ++ l) (sym end)) now

-- the bytes end before the head does
pub found_cut : (f g h : Option Flow) (old mid new : List ℕ) → ReadsOn IsUnfinished f g old mid → IsReadOrNone g h → Gains g h mid new 0 → IsPartial (front mid) → Reads f h old new (next.Refused 400)
found_cut f g h old mid new a last b partial =
    let same : new ≡ mid = none_gained g h mid new b in
    let all = partial_all mid partial in
    found f h old new (next.Refused 400) (took_more IsUnfinished f g h old mid new 0 a (none_partial mid partial) last b) (refl, cut_at h new (b.ended refl) (rw same all.0) (rw same (all.1).short) (rw same (all.1).none))

-- the source failed, or there is no memory
pub found_fault : (f g h : Option Flow) (old mid new : List ℕ) (fault : FillFault) → ReadsOn IsUnfinished f g old mid → IsReadOrNone g h → Stays g h mid new → IsUnfinished mid → Reads f h old new (failure fault)
found_fault f g h old mid new fault.Failed a last b none =
    found f h old new next.ReadFault (took_still IsUnfinished f g h old mid new a none last b) (refl, subst IsUnfinished (sym b.same) none)
found_fault f g h old mid new fault.Memory a last b none = found f h old new next.Memory (took_still IsUnfinished f g h old mid new a none last b) refl
