-- The answers of `give_out`: the body behind a head is read.
use Rattle.std.proofs.Common.{◌≡◌, ℕ, Bool, ◌||◌, ◌==◌, codes, ◌+◌, ◌-◌, ◌<◌, ◌≤◌, ◌⊎◌, inl, inr, List, [], ◌++◌, length, take, drop, slice_range, arith, append-nil, length-append, ap, sym, subst, ◌∙◌, Option, Some, None, Ok, Err}
use Rattle.std.proofs.lemmas.Bool.{cases_lt}
use Rattle.std.proofs.lemmas.List.{take-append-drop, drop-drop, length-drop, length-take-le}
use Rattle.std.specs.List.{list_any}
use Rattle.httparse.specs.declared.spans.HeaderSpan.{HeaderSpan}
use Rattle.httparse.specs.declared.spans.RequestSpans.{RequestSpans}
use Rattle.httparse.specs.Spans.{span_bytes}
use Rattle.ht_outside.specs.Tells.{Flow}
use Rattle.ht_outside.proofs.PublicLaws.{Takes-none}
use Rattle.ht_wire.specs.declared.reading.Next.{Next}
use Rattle.ht_wire.specs.declared.reading.Next.TheVariants as next
use Rattle.ht_wire.specs.declared.request.Request.{Request}
use Rattle.ht_wire.specs.Bodies.{announced}
use Rattle.ht_wire.specs.Buffering.{ComesTo, FindsBody, ReadsOn}
use Rattle.ht_wire.specs.Fields.{is_close, name_in, only, values_of}
use Rattle.ht_wire.specs.GivingOut.{GivesAs, GivesOut, fields_at}
use Rattle.ht_wire.specs.Requests.{Carries, IsCutShort}
use Rattle.ht_wire.specs.Window.{front}
use Rattle.ht_wire.proofs.Steps.{needed_none, weaker}

-- the fields alone decide
pub refused_now : (f : Option Flow) (old : List ℕ) (headers : List HeaderSpan) (spans : RequestSpans) (code : ℕ) → Err code ≡ announced (fields_at (front old) headers spans) → GivesOut f f old headers spans old (next.Refused code)
refused_now f old headers spans code is = record {
  taken = [];
  takes = Takes-none f;
  gives = (sym (append-nil old), inl (sym is));
  needed = needed_none (λ bytes. IsCutShort (fields_at (front old) headers spans) (drop spans.len bytes)) f old;
}

-- the parts of a request are those of its head
pub carried : (method target : List ℕ) (minor : ℕ) (fields : List (List ℕ × List ℕ)) (r : Request) (value : Option (List ℕ)) (close : Bool) → r.method ≡ method → r.target.items ≡ target
    → r.person ≡ name_in value → value ≡ only (values_of (codes "x-person") fields) → r.last ≡ (minor == 0 || close) → close ≡ list_any is_close fields → Carries method target minor fields r
carried method target minor fields r value close one two person value_is last close_is = record {
  method_is = one;
  target_is = two;
  person_is = person ∙ ap name_in value_is;
  last_is = last ∙ ap (λ c. minor == 0 || c) close_is;
}

-- there is none
pub no_body : (f : Option Flow) (old : List ℕ) (headers : List HeaderSpan) (spans : RequestSpans) (n : ℕ) → Ok n ≡ announced (fields_at (front old) headers spans) → n ≡ 0 → (r : Request) (new : List ℕ) → r.body.items ≡ [] → new ≡ drop spans.len old
    → Carries (span_bytes (front old) spans.method) (span_bytes (front old) spans.path) spans.version (fields_at (front old) headers spans) r → GivesOut f f old headers spans new (next.Request r)
no_body f old headers spans n is none r new body rest carries = record {
  taken = [];
  takes = Takes-none f;
  gives = (
    ap (drop spans.len) (append-nil old) ∙ sym rest ∙ ap (λ l. l ++ new) (sym body),
    sym is ∙ ap Ok (none ∙ sym (ap (λ (l : List ℕ). length l) body)),
    carries,
  );
  needed = needed_none (λ bytes. IsCutShort (fields_at (front old) headers spans) (drop spans.len bytes)) f old;
}

-- where no byte is missing, all are there
pub all_there : (old : List ℕ) (headers : List HeaderSpan) (spans : RequestSpans) (n : ℕ) → Ok n ≡ announced (fields_at (front old) headers spans) → spans.len ≤ length old
    → (IsCutShort (fields_at (front old) headers spans) (drop spans.len old) → ⊥) → spans.len + n ≤ length old
all_there old headers spans n is inside not_short = by_size (cases_lt (length old) (spans.len + n))
  where
    by_size : (length old < spans.len + n) ⊎ (spans.len + n ≤ length old) → spans.len + n ≤ length old
    by_size (inl short) = absurd (not_short (n, sym is, (let behind = length-drop spans.len old in let within = inside in omega (arith, behind, within, short))))
    by_size (inr whole) = whole

-- a body of n bytes was read, as far as it came
module _ (f g : Option Flow) (old new : List ℕ) (headers : List HeaderSpan) (spans : RequestSpans) (n : ℕ) (is : Ok n ≡ announced (fields_at (front old) headers spans)) (inside : spans.len ≤ length old) where
  abbrev IsShort : List ℕ → Type 0
  IsShort bytes = IsCutShort (fields_at (front old) headers spans) (drop spans.len bytes)

  short_of : (more : List ℕ) → length (old ++ more) < spans.len + n → IsShort (old ++ more)
  short_of more short = (
    n,
    sym is,
    (let all = length-append old more in
        let behind = length-drop spans.len (old ++ more) in
        let within = inside in
        omega (arith, all, behind, within, short)),
  )

  given : (now : List ℕ) (x : Next) (reads : ReadsOn (λ bytes. length bytes < spans.len + n) f g old now) → GivesAs g (old ++ reads.taken) (front old) headers spans new x → GivesOut f g old headers spans new x
  given now x reads gives = record {
    taken = reads.taken;
    takes = reads.takes;
    gives = gives;
    needed = weaker (λ bytes. length bytes < spans.len + n) IsShort f g old short_of reads.needed;
  }

  pub short_body : (x : Next) → FindsBody (spans.len + n) f g old new (Some x) → GivesOut f g old headers spans new x
  short_body x b = given new x b.reads (by_answer x b.comes)
    where
      cut : length new < spans.len + n → IsShort (old ++ b.reads.taken)
      cut short = short_of b.reads.taken (subst (λ (l : List ℕ). length l < spans.len + n) b.reads.behind short)

      by_answer : (x : Next) → ComesTo (spans.len + n) g new (Some x) → GivesAs g (old ++ b.reads.taken) (front old) headers spans new x
      by_answer (next.Request r) comes = absurd comes.1
      by_answer next.End comes = absurd comes.1
      by_answer (next.Refused code) comes = (b.reads.behind, inr (comes.1.0, cut comes.0, comes.1.1))
      by_answer next.ReadFault comes = (b.reads.behind, cut comes.0)
      by_answer next.Memory comes = b.reads.behind

  pub no_room : FindsBody (spans.len + n) f g old new None → GivesOut f g old headers spans new next.Memory
  no_room b = given new next.Memory b.reads b.reads.behind

-- the body is given out of the bytes that are there now
module _ (f g : Option Flow) (old now : List ℕ) (headers : List HeaderSpan) (spans : RequestSpans) (n : ℕ) (is : Ok n ≡ announced (fields_at (front old) headers spans)) (inside : spans.len ≤ length old) where
  pub whole_body : (r : Request) (new : List ℕ) → FindsBody (spans.len + n) f g old now None → r.body.items ≡ slice_range now spans.len (spans.len + n) → new ≡ drop (spans.len + n) now
      → Carries (span_bytes (front old) spans.method) (span_bytes (front old) spans.path) spans.version (fields_at (front old) headers spans) r → GivesOut f g old headers spans new (next.Request r)
  whole_body r new b body rest carries = given f g old new headers spans n is inside now (next.Request r) b.reads (parts, sized, carries)
    where
      cut : r.body.items ≡ take n (drop spans.len now)
      cut = body ∙ ap (λ k. take k (drop spans.len now)) (let e : spans.len + n - spans.len ≡ n = omega arith in e)

      parts : drop spans.len (old ++ b.reads.taken) ≡ r.body.items ++ new
      parts =
          ap (drop spans.len) (sym b.reads.behind) ∙ sym (take-append-drop n (drop spans.len now)) ∙ ap (λ l. l ++ drop n (drop spans.len now)) (sym cut)
          ∙ ap (λ l. r.body.items ++ l) (drop-drop n spans.len now ∙ sym rest)

      size : length r.body.items ≡ n
      size = ap (λ (l : List ℕ). length l) cut ∙ length-take-le n (drop spans.len now) (let behind = length-drop spans.len now in let whole = b.comes in omega (arith, behind, whole))

      sized : announced (fields_at (front old) headers spans) ≡ Ok (length r.body.items)
      sized = sym is ∙ ap Ok (sym size)
