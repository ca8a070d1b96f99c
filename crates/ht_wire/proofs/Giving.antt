-- The answers of `give_out`: a head that was found, with the body behind it.
use Rattle.std.proofs.Common.{◌≡◌, ℕ, ◌≤◌, ◌⊎◌, inl, inr, List, [], ◌++◌, length, drop, arith, append-nil, append_assoc, length-append, ap, sym, subst, ◌∙◌, Option, Some, None, Err}
use Rattle.std.proofs.lemmas.List.{take-append-drop, drop-append-le}
use Rattle.httparse.specs.declared.spans.HeaderSpan.{HeaderSpan}
use Rattle.httparse.specs.declared.spans.RequestSpans.{RequestSpans}
use Rattle.httparse.specs.Grammar.{RequestHead, ReadsRequest}
use Rattle.httparse.specs.Spans.{IsRequestAt, span_bytes}
use Rattle.ht_outside.specs.Tells.{Flow, Takes, IsAtEnd}
use Rattle.ht_outside.proofs.PublicLaws.{Takes-trans}
use Rattle.ht_wire.specs.declared.limits.TheConstants.{LONGEST_HEAD}
use Rattle.ht_wire.specs.declared.looking.Sight.TheVariants.{Head}
use Rattle.ht_wire.specs.declared.reading.Next.{Next}
use Rattle.ht_wire.specs.declared.reading.Next.TheVariants as next
use Rattle.ht_wire.specs.declared.request.Request.{Request}
use Rattle.ht_wire.specs.Bodies.{announced}
use Rattle.ht_wire.specs.Buffering.{ReadsOn}
use Rattle.ht_wire.specs.GivingOut.{GivesAs, GivesOut, fields_at}
use Rattle.ht_wire.specs.Heads.{IsHead, fields_of}
use Rattle.ht_wire.specs.Looking.{Sees}
use Rattle.ht_wire.specs.Reading.{Finds, IsRefusedOn, Reads, RefusedAt}
use Rattle.ht_wire.specs.Requests.{Carries, IsCutShort, IsRefused, IsUnfinished}
use Rattle.ht_wire.specs.Window.{front}
use Rattle.ht_wire.proofs.Finding.{front_most}
use Rattle.ht_wire.proofs.Outcomes.{reads_on, more_on}
use Rattle.ht_wire.proofs.Steps.{needed_then, weaker}
use Rattle.ht_wire.proofs.Uniqueness.{exact_of, head_or_end}

carried : (bytes : List ℕ) (headers : List HeaderSpan) (spans : RequestSpans) (h : RequestHead) (r : Request) → IsRequestAt bytes headers spans h
    → Carries (span_bytes bytes spans.method) (span_bytes bytes spans.path) spans.version (fields_at bytes headers spans) r → Carries h.method h.target h.minor (fields_of h) r
carried bytes headers spans h r at is = record {
  method_is = is.method_is ∙ at.method;
  target_is = is.target_is ∙ at.path;
  person_is = rw (← at.fields) is.person_is;
  last_is = rw (← at.version, ← at.fields) is.last_is;
}

module _ (mid : List ℕ) (headers : List HeaderSpan) (spans : RequestSpans) (seen : Sees (front mid) headers (Head spans)) where
  abbrev h : RequestHead
  h = seen.2.0

  abbrev fields : List (List ℕ × List ℕ)
  fields = fields_at (front mid) headers spans

  fields_is : fields ≡ fields_of h
  fields_is = seen.2.1.fields

  inside : spans.len ≤ length (front mid)
  inside = seen.1.section.len_fits

  inside_all : (more : List ℕ) → spans.len ≤ length (mid ++ more)
  inside_all more =
      let fits = inside in
      let cut = ap (λ (l : List ℕ). length l) (take-append-drop LONGEST_HEAD mid) in
      let parts = length-append (front mid) (drop LONGEST_HEAD mid) in
      let all = length-append mid more in
      omega (arith, fits, cut, parts, all)

  -- the head stands whole in the bytes as they go on
  reads_whole : (more : List ℕ) → ReadsRequest (mid ++ more) h (drop spans.len (mid ++ more))
  reads_whole more =
      let on : ReadsRequest (front mid ++ (drop LONGEST_HEAD mid ++ more)) h (drop spans.len (front mid) ++ (drop LONGEST_HEAD mid ++ more)) = reads_on (front mid) (drop LONGEST_HEAD mid ++ more) h (drop spans.len (front mid)) seen.2.1.reads in
      let whole : front mid ++ (drop LONGEST_HEAD mid ++ more) ≡ mid ++ more = sym (append_assoc (front mid) (drop LONGEST_HEAD mid) more) ∙ ap (λ (l : List ℕ). l ++ more) (take-append-drop LONGEST_HEAD mid) in
      let rest : drop spans.len (front mid) ++ (drop LONGEST_HEAD mid ++ more) ≡ drop spans.len (mid ++ more) = sym (drop-append-le spans.len (front mid) (drop LONGEST_HEAD mid ++ more) inside) ∙ ap (drop spans.len) whole in
      subst (λ (l : List ℕ). ReadsRequest l h (drop spans.len (mid ++ more))) whole (subst (λ (l : List ℕ). ReadsRequest (front mid ++ (drop LONGEST_HEAD mid ++ more)) h l) rest on)

  stands : (more : List ℕ) → IsHead (mid ++ more) h (drop spans.len (mid ++ more))
  stands more = record { reads = reads_whole more; short = (let e = seen.2.1.len in let fits = inside in let most = front_most mid in omega (arith, e, fits, most)); few = seen.2.2 }

  cut_is : (behind : List ℕ) → IsCutShort fields behind → IsCutShort (fields_of h) behind
  cut_is behind cut = subst (λ (fs : List (List ℕ × List ℕ)). IsCutShort fs behind) fields_is cut

  unfinished : (more : List ℕ) → IsCutShort fields (drop spans.len (mid ++ more)) → IsUnfinished (mid ++ more)
  unfinished more cut = inr (inr (h, drop spans.len (mid ++ more), stands more, cut_is (drop spans.len (mid ++ more)) cut))

  -- of the bytes that were there
  pub unfinished_now : IsCutShort fields (drop spans.len mid) → IsUnfinished mid
  unfinished_now cut = subst IsUnfinished (append-nil mid) (unfinished [] (subst (λ (l : List ℕ). IsCutShort fields (drop spans.len l)) (sym (append-nil mid)) cut))

  -- with more bytes, in which the body isn't whole either
  refused_with : (more left : List ℕ) (code : ℕ) → (announced fields ≡ Err code) ⊎ ((code ≡ 400) × IsCutShort fields (drop spans.len (mid ++ more) ++ left)) → IsRefused ((mid ++ more) ++ left) code
  refused_with more left code why = record {
    more = more_on (mid ++ more) left (head_or_end (mid ++ more) h (drop spans.len (mid ++ more)) (stands more));
    why = inr (inr (h, drop spans.len (mid ++ more) ++ left, on, body why));
  }
    where
      on : IsHead ((mid ++ more) ++ left) h (drop spans.len (mid ++ more) ++ left)
      on = let s = stands more in record { reads = reads_on (mid ++ more) left h (drop spans.len (mid ++ more)) s.reads; short = s.short; few = s.few }

      body : (announced fields ≡ Err code) ⊎ ((code ≡ 400) × IsCutShort fields (drop spans.len (mid ++ more) ++ left)) → (announced (fields_of h) ≡ Err code) ⊎ ((code ≡ 400) × IsCutShort (fields_of h) (drop spans.len (mid ++ more) ++ left))
      body (inl e) = inl (ap announced (sym fields_is) ∙ e)
      body (inr cut) = inr (cut.0, cut_is (drop spans.len (mid ++ more) ++ left) cut.1)

  refused : (g : Option Flow) (more : List ℕ) (code : ℕ) → (announced fields ≡ Err code) ⊎ ((code ≡ 400) × IsCutShort fields (drop spans.len (mid ++ more)) × IsAtEnd g) → RefusedAt g (mid ++ more) code
  refused g more code why = (subst (λ (l : List ℕ). IsRefused l code) (append-nil (mid ++ more)) (refused_with more [] code (now why)), with_left g why)
    where
      behind : List ℕ
      behind = drop spans.len (mid ++ more)

      IsWhy : Option Flow → Type 0
      IsWhy f = (announced fields ≡ Err code) ⊎ ((code ≡ 400) × IsCutShort fields behind × IsAtEnd f)

      now : IsWhy g → (announced fields ≡ Err code) ⊎ ((code ≡ 400) × IsCutShort fields (behind ++ []))
      now (inl e) = inl e
      now (inr cut) = inr (cut.0, subst (λ (l : List ℕ). IsCutShort fields l) (sym (append-nil behind)) cut.1)

      with_left : (f : Option Flow) → IsWhy f → IsRefusedOn f (mid ++ more) code
      with_left None w = tt
      with_left (Some flow) (inl e) = refused_with more flow.left code (inl e)
      with_left (Some flow) (inr cut) = refused_with more flow.left code (inr (cut.0, subst (λ (l : List ℕ). IsCutShort fields l) (sym (append-nil behind) ∙ ap (λ (l : List ℕ). behind ++ l) (sym cut.2)) cut.1))

  gives : (g : Option Flow) (more new : List ℕ) (n : Next) → GivesAs g (mid ++ more) (front mid) headers spans new n → Finds (mid ++ more) g new n
  gives g more new (next.Request r) out = record {
    head = h;
    stands = subst (λ (l : List ℕ). IsHead (mid ++ more) h l) out.0 (stands more);
    sized = ap announced (sym fields_is) ∙ out.1;
    carries = carried (front mid) headers spans h r seen.2.1 out.2;
  }
  gives g more new next.End out = absurd out
  gives g more new (next.Refused code) out = (out.0, refused g more code out.1)
  gives g more new next.ReadFault out = (out.0, unfinished more out.1)
  gives g more new next.Memory out = out

  pub found_head : (f g h : Option Flow) (old new : List ℕ) (n : Next) → ReadsOn IsUnfinished f g old mid → GivesOut g h mid headers spans new n → Reads f h old new n
  found_head f g h old new n a out =
      let whole : mid ++ out.taken ≡ old ++ (a.taken ++ out.taken) = ap (λ (l : List ℕ). l ++ out.taken) a.behind ∙ append_assoc old a.taken out.taken in
      let takes : Takes f h (a.taken ++ out.taken) = Takes-trans f g h a.taken out.taken a.takes out.takes in
      let finds : Finds (old ++ (a.taken ++ out.taken)) h new n = subst (λ (l : List ℕ). Finds l h new n) whole (gives h out.taken new n out.gives) in
      record {
        taken = a.taken ++ out.taken;
        takes = takes;
        finds = finds;
        exact = exact_of f h old new (a.taken ++ out.taken) n takes finds;
        needed = needed_then IsUnfinished f g h old mid a.taken a.takes a.behind a.needed (weaker (λ bytes. IsCutShort fields (drop spans.len bytes)) IsUnfinished g h mid unfinished out.needed);
      }
