-- What is counted of a history.
use Rattle.std.proofs.Common.{◌≡◌, ℕ, ◌+◌, ◌-◌, ◌^◌, ◌≤◌, min, Bool, true, false, cond, arith, List, [], ◌∷◌, ◌++◌, append-nil, append_assoc, refl, sym, ap, subst, ◌∙◌, map, inl, inr, Some, None}
use Rattle.ht_base.specs.History.{Entry, IsLegal, end_of}
use Rattle.ht_base.specs.Readings.{call_of}
use Rattle.ht_base.specs.Records.{RecordOf}
use Rattle.ht_base.specs.declared.event.Event.{Event}
use Rattle.ht_base.specs.declared.event.Event.TheVariants.{Turn, Ask, Read}
use Rattle.ht_base.specs.declared.reply.Reply.{Reply}
use Rattle.ht_desk.specs.declared.counts.Counts.{Counts}
use Rattle.ht_desk.specs.Counting.{capped, no_counts, replied, with_joined}
use Rattle.ht_desk.specs.States.{IsOpened, State, is_asking}
use Rattle.ht_desk.specs.Steps.{Acts, Settles, Steps}
use Rattle.ht_desk.specs.Steps.Acts.{unsettled, out_of_memory, nothing_left, full, done, failed}
use Rattle.ht_desk.specs.Steps.Settles.{certain, dropped, joined, undecided}
use Rattle.ht_pool.specs.Crews.{Said}
use Rattle.ht_server.specs.Services.{Counted, asked_in, is_turn, taken_in, turns_in}

-- counts that stop at the greatest number of 64 bits
record Small (c : Counts) : Type 0 where
  turns : c.turns ≤ 2 ^ 64 - 1
  accepted : c.accepted ≤ 2 ^ 64 - 1
  taken : c.taken ≤ 2 ^ 64 - 1

asked_append : (xs ys : List RecordOf) → asked_in (xs ++ ys) ≡ asked_in xs + asked_in ys
asked_append [] ys = omega arith
asked_append (x ∷ xs) ys = let e = asked_append xs ys in omega (arith, e)

-- ---- records that join

record Joins (s t : State) : Type 0 where
  more : List RecordOf
  records : t.records ≡ s.records ++ more
  turns : t.counts.turns ≡ s.counts.turns
  accepted : t.counts.accepted ≡ capped (s.counts.accepted + asked_in more)
  taken : t.counts.taken ≡ s.counts.taken

joins_none : (s t : State) → Small s.counts → t.records ≡ s.records → t.counts ≡ s.counts → Joins s t
joins_none s t small records counts = record {
  more = [];
  records = records ∙ sym (append-nil s.records);
  turns = ap (λ (c : Counts). c.turns) counts;
  accepted = ap (λ (c : Counts). c.accepted) counts ∙ (let b = small.accepted in omega (arith, b));
  taken = ap (λ (c : Counts). c.taken) counts;
}

one_asked : (c : Counts) (asked : Bool) → c.accepted ≤ 2 ^ 64 - 1 → (with_joined c asked).accepted ≡ capped (c.accepted + (cond asked 1 0 + 0))
one_asked c true small = omega (arith, small)
one_asked c false small = omega (arith, small)

one_turns : (c : Counts) (asked : Bool) → (with_joined c asked).turns ≡ c.turns
one_turns c true = refl
one_turns c false = refl

one_taken : (c : Counts) (asked : Bool) → (with_joined c asked).taken ≡ c.taken
one_taken c true = refl
one_taken c false = refl

joins_one : (s t : State) (r : RecordOf) → Small s.counts → t.records ≡ s.records ++ r ∷ [] → t.counts ≡ with_joined s.counts (is_asking r) → Joins s t
joins_one s t r small records counts = record {
  more = r ∷ [];
  records = records;
  turns = ap (λ (c : Counts). c.turns) counts ∙ one_turns s.counts (is_asking r);
  accepted = ap (λ (c : Counts). c.accepted) counts ∙ one_asked s.counts (is_asking r) small.accepted;
  taken = ap (λ (c : Counts). c.taken) counts ∙ one_taken s.counts (is_asking r);
}

joins_on : (s t u : State) → Joins s t → Joins t u → Joins s u
joins_on s t u a b = record {
  more = a.more ++ b.more;
  records = b.records ∙ ap (λ rs. rs ++ b.more) a.records ∙ append_assoc s.records a.more b.more;
  turns = b.turns ∙ a.turns;
  accepted = capped_on s.counts.accepted t.counts.accepted u.counts.accepted (asked_in a.more) (asked_in b.more) (asked_in (a.more ++ b.more)) a.accepted b.accepted (asked_append a.more b.more);
  taken = b.taken ∙ a.taken;
}
  where
    capped_on : (a b c x y z : ℕ) → b ≡ capped (a + x) → c ≡ capped (b + y) → z ≡ x + y → c ≡ capped (a + z)
    capped_on a b c x y z first second sum = omega (arith, first, second, sum)

settled : (s mid : State) → Small s.counts → Settles s mid → Joins s mid
settled s mid small (certain none is) = joins_none s mid small (ap (λ (x : State). x.records) is) (ap (λ (x : State). x.counts) is)
settled s mid small (dropped r doubt is) = joins_none s mid small (ap (λ (x : State). x.records) is) (ap (λ (x : State). x.counts) is)
settled s mid small (joined r u doubt applies is) = joins_one s mid r small (ap (λ (x : State). x.records) is) (ap (λ (x : State). x.counts) is)
settled s mid small (undecided r doubt is rose) = joins_none s mid small (ap (λ (x : State). x.records) is) (ap (λ (x : State). x.counts) is)

acted_on : (mid acted : State) (e : Event) (r : Reply) → Small mid.counts → Acts mid e r acted → Joins mid acted
acted_on mid acted e r small (unsettled x doubt reply is) = joins_none mid acted small (ap (λ (x : State). x.records) is) (ap (λ (x : State). x.counts) is)
acted_on mid acted e r small (out_of_memory none reply is) = joins_none mid acted small (ap (λ (x : State). x.records) is) (ap (λ (x : State). x.counts) is)
acted_on mid acted e r small (nothing_left u none decides is) = joins_none mid acted small (ap (λ (x : State). x.records) is) (ap (λ (x : State). x.counts) is)
acted_on mid acted e r small (full x d u none decides over reply is) = joins_none mid acted small (ap (λ (x : State). x.records) is) (ap (λ (x : State). x.counts) is)
acted_on mid acted e r small (done x u none decides fits is) = joins_one mid acted _ small (ap (λ (x : State). x.records) is) (ap (λ (x : State). x.counts) is)
acted_on mid acted e r small (failed x d u none decides fits reply rose (inl is)) = joins_none mid acted small (ap (λ (x : State). x.records) is) (ap (λ (x : State). x.counts) is)
acted_on mid acted e r small (failed x d u none decides fits reply rose (inr is)) = joins_none mid acted small (ap (λ (x : State). x.records) is) (ap (λ (x : State). x.counts) is)

small_on : (s t : State) → Small s.counts → Joins s t → Small t.counts
small_on s t small j = record {
  turns = (let b = small.turns in let e = j.turns in omega (arith, b, e));
  accepted = (let e = j.accepted in omega (arith, e));
  taken = (let b = small.taken in let e = j.taken in omega (arith, b, e));
}

-- ---- one step

record Counts1 (s t : State) (said : List Said) : Type 0 where
  more : List RecordOf
  records : t.records ≡ s.records ++ more
  turns : t.counts.turns ≡ capped (s.counts.turns + turns_in said)
  accepted : t.counts.accepted ≡ capped (s.counts.accepted + asked_in more)
  taken : t.counts.taken ≡ capped (s.counts.taken + taken_in said)

turned : (c : Counts) (e : Event) (n : ℕ) → c.turns ≤ 2 ^ 64 - 1 → (replied c e n).turns ≡ capped (c.turns + (is_turn e + 0))
turned c (Turn at) n small = omega (arith, small)
turned c (Ask at caller retry task command) n small = omega (arith, small)
turned c (Read caller query) n small = omega (arith, small)

took : (c : Counts) (e : Event) (n : ℕ) → (replied c e n).taken ≡ capped (c.taken + (n + 0))
took c (Turn at) n = omega arith
took c (Ask at caller retry task command) n = omega arith
took c (Read caller query) n = omega arith

still : (c : Counts) (e : Event) (n : ℕ) → (replied c e n).accepted ≡ c.accepted
still c (Turn at) n = refl
still c (Ask at caller retry task command) n = refl
still c (Read caller query) n = refl

one_step : (pass : ℕ) (s t : State) (e : Event) (r : Reply) → Small s.counts → Steps s e r t → Counts1 s t ((pass, e, r) ∷ [])
one_step pass s t e r small step =
    let first = settled s step.mid small step.settles in
    let j = joins_on s step.mid step.acted first (acted_on step.mid step.acted e r (small_on s step.mid small first) step.acts) in
    let counts : t.counts ≡ replied step.acted.counts e r.taken = ap (λ (x : State). x.counts) step.counted in
    let bound = (small_on s step.acted small j).turns in
    record {
      more = j.more;
      records = ap (λ (x : State). x.records) step.counted ∙ j.records;
      turns = ap (λ (c : Counts). c.turns) counts ∙ turned step.acted.counts e r.taken bound ∙ ap (λ (n : ℕ). capped (n + (is_turn e + 0))) j.turns;
      accepted = ap (λ (c : Counts). c.accepted) counts ∙ still step.acted.counts e r.taken ∙ j.accepted;
      taken = ap (λ (c : Counts). c.taken) counts ∙ took step.acted.counts e r.taken ∙ ap (λ (n : ℕ). capped (n + (r.taken + 0))) j.taken;
    }

small_next : (s t : State) (said : List Said) → Counts1 s t said → Small t.counts
small_next s t said c = record {
  turns = (let e = c.turns in omega (arith, e));
  accepted = (let e = c.accepted in omega (arith, e));
  taken = (let e = c.taken in omega (arith, e));
}

-- ---- a history

counts_none : (s : State) → Small s.counts → Counts1 s s []
counts_none s small = record {
  more = [];
  records = sym (append-nil s.records);
  turns = (let b = small.turns in omega (arith, b));
  accepted = (let b = small.accepted in omega (arith, b));
  taken = (let b = small.taken in omega (arith, b));
}

counts_on : (s t u : State) (c : Said) (cs : List Said) → Counts1 s t (c ∷ []) → Counts1 t u cs → Counts1 s u (c ∷ cs)
counts_on s t u c cs a b = record {
  more = a.more ++ b.more;
  records = b.records ∙ ap (λ rs. rs ++ b.more) a.records ∙ append_assoc s.records a.more b.more;
  turns = two s.counts.turns t.counts.turns u.counts.turns (is_turn c.1) (turns_in cs) a.turns b.turns;
  accepted = three s.counts.accepted t.counts.accepted u.counts.accepted (asked_in a.more) (asked_in b.more) (asked_in (a.more ++ b.more)) a.accepted b.accepted (asked_append a.more b.more);
  taken = two s.counts.taken t.counts.taken u.counts.taken c.2.taken (taken_in cs) a.taken b.taken;
}
  where
    two : (a b c x y : ℕ) → b ≡ capped (a + (x + 0)) → c ≡ capped (b + y) → c ≡ capped (a + (x + y))
    two a b c x y first second = omega (arith, first, second)

    three : (a b c x y z : ℕ) → b ≡ capped (a + x) → c ≡ capped (b + y) → z ≡ x + y → c ≡ capped (a + z)
    three a b c x y z first second sum = omega (arith, first, second, sum)

counted_of : (s : State) (h : List (Entry State Event Reply)) → Small s.counts → IsLegal Steps s h → Counts1 s (end_of s h) (map call_of h)
counted_of s [] small legal = counts_none s small
counted_of s (e ∷ es) small legal =
    let first = one_step e.pass s e.after e.event e.reply small legal.0 in
    counts_on s e.after (end_of e.after es) (call_of e) (map call_of es) first (counted_of e.after es (small_next s e.after (call_of e ∷ []) first) legal.1)

none_before : (n : ℕ) → capped (0 + n) ≡ capped n
none_before n = omega arith

pub counted : (limit : ℕ) (s t : State) (h : List (Entry State Event Reply)) → IsOpened limit s → IsLegal Steps s h → end_of s h ≡ t → Counted s t (map call_of h)
counted limit s t h opened legal ends =
    let none : s.counts ≡ no_counts = opened.uncounted in
    let zero : Small s.counts = subst Small (sym none) (record { turns = omega arith; accepted = omega arith; taken = omega arith }) in
    let c = subst (λ (x : State). Counts1 s x (map call_of h)) ends (counted_of s h zero legal) in
    record {
      more = c.more;
      records = c.records;
      turns = c.turns ∙ ap (λ (k : Counts). capped (k.turns + turns_in (map call_of h))) none ∙ none_before (turns_in (map call_of h));
      accepted = c.accepted ∙ ap (λ (k : Counts). capped (k.accepted + asked_in c.more)) none ∙ none_before (asked_in c.more);
      taken = c.taken ∙ ap (λ (k : Counts). capped (k.taken + taken_in (map call_of h))) none ∙ none_before (taken_in (map call_of h));
    }
