-- Links served one behind another.
use Rattle.std.proofs.Common.{◌≡◌, ◌≢◌, ◌⊎◌, inl, inr, ℕ, ◌+◌, ◌<◌, ◌≤◌, true, arith, List, [], ◌∷◌, ◌++◌, length, length-append, append-nil, append_assoc, refl, sym, ap, subst, ◌∙◌, Option, Some, None, IfSome}
use Rattle.std.specs.Prelude.{option_map}
use Rattle.ht_outside.specs.Causes.{Rose, next_count}
use Rattle.ht_doors.specs.Doors.{DoorState, IsAccepted, LinkState, fresh}
use Rattle.ht_serve.specs.declared.ending.Ending.{Ending}
use Rattle.ht_serve.specs.declared.ending.Ending.TheVariants.{Memory}
use Rattle.ht_serve.specs.Calls.{Call}
use Rattle.ht_serve.specs.Exchanges.{calls}
use Rattle.ht_serve.specs.Serving.{Served, Sides, sides}
use Rattle.ht_serve.proofs.PublicLaws.{ending_of_input}
use Rattle.ht_workers.specs.declared.working.WorkEnd.{WorkEnd}
use Rattle.ht_workers.specs.declared.working.WorkEnd.TheVariants as ended
use Rattle.ht_workers.specs.Counts.{Rises}
use Rattle.ht_workers.specs.Working.{AreAsked, AreServed, EndsWork, HandsBack, IsServed, Stops, Works, connection_budget}
use Rattle.ht_workers.proofs.Asked.{asked_on, exchanges_asked}
use Rattle.ht_workers.proofs.Turns.{rises_none, rises_on, rises_one}

pub rose_later : (a b c : ℕ) → a ≤ b → Rose b c → Rose a c
rose_later a b c low rose = omega (arith, low, rose)

-- ---- one link

-- the same connection, as another tells of its calls, and of who is spent
module _ (A B : List Call → Type 0) (P Q : Type 0) (old new : Sides) (ending : Ending) where
  served_as : (s : Served A P true connection_budget 0 old new [] ending) → B (calls s.exchanges) → (P → Q) → Served B Q true connection_budget 0 old new [] ending
  served_as s made kept = record {
    exchanges = s.exchanges;
    taken = s.taken;
    takes = s.takes;
    rest = s.rest;
    serves = record { stand = s.serves.stand; numbered = s.serves.numbered; made = made; away = λ h. kept (s.serves.away h) };
    clock = s.clock;
    ends = s.ends;
    later = s.later;
  }

module _ (Spent : Type 0) (l : LinkState) (ending : Ending) (cs : List Call) (memory : ending ≢ Memory) (from to : Option (ℕ → ℕ)) where
  abbrev Beginning : LinkState → Type 0
  Beginning b = Served (λ c. c ≡ cs) Spent true connection_budget 0 (sides b.input b.output from) (sides l.input l.output to) [] ending

  is_served : (bytes : List ℕ) → Beginning (fresh bytes) → IsServed Spent l cs
  is_served bytes b = record {
    bytes = bytes;
    ending = ending;
    memory = memory;
    from = from;
    to = to;
    served = b;
    exact = λ read write. ending_of_input _ _ true connection_budget _ _ ending b read write memory;
  }

  hands_one : (old new : Option (List LinkState)) (l0 : LinkState) → IsAccepted old l0 → new ≡ option_map (λ b. b ++ l ∷ []) old → Beginning l0 → HandsBack Spent 1 old new cs
  hands_one None new l0 accepted is b = subst (λ n. HandsBack Spent 1 None n cs) (sym is) tt
  hands_one (Some old) new l0 accepted is b =
      let from_fresh : Beginning (fresh accepted.0) = subst Beginning accepted.1 b in
      subst (λ n. HandsBack Spent 1 (Some old) n cs) (sym is) (l ∷ [], refl, refl, (cs, [], sym (append-nil cs), is_served accepted.0 from_fresh, refl))

hands_none : (Spent : Type 0) (old new : Option (List LinkState)) → new ≡ old → HandsBack Spent 0 old new []
hands_none Spent None new is = subst (λ n. HandsBack Spent 0 None n []) (sym is) tt
hands_none Spent (Some old) new is = subst (λ n. HandsBack Spent 0 (Some old) n []) (sym is) ([], sym (append-nil old), refl, refl)

module _ (Made : List Call → Type 0) (Spent : Type 0) where
  -- none was taken
  pub works_none : (d : DoorState) → Made [] → Works Made Spent 0 d d
  works_none d none = record { calls = []; made = none; asked = tt; links = rises_none d.links; faults = omega arith; back = hands_none Spent d.back d.back refl }

  -- none could be taken
  pub stops_none : (d0 d1 : DoorState) → Made [] → d1.links ≡ d0.links → d1.back ≡ d0.back → d0.faults ≤ d1.faults → Stops Made Spent 0 d0 d1
  stops_none d0 d1 none same back later = record {
    calls = [];
    last = [];
    made = none;
    asked = tt;
    links = inl (subst (λ (n : ℕ). Rises d0.links n 0) (sym same) (rises_none d0.links), refl);
    faults = later;
    back = hands_none Spent d0.back d1.back back;
  }

  module _ (l0 l : LinkState) (from to : Option (ℕ → ℕ)) (ending : Ending) where
    -- one was taken, served and handed back
    pub works_one : (d0 d1 d2 : DoorState) → ending ≢ Memory → IsAccepted d0.back l0 → d1.links ≡ next_count d0.links → d1.back ≡ d0.back → d0.faults ≤ d1.faults
        → Served Made Spent true connection_budget 0 (sides l0.input l0.output from) (sides l.input l.output to) [] ending
        → d2.links ≡ d1.links → d2.back ≡ option_map (λ b. b ++ l ∷ []) d1.back → d1.faults ≤ d2.faults → Works Made Spent 1 d0 d2
    works_one d0 d1 d2 memory accepted counted back faults served same added later =
        let cs = calls served.exchanges in
        record {
          calls = cs;
          made = served.serves.made;
          asked = exchanges_asked true connection_budget from 0 served.exchanges served.serves.numbered;
          links = rises_one d0.links d2.links (same ∙ counted);
          faults = omega (arith, faults, later);
          back = hands_one Spent l ending cs memory from to d0.back d2.back l0 accepted (added ∙ ap (λ o. option_map (λ b. b ++ l ∷ []) o) back)
              (served_as Made (λ c. c ≡ cs) Spent Spent _ _ ending served refl (λ p. p));
        }

    -- one was taken and served, and isn't handed back
    pub stops_one : (d0 d2 : DoorState) → Served Made Spent true connection_budget 0 (sides l0.input l0.output from) (sides l.input l.output to) [] ending
        → d2.links ≡ next_count d0.links → d2.back ≡ d0.back → d0.faults ≤ d2.faults → Stops Made Spent 0 d0 d2
    stops_one d0 d2 served counted back later = record {
      calls = [];
      last = calls served.exchanges;
      made = served.serves.made;
      asked = exchanges_asked true connection_budget from 0 served.exchanges served.serves.numbered;
      links = inr (rises_one d0.links d2.links counted);
      faults = later;
      back = hands_none Spent d0.back d2.back back;
    }

-- ---- one behind another

module _ (P Q : Type 0) (kept : P → Q) where
  spent_later : (l : LinkState) (cs : List Call) → IsServed P l cs → IsServed Q l cs
  spent_later l cs a = record {
    bytes = a.bytes;
    ending = a.ending;
    memory = a.memory;
    from = a.from;
    to = a.to;
    served = served_as (λ c. c ≡ cs) (λ c. c ≡ cs) P Q _ _ a.ending a.served a.served.serves.made kept;
    exact = a.exact;
  }

  served_on : (ls ks : List LinkState) (xs ys : List Call) → AreServed P ls xs → AreServed Q ks ys → AreServed Q (ls ++ ks) (xs ++ ys)
  served_on [] ks xs ys a b = subst (λ (x : List Call). AreServed Q ks (x ++ ys)) (sym a) b
  served_on (l ∷ ls) ks xs ys a b =
      (a.0, a.1 ++ ys, ap (λ x. x ++ ys) a.2 ∙ append_assoc a.0 a.1 ys, spent_later l a.0 a.3, served_on ls ks a.1 ys a.4 b)

  hands_on : (n m : ℕ) (f g h : Option (List LinkState)) (xs ys : List Call) → HandsBack P n f g xs → HandsBack Q m g h ys → HandsBack Q (n + m) f h (xs ++ ys)
  hands_on n m None None None xs ys a b = tt
  hands_on n m None None (Some h) xs ys a b = absurd b
  hands_on n m None (Some g) h xs ys a b = absurd a
  hands_on n m (Some f) None h xs ys a b = absurd a
  hands_on n m (Some f) (Some g) None xs ys a b = absurd b
  hands_on n m (Some f) (Some g) (Some h) xs ys a b =
      (a.0 ++ b.0, b.1 ∙ ap (λ x. x ++ b.0) a.1 ∙ append_assoc f a.0 b.0, length-append a.0 b.0 ∙ ap (λ k. k + length b.0) a.2 ∙ ap (λ k. n + k) b.2, served_on a.0 b.0 xs ys a.3 b.3)

module _ (A B M : List Call → Type 0) (P Q : Type 0) (made_more : (xs ys : List Call) → A xs → B ys → M (xs ++ ys)) (kept : (ys : List Call) → B ys → P → Q) (d0 d1 d2 : DoorState) (n : ℕ) (a : Works A P n d0 d1) where
  pub works_on : (m : ℕ) → Works B Q m d1 d2 → Works M Q (n + m) d0 d2
  works_on m b = record {
    calls = a.calls ++ b.calls;
    made = made_more a.calls b.calls a.made b.made;
    asked = asked_on a.calls b.calls a.asked b.asked;
    links = rises_on d0.links d1.links d2.links n m _ refl a.links b.links;
    faults = (let x = a.faults in let y = b.faults in omega arith);
    back = hands_on P Q (kept b.calls b.made) n m d0.back d1.back d2.back a.calls b.calls a.back b.back;
  }

  pub stops_on : (m : ℕ) → Stops B Q m d1 d2 → Stops M Q (n + m) d0 d2
  stops_on m b =
      let same = append_assoc a.calls b.calls b.last in
      record {
        calls = a.calls ++ b.calls;
        last = b.last;
        made = subst M (sym same) (made_more a.calls (b.calls ++ b.last) a.made b.made);
        asked = subst AreAsked (sym same) (asked_on a.calls (b.calls ++ b.last) a.asked b.asked);
        links = links_on b.links;
        faults = (let x = a.faults in let y = b.faults in omega arith);
        back = hands_on P Q (kept (b.calls ++ b.last) b.made) n m d0.back d1.back d2.back a.calls b.calls a.back b.back;
      }
    where
      links_on : (Rises d1.links d2.links m × (b.last ≡ [])) ⊎ Rises d1.links d2.links (m + 1) → (Rises d0.links d2.links (n + m) × (b.last ≡ [])) ⊎ Rises d0.links d2.links ((n + m) + 1)
      links_on (inl one) = inl (rises_on d0.links d1.links d2.links n m _ refl a.links one.0, one.1)
      links_on (inr one) = inr (rises_on d0.links d1.links d2.links n (m + 1) _ (omega arith) a.links one)

  few_on : (share : Option ℕ) (m : ℕ) → m < 1 → IfSome share (λ most. n < most) → IfSome share (λ most. n + m < most)
  few_on None m low few = tt
  few_on (Some most) m low few = omega (arith, low, few)

  -- the next one wasn't served and handed back, so the worker ends
  pub ends_on : (share : Option ℕ) (e : WorkEnd) → (e ≡ ended.Done → ⊥) → IfSome share (λ most. n < most) → EndsWork B Q (Some 1) d1 d2 e → EndsWork M Q share d0 d2 e
  ends_on share ended.Done stops few b = absurd (stops refl)
  ends_on share ended.Door stops few b = ((n + b.0.0, few_on share b.0.0 b.0.1 few, stops_on b.0.0 b.0.2), rose_later d0.faults d1.faults d2.faults a.faults b.1)
  ends_on share ended.Memory stops few b = (n + b.0, few_on share b.0 b.1 few, stops_on b.0 b.2)

-- the same work, as another tells of its calls, and of who is spent
module _ (A B : List Call → Type 0) (P Q : Type 0) (made : (cs : List Call) → A cs → B cs) (kept : P → Q) where
  pub works_as : (n : ℕ) (old new : DoorState) → Works A P n old new → Works B Q n old new
  works_as n old new w = subst (λ (k : ℕ). Works B Q k old new) (let e : n + 0 ≡ n = omega arith in e)
      (works_on A (λ cs. cs ≡ []) B P Q (λ xs ys a none. subst B (sym (ap (λ (cs : List Call). xs ++ cs) none ∙ append-nil xs)) (made xs a)) (λ ys none p. kept p) old new new n w 0 (works_none (λ cs. cs ≡ []) Q new refl))
