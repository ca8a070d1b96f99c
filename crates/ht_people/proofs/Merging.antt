-- Two ascending lists of persons, gone through at once.
use Rattle.std.proofs.Common.{◌≡◌, ◌≢◌, ◌∙◌, ℕ, ◌+◌, ◌<◌, ◌≤◌, Bool, true, false, ◌||◌, ◌==◌, ◌⊎◌, List, [], ◌∷◌, ◌++◌, length, min, Some, None, if◌then◌else◌, ap, arith, eq-eqb, inl, inr, refl, subst, sym}
use Rattle.std.proofs.Math.Bool.{or-false}
use Rattle.std.proofs.lemmas.Bool.{cases_lt, eqb-true, ne_eqb, or_from}
use Rattle.std.proofs.lemmas.List.Folds.{list_any-append}
use Rattle.ht_base.specs.Persons.{AllBelow, Ascends, AscendsFrom, has}
use Rattle.ht_people.specs.declared.sets.Keep.{Keep}
use Rattle.ht_people.specs.declared.sets.Keep.TheVariants.{Either, Both, FirstAlone}
use Rattle.ht_people.specs.Sets.{begins_with, keeps, least_head, without_head}

-- ---- who is in an ascending list

has_low : (n q : ℕ) (ps : List ℕ) → AscendsFrom n ps → q < n → has q ps ≡ false
has_low n q [] a h = refl
has_low n q (p ∷ ps) a h = let low = a.0 in or_from (p == q) (has q ps) (ne_eqb p q (λ e. omega arith)) (has_low (p + 1) q ps a.1 (omega arith))

has_high : (n q : ℕ) (ps : List ℕ) → AllBelow n ps → n ≤ q → has q ps ≡ false
has_high n q [] b h = refl
has_high n q (p ∷ ps) b h = let low = b.0 in or_from (p == q) (has q ps) (ne_eqb p q (λ e. omega arith)) (has_high n q ps b.1 h)

pub all_below : (m n : ℕ) (ps : List ℕ) → AllBelow m ps → m ≤ n → AllBelow n ps
all_below m n [] b h = tt
all_below m n (p ∷ ps) b h = ((let low = b.0 in omega arith), all_below m n ps b.1 h)

pub push_below : (n : ℕ) (ps : List ℕ) → AllBelow n ps → AllBelow (n + 1) (ps ++ n ∷ [])
push_below n [] b = (omega arith, tt)
push_below n (p ∷ ps) b = ((let low = b.0 in omega arith), push_below n ps b.1)

-- ---- a list without its head

behind_ascends : (person : ℕ) (ps : List ℕ) → AscendsFrom person ps → AscendsFrom (person + 1) (without_head person ps)
behind_ascends person [] a = tt
behind_ascends person (p ∷ ps) a = at (p == person) refl
  where
    at : (b : Bool) → (p == person) ≡ b → AscendsFrom (person + 1) (if b then ps else p ∷ ps)
    at true e = let one = eqb-true p person e in subst (λ (n : ℕ). AscendsFrom (n + 1) ps) one a.1
    at false e = ((let low = a.0 in let other : p ≢ person = (λ one. let is = eq-eqb p person one in cc) in omega arith), a.1)

has_first : (person : ℕ) (ps : List ℕ) → AscendsFrom person ps → has person ps ≡ begins_with person ps
has_first person [] a = refl
has_first person (p ∷ ps) a = let low = a.0 in ap (λ (b : Bool). (p == person) || b) (has_low (p + 1) person ps a.1 (omega arith)) ∙ or-false (p == person)

has_other : (person q : ℕ) (ps : List ℕ) → q ≢ person → has q (without_head person ps) ≡ has q ps
has_other person q [] ne = refl
has_other person q (p ∷ ps) ne = at (p == person) refl
  where
    at : (b : Bool) → (p == person) ≡ b → has q (if b then ps else p ∷ ps) ≡ has q (p ∷ ps)
    at true e = let one = eqb-true p person e in sym (ap (λ (b : Bool). b || has q ps) (ne_eqb p q (λ is. ne (sym is ∙ one))))
    at false e = refl

shorter : (person : ℕ) (ps : List ℕ) → length (without_head person ps) ≤ length ps
shorter person [] = omega arith
shorter person (p ∷ ps) = at (p == person)
  where
    at : (b : Bool) → length (if b then ps else p ∷ ps) ≤ length (p ∷ ps)
    at true = omega arith
    at false = omega arith

-- ---- the lower head of two lists

module _ (n person : ℕ) where
  lower_heads : (first second : List ℕ) → least_head first second ≡ Some person → AscendsFrom n first → AscendsFrom n second → (n ≤ person) × AscendsFrom person first × AscendsFrom person second
  lower_heads [] [] h a b = cc
  lower_heads [] (q ∷ qs) h a b = let one : q ≡ person = cc in let low = b.0 in (omega arith, tt, (omega arith, b.1))
  lower_heads (p ∷ ps) [] h a b = let one : p ≡ person = cc in let low = a.0 in (omega arith, (omega arith, a.1), tt)
  lower_heads (p ∷ ps) (q ∷ qs) h a b = let one : min p q ≡ person = cc in let low = a.0 in let down = b.0 in (omega arith, (omega arith, a.1), (omega arith, b.1))

  pub goes_down : (first second : List ℕ) → least_head first second ≡ Some person → length (without_head person first) + length (without_head person second) < length first + length second
  goes_down [] [] h = cc
  goes_down [] (q ∷ qs) h = let one : q ≡ person = cc in rw (eq-eqb q person one) (omega arith)
  goes_down (p ∷ ps) [] h = let one : p ≡ person = cc in rw (eq-eqb p person one) (omega arith)
  goes_down (p ∷ ps) (q ∷ qs) h = let one : min p q ≡ person = cc in at (cases_lt q p) one
    where
      at : (q < p) ⊎ (p ≤ q) → min p q ≡ person → length (without_head person (p ∷ ps)) + length (without_head person (q ∷ qs)) < length (p ∷ ps) + length (q ∷ qs)
      at (inl l) one = let is : q ≡ person = omega arith in let rest = shorter person (p ∷ ps) in rw (eq-eqb q person is) (omega arith)
      at (inr l) one = let is : p ≡ person = omega arith in let rest = shorter person (q ∷ qs) in rw (eq-eqb p person is) (omega arith)

-- ---- what was merged so far

-- those who were merged and those who are left make up the set; the merged ascend, and are below
-- those left
pub record Merges (keep : Keep) (firsts seconds : List ℕ) (first second merged : List ℕ) : Type 0 where
  pub next : ℕ
  pub ascends : Ascends merged
  pub below : AllBelow next merged
  pub first_ascends : AscendsFrom next first
  pub second_ascends : AscendsFrom next second
  pub same : (p : ℕ) → keeps keep (has p firsts) (has p seconds) ≡ (has p merged || keeps keep (has p first) (has p second))

keeps_nobody : (keep : Keep) → keeps keep false false ≡ false
keeps_nobody Either = refl
keeps_nobody Both = refl
keeps_nobody FirstAlone = refl

pub begun : (keep : Keep) (firsts seconds : List ℕ) → AscendsFrom 0 firsts → AscendsFrom 0 seconds → Merges keep firsts seconds firsts seconds []
begun keep firsts seconds a b = record { next = 0; ascends = tt; below = tt; first_ascends = a; second_ascends = b; same = λ p. refl }

-- a person who is put behind all others, if the test says so
module _ (person : ℕ) (merged : List ℕ) (below : AllBelow person merged) where
  more_below : (b : Bool) (more : List ℕ) → more ≡ (if b then merged ++ person ∷ [] else merged) → AllBelow (person + 1) more
  more_below true more is = rw is (push_below person merged below)
  more_below false more is = rw is (all_below person (person + 1) merged below (omega arith))

  more_has : (b : Bool) (more : List ℕ) → more ≡ (if b then merged ++ person ∷ [] else merged) → has person more ≡ b
  more_has true more is = rw (is, list_any-append (λ p. p == person) merged (person ∷ []), has_high person person merged below (omega arith), eq-eqb person person refl) refl
  more_has false more is = rw is (has_high person person merged below (omega arith))

  more_other : (b : Bool) (more : List ℕ) (q : ℕ) → q ≢ person → more ≡ (if b then merged ++ person ∷ [] else merged) → has q more ≡ has q merged
  more_other true more q ne is = rw (is, list_any-append (λ p. p == q) merged (person ∷ []), ne_eqb person q (λ e. ne (sym e))) (or-false (has q merged))
  more_other false more q ne is = ap (has q) is

module _ (keep : Keep) (firsts seconds first second merged : List ℕ) (m : Merges keep firsts seconds first second merged) where
  pub below_head : (person : ℕ) → least_head first second ≡ Some person → AllBelow person merged
  below_head person h = all_below m.next person merged m.below (lower_heads m.next person first second h m.first_ascends m.second_ascends).0

  module _ (person : ℕ) (more : List ℕ) (ascends : Ascends more) (h : least_head first second ≡ Some person) (is : more ≡ (if keeps keep (begins_with person first) (begins_with person second) then merged ++ person ∷ [] else merged)) where
    low : (m.next ≤ person) × AscendsFrom person first × AscendsFrom person second
    low = lower_heads m.next person first second h m.first_ascends m.second_ascends

    other : (q : ℕ) → q ≢ person → keeps keep (has q firsts) (has q seconds) ≡ (has q more || keeps keep (has q (without_head person first)) (has q (without_head person second)))
    other q ne = rw (more_other person merged (below_head person h) (keeps keep (begins_with person first) (begins_with person second)) more q ne is, has_other person q first ne, has_other person q second ne) (m.same q)

    here : keeps keep (has person firsts) (has person seconds) ≡ (has person more || keeps keep (has person (without_head person first)) (has person (without_head person second)))
    here =
        let left : has person (without_head person first) ≡ false = has_low (person + 1) person (without_head person first) (behind_ascends person first low.1) (omega arith) in
        let right : has person (without_head person second) ≡ false = has_low (person + 1) person (without_head person second) (behind_ascends person second low.2) (omega arith) in
        let fresh : has person merged ≡ false = has_high person person merged (below_head person h) (omega arith) in
        let old : keeps keep (has person firsts) (has person seconds) ≡ keeps keep (begins_with person first) (begins_with person second) =
        m.same person ∙ rw (fresh, has_first person first low.1, has_first person second low.2) refl in
        let new : has person more ≡ keeps keep (begins_with person first) (begins_with person second) = more_has person merged (below_head person h) (keeps keep (begins_with person first) (begins_with person second)) more is in
        old ∙ sym (rw (left, right, keeps_nobody keep) (or-false (has person more) ∙ new))

    each : (q : ℕ) (b : Bool) → (q == person) ≡ b → keeps keep (has q firsts) (has q seconds) ≡ (has q more || keeps keep (has q (without_head person first)) (has q (without_head person second)))
    each q true e = let one : q ≡ person = eqb-true q person e in rw one here
    each q false e = other q (λ one. let is = eq-eqb q person one in cc)

    -- the lower head goes in, if the set has it
    pub goes_on : Merges keep firsts seconds (without_head person first) (without_head person second) more
    goes_on = record {
      next = person + 1;
      ascends = ascends;
      below = more_below person merged (below_head person h) (keeps keep (begins_with person first) (begins_with person second)) more is;
      first_ascends = behind_ascends person first low.1;
      second_ascends = behind_ascends person second low.2;
      same = λ q. each q (q == person) refl;
    }

no_heads : (first second : List ℕ) → least_head first second ≡ None → (first ≡ []) × (second ≡ [])
no_heads [] [] h = (refl, refl)
no_heads [] (q ∷ qs) h = cc
no_heads (p ∷ ps) [] h = cc
no_heads (p ∷ ps) (q ∷ qs) h = cc

pub all_merged : (keep : Keep) (firsts seconds first second merged : List ℕ) → Merges keep firsts seconds first second merged → least_head first second ≡ None → (p : ℕ) → has p merged ≡ keeps keep (has p firsts) (has p seconds)
all_merged keep firsts seconds first second merged m h p =
    let empty = no_heads first second h in
    let nobody : keeps keep (has p first) (has p second) ≡ false = rw (empty.0, empty.1) (keeps_nobody keep) in
    sym (m.same p ∙ rw nobody (or-false (has p merged)))
