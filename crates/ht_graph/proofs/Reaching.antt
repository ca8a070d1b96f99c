-- What a walk has reached.
use Rattle.std.proofs.Common.{◌≡◌, ◌∙◌, ◌⊎◌, ◌↔◌, ℕ, zero, suc, Bool, true, false, ◌||◌, ◌==◌, List, [], ◌∷◌, ◌++◌, length, replicate, ap, arith, eq-eqb, inl, inr, refl, sym}
use Rattle.std.specs.Prelude.{slice_index_or}
use Rattle.std.specs.List.{list_any}
use Rattle.std.proofs.lemmas.Bool.{eqb-true, or_cases, or_right}
use Rattle.std.proofs.lemmas.List.Folds.{list_any-append}
use Rattle.ht_base.specs.Persons.{has}
use Rattle.ht_graph.specs.Graphs.{IsReached, leads}
use Rattle.ht_graph.specs.Walking.{Meets}

-- ---- one of a list

pub emptied : (xs : List ℕ) → length xs ≡ 0 → xs ≡ []
emptied [] e = refl
emptied (x ∷ xs) e = absurd (omega arith)

pub some_of : (test : ℕ → Bool) (xs : List ℕ) → list_any test xs ≡ true → (x : ℕ) × (has x xs ≡ true) × (test x ≡ true)
some_of test [] e = absurd (cc)
some_of test (x ∷ xs) e = elim (or_cases (test x) (list_any test xs) e) [
  | inl here ↦ (x, ap (λ (b : Bool). b || has x xs) (eq-eqb x x refl), here)
  | inr there ↦ let rest = some_of test xs there in (rest.0, or_right (x == rest.0) (has rest.0 xs) rest.1, rest.2)
]

pub any_of : (test : ℕ → Bool) (xs : List ℕ) (x : ℕ) → has x xs ≡ true → test x ≡ true → list_any test xs ≡ true
any_of test [] x h e = absurd (cc)
any_of test (y ∷ xs) x h e = elim (or_cases (y == x) (has x xs) h) [
  | inl here ↦ let one = eqb-true y x here in rw (one, e) refl
  | inr there ↦ or_right (test y) (list_any test xs) (any_of test xs x there e)
]

has_push : (place m : ℕ) (ms : List ℕ) → has place (ms ++ m ∷ []) ≡ true → (has place ms ≡ true) ⊎ (m ≡ place)
has_push place m ms h = elim (or_cases (has place ms) (m == place || false) (sym (list_any-append (λ p. p == place) ms (m ∷ [])) ∙ h)) [
  | inl e ↦ inl e
  | inr e ↦ elim (or_cases (m == place) false e) [ inl e ↦ inr (eqb-true m place e) | inr e ↦ absurd (cc) ]
]

pushed : (place m : ℕ) (ms : List ℕ) → has place ms ≡ true → has place (ms ++ m ∷ []) ≡ true
pushed place m ms h = list_any-append (λ p. p == place) ms (m ∷ []) ∙ ap (λ (b : Bool). b || has place (m ∷ [])) h

-- ---- chains, step by step

module _ (count : ℕ) (next : ℕ → List ℕ) where
  pub leads_more : (n a b c : ℕ) → leads next n a b ≡ true → has c (next b) ≡ true → leads next (suc n) a c ≡ true
  leads_more zero a b c h k = let one : a ≡ b = eqb-true a b h in rw one k
  leads_more (suc n) a b c h k =
      let step = some_of (λ place. leads next n place b) (next a) h in
      any_of (λ place. leads next (suc n) place c) (next a) step.0 step.1 (leads_more n step.0 b c step.2 k)

  -- ---- a walk

  pub record Walks (from : ℕ) (met : List Bool) (pending : List ℕ) : Type 0 where
    pub long : length met ≡ count
    pub reached : (place : ℕ) → slice_index_or met place false ≡ true → IsReached next from place
    pub from_there : (place : ℕ) → has place pending ≡ true → (place ≡ from) ⊎ (slice_index_or met place false ≡ true)
    pub open_or_done : (place : ℕ) → (place ≡ from) ⊎ (slice_index_or met place false ≡ true) → (has place pending ≡ true) ⊎ ((to : ℕ) → has to (next place) ≡ true → slice_index_or met to false ≡ true)

  none_met : (n place : ℕ) → slice_index_or (replicate n false) place false ≡ false
  none_met zero place = refl
  none_met (suc n) zero = refl
  none_met (suc n) (suc place) = none_met n place

  pub begun : (from n : ℕ) (met : List Bool) (pending : List ℕ) → met ≡ replicate n false → length met ≡ count → pending ≡ from ∷ [] → Walks from met pending
  begun from n met pending is long at = record {
    long = long;
    reached = λ place h. absurd (let e : slice_index_or met place false ≡ false = rw is (none_met n place) in cc);
    from_there = λ place h. elim (or_cases (from == place) false (rw at at h)) [ inl e ↦ inl (sym (eqb-true from place e)) | inr e ↦ absurd (cc) ];
    open_or_done = λ place h. elim h [
      | inl e ↦ inl (rw (at, e) (ap (λ (b : Bool). b || false) (eq-eqb from from refl)))
      | inr e ↦ absurd (let f : slice_index_or met place false ≡ false = rw is (none_met n place) in cc)
    ];
  }

  module _ (from place : ℕ) (met new : List Bool) (pending rest after : List ℕ) (w : Walks from met pending) (popped : pending ≡ rest ++ place ∷ []) (m : Meets (next place) met new rest after) where
    still_met : (p : ℕ) → slice_index_or met p false ≡ true → slice_index_or new p false ≡ true
    still_met p h = m.met p ∙ ap (λ (b : Bool). b || has p (next place)) h

    place_from : (place ≡ from) ⊎ (slice_index_or met place false ≡ true)
    place_from = w.from_there place (rw popped (list_any-append (λ p. p == place) rest (place ∷ []) ∙ or_right (has place rest) (has place (place ∷ [])) (ap (λ (b : Bool). b || false) (eq-eqb place place refl))))

    one_more : (p : ℕ) → has p (next place) ≡ true → IsReached next from p
    one_more p h = elim place_from [
      | inl e ↦ (0, rw (← e) h)
      | inr e ↦ let there = w.reached place e in (suc there.0, leads_more (suc there.0) from place p there.1 h)
    ]

    pub goes_on : length new ≡ length met → Walks from new after
    goes_on long = record {
      long = long ∙ w.long;
      reached = λ p h. elim (or_cases (slice_index_or met p false) (has p (next place)) (sym (m.met p) ∙ h)) [ inl e ↦ w.reached p e | inr e ↦ one_more p e ];
      from_there = λ p h. elim (m.from_these p h) [
        | inl e ↦ elim (w.from_there p (rw popped (pushed p place rest e))) [ inl f ↦ inl f | inr f ↦ inr (still_met p f) ]
        | inr e ↦ inr e
      ];
      open_or_done = λ p h. stays p h (slice_index_or met p false) refl;
    }
      where
        earlier : (p : ℕ) → (p ≡ from) ⊎ (slice_index_or met p false ≡ true) → (has p after ≡ true) ⊎ ((member : ℕ) → has member (next p) ≡ true → slice_index_or new member false ≡ true)
        earlier p h = elim (w.open_or_done p h) [
          | inl e ↦ elim (has_push p place rest (rw popped at e)) [
            | inl f ↦ inl (m.open_still p f)
            | inr f ↦ inr (λ member k. m.met member ∙ or_right (slice_index_or met member false) (has member (next place)) (rw f k))
          ]
          | inr e ↦ inr (λ member k. still_met member (e member k))
        ]

        stays : (p : ℕ) → (p ≡ from) ⊎ (slice_index_or new p false ≡ true) → (b : Bool) → slice_index_or met p false ≡ b → (has p after ≡ true) ⊎ ((member : ℕ) → has member (next p) ≡ true → slice_index_or new member false ≡ true)
        stays p h true e = earlier p (inr e)
        stays p (inl h) false e = earlier p (inl h)
        stays p (inr h) false e = inl (m.newly p h e)

  -- nothing is left to go on from
  pub whole : (from : ℕ) (met : List Bool) → Walks from met [] → (place : ℕ) → (slice_index_or met place false ≡ true) ↔ IsReached next from place
  whole from met w place = (w.reached place, λ r. follow r.0 from (inl refl) place r.1)
    where
      done : (p : ℕ) → (p ≡ from) ⊎ (slice_index_or met p false ≡ true) → (member : ℕ) → has member (next p) ≡ true → slice_index_or met member false ≡ true
      done p h = elim (w.open_or_done p h) [ inl e ↦ absurd (cc) | inr e ↦ e ]

      follow : (n a : ℕ) → (a ≡ from) ⊎ (slice_index_or met a false ≡ true) → (p : ℕ) → leads next (suc n) a p ≡ true → slice_index_or met p false ≡ true
      follow zero a h p r = done a h p r
      follow (suc n) a h p r =
          let step = some_of (λ place. leads next (suc n) place p) (next a) r in
          follow n step.0 (inr (done a h step.0 step.1)) p step.2
