-- A file is at fault in one way.
use Rattle.std.proofs.Common.{◌≡◌, ◌<◌, ◌≤◌, ◌⊎◌, ⊎_elim, ℕ, zero, suc, ◌-◌, List, [], ◌∷◌, ◌++◌, take, Result, Ok, Err, ap, sym, ◌∙◌, subst, refl, arith}
use Rattle.std.proofs.lemmas.Bool.{cases_lt}
use Rattle.ht_base.specs.Records.{RecordOf}
use Rattle.ht_codec.proofs.PublicLaws.{not_refused, one_refusal}
use Rattle.ht_codec.specs.Records.{Spells}
use Rattle.ht_journal.specs.Bodies.{IsNth}
use Rattle.ht_journal.specs.Files.{contents}
use Rattle.ht_tree.specs.Tables.{TablesOf}
use Rattle.ht_desk.specs.declared.fault.OpenFault.{OpenFault}
use Rattle.ht_desk.specs.declared.fault.OpenFault.TheVariants.{Damaged, RecordRefused, TextsDiffer}
use Rattle.ht_desk.specs.Opening.{Fails, FailsAt, FailsFirst, FailsNext, IsNoOpening, IsNoRecord, IsNotLeft, IsOfOthers, damage_of}
use Rattle.ht_desk.specs.Opening.FailsAt.{at_first, at_next}
use Rattle.ht_desk.specs.Records.{AreSpelled, bodies_of, spelling}
use Rattle.ht_desk.specs.Replaying.{IsJournalOf, Replays, TextsOf, opening_of}
use Rattle.ht_desk.proofs.Office.{ModelsOnce, PeopleOnce, begins_once, no_fault_first, no_fault_next, replays_once, spelled_alike}

-- ---- of a body

no_records_alike : (at : ℕ) (body : List ℕ) (f g : OpenFault) → IsNoRecord at body f → IsNoRecord at body g → f ≡ g
no_records_alike at body f g (why, refuses, is) (other, refused, js) = is ∙ (ap (damage_of at) (one_refusal body why other refuses refused) ∙ sym js)

-- a record is spelled, so that the bytes aren't refused
not_both : {A : Type 0} (at : ℕ) (body : List ℕ) (r : RecordOf) (f : OpenFault) → IsNoRecord at body f → Spells r body → A
not_both at body r f (why, refuses, is) spells = absurd (not_refused body r why spells refuses)

one_or_other : (texts : TextsOf) (body : List ℕ) (f g : OpenFault) → (IsNoOpening body × (f ≡ RecordRefused 1)) ⊎ (IsOfOthers texts body × (f ≡ TextsDiffer)) → (IsNoOpening body × (g ≡ RecordRefused 1)) ⊎ (IsOfOthers texts body × (g ≡ TextsDiffer)) → f ≡ g
one_or_other texts body f g a b = ⊎_elim
    (λ (p : IsNoOpening body × (f ≡ RecordRefused 1)). ⊎_elim
    (λ (q : IsNoOpening body × (g ≡ RecordRefused 1)). p.1 ∙ sym q.1)
    (λ (q : IsOfOthers texts body × (g ≡ TextsDiffer)). apart p.0 q.0)
    b)
    (λ (p : IsOfOthers texts body × (f ≡ TextsDiffer)). ⊎_elim
    (λ (q : IsNoOpening body × (g ≡ RecordRefused 1)). apart q.0 p.0)
    (λ (q : IsOfOthers texts body × (g ≡ TextsDiffer)). p.1 ∙ sym q.1)
    b)
    a
  where
    apart : {A : Type 0} → IsNoOpening body → IsOfOthers texts body → A
    apart (r, spells, none) (others, spelled, differ) = absurd (none others (spelled_alike r (opening_of others) body body spells spelled refl))

first_alike : (texts : TextsOf) (at : ℕ) (body : List ℕ) (f g : OpenFault) → FailsFirst texts at body f → FailsFirst texts at body g → f ≡ g
first_alike texts at body f g a b = ⊎_elim
    (λ (p : IsNoRecord at body f). ⊎_elim (λ (q : IsNoRecord at body g). no_records_alike at body f g p q) (λ q. never f p g q) b)
    (λ p. ⊎_elim (λ (q : IsNoRecord at body g). never g q f p) (λ q. one_or_other texts body f g p q) b)
    a
  where
    never : {A : Type 0} (f : OpenFault) → IsNoRecord at body f → (g : OpenFault) → (IsNoOpening body × (g ≡ RecordRefused 1)) ⊎ (IsOfOthers texts body × (g ≡ TextsDiffer)) → A
    never f none g some = ⊎_elim
        (λ (p : IsNoOpening body × (g ≡ RecordRefused 1)). let o : IsNoOpening body = p.0 in not_both at body o.0 f none o.1)
        (λ (p : IsOfOthers texts body × (g ≡ TextsDiffer)). let o : IsOfOthers texts body = p.0 in not_both at body (opening_of o.0) f none o.1)
        some

next_alike : (t : TablesOf) (n at : ℕ) (body : List ℕ) (f g : OpenFault) → FailsNext t n at body f → FailsNext t n at body g → f ≡ g
next_alike t n at body f g a b = ⊎_elim
    (λ (p : IsNoRecord at body f). ⊎_elim (λ (q : IsNoRecord at body g). no_records_alike at body f g p q) (λ (q : IsNotLeft t body × (g ≡ RecordRefused n)). never f p q.0) b)
    (λ (p : IsNotLeft t body × (f ≡ RecordRefused n)). ⊎_elim (λ (q : IsNoRecord at body g). never g q p.0) (λ (q : IsNotLeft t body × (g ≡ RecordRefused n)). p.1 ∙ sym q.1) b)
    a
  where
    never : {A : Type 0} (f : OpenFault) → IsNoRecord at body f → IsNotLeft t body → A
    never f none left = not_both at body left.0 f none left.1

-- ---- of bodies

last_alike : (l : List (List ℕ)) (a b : List ℕ) → l ++ a ∷ [] ≡ l ++ b ∷ [] → a ≡ b
last_alike [] a b is = cc
last_alike (x ∷ l) a b is = last_alike l a b (cc)

take_short : (l : List (List ℕ)) (n k : ℕ) → n ≤ k → take n (take k l) ≡ take n l
take_short [] n zero le = refl
take_short [] n (suc k) le = refl
take_short (x ∷ l) zero zero le = refl
take_short (x ∷ l) zero (suc k) le = refl
take_short (x ∷ l) (suc n) zero le = absurd (omega (arith, le))
take_short (x ∷ l) (suc n) (suc k) le = ap (λ m. x ∷ m) (take_short l n k (omega (arith, le)))

first_of : (k : ℕ) (l : List (List ℕ)) (x : List ℕ) (xs : List (List ℕ)) → take k l ≡ x ∷ xs → take 1 l ≡ x ∷ []
first_of zero [] x xs is = absurd (cc)
first_of zero (y ∷ l) x xs is = absurd (cc)
first_of (suc k) [] x xs is = absurd (cc)
first_of (suc k) (y ∷ l) x xs is = let same : y ≡ x = cc in ap (λ z. z ∷ []) same

records_alike : (a b : List RecordOf) → AreSpelled a → AreSpelled b → bodies_of a ≡ bodies_of b → a ≡ b
records_alike [] [] p q is = refl
records_alike [] (s ∷ b) p q is = absurd (cc)
records_alike (r ∷ a) [] p q is = absurd (cc)
records_alike (r ∷ a) (s ∷ b) p q is =
    let first : spelling s ≡ spelling r = cc in
    let same : r ≡ s = spelled_alike r s (spelling r) (spelling s) (p.0, refl) (q.0, refl) first in
    ap (λ x. x ∷ a) same ∙ ap (λ l. s ∷ l) (records_alike a b p.1 q.1 (cc))

module _ (one : ModelsOnce) (other : PeopleOnce) (texts : TextsOf) where
  -- the same records lead to the same tables
  tables_alike : (a b : List RecordOf) (t u : TablesOf) → a ≡ b → IsJournalOf texts a t → IsJournalOf texts b u → t ≡ u
  tables_alike a b t u same p q =
      let rest : p.rest ≡ q.rest = behind (opening_of texts) p.rest q.rest (sym p.opened ∙ same ∙ q.opened) in
      let first : p.first ≡ q.first = begins_once one other texts p.first q.first p.begins q.begins in
      let R : TablesOf → Type 0 = λ x. Replays x p.rest t in
      let L : List RecordOf → Type 0 = λ l. Replays q.first l t in
      replays_once q.first q.rest t u (subst L rest (subst R first p.replays)) q.replays
    where
      behind : (o : RecordOf) (c d : List RecordOf) → o ∷ c ≡ o ∷ d → c ≡ d
      behind o c d e = cc

  -- an earlier body isn't at fault where a later one is
  earlier : {A : Type 0} (bodies : List (List ℕ)) (n at : ℕ) (body : List ℕ) (before : List RecordOf) (t : TablesOf) (f : OpenFault) → IsNth bodies n at body → take (n - 1) bodies ≡ bodies_of before → AreSpelled before → IsJournalOf texts before t → FailsNext t n at body f
      → (m : ℕ) (all : List RecordOf) (u : TablesOf) → n < m → take (m - 1) bodies ≡ bodies_of all → AreSpelled all → IsJournalOf texts all u → A
  earlier bodies n at body before t f nth front fits some fails m all u below whole spelled office =
      absurd (no_fault_next one other texts all u spelled office n at body before t f
      (ap (take n) (sym whole) ∙ (take_short bodies n (m - 1) (omega (arith, below)) ∙ (nth.bytes ∙ ap (λ l. l ++ body ∷ []) front))) fits some fails)

  earliest : {A : Type 0} (bodies : List (List ℕ)) (at : ℕ) (body : List ℕ) (f : OpenFault) → IsNth bodies 1 at body → FailsFirst texts at body f → (m : ℕ) (all : List RecordOf) (u : TablesOf) → take (m - 1) bodies ≡ bodies_of all → AreSpelled all → IsJournalOf texts all u → A
  earliest bodies at body f nth fails m all u whole spelled office =
      let begun : bodies_of all ≡ spelling (opening_of texts) ∷ bodies_of office.rest = ap bodies_of office.opened in
      absurd (no_fault_first one other texts all u spelled office at body f
      (ap (take 1) begun ∙ (sym (first_of (m - 1) bodies (spelling (opening_of texts)) (bodies_of office.rest) (whole ∙ begun)) ∙ nth.bytes)) fails)

  next_same : (bodies : List (List ℕ)) (n at bt : ℕ) (a b : List ℕ) (before all : List RecordOf) (t u : TablesOf) (f g : OpenFault) → IsNth bodies n at a → take (n - 1) bodies ≡ bodies_of before → AreSpelled before → IsJournalOf texts before t → FailsNext t n at a f
      → IsNth bodies n bt b → take (n - 1) bodies ≡ bodies_of all → AreSpelled all → IsJournalOf texts all u → FailsNext u n bt b g → f ≡ g
  next_same bodies n at bt a b before all t u f g nth front fits some fails mth whole spelled office other_fails =
      let place : bt ≡ at = mth.place ∙ sym nth.place in
      let bytes : b ≡ a = last_alike (take (n - 1) bodies) b a (sym mth.bytes ∙ nth.bytes) in
      let same : all ≡ before = records_alike all before spelled fits (sym whole ∙ front) in
      let tables : u ≡ t = tables_alike all before u t same office some in
      let T : TablesOf → Type 0 = λ x. FailsNext x n bt b g in
      let P : ℕ → Type 0 = λ x. FailsNext t n x b g in
      let B : List ℕ → Type 0 = λ x. FailsNext t n at x g in
      next_alike t n at a f g fails (subst B bytes (subst P place (subst T tables other_fails)))

  at_alike : (bodies : List (List ℕ)) (f g : OpenFault) → FailsAt texts bodies f → FailsAt texts bodies g → f ≡ g
  at_alike bodies f g (at_first at a nth fails) (at_first bt b mth other_fails) =
      let place : bt ≡ at = mth.place ∙ sym nth.place in
      let bytes : b ≡ a = last_alike (take 0 bodies) b a (sym mth.bytes ∙ nth.bytes) in
      let P : ℕ → Type 0 = λ x. FailsFirst texts x b g in
      let B : List ℕ → Type 0 = λ x. FailsFirst texts at x g in
      first_alike texts at a f g fails (subst B bytes (subst P place other_fails))
  at_alike bodies f g (at_first at a nth fails) (at_next m bt b all u mth whole spelled office other_fails) = earliest bodies at a f nth fails m all u whole spelled office
  at_alike bodies f g (at_next n at a before t nth front fits some fails) (at_first bt b mth other_fails) = earliest bodies bt b g mth other_fails n before t front fits some
  at_alike bodies f g (at_next n at a before t nth front fits some fails) (at_next m bt b all u mth whole spelled office other_fails) = ⊎_elim
      (λ (below : n < m). earlier bodies n at a before t f nth front fits some fails m all u below whole spelled office)
      (λ (above : m ≤ n). ⊎_elim
      (λ (less : m < n). earlier bodies m bt b all u g mth whole spelled office other_fails n before t less front fits some)
      (λ (more : n ≤ m).
      let same : m ≡ n = omega (arith, above, more) in
      let N : ℕ → Type 0 = λ k. IsNth bodies k bt b in
      let W : ℕ → Type 0 = λ k. take (k - 1) bodies ≡ bodies_of all in
      let F : ℕ → Type 0 = λ k. FailsNext u k bt b g in
      next_same bodies n at bt a b before all t u f g nth front fits some fails (subst N same mth) (subst W same whole) spelled office (subst F same other_fails))
      (cases_lt m n))
      (cases_lt n m)

  pub one_fault : (file : List ℕ) (f g : OpenFault) → Fails texts file f → Fails texts file g → f ≡ g
  one_fault file f g a b = ⊎_elim
      (λ (p : (at : ℕ) × (contents file ≡ Err at) × (f ≡ Damaged at)). ⊎_elim
      (λ (q : (at : ℕ) × (contents file ≡ Err at) × (g ≡ Damaged at)). p.2 ∙ (ap Damaged (err_alike p.0 q.0 (contents file) p.1 q.1) ∙ sym q.2))
      (λ (q : (bodies : List (List ℕ)) × (contents file ≡ Ok bodies) × FailsAt texts bodies g). apart p.0 q.0 (contents file) p.1 q.1)
      b)
      (λ (p : (bodies : List (List ℕ)) × (contents file ≡ Ok bodies) × FailsAt texts bodies f). ⊎_elim
      (λ (q : (at : ℕ) × (contents file ≡ Err at) × (g ≡ Damaged at)). apart q.0 p.0 (contents file) q.1 p.1)
      (λ (q : (bodies : List (List ℕ)) × (contents file ≡ Ok bodies) × FailsAt texts bodies g).
      let same : q.0 ≡ p.0 = ok_alike q.0 p.0 (contents file) q.1 p.1 in
      let A : List (List ℕ) → Type 0 = λ x. FailsAt texts x g in
      at_alike p.0 f g p.2 (subst A same q.2))
      b)
      a
    where
      err_alike : (m n : ℕ) (c : Result (List (List ℕ)) ℕ) → c ≡ Err m → c ≡ Err n → m ≡ n
      err_alike m n c is js = cc

      ok_alike : (m n : List (List ℕ)) (c : Result (List (List ℕ)) ℕ) → c ≡ Ok m → c ≡ Ok n → m ≡ n
      ok_alike m n c is js = cc

      apart : {A : Type 0} (m : ℕ) (n : List (List ℕ)) (c : Result (List (List ℕ)) ℕ) → c ≡ Err m → c ≡ Ok n → A
      apart m n c is js = absurd (cc)
