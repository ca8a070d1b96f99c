-- A legal history of a value is one of its states.
use Rattle.std.proofs.Common.{◌≡◌, ℕ, Bool, true, false, List, [], ◌∷◌, ◌++◌, ◌==◌, refl, sym, ap, ◌∙◌, map}
use Rattle.std.proofs.lemmas.List.{map-append}
use Rattle.std.proofs.lemmas.List.Elements.{filter-append}
use Rattle.ht_base.specs.History.{Entry, IsLegal, end_of, own}
use Rattle.ht_base.specs.Readings.{call_of, Carries, Reads}

-- what goes on after a beginning is legal from its end
pub legal_rest : {T E R : Type 0} (relates : T → E → R → T → Type 0) (x : T) (h more : List (Entry T E R)) → IsLegal relates x (h ++ more) → IsLegal relates (end_of x h) more
legal_rest relates x [] more legal = legal
legal_rest relates x (e ∷ es) more legal = legal_rest relates e.after es more legal.1

module _ {S T E R : Type 0} (At : S → T → Type 0) (Steps : S → E → R → S → Type 0) where
  pub reads_legal : (s : S) (x : T) (k : List (Entry S E R)) (h : List (Entry T E R)) → Reads At Steps s x k h → IsLegal Steps s k
  reads_legal s x [] [] r = tt
  reads_legal s x [] (b ∷ hs) r = absurd r
  reads_legal s x (a ∷ ks) [] r = absurd r
  reads_legal s x (a ∷ ks) (b ∷ hs) r = (r.2, reads_legal a.after b.after ks hs r.3)

  pub reads_end : (s : S) (x : T) (k : List (Entry S E R)) (h : List (Entry T E R)) → Reads At Steps s x k h → At (end_of s k) (end_of x h)
  reads_end s x [] [] r = r
  reads_end s x [] (b ∷ hs) r = absurd r
  reads_end s x (a ∷ ks) [] r = absurd r
  reads_end s x (a ∷ ks) (b ∷ hs) r = reads_end a.after b.after ks hs r.3

  -- the same calls
  pub reads_calls : (s : S) (x : T) (k : List (Entry S E R)) (h : List (Entry T E R)) → Reads At Steps s x k h → map call_of k ≡ map call_of h
  reads_calls s x [] [] r = refl
  reads_calls s x [] (b ∷ hs) r = absurd r
  reads_calls s x (a ∷ ks) [] r = absurd r
  reads_calls s x (a ∷ ks) (b ∷ hs) r = ap (λ c. c ∷ map call_of ks) r.1 ∙ ap (λ cs. call_of b ∷ cs) (reads_calls a.after b.after ks hs r.3)

  -- and the same of each pass
  pub reads_own : (n : ℕ) (s : S) (x : T) (k : List (Entry S E R)) (h : List (Entry T E R)) → Reads At Steps s x k h → map call_of (own n k) ≡ map call_of (own n h)
  reads_own n s x [] [] r = refl
  reads_own n s x [] (b ∷ hs) r = absurd r
  reads_own n s x (a ∷ ks) [] r = absurd r
  reads_own n s x (a ∷ ks) (b ∷ hs) r =
      let same : (a.pass == n) ≡ (b.pass == n) = ap (λ (c : ℕ × E × R). c.0 == n) r.1 in
      by_first a ks ∙ (ap (λ cs. cs ++ map call_of (own n ks)) (one (a.pass == n) refl (sym same)) ∙ (ap (λ cs. map call_of (own n (b ∷ [])) ++ cs) (reads_own n a.after b.after ks hs r.3) ∙ sym (by_first b hs)))
    where
      by_first : {X : Type 0} (e : Entry X E R) (es : List (Entry X E R)) → map call_of (own n (e ∷ es)) ≡ map call_of (own n (e ∷ [])) ++ map call_of (own n es)
      by_first {X} e es = ap (map call_of) (filter-append (λ (c : Entry X E R). c.pass == n) (e ∷ []) es) ∙ map-append call_of (own n (e ∷ [])) (own n es)

      one : (t : Bool) → (a.pass == n) ≡ t → (b.pass == n) ≡ (a.pass == n) → map call_of (own n (a ∷ [])) ≡ map call_of (own n (b ∷ []))
      one true p q = rw (q ∙ p, p) (ap (λ c. c ∷ []) r.1)
      one false p q = rw (q ∙ p, p) refl

  -- the reading of a beginning is a beginning of the reading
  pub reads_split : (s : S) (x : T) (k : List (Entry S E R)) (h more : List (Entry T E R)) → Reads At Steps s x k (h ++ more)
      → (begin : List (Entry S E R)) × (rest : List (Entry S E R)) × (k ≡ begin ++ rest) × Reads At Steps s x begin h × Reads At Steps (end_of s begin) (end_of x h) rest more
  reads_split s x [] [] [] r = ([], [], refl, r, r)
  reads_split s x [] [] (c ∷ more) r = absurd r
  reads_split s x (a ∷ ks) [] [] r = absurd r
  reads_split s x (a ∷ ks) [] (c ∷ more) r = ([], a ∷ ks, refl, r.0, r)
  reads_split s x [] (b ∷ hs) more r = absurd r
  reads_split s x (a ∷ ks) (b ∷ hs) more r =
      let t = reads_split a.after b.after ks hs more r.3 in
      (a ∷ t.0, t.1, ap (λ cs. a ∷ cs) t.2, (r.0, r.1, r.2, t.3), t.4)

  pub reads_append : (s : S) (x : T) (k rest : List (Entry S E R)) (h more : List (Entry T E R)) → Reads At Steps s x k h → Reads At Steps (end_of s k) (end_of x h) rest more → Reads At Steps s x (k ++ rest) (h ++ more)
  reads_append s x [] rest [] more r q = q
  reads_append s x [] rest (b ∷ hs) more r q = absurd r
  reads_append s x (a ∷ ks) rest [] more r q = absurd r
  reads_append s x (a ∷ ks) rest (b ∷ hs) more r q = (r.0, r.1, r.2, reads_append a.after b.after ks rest hs more r.3 q)

  module _ (relates : T → E → R → T → Type 0) (carries : (old : T) (event : E) (reply : R) (new : T) → relates old event reply new → Carries At Steps old event reply new) where
    -- each legal history has a reading, from each state that the value is at
    pub read : (s : S) (x : T) (h : List (Entry T E R)) → At s x → IsLegal relates x h → (k : List (Entry S E R)) × Reads At Steps s x k h
    read s x [] at legal = ([], at)
    read s x (e ∷ es) at legal =
        let next = carries x e.event e.reply e.after legal.0 s at in
        let r = read next.0 e.after es next.2 legal.1 in
        (record { pass = e.pass; event = e.event; reply = e.reply; after = next.0 } ∷ r.0, (at, refl, next.1, r.1))

    -- a reading goes on with the history
    pub read_on : (s : S) (x : T) (k : List (Entry S E R)) (h more : List (Entry T E R)) → Reads At Steps s x k h → IsLegal relates x (h ++ more) → (rest : List (Entry S E R)) × Reads At Steps s x (k ++ rest) (h ++ more)
    read_on s x k h more r legal =
        let q = read (end_of s k) (end_of x h) more (reads_end s x k h r) (legal_rest relates x h more legal) in
        (q.0, reads_append s x k q.0 h more r q.1)

    -- all at once: a legal history of states with the same calls, which ends where the value ends
    pub states_of : (s : S) (x : T) (h : List (Entry T E R)) → At s x → IsLegal relates x h
        → (k : List (Entry S E R)) × IsLegal Steps s k × (map call_of k ≡ map call_of h) × At (end_of s k) (end_of x h)
    states_of s x h at legal = let r = read s x h at legal in (r.0, reads_legal s x r.0 h r.1, reads_calls s x r.0 h r.1, reads_end s x r.0 h r.1)
