-- The calls of a history, by their passes.
use Rattle.std.proofs.Common.{◌≡◌, ℕ, ◌==◌, Bool, true, false, true≢false, cond, eq-eqb, arith, List, [], ◌∷◌, All, Contains, get_or, length, refl, sym, ap, subst, ◌∙◌, map}
use Rattle.std.specs.List.{AllByRecursion}
use Rattle.std.proofs.lemmas.List.Elements.{All-from_recursion, All-map}
use Rattle.ht_base.specs.History.{Entry, own}
use Rattle.ht_base.specs.Readings.{call_of}
use Rattle.ht_base.specs.declared.event.Event.{Event}
use Rattle.ht_base.specs.declared.reply.Reply.{Reply}
use Rattle.ht_serve.specs.Calls.{Call, calls_in}
use Rattle.ht_pool.specs.Crews.{Said, calls_by}

module _ {S : Type 0} where
  first_call : (n : ℕ) (e : Entry S Event Reply) (es : List (Entry S Event Reply)) (t : Bool) → (e.pass == n) ≡ t → calls_by n (map call_of es) ≡ calls_in (own n es) → calls_by n (map call_of (e ∷ es)) ≡ calls_in (own n (e ∷ es))
  first_call n e es true is rest = rw is (ap (λ cs. record { event = e.event; reply = e.reply } ∷ cs) rest)
  first_call n e es false is rest = rw is rest

  pub calls_are : (n : ℕ) (h : List (Entry S Event Reply)) → calls_by n (map call_of h) ≡ calls_in (own n h)
  calls_are n [] = refl
  calls_are n (e ∷ es) = first_call n e es (e.pass == n) refl (calls_are n es)

  -- of each entry of a pass holds what holds of all calls of the pass
  pub of_pass : (P : Event → Type 0) (n : ℕ) (h : List (Entry S Event Reply)) → AllByRecursion (λ c. P c.event) (calls_in (own n h)) → AllByRecursion (λ e. e.pass ≡ n → P e.event) h
  of_pass P n [] a = tt
  of_pass P n (e ∷ es) a = by_case (e.pass == n) refl (of_pass P n es)
    where
      Rest : Bool → Type 0
      Rest t = AllByRecursion (λ (c : Call). P c.event) (calls_in (cond t (e ∷ own n es) (own n es)))

      by_case : (t : Bool) → (e.pass == n) ≡ t → (AllByRecursion (λ (c : Call). P c.event) (calls_in (own n es)) → AllByRecursion (λ (x : Entry S Event Reply). x.pass ≡ n → P x.event) es) → AllByRecursion (λ (x : Entry S Event Reply). x.pass ≡ n → P x.event) (e ∷ es)
      by_case true is rest = let b : Rest true = subst Rest is a in ((λ same. b.0), rest b.1)
      by_case false is rest = let b : Rest false = subst Rest is a in ((λ same. absurd (true≢false (sym (eq-eqb e.pass n same) ∙ is))), rest b)

  -- what holds of the entries of each of these passes holds of all entries of theirs
  pub of_passes : (Q : Said → Type 0) (ns : List ℕ) (h : List (Entry S Event Reply)) → AllByRecursion (λ n. AllByRecursion (λ (e : Entry S Event Reply). e.pass ≡ n → Q (call_of e)) h) ns → All (λ e. Contains ns e.pass) h → All Q (map call_of h)
  of_passes Q ns h each among = All-map Q call_of h (λ k d low.
      let place = among k d low in
      let theirs = All-from_recursion (λ n. AllByRecursion (λ (e : Entry S Event Reply). e.pass ≡ n → Q (call_of e)) h) ns each place.0 (get_or h k d).pass place.1 in
      All-from_recursion (λ (e : Entry S Event Reply). e.pass ≡ get_or ns place.0 (get_or h k d).pass → Q (call_of e)) h theirs k d low (sym place.2))
