-- What stays true of all passes where one of them changes.
use Rattle.std.proofs.Common.{◌≡◌, ◌≢◌, ◌⊎◌, inl, inr, ⊎_elim, ℕ, zero, suc, ◌≤◌, Bool, true, false, List, [], ◌∷◌, length, set, Some, None, Option, refl, sym, ap, ◌∙◌, subst, arith, Contains, All}
use mathlib.Core.Option.{Option as Maybe, some, none, some-ne-none, some-injective}
use lib.ListN.{get_elem?}
use Rattle.atomic_table.specs.Table.{State}
use Rattle.atomic_table.proofs.Lists.{at_set, set_else}
use Rattle.ht_base.specs.History.{Entry}
use Rattle.ht_shared.specs.declared.view.View.{View}
use Rattle.ht_shared.specs.Rule.{held, left_by_join, newcomer, opener, numbers, IsLive, AreLive, IsSlot, AreTicketsApart, IsAnswered, IsSeen, Numbered, Kept, Opens, Holds}
use Rattle.ht_shared.proofs.Lists.{off, none_not_some, total_set, now_at, contains_none}

pub not_true : (b : Bool) → (b ≡ true → ⊥) → b ≡ false
not_true true h = absurd (h refl)
not_true false h = refl

module _ {T E R : Type 0} (start : T) (next serving given passes : ℕ) (history : List (Entry T E R)) where
  -- a pass that has a state to begin with wasn't joined
  pub live : (v : View T E R) (x : T) → v.start ≡ Some x → (v ≡ left_by_join) ⊎ IsLive start next serving given passes history v → IsLive start next serving given passes history v
  live v x is = ⊎_elim (λ (e : v ≡ left_by_join). none_not_some (sym (ap (λ (u : View T E R). u.start) e) ∙ is)) (λ l. l)

  pub live_inside : (v : View T E R) → v.inside ≡ true → (v ≡ left_by_join) ⊎ IsLive start next serving given passes history v → IsLive start next serving given passes history v
  live_inside v is = ⊎_elim (λ (e : v ≡ left_by_join). off (sym (ap (λ (u : View T E R). u.inside) e) ∙ is)) (λ l. l)

  pub live_ticket : (v : View T E R) (n : ℕ) → v.ticket ≡ Some n → (v ≡ left_by_join) ⊎ IsLive start next serving given passes history v → IsLive start next serving given passes history v
  live_ticket v n is = ⊎_elim (λ (e : v ≡ left_by_join). none_not_some (sym (ap (λ (u : View T E R). u.ticket) e) ∙ is)) (λ l. l)

  pub live_number : (v : View T E R) (n : ℕ) → Contains (numbers v) n → (v ≡ left_by_join) ⊎ IsLive start next serving given passes history v → IsLive start next serving given passes history v
  live_number v n has = ⊎_elim (λ (e : v ≡ left_by_join). contains_none n (subst (λ (u : View T E R). Contains (numbers u) n) e has)) (λ l. l)

  -- a view that isn't inside changes
  pub slot_set : (views : List (View T E R)) (id : ℕ) (v w : View T E R) (home : Maybe (Option T)) → get_elem? views id ≡ some v → v.inside ≡ false → w.inside ≡ false → IsSlot start serving history views home → IsSlot start serving history (set views id w) home
  slot_set views id v w (some (Some x)) at out out' slot =
      (slot.0, slot.1, λ by u e. ⊎_elim (λ (y : (by ≡ id) × (w ≡ u)). sym (ap (λ (z : View T E R). z.inside) y.1) ∙ out') (λ (y : (by ≢ id) × (get_elem? views by ≡ some u)). slot.2 by u y.1) (at_set views id by w u e))
  slot_set views id v w (some None) at out out' slot = absurd slot
  slot_set views id v w none at out out' slot =
      let apart : slot.0 ≢ id = λ same. off (sym out ∙ (ap (λ (u : View T E R). u.inside) (some-injective v slot.1 (sym at ∙ (ap (get_elem? views) (sym same) ∙ slot.2))) ∙ slot.3)) in
      (slot.0, slot.1, set_else views id slot.0 w apart ∙ slot.2, slot.3)

module _ {T E R : Type 0} (start : T) (next serving given passes next' serving' given' passes' : ℕ) (history history' : List (Entry T E R)) where
  -- what holds of each pass, where one changes
  pub live_set : (views : List (View T E R)) (id : ℕ) (w : View T E R) → AreLive start next serving given passes history views
      → ((j : ℕ) (u : View T E R) → j ≢ id → get_elem? views j ≡ some u → IsLive start next serving given passes history u → IsLive start next' serving' given' passes' history' u)
      → (w ≡ left_by_join) ⊎ IsLive start next' serving' given' passes' history' w → AreLive start next' serving' given' passes' history' (set views id w)
  live_set views id w all others mine j u e =
      ⊎_elim
      (λ (x : (j ≡ id) × (w ≡ u)). subst (λ (z : View T E R). (z ≡ left_by_join) ⊎ IsLive start next' serving' given' passes' history' z) x.1 mine)
      (λ (x : (j ≢ id) × (get_elem? views j ≡ some u)). ⊎_elim (λ (l : u ≡ left_by_join). inl l) (λ l. inr (others j u x.0 x.1 l)) (all j u x.1))
      (at_set views id j w u e)

module _ {T E R : Type 0} (views : List (View T E R)) (id : ℕ) (v w : View T E R) (at : get_elem? views id ≡ some v) where
  pub tickets_set : AreTicketsApart views → ((j : ℕ) (u : View T E R) (n : ℕ) → j ≢ id → get_elem? views j ≡ some u → u.ticket ≡ Some n → w.ticket ≡ Some n → ⊥) → AreTicketsApart (set views id w)
  tickets_set apart fresh by other u u' n ev eu tv tu =
      ⊎_elim
      (λ (x : (by ≡ id) × (w ≡ u)). ⊎_elim
      (λ (y : (other ≡ id) × (w ≡ u')). x.0 ∙ sym y.0)
      (λ (y : (other ≢ id) × (get_elem? views other ≡ some u')). absurd (fresh other u' n y.0 y.1 tu (ap (λ (z : View T E R). z.ticket) x.1 ∙ tv)))
      (at_set views id other w u' eu))
      (λ (x : (by ≢ id) × (get_elem? views by ≡ some u)). ⊎_elim
      (λ (y : (other ≡ id) × (w ≡ u')). absurd (fresh by u n x.0 x.1 tv (ap (λ (z : View T E R). z.ticket) y.1 ∙ tu)))
      (λ (y : (other ≢ id) × (get_elem? views other ≡ some u')). apart by other u u' n x.1 y.1 tv tu)
      (at_set views id other w u' eu))
      (at_set views id by w u ev)

  -- the ticket stays
  pub tickets_stay : w.ticket ≡ v.ticket → AreTicketsApart views → AreTicketsApart (set views id w)
  tickets_stay same apart = tickets_set apart (λ j u n away e t t'. away (apart j id u v n e at t (sym same ∙ t')))

  was : (j : ℕ) (u : View T E R) (n : ℕ) → numbers w ≡ numbers v → get_elem? (set views id w) j ≡ some u → Contains (numbers u) n → (u' : View T E R) × (get_elem? views j ≡ some u') × Contains (numbers u') n
  was j u n same e has =
      ⊎_elim
      (λ (x : (j ≡ id) × (w ≡ u)). (v, ap (get_elem? views) x.0 ∙ at, subst (λ (ns : List ℕ). Contains ns n) (ap (λ (z : View T E R). numbers z) (sym x.1) ∙ same) has))
      (λ (x : (j ≢ id) × (get_elem? views j ≡ some u)). (u, x.1, has))
      (at_set views id j w u e)

  pub answered_set : numbers w ≡ numbers v → (n : ℕ) → IsAnswered views n → IsAnswered (set views id w) n
  answered_set same n h =
      ⊎_elim
      (λ (x : (h.0 ≡ id) × (h.1 ≡ v) × (get_elem? (set views id w) h.0 ≡ some w)). (h.0, w, x.2, subst (λ (ns : List ℕ). Contains ns n) (ap (λ (z : View T E R). numbers z) x.1 ∙ sym same) h.3))
      (λ (x : (h.0 ≢ id) × (get_elem? (set views id w) h.0 ≡ some h.1)). (h.0, h.1, x.1, h.3))
      (now_at views id h.0 v w h.1 at h.2)

  -- the numbers stay
  pub numbered_set : (given : ℕ) (history history' : List (Entry T E R)) → numbers w ≡ numbers v → IsSeen history' (set views id w) → All (λ (e : Entry T E R). IsAnswered views e.pass) history' → Numbered given history views → Numbered given history' (set views id w)
  numbered_set given history history' same seen entries n = record {
    count = (let t = total_set (λ (u : View T E R). length (numbers u)) views id v w at in let c = n.count in let l = ap length same in omega arith);
    apart = λ by other u u' k e e' h h'. (let a = was by u k same e h in let b = was other u' k same e' h' in n.apart by other a.0 b.0 k a.1 b.1 a.2 b.2);
    entries = λ k d b. answered_set same _ (entries k d b);
    longest = seen;
  }

  pub seen_set : (history : List (Entry T E R)) → numbers w ≡ numbers v → w.seen ≡ v.seen → IsSeen history views → IsSeen history (set views id w)
  seen_set history same seen h =
      ⊎_elim
      (λ (x : (h.0 ≡ id) × (h.1 ≡ v) × (get_elem? (set views id w) h.0 ≡ some w)).
      (h.0, w, x.2, (let l = ap length same in let m = ap (λ (z : View T E R). length (numbers z)) x.1 in let p = h.3 in omega arith), seen ∙ (ap (λ (z : View T E R). z.seen) (sym x.1) ∙ h.4)))
      (λ (x : (h.0 ≢ id) × (get_elem? (set views id w) h.0 ≡ some h.1)). (h.0, h.1, x.1, h.3, h.4))
      (now_at views id h.0 v w h.1 at h.2)

module _ {T E R : Type 0} (relates : T → E → R → T → Type 0) (stands : T → Type 0) (start : T) where
  -- a pass that is outside changes, and its ticket, its numbers and what it has seen stay; another
  -- number may be drawn
  pub stays : (id : ℕ) (v w : View T E R) (s : State (Option T) (View T E R)) (k : Kept relates stands start s) → get_elem? s.views id ≡ some v → (passes : ℕ) → passes ≤ 4294967295 → k.given ≤ passes
      → numbers w ≡ numbers v → w.seen ≡ v.seen → w.ticket ≡ v.ticket → v.inside ≡ false → w.inside ≡ false
      → ((j : ℕ) (u : View T E R) → j ≢ id → get_elem? s.views j ≡ some u → IsLive start k.next k.serving k.given k.passes k.history u → IsLive start k.next k.serving k.given passes k.history u)
      → (w ≡ left_by_join) ⊎ IsLive start k.next k.serving k.given passes k.history w
      → Kept relates stands start (record { words = k.next ∷ length k.history ∷ k.serving ∷ passes ∷ []; homes = s.homes; views = set s.views id w })
  stays id v w s k at passes few spare same seen ticket out out' others mine = record {
    next = k.next;
    serving = k.serving;
    given = k.given;
    passes = passes;
    history = k.history;
    home = k.home;
    words = refl;
    homes = k.homes;
    next_bound = k.next_bound;
    passes_bound = few;
    given_bound = spare;
    tickets = (let t = total_set (λ (u : View T E R). held u.ticket) s.views id v w at in let o = k.tickets in let h = ap held ticket in omega arith);
    legal = k.legal;
    standing = k.standing;
    slot = slot_set start k.next k.serving k.given k.passes k.history s.views id v w k.home at out out' k.slot;
    views = live_set start k.next k.serving k.given k.passes k.next k.serving k.given passes k.history k.history s.views id w k.views others mine;
    apart = tickets_stay s.views id v w at ticket k.apart;
    numbered = numbered_set s.views id v w at k.given k.history k.history same (seen_set s.views id v w at k.history same seen k.numbered.longest) k.numbered.entries k.numbered;
  }

  -- once the first pass has begun
  pub kept : (s : State (Option T) (View T E R)) (id : ℕ) (v : View T E R) (x : T) → v.start ≡ Some x → get_elem? s.views id ≡ some v → Holds relates stands start s → Kept relates stands start s
  kept s id v x is at = ⊎_elim (λ (o : Opens s). ⊎_elim (λ (a : (s.homes ≡ some None ∷ []) × (s.views ≡ newcomer ∷ [])). absurd (alone newcomer refl id (ap (λ vs. get_elem? vs id) (sym a.1) ∙ at))) (λ (a : (s.homes ≡ none ∷ []) × (s.views ≡ opener ∷ [])). absurd (alone opener refl id (ap (λ vs. get_elem? vs id) (sym a.1) ∙ at))) o.stage) (λ k. k)
    where
      alone : (u : View T E R) → u.start ≡ None → (i : ℕ) → get_elem? (u ∷ []) i ≡ some v → ⊥
      alone u e zero q = none_not_some (sym e ∙ (ap (λ (z : View T E R). z.start) (some-injective u v q) ∙ is))
      alone u e (suc i) q = some-ne-none v (sym q)
