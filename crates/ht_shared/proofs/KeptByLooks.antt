-- A look at a word keeps the rule.
use Rattle.std.proofs.Common.{◌≡◌, ◌⊎◌, inr, ⊎_elim, ℕ, ◌^◌, ◌≤◌, Bool, true, false, cond, List, [], ◌∷◌, length, Some, None, Option, refl, sym, ap, ◌∙◌, subst, arith, slice_index, slice_set, nat_lt}
use mathlib.Core.Option.{Option as Maybe, some, none}
use Rattle.atomic_table.specs.Table.{State, Me, step, Act, keeps, Valid, Allows, homes_after, carried_after}
use Rattle.ht_base.specs.History.{Entry}
use Rattle.ht_shared.specs.declared.view.View.{View}
use Rattle.ht_shared.specs.Rule.{total, held, if_live, left_by_join, numbers, IsLive, IsSlot, Kept, Holds}
use Rattle.ht_shared.specs.Plays.{looked, LooksAtNext, counted, LooksAtCount, LooksAtPasses, LooksBack}
use Rattle.ht_shared.proofs.Lists.{off, total_le}
use Rattle.ht_shared.proofs.Views.{live, live_ticket, stays, kept}

cond_le : (b : Bool) (x y : ℕ) → x ≤ y → cond b x y ≤ y
cond_le true x y h = h
cond_le false x y h = omega arith

module _ {T E R : Type 0} (holds : State (Option T) (View T E R) → Type 0) (s : State (Option T) (View T E R)) (id : ℕ) (cs : List (ℕ × Option T)) (i : ℕ) (f : ℕ → ℕ) (then : ℕ → Me (Option T) (View T E R) → Type 0) where
  -- what a step owes, where the words are these
  unfoldable pub Goes : List ℕ → Type 0
  Goes ws = (w : View T E R) × (a : Act (Option T)) × Valid s.homes cs a
      × holds (record { words = slice_set ws i (f (slice_index ws i)); homes = homes_after s.homes cs a; views = slice_set s.views id w })
      × then (slice_index ws i) (w, carried_after cs a)

module _ {T E R : Type 0} (start : T) (next serving given passes : ℕ) (history : List (Entry T E R)) where
  pub lives_marks : (v : View T E R) (d f : ℕ) → d ≤ next → f ≤ length history → IsLive start next serving given passes history v → IsLive start next serving given passes history (record v { drawn = d; found = f })
  lives_marks v d f low few l = record {
    start_is = l.start_is;
    is_beginning = l.is_beginning;
    own_seen = l.own_seen;
    numbers_given = l.numbers_given;
    own_once = l.own_once;
    ticket = l.ticket;
    inside = l.inside;
    drawn = low;
    found = few;
    first_pass = l.first_pass;
    next_number = l.next_number;
    before = l.before;
  }

module _ {T E R : Type 0} (relates : T → E → R → T → Type 0) (stands : T → Type 0) (start : T) where
  -- as many calls as turns were made, or one more
  pub served : (s : State (Option T) (View T E R)) (k : Kept relates stands start s) → k.serving ≤ length k.history
  served s k = by_home k.home k.slot
    where
      by_home : (home : Maybe (Option T)) → IsSlot start k.serving k.history s.views home → k.serving ≤ length k.history
      by_home (some (Some x)) slot = let e = slot.1 in omega arith
      by_home (some None) slot = absurd slot
      by_home none slot = ⊎_elim
          (λ (e : slot.1 ≡ left_by_join). off (sym (ap (λ (u : View T E R). u.inside) e) ∙ slot.3))
          (λ (l : IsLive start k.next k.serving k.given k.passes k.history slot.1). let c = (l.inside slot.3).2 in omega arith)
          (k.views slot.0 slot.1 slot.2)

  -- there are no more tickets than numbers
  pub few_out : (s : State (Option T) (View T E R)) (k : Kept relates stands start s) → total (λ (v : View T E R). held v.ticket) s.views ≤ k.given
  few_out s k =
      let le = total_le (λ (v : View T E R). held v.ticket) (λ (v : View T E R). length (numbers v)) s.views (λ by v at. one v.ticket v refl (k.views by v at)) in let c = k.numbered.count in omega arith
    where
      one : (t : Option ℕ) (v : View T E R) → v.ticket ≡ t → (v ≡ left_by_join) ⊎ IsLive start k.next k.serving k.given k.passes k.history v → held t ≤ length (numbers v)
      one None v is l = omega arith
      one (Some n) v is l = let m = live_ticket start k.next k.serving k.given k.passes k.history v n is l in let c = ap (λ (x : Option T). length (if_live x (v.number ∷ v.ended))) m.start_is in omega arith

  module _ (id : ℕ) (v : View T E R) (x : T) (is : v.start ≡ Some x) (out : v.inside ≡ false) where
    pub looks_next : Allows (Holds relates stands start) 1 id (v, []) 0 (λ n. n) (LooksAtNext (step 1 0 0 0 none) (v, []))
    unfolding Goes
    looks_next s h len at small =
        let k = kept relates stands start s id v x is at h in
        let mine = live start k.next k.serving k.given k.passes k.history v x is (k.views id v at) in
        subst (Goes (Holds relates stands start) s id [] 0 (λ n. n) (LooksAtNext (step 1 0 0 0 none) (v, []))) (sym k.words) (
          looked v k.next,
          keeps,
          tt,
          inr (stays relates stands start id v (looked v k.next) s k at k.passes k.passes_bound k.given_bound refl refl refl out out (λ j u _ _ l. l)
              (inr (lives_marks start k.next k.serving k.given k.passes k.history v (cond (nat_lt k.next (2 ^ 63)) v.drawn k.next) v.found (cond_le (nat_lt k.next (2 ^ 63)) v.drawn k.next mine.drawn) mine.found mine))),
          (refl, mine.drawn),
        )

    pub looks_count : Allows (Holds relates stands start) 1 id (v, []) 1 (λ n. n) (LooksAtCount (step 1 1 0 0 none) (v, []))
    unfolding Goes
    looks_count s h len at small =
        let k = kept relates stands start s id v x is at h in
        let mine = live start k.next k.serving k.given k.passes k.history v x is (k.views id v at) in
        subst (Goes (Holds relates stands start) s id [] 1 (λ n. n) (LooksAtCount (step 1 1 0 0 none) (v, []))) (sym k.words) (
          counted v (length k.history),
          keeps,
          tt,
          inr (stays relates stands start id v (counted v (length k.history)) s k at k.passes k.passes_bound k.given_bound refl refl refl out out (λ j u _ _ l. l)
              (inr (lives_marks start k.next k.serving k.given k.passes k.history v v.drawn (length k.history) mine.drawn (omega arith) mine))),
          (refl, λ spent. (let a = served s k in let b = few_out s k in let c = k.tickets in let d = mine.drawn in let e = k.passes_bound in let f = k.given_bound in omega arith)),
        )

    pub looks_passes : v.number ≡ 0 → Allows (Holds relates stands start) 1 id (v, []) 3 (λ n. n) (LooksAtPasses (step 1 3 0 0 none) (v, []))
    unfolding Goes
    looks_passes first_pass s h len at small =
        let k = kept relates stands start s id v x is at h in
        let mine = live start k.next k.serving k.given k.passes k.history v x is (k.views id v at) in
        let all = mine.first_pass first_pass in
        subst (Goes (Holds relates stands start) s id [] 3 (λ n. n) (LooksAtPasses (step 1 3 0 0 none) (v, []))) (sym k.words) (
          v,
          keeps,
          tt,
          inr (stays relates stands start id v v s k at k.passes k.passes_bound k.given_bound refl refl refl out out (λ j u _ _ l. l) (inr mine)),
          (refl, (let a = all.0 in let b = all.1 in omega arith), k.passes_bound),
        )

    pub looks_back : Allows (Holds relates stands start) 1 id (v, []) 0 (λ n. n) (LooksBack (step 1 0 0 0 none) (v, []))
    unfolding Goes
    looks_back s h len at small =
        let k = kept relates stands start s id v x is at h in
        let mine = live start k.next k.serving k.given k.passes k.history v x is (k.views id v at) in
        subst (Goes (Holds relates stands start) s id [] 0 (λ n. n) (LooksBack (step 1 0 0 0 none) (v, []))) (sym k.words) (
          v,
          keeps,
          tt,
          inr (stays relates stands start id v v s k at k.passes k.passes_bound k.given_bound refl refl refl out out (λ j u _ _ l. l) (inr mine)),
          (refl, mine.before),
        )
