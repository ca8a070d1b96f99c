-- The laws of the rule.
use Rattle.std.proofs.Common.{◌≡◌, ◌≢◌, ⊎_elim, ℕ, zero, suc, ◌^◌, [], ◌∷◌, Some, None, Option, refl, sym, ap, ◌∙◌, subst, arith, slice_index}
use mathlib.Core.Option.{Option as Maybe, some, none, some-injective, some-ne-none}
use mathlib.Core.List.{IsPrefix}
use lib.ListN.{get_elem?}
use Rattle.atomic_table.specs.Table.{State}
use Rattle.ht_shared.specs.declared.view.View.{View}
use Rattle.ht_shared.specs.Rule.{left_by_join, newcomer, opener, IsLive, IsSlot, Kept, Opens, Holds}
use Rattle.ht_shared.specs.Laws.{Lies, IsLast}
use Rattle.ht_shared.proofs.Lists.{none_not_some}
use Rattle.ht_shared.proofs.Views.{live_ticket}

module _ {T E R : Type 0} (relates : T → E → R → T → Type 0) (stands : T → Type 0) where
  same_home : (a b : Maybe (Option T)) → a ∷ [] ≡ b ∷ [] → a ≡ b
  same_home a b e = some-injective a b (ap (λ hs. get_elem? hs 0) e)

  pub lies : (start x : T) (s : State (Option T) (View T E R)) → Holds relates stands start s → s.homes ≡ some (Some x) ∷ [] → Lies relates stands start x s
  lies start x s h home = ⊎_elim
      (λ (o : Opens s). ⊎_elim
      (λ (a : (s.homes ≡ some None ∷ []) × (s.views ≡ newcomer ∷ [])). none_not_some (some-injective None (Some x) (same_home _ _ (sym a.0 ∙ home))))
      (λ (a : (s.homes ≡ none ∷ []) × (s.views ≡ opener ∷ [])). absurd (some-ne-none (Some x) (sym (same_home _ _ (sym a.0 ∙ home)))))
      o.stage)
      (λ (k : Kept relates stands start s).
      let slot : IsSlot start k.serving k.history s.views (some (Some x)) = subst (IsSlot start k.serving k.history s.views) (same_home k.home (some (Some x)) (sym k.homes ∙ home)) k.slot in record {
        history = k.history;
        legal = k.legal;
        count = ap (λ ws. slice_index ws 1) k.words;
        seen = λ by v at. ⊎_elim (λ (e : v ≡ left_by_join). subst (λ (u : View T E R). IsPrefix u.seen k.history) (sym e) (k.history, refl)) (λ (l : IsLive start k.next k.serving k.given k.passes k.history v). l.is_beginning) (k.views by v at);
        longest = k.numbered.longest;
        end = slot.0;
        standing = subst stands slot.0 k.standing;
      })
      h

  pub last : (start : T) (s : State (Option T) (View T E R)) (by : ℕ) (v : View T E R) → Holds relates stands start s → get_elem? s.views by ≡ some v → v.ticket ≡ Some 9223372036854775807 → IsLast s by
  last start s by v h at mine = ⊎_elim
      (λ (o : Opens s). ⊎_elim
      (λ (a : (s.homes ≡ some None ∷ []) × (s.views ≡ newcomer ∷ [])). alone newcomer refl by (ap (λ vs. get_elem? vs by) (sym a.1) ∙ at))
      (λ (a : (s.homes ≡ none ∷ []) × (s.views ≡ opener ∷ [])). alone opener refl by (ap (λ vs. get_elem? vs by) (sym a.1) ∙ at))
      o.stage)
      (λ (k : Kept relates stands start s).
      let l = live_ticket start k.next k.serving k.given k.passes k.history v 9223372036854775807 mine (k.views by v at) in
      let low = l.ticket 9223372036854775807 mine in
      let end : k.next ≡ 2 ^ 63 = (let a = low.1 in let b = k.next_bound in omega arith) in record {
        next = ap (λ ws. slice_index ws 0) k.words ∙ end;
        others = λ other w n away there theirs.
            let m = live_ticket start k.next k.serving k.given k.passes k.history w n theirs (k.views other w there) in
            let bound = m.ticket n theirs in
            let apart : n ≢ 9223372036854775807 = λ q. away (k.apart other by w v 9223372036854775807 there at (theirs ∙ ap Some q) mine) in
            (let c = bound.1 in omega arith);
      })
      h
    where
      alone : {A : Type 0} (u : View T E R) → u.ticket ≡ None → (i : ℕ) → get_elem? (u ∷ []) i ≡ some v → A
      alone u e zero q = none_not_some (sym e ∙ (ap (λ (z : View T E R). z.ticket) (some-injective u v q) ∙ mine))
      alone u e (suc i) q = absurd (some-ne-none v (sym q))
