-- The first steps, the last state, and the last ticket.
use Rattle.std.proofs.Common.{◌≡◌, ◌≢◌, inl, inr, ⊎_elim, ℕ, zero, suc, ◌+◌, ◌<◌, ◌≤◌, false, List, [], ◌∷◌, length, set, Some, None, Option, refl, sym, ap, ◌∙◌, subst, arith, Contains, All, slice_set, replicate, get_or}
use mathlib.Core.Option.{Option as Maybe, some, none, some-injective, some-ne-none}
use mathlib.Core.Logic.{dite}
use native.Mathlib.Decide.{ℕ_discrete}
use lib.ListN.{get_elem?}
use Rattle.atomic_table.specs.Table.{State, Me, step, takes, gives, Allows, opening, Final, Seen, rest}
use Rattle.ht_base.specs.History.{Entry, IsLegal, end_of}
use Rattle.ht_shared.specs.declared.view.View.{View}
use Rattle.ht_shared.specs.Rule.{left_by_join, newcomer, opener, beginner, numbers, IsLive, IsSlot, Kept, Opens, Holds}
use Rattle.ht_shared.specs.Plays.{TakesSlot, Begins}
use Rattle.ht_shared.proofs.Lists.{off, none_not_some, total_two, contains_none, contains_cases, prefix_same}
use Rattle.ht_shared.proofs.Views.{live, live_inside, kept}
use Rattle.ht_shared.proofs.KeptByLooks.{Goes}
use Rattle.ht_shared.proofs.KeptByTurns.{numbers_of, has_number}

module _ {T E R : Type 0} (relates : T → E → R → T → Type 0) (stands : T → Type 0) (start : T) where
  pub opens : Holds relates stands start (opening (0 ∷ 0 ∷ 0 ∷ 1 ∷ []) (replicate 1 None) newcomer)
  opens = inl (record { words = refl; stage = inl (refl, refl) })

  -- a pass without an opening state is the first one, before it began
  opens_at : (s : State (Option T) (View T E R)) (id : ℕ) (v : View T E R) → v.start ≡ None → v.given ≡ 1 → get_elem? s.views id ≡ some v → Holds relates stands start s → Opens s
  opens_at s id v empty given at = ⊎_elim (λ (o : Opens s). o) (λ (k : Kept relates stands start s). ⊎_elim
      (λ (e : v ≡ left_by_join). absurd (let a = sym (ap (λ (u : View T E R). u.given) e) in let b : ◌≡◌ {A = ℕ} 0 1 = a ∙ given in omega arith))
      (λ (l : IsLive start k.next k.serving k.given k.passes k.history v). none_not_some (sym empty ∙ l.start_is))
      (k.views id v at))

  alone : (u v : View T E R) (i : ℕ) → get_elem? (u ∷ []) i ≡ some v → (i ≡ 0) × (u ≡ v)
  alone u v zero q = (refl, some-injective u v q)
  alone u v (suc i) q = absurd (some-ne-none v (sym q))

  pub takes_slot : (id : ℕ) → Allows (Holds relates stands start) 1 id (newcomer, []) 0 (λ n. n) (TakesSlot (step 1 0 0 0 none) (newcomer, []))
  unfolding Goes
  takes_slot id s h len at small =
      let o = opens_at s id newcomer refl refl at h in
      subst (Goes (Holds relates stands start) s id [] 0 (λ n. n) (TakesSlot (step 1 0 0 0 none) (newcomer, []))) (sym o.words) (⊎_elim
      (λ (a : (s.homes ≡ some None ∷ []) × (s.views ≡ newcomer ∷ [])).
      let first : id ≡ 0 = (alone newcomer newcomer id (ap (λ vs. get_elem? vs id) (sym a.1) ∙ at)).0 in (
        opener,
        takes 0 None,
        ap (λ hs. get_elem? hs 0) a.0,
        inl (record { words = refl; stage = inr (ap (λ hs. slice_set hs 0 none) a.0, ap (λ vs. slice_set vs id opener) a.1 ∙ ap (λ (i : ℕ). slice_set (newcomer ∷ []) i opener) first) }),
        refl,
      ))
      (λ (a : (s.homes ≡ none ∷ []) × (s.views ≡ opener ∷ [])). off (sym (ap (λ (z : View T E R). z.inside) (alone opener newcomer id (ap (λ vs. get_elem? vs id) (sym a.1) ∙ at)).1)))
      o.stage)

  pub begins : (id : ℕ) (x : T) → start ≡ x → stands x → Allows (Holds relates stands start) 1 id (opener, (0, Some x) ∷ []) 0 (λ n. n) (Begins (step 1 0 0 0 none) (opener, (0, Some x) ∷ []))
  unfolding Goes
  begins id x same stood s h len at small =
      let o = opens_at s id opener refl refl at h in
      subst (Goes (Holds relates stands start) s id ((0, Some x) ∷ []) 0 (λ n. n) (Begins (step 1 0 0 0 none) (opener, (0, Some x) ∷ []))) (sym o.words) (⊎_elim
      (λ (a : (s.homes ≡ some None ∷ []) × (s.views ≡ newcomer ∷ [])). off (ap (λ (z : View T E R). z.inside) (alone newcomer opener id (ap (λ vs. get_elem? vs id) (sym a.1) ∙ at)).1))
      (λ (a : (s.homes ≡ none ∷ []) × (s.views ≡ opener ∷ [])).
      let first : id ≡ 0 = (alone opener opener id (ap (λ vs. get_elem? vs id) (sym a.1) ∙ at)).0 in
      let views : set s.views id (beginner x) ≡ beginner x ∷ [] = ap (λ vs. set vs id (beginner x)) a.1 ∙ ap (λ (i : ℕ). set (opener ∷ []) i (beginner x)) first in (
        beginner x,
        gives,
        tt,
        inr (subst (λ vs. Kept relates stands start (record { words = 0 ∷ 0 ∷ 0 ∷ 1 ∷ []; homes = slice_set s.homes 0 (some (Some x)); views = vs })) (sym views)
            (record {
              next = 0;
              serving = 0;
              given = 1;
              passes = 1;
              history = [];
              home = some (Some x);
              words = refl;
              homes = ap (λ hs. slice_set hs 0 (some (Some x))) a.0;
              next_bound = omega arith;
              passes_bound = omega arith;
              given_bound = omega arith;
              tickets = refl;
              legal = tt;
              standing = subst stands (sym same) stood;
              slot = (same, refl, λ by v e. sym (ap (λ (z : View T E R). z.inside) (alone (beginner x) v by e).1));
              views = λ by v e. inr (subst (IsLive start 0 0 1 1 []) (alone (beginner x) v by e).1 (record {
                start_is = ap Some (sym same);
                is_beginning = prefix_same [];
                own_seen = λ n _. refl;
                numbers_given = λ n has. ⊎_elim (λ (q : 0 ≡ n). let z : n ≡ 0 = sym q in omega arith) (λ c. contains_none n c) (contains_cases 0 n [] has);
                own_once = λ has. contains_none 0 has;
                ticket = λ n t. none_not_some t;
                inside = λ i. off i;
                drawn = omega arith;
                found = omega arith;
                first_pass = λ _. (refl, refl);
                next_number = λ n t. none_not_some t;
                before = λ j d b. absurd (omega arith);
              }));
              apart = λ by other v w n e e' t t'. (alone (beginner x) v by e).0 ∙ sym (alone (beginner x) w other e').0;
              numbered = record {
                count = refl;
                apart = λ by other v w n e e' t t'. (alone (beginner x) v by e).0 ∙ sym (alone (beginner x) w other e').0;
                entries = λ j d b. absurd (omega arith);
                longest = (0, beginner x, refl, omega arith, refl);
              };
            })),
        (x, refl, refl),
      ))
      o.stage)

  -- ---- the end: only the first pass is left

  pub record Ended (v : View T E R) (xs : List (Option T)) : Type 0 where
    pub value : T
    pub slot : get_elem? xs 0 ≡ some (Some value)
    pub standing : stands value
    pub end : (x : T) → v.start ≡ Some x → end_of x v.seen ≡ value
    pub legal : (x : T) → v.start ≡ Some x → IsLegal relates x v.seen
    pub entries : All (λ (e : Entry T E R). Contains (v.number ∷ v.ended) e.pass) v.seen
    pub found : v.found ≤ length v.seen

  pub ends : (id : ℕ) (v : View T E R) (x : T) (ws : List ℕ) (xs : List (Option T)) → v.start ≡ Some x → v.inside ≡ false → v.number ≡ 0 → length v.ended + 1 ≡ v.given
      → Final (Seen (Holds relates stands start) id v) ws xs → Ended v xs
  ends id v x ws xs is out first_pass all f =
      let s = f.0 in
      let k = kept relates stands start s id v x is f.1.1 f.1.0 in
      let mine = live start k.next k.serving k.given k.passes k.history v x is (k.views id v f.1.1) in
      let weight : length (numbers v) ≡ k.given = (let a = ap length (numbers_of v x is) in let b = (mine.first_pass first_pass).0 in omega arith) in
      let only : (j : ℕ) (u : View T E R) → get_elem? s.views j ≡ some u → 0 < length (numbers u) → j ≡ id = λ j u e full.
      dite (ℕ_discrete j id) (λ (q : j ≡ id). q) (λ (m : j ≢ id). absurd (let a = total_two (λ (z : View T E R). length (numbers z)) s.views id j v u f.1.1 e m in let c = k.numbered.count in omega arith)) in
      let longest = k.numbered.longest in
      let last : longest.0 ≡ id = only longest.0 longest.1 longest.2 longest.3 in
      let own_seen : v.seen ≡ k.history = ap (λ (z : View T E R). z.seen) (some-injective v longest.1 (sym f.1.1 ∙ (ap (get_elem? s.views) (sym last) ∙ longest.2))) ∙ longest.4 in
      let slot = at_home s k f.1.1 out only k.home k.slot in record {
        value = slot.0;
        slot = f.4 0 (Some slot.0) (ap (λ hs. get_elem? hs 0) (k.homes ∙ ap (λ (m : Maybe (Option T)). m ∷ []) slot.1));
        standing = slot.3;
        end = λ y e. subst (λ (z : T). end_of z v.seen ≡ slot.0) (some_is _ _ (sym mine.start_is ∙ e)) (ap (end_of start) own_seen ∙ slot.2);
        legal = λ y e. subst (λ (z : T). IsLegal relates z v.seen) (some_is _ _ (sym mine.start_is ∙ e)) (subst (IsLegal relates start) (sym own_seen) k.legal);
        entries = subst (λ l. All (λ (e : Entry T E R). Contains (v.number ∷ v.ended) e.pass) l) (sym own_seen) (λ j d b. let h = k.numbered.entries j d b in
            let here : h.0 ≡ id = only h.0 h.1 h.2 (some_length _ _ h.3) in
            let e : Entry T E R = get_or k.history j d in
            subst (λ (ns : List ℕ). Contains ns e.pass) (ap (λ (z : View T E R). numbers z) (some-injective h.1 v (sym h.2 ∙ (ap (get_elem? s.views) here ∙ f.1.1))) ∙ numbers_of v x is) h.3);
        found = (let a = mine.found in let b = ap length own_seen in omega arith);
      }
    where
      some_is : (a b : T) → Some a ≡ Some b → a ≡ b
      some_is a b e = cc (e)

      some_length : (n : ℕ) (ns : List ℕ) → Contains ns n → 0 < length ns
      some_length n ns h = let b = h.1 in omega arith

      at_home : (s : State (Option T) (View T E R)) (k : Kept relates stands start s) → get_elem? s.views id ≡ some v → v.inside ≡ false → ((j : ℕ) (u : View T E R) → get_elem? s.views j ≡ some u → 0 < length (numbers u) → j ≡ id)
          → (home : Maybe (Option T)) → IsSlot start k.serving k.history s.views home → (y : T) × (home ≡ some (Some y)) × (end_of start k.history ≡ y) × stands y
      at_home s k at out only (some (Some y)) slot = (y, refl, slot.0, subst stands slot.0 k.standing)
      at_home s k at out only (some None) slot = absurd slot
      at_home s k at out only none slot =
          let l = live_inside start k.next k.serving k.given k.passes k.history slot.1 slot.3 (k.views slot.0 slot.1 slot.2) in
          let full : 0 < length (numbers slot.1) = some_length _ _ (has_number slot.1 start l.start_is) in
          let here = only slot.0 slot.1 slot.2 full in
          off (sym out ∙ (ap (λ (z : View T E R). z.inside) (some-injective v slot.1 (sym at ∙ (ap (get_elem? s.views) (sym here) ∙ slot.2))) ∙ slot.3))

pub filled : {T E R : Type 0} (old new : Me (Option T) (View T E R)) (x : T) → old ≡ (opener, (0, None) ∷ []) → new ≡ (old.0, (0, Some x) ∷ rest old.1) → new ≡ (opener, (0, Some x) ∷ [])
filled {T} {E} {R} old new x a b = b ∙ ap (λ (m : Me (Option T) (View T E R)). (m.0, (0, Some x) ∷ rest m.1)) a

module _ {T E R : Type 0} (relates : T → E → R → T → Type 0) (stands : T → Type 0) (start : T) where
  pub slot_is : (v : View T E R) (xs : List (Option T)) (e : Ended relates stands start v xs) (found : Option T) → get_elem? xs 0 ≡ some found → Some e.value ≡ found
  slot_is v xs e found at = some-injective (Some e.value) found (sym e.slot ∙ at)
