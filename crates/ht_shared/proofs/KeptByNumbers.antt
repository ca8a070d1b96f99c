-- The steps on numbers of passes keep the rule: number, seat split and seat join.
use Rattle.std.proofs.Common.{◌≡◌, ◌≢◌, ◌⊎◌, inl, inr, ⊎_elim, ℕ, zero, suc, ◌+◌, ◌%◌, ◌^◌, ◌<◌, false, List, [], ◌∷◌, ◌++◌, length, set, Some, None, Option, refl, sym, ap, ◌∙◌, subst, arith, Contains, All, unwrap_or, length-append}
use Rattle.std.proofs.lemmas.List.Elements.{Contains-append_left, Contains-append_right, Contains-append_cases}
use mathlib.Core.Option.{Option as Maybe, some, none, some-injective, some-ne-none}
use mathlib.Core.List.{IsPrefix}
use mathlib.Core.Logic.{dite}
use native.Mathlib.Decide.{ℕ_discrete}
use lib.ListN.{get_elem?}
use Rattle.atomic_table.specs.Table.{State, step, keeps, Allows, Splits, Joins}
use Rattle.atomic_table.proofs.Lists.{at_set, set_else, at_longer}
use Rattle.ht_base.specs.History.{Entry, own}
use Rattle.ht_shared.specs.declared.view.View.{View}
use Rattle.ht_shared.specs.Rule.{held, left_by_join, numbers, Continues, IsLive, AreLive, IsSlot, IsAnswered, IsSeen, Numbered, Kept, Holds}
use Rattle.ht_shared.specs.Plays.{numbering, Numbers, giver, sibling, longer, joined}
use Rattle.ht_shared.proofs.Lists.{off, some_same, none_not_some, get_here, total_set, total_snoc, contains_first, contains_later, contains_cases, contains_none, own-append, own_none, own_between, longer_begins, prefix_whole}
use Rattle.ht_shared.proofs.Views.{live, live_number, slot_set, live_set, tickets_set, tickets_stay, numbered_set, seen_set, stays, kept}
use Rattle.ht_shared.proofs.KeptByLooks.{Goes}
use Rattle.ht_shared.proofs.KeptByTurns.{numbers_of, has_number}

module _ {T E R : Type 0} where
  -- no call has a number that isn't given
  pub unknown : (start : T) (next serving given passes : ℕ) (history : List (Entry T E R)) (views : List (View T E R)) → AreLive start next serving given passes history views → All (λ (e : Entry T E R). IsAnswered views e.pass) history → own given history ≡ []
  unknown start next serving given passes history views all entries =
      own_none given history (λ j d b q. let h = entries j d b in let l = live_number start next serving given passes history h.1 _ h.3 (all h.0 h.1 h.2) in let low = l.numbers_given _ h.3 in omega arith)

  pub own_begin : (n : ℕ) (xs history : List (Entry T E R)) → IsPrefix xs history → own n history ≡ [] → own n xs ≡ []
  own_begin n xs history p nothing =
      let a = ap length (sym (ap (own n) p.1) ∙ own-append n xs p.0) in
      let b = ap length nothing in
      empty _ (omega (arith, a, b, length-append (own n xs) (own n p.0)))
    where
      empty : {X : Type 0} (xs : List X) → length xs ≡ 0 → xs ≡ []
      empty [] e = refl
      empty (x ∷ xs) e = absurd (omega arith)

-- ---- the end of a longer list

pub at_end : {V : Type 0} (l : List V) (a b : V) (j : ℕ) → get_elem? (l ++ a ∷ []) j ≡ some b → (get_elem? l j ≡ some b) ⊎ ((j ≡ length l) × (a ≡ b))
at_end [] a b zero e = inr (refl, some-injective a b e)
at_end [] a b (suc j) e = absurd (some-ne-none b (sym e))
at_end (x ∷ xs) a b zero e = inl e
at_end (x ∷ xs) a b (suc j) e = ⊎_elim inl (λ h. inr (ap suc h.0, h.1)) (at_end xs a b j e)

module _ {T E R : Type 0} (relates : T → E → R → T → Type 0) (stands : T → Type 0) (start : T) where
  -- ---- a number is drawn

  pub draws_number : (id : ℕ) (v : View T E R) (x : T) → v.start ≡ Some x → v.inside ≡ false → v.number ≡ 0 → v.to_give ≡ None → v.given < 4294967295
      → Allows (Holds relates stands start) 1 id (v, []) 3 (λ m. (m + 1) % 2 ^ 64) (Numbers (step 1 3 1 0 none) (v, []))
  unfolding Goes
  draws_number id v x is out first_pass idle few s h len at small =
      let k = kept relates stands start s id v x is at h in
      let mine = live start k.next k.serving k.given k.passes k.history v x is (k.views id v at) in
      let all = mine.first_pass first_pass in
      let none_out : held v.to_give ≡ 0 = ap held idle in
      let now : k.passes ≡ k.given = (let a = all.1 in omega arith) in
      let same : v.given ≡ k.given = all.0 in
      let sum : (k.passes + 1) % 2 ^ 64 ≡ k.passes + 1 = (let f = k.passes_bound in omega arith) in
      let w : View T E R = numbering v in
      subst (Goes (Holds relates stands start) s id [] 3 (λ m. (m + 1) % 2 ^ 64) (Numbers (step 1 3 1 0 none) (v, []))) (sym k.words) (
        w,
        keeps,
        tt,
        inr (subst (λ (m : ℕ). Kept relates stands start (record { words = k.next ∷ length k.history ∷ k.serving ∷ m ∷ []; homes = s.homes; views = set s.views id w })) (sym sum)
            (stays relates stands start id v w s k at (k.passes + 1) (omega arith) (omega arith) refl refl refl out out
            (λ j u away e l. record {
              start_is = l.start_is;
              is_beginning = l.is_beginning;
              own_seen = l.own_seen;
              numbers_given = l.numbers_given;
              own_once = l.own_once;
              ticket = l.ticket;
              inside = l.inside;
              drawn = l.drawn;
              found = l.found;
              first_pass = λ z. absurd (away (k.numbered.apart j id u v 0 e at (subst (Contains (numbers u)) z (has_number u start l.start_is)) (subst (Contains (numbers v)) first_pass (has_number v x is))));
              next_number = l.next_number;
              before = l.before;
            })
            (inr (record {
              start_is = mine.start_is;
              is_beginning = mine.is_beginning;
              own_seen = mine.own_seen;
              numbers_given = mine.numbers_given;
              own_once = mine.own_once;
              ticket = mine.ticket;
              inside = mine.inside;
              drawn = mine.drawn;
              found = mine.found;
              first_pass = λ _. (same, omega arith);
              next_number = λ n e. (first_pass, sym (some_same e) ∙ same);
              before = mine.before;
            })))),
        (refl, omega arith, own_begin v.given v.seen k.history mine.is_beginning (subst (λ (m : ℕ). own m k.history ≡ []) (sym same) (unknown start k.next k.serving k.given k.passes k.history s.views k.views k.numbered.entries))),
      )

  -- ---- a pass is given

  slot_snoc : (serving : ℕ) (history : List (Entry T E R)) (views : List (View T E R)) (w : View T E R) (home : Maybe (Option T)) → w.inside ≡ false → IsSlot start serving history views home → IsSlot start serving history (views ++ w ∷ []) home
  slot_snoc serving history views w (some (Some x)) out slot = (slot.0, slot.1, λ by u e. ⊎_elim (λ (a : get_elem? views by ≡ some u). slot.2 by u a) (λ (b : (by ≡ length views) × (w ≡ u)). sym (ap (λ (z : View T E R). z.inside) b.1) ∙ out) (at_end views w u by e))
  slot_snoc serving history views w (some None) out slot = absurd slot
  slot_snoc serving history views w none out slot = (slot.0, slot.1, at_longer views (w ∷ []) slot.0 slot.1 slot.2, slot.3)

  pub splits : (id n : ℕ) (v : View T E R) (x : T) → v.start ≡ Some x → v.inside ≡ false → v.to_give ≡ Some n → Splits (Holds relates stands start) id v (giver v) (sibling v)
  splits id n v x is out next_number s h at =
      let k = kept relates stands start s id v x is at h in
      let mine = live start k.next k.serving k.given k.passes k.history v x is (k.views id v at) in
      let first_pass : v.number ≡ 0 = (mine.next_number n next_number).0 in
      let all = mine.first_pass first_pass in
      let one_out : held v.to_give ≡ 1 = ap held next_number in
      let number : unwrap_or v.to_give 0 ≡ k.given = ap (λ (o : Option ℕ). unwrap_or o 0) next_number ∙ (mine.next_number n next_number).1 in
      let w : View T E R = giver v in
      let u : View T E R = sibling v in
      let views' = set s.views id w in
      let its : numbers u ≡ k.given ∷ [] = numbers_of u x is ∙ ap (λ (m : ℕ). m ∷ []) number in
      let low : (j : ℕ) (y : View T E R) (m : ℕ) → get_elem? views' j ≡ some y → Contains (numbers y) m → m < k.given = λ j y m e has.
      (let t = old j y m e has in let l = live_number start k.next k.serving k.given k.passes k.history t.0 m t.2 (k.views j t.0 t.1) in l.numbers_given m t.2) in
      let mid : Numbered k.given k.history views' = numbered_set s.views id v w at k.given k.history k.history refl (seen_set s.views id v w at k.history refl refl k.numbered.longest) k.numbered.entries k.numbered in
      let lives : AreLive start k.next k.serving (k.given + 1) k.passes k.history views' = live_set start k.next k.serving k.given k.passes k.next k.serving (k.given + 1) k.passes k.history k.history s.views id w k.views
      (λ j y away e l. record {
        start_is = l.start_is;
        is_beginning = l.is_beginning;
        own_seen = l.own_seen;
        numbers_given = λ m has. (let b = l.numbers_given m has in omega arith);
        own_once = l.own_once;
        ticket = l.ticket;
        inside = l.inside;
        drawn = l.drawn;
        found = l.found;
        first_pass = λ z. absurd (away (k.numbered.apart j id y v 0 e at (subst (Contains (numbers y)) z (has_number y start l.start_is)) (subst (Contains (numbers v)) first_pass (has_number v x is))));
        next_number = λ m q. absurd (away (k.numbered.apart j id y v 0 e at (subst (Contains (numbers y)) (l.next_number m q).0 (has_number y start l.start_is)) (subst (Contains (numbers v)) first_pass (has_number v x is))));
        before = l.before;
      })
      (inr (record {
        start_is = mine.start_is;
        is_beginning = mine.is_beginning;
        own_seen = mine.own_seen;
        numbers_given = λ m has. (let b = mine.numbers_given m has in omega arith);
        own_once = mine.own_once;
        ticket = mine.ticket;
        inside = mine.inside;
        drawn = mine.drawn;
        found = mine.found;
        first_pass = λ _. (let a = all.0 in let b = all.1 in (omega arith, omega arith));
        next_number = λ m q. none_not_some q;
        before = mine.before;
      })) in
      let fresh : IsLive start k.next k.serving (k.given + 1) k.passes k.history u = record {
        start_is = mine.start_is;
        is_beginning = mine.is_beginning;
        own_seen = λ m has. (let q : k.given ≡ m = only k.given m (subst (λ (ns : List ℕ). Contains ns m) its has) in
            subst (λ (i : ℕ). own i k.history ≡ own i v.seen) q (let z = unknown start k.next k.serving k.given k.passes k.history s.views k.views k.numbered.entries in z ∙ sym (own_begin k.given v.seen k.history mine.is_beginning z)));
        numbers_given = λ m has. (let q : k.given ≡ m = only k.given m (subst (λ (ns : List ℕ). Contains ns m) its has) in omega arith);
        own_once = λ has. contains_none _ has;
        ticket = λ m q. none_not_some q;
        inside = λ i. off i;
        drawn = omega arith;
        found = omega arith;
        first_pass = λ z. absurd (let a = mine.numbers_given 0 (subst (Contains (numbers v)) first_pass (has_number v x is)) in omega arith);
        next_number = λ m q. none_not_some q;
        before = λ j d b. absurd (omega arith);
      } in
      inr (record {
        next = k.next;
        serving = k.serving;
        given = k.given + 1;
        passes = k.passes;
        history = k.history;
        home = k.home;
        words = k.words;
        homes = k.homes;
        next_bound = k.next_bound;
        passes_bound = k.passes_bound;
        given_bound = (let b = all.1 in omega arith);
        tickets = (let t = total_set (λ (y : View T E R). held y.ticket) s.views id v w at in let t' = total_snoc (λ (y : View T E R). held y.ticket) views' u in let o = k.tickets in omega arith);
        legal = k.legal;
        standing = k.standing;
        slot = slot_snoc k.serving k.history views' u k.home refl (slot_set start k.next k.serving k.given k.passes k.history s.views id v w k.home at out out k.slot);
        views = λ j y e. ⊎_elim (λ (a : get_elem? views' j ≡ some y). lives j y a) (λ (b : (j ≡ length views') × (u ≡ y)). inr (subst (IsLive start k.next k.serving (k.given + 1) k.passes k.history) b.1 fresh)) (at_end views' u y j e);
        apart = λ by other y z m e e' t t'.
            ⊎_elim
            (λ (a : get_elem? views' by ≡ some y). ⊎_elim (λ (b : get_elem? views' other ≡ some z). tickets_stay s.views id v w at refl k.apart by other y z m a b t t') (λ (b : (other ≡ length views') × (u ≡ z)). none_not_some (ap (λ (i : View T E R). i.ticket) b.1 ∙ t')) (at_end views' u z other e'))
            (λ (a : (by ≡ length views') × (u ≡ y)). none_not_some (ap (λ (i : View T E R). i.ticket) a.1 ∙ t))
            (at_end views' u y by e);
        numbered = record {
          count = (let c = mid.count in let t = total_snoc (λ (y : View T E R). length (numbers y)) views' u in let l = ap length its in omega arith);
          apart = λ by other y z m e e' has has'.
              ⊎_elim
              (λ (a : get_elem? views' by ≡ some y). ⊎_elim
              (λ (b : get_elem? views' other ≡ some z). mid.apart by other y z m a b has has')
              (λ (b : (other ≡ length views') × (u ≡ z)). absurd (let q = only k.given m (subst (λ (ns : List ℕ). Contains ns m) (ap (λ (i : View T E R). numbers i) (sym b.1) ∙ its) has') in let l = low by y m a has in omega arith))
              (at_end views' u z other e'))
              (λ (a : (by ≡ length views') × (u ≡ y)). ⊎_elim
              (λ (b : get_elem? views' other ≡ some z). absurd (let q = only k.given m (subst (λ (ns : List ℕ). Contains ns m) (ap (λ (i : View T E R). numbers i) (sym a.1) ∙ its) has) in let l = low other z m b has' in omega arith))
              (λ (b : (other ≡ length views') × (u ≡ z)). a.0 ∙ sym b.0)
              (at_end views' u z other e'))
              (at_end views' u y by e);
          entries = λ j d b. (let a = mid.entries j d b in (a.0, a.1, at_longer views' (u ∷ []) a.0 a.1 a.2, a.3));
          longest = (let a = mid.longest in (a.0, a.1, at_longer views' (u ∷ []) a.0 a.1 a.2, a.3, a.4));
        };
      })
    where
      only : (a m : ℕ) → Contains (a ∷ []) m → a ≡ m
      only a m has = ⊎_elim (λ q. q) (λ h. contains_none m h) (contains_cases a m [] has)

      old : (j : ℕ) (y : View T E R) (m : ℕ) → get_elem? (set s.views id (giver v)) j ≡ some y → Contains (numbers y) m → (y' : View T E R) × (get_elem? s.views j ≡ some y') × Contains (numbers y') m
      old j y m e has = ⊎_elim
          (λ (a : (j ≡ id) × (giver v ≡ y)). (v, ap (get_elem? s.views) a.0 ∙ at, subst (λ (z : View T E R). Contains (numbers z) m) (sym a.1) has))
          (λ (a : (j ≢ id) × (get_elem? s.views j ≡ some y)). (y, a.1, has))
          (at_set s.views id j (giver v) y e)

  -- ---- two passes become one

  module _ (id other : ℕ) (v w : View T E R) (x y : T) (is : v.start ≡ Some x) (theirs : w.start ≡ Some y) (idle : w.ticket ≡ None) (out : v.inside ≡ false) (out' : w.inside ≡ false)
      (s : State (Option T) (View T E R)) (k : Kept relates stands start s) (at : get_elem? s.views id ≡ some v) (away : other ≢ id) (there : get_elem? s.views other ≡ some w) where
    both : View T E R
    both = joined v w

    mid : List (View T E R)
    mid = set s.views id (joined v w)

    end : List (View T E R)
    end = set (set s.views id (joined v w)) other left_by_join

    one : IsLive start k.next k.serving k.given k.passes k.history v
    one = live start k.next k.serving k.given k.passes k.history v x is (k.views id v at)

    two : IsLive start k.next k.serving k.given k.passes k.history w
    two = live start k.next k.serving k.given k.passes k.history w y theirs (k.views other w there)

    -- the numbers of both
    from_both : (n : ℕ) → Contains (numbers (joined v w)) n → Contains (numbers v) n ⊎ Contains (numbers w) n
    from_both n has =
        let a = subst (λ (ns : List ℕ). Contains ns n) (numbers_of (joined v w) x is) has in
        ⊎_elim
        (λ (q : v.number ≡ n). inl (subst (λ (ns : List ℕ). Contains ns n) (sym (numbers_of v x is)) (subst (Contains (v.number ∷ v.ended)) q (contains_first v.number v.ended))))
        (λ b. ⊎_elim
        (λ c. inl (subst (λ (ns : List ℕ). Contains ns n) (sym (numbers_of v x is)) (contains_later v.number n v.ended c)))
        (λ c. inr (subst (λ (ns : List ℕ). Contains ns n) (sym (numbers_of w y theirs)) c))
        (Contains-append_cases v.ended (w.number ∷ w.ended) n b))
        (contains_cases v.number n (v.ended ++ (w.number ∷ w.ended)) a)

    to_both : (n : ℕ) → Contains (numbers v) n ⊎ Contains (numbers w) n → Contains (numbers (joined v w)) n
    to_both n = ⊎_elim
        (λ (has : Contains (numbers v) n). subst (λ (ns : List ℕ). Contains ns n) (sym (numbers_of (joined v w) x is)) (⊎_elim
        (λ (q : v.number ≡ n). subst (Contains (v.number ∷ (v.ended ++ (w.number ∷ w.ended)))) q (contains_first v.number (v.ended ++ (w.number ∷ w.ended))))
        (λ c. contains_later v.number n (v.ended ++ (w.number ∷ w.ended)) (Contains-append_left v.ended (w.number ∷ w.ended) n c))
        (contains_cases v.number n v.ended (subst (λ (ns : List ℕ). Contains ns n) (numbers_of v x is) has))))
        (λ (has : Contains (numbers w) n). subst (λ (ns : List ℕ). Contains ns n) (sym (numbers_of (joined v w) x is))
        (contains_later v.number n (v.ended ++ (w.number ∷ w.ended)) (Contains-append_right v.ended (w.number ∷ w.ended) n (subst (λ (ns : List ℕ). Contains ns n) (numbers_of w y theirs) has))))

    -- a pass at the end is the joined one, or was there before
    was_there : (j : ℕ) (u : View T E R) (n : ℕ) → get_elem? (set (set s.views id (joined v w)) other left_by_join) j ≡ some u → Contains (numbers u) n
        → ((j ≡ id) × (Contains (numbers v) n ⊎ Contains (numbers w) n)) ⊎ ((j ≢ id) × (j ≢ other) × (get_elem? s.views j ≡ some u))
    was_there j u n e has = ⊎_elim
        (λ (a : (j ≡ other) × (left_by_join ≡ u)). contains_none n (subst (λ (z : View T E R). Contains (numbers z) n) (sym a.1) has))
        (λ (a : (j ≢ other) × (get_elem? (set s.views id (joined v w)) j ≡ some u)). ⊎_elim
        (λ (b : (j ≡ id) × (joined v w ≡ u)). inl (b.0, from_both n (subst (λ (z : View T E R). Contains (numbers z) n) (sym b.1) has)))
        (λ (b : (j ≢ id) × (get_elem? s.views j ≡ some u)). inr (b.0, a.0, b.1))
        (at_set s.views id j (joined v w) u a.1))
        (at_set (set s.views id (joined v w)) other j left_by_join u e)

    there_mid : get_elem? (set s.views id (joined v w)) other ≡ some w
    there_mid = set_else s.views id other (joined v w) away ∙ there

    joined_at : get_elem? (set (set s.views id (joined v w)) other left_by_join) id ≡ some (joined v w)
    joined_at = set_else (set s.views id (joined v w)) other id left_by_join (λ q. away (sym q)) ∙ get_here s.views id v (joined v w) at

    else_at : (j : ℕ) (u : View T E R) → j ≢ id → j ≢ other → get_elem? s.views j ≡ some u → get_elem? (set (set s.views id (joined v w)) other left_by_join) j ≡ some u
    else_at j u n m e = set_else (set s.views id (joined v w)) other j left_by_join m ∙ (set_else s.views id j (joined v w) n ∙ e)

    answered : (n : ℕ) → IsAnswered s.views n → IsAnswered (set (set s.views id (joined v w)) other left_by_join) n
    answered n h =
        dite (ℕ_discrete h.0 id)
        (λ (q : h.0 ≡ id). (id, joined v w, joined_at, to_both n (inl (subst (λ (z : View T E R). Contains (numbers z) n) (some-injective h.1 v (sym h.2 ∙ (ap (get_elem? s.views) q ∙ at))) h.3))))
        (λ (m : h.0 ≢ id). dite (ℕ_discrete h.0 other)
        (λ (q : h.0 ≡ other). (id, joined v w, joined_at, to_both n (inr (subst (λ (z : View T E R). Contains (numbers z) n) (some-injective h.1 w (sym h.2 ∙ (ap (get_elem? s.views) q ∙ there))) h.3))))
        (λ (m' : h.0 ≢ other). (h.0, h.1, else_at h.0 h.1 m m' h.2, h.3)))

    count_both : length (numbers (joined v w)) ≡ length (numbers v) + length (numbers w)
    count_both = let a = ap length (numbers_of (joined v w) x is) in let b = ap length (numbers_of v x is) in let c = ap length (numbers_of w y theirs) in omega (arith, length-append v.ended (w.number ∷ w.ended))

    seen_whole : (v.seen ≡ k.history) ⊎ (w.seen ≡ k.history) → longer v.seen w.seen ≡ k.history
    seen_whole h =
        let l = longer_begins v.seen w.seen k.history one.is_beginning two.is_beginning in
        prefix_whole (longer v.seen w.seen) k.history l.2 (⊎_elim (λ (e : v.seen ≡ k.history). let c = ap length e in let d = l.3 in omega arith) (λ (e : w.seen ≡ k.history). let c = ap length e in let d = l.4 in omega arith) h)

    seen_still : IsSeen k.history s.views → IsSeen k.history (set (set s.views id (joined v w)) other left_by_join)
    seen_still h =
        let full : 0 < length (numbers (joined v w)) = (let c = ap length (numbers_of (joined v w) x is) in omega arith) in
        dite (ℕ_discrete h.0 id)
        (λ (q : h.0 ≡ id). (id, joined v w, joined_at, full, seen_whole (inl (ap (λ (z : View T E R). z.seen) (sym (some-injective h.1 v (sym h.2 ∙ (ap (get_elem? s.views) q ∙ at)))) ∙ h.4))))
        (λ (m : h.0 ≢ id). dite (ℕ_discrete h.0 other)
        (λ (q : h.0 ≡ other). (id, joined v w, joined_at, full, seen_whole (inr (ap (λ (z : View T E R). z.seen) (sym (some-injective h.1 w (sym h.2 ∙ (ap (get_elem? s.views) q ∙ there)))) ∙ h.4))))
        (λ (m' : h.0 ≢ other). (h.0, h.1, else_at h.0 h.1 m m' h.2, h.3, h.4)))

    lives_both : IsLive start k.next k.serving k.given k.passes k.history (joined v w)
    lives_both =
        let l = longer_begins v.seen w.seen k.history one.is_beginning two.is_beginning in
        let mine : (n : ℕ) → Contains (numbers v) n → own n (longer v.seen w.seen) ≡ own n v.seen = λ n has. own_between n v.seen (longer v.seen w.seen) k.history l.0 l.2 (one.own_seen n has) in
        let his : (n : ℕ) → Contains (numbers w) n → own n (longer v.seen w.seen) ≡ own n w.seen = λ n has. own_between n w.seen (longer v.seen w.seen) k.history l.1 l.2 (two.own_seen n has) in
        record {
          start_is = one.start_is;
          is_beginning = l.2;
          own_seen = λ n has. ⊎_elim (λ (a : Contains (numbers v) n). one.own_seen n a ∙ sym (mine n a)) (λ (a : Contains (numbers w) n). two.own_seen n a ∙ sym (his n a)) (from_both n has);
          numbers_given = λ n has. ⊎_elim (λ (a : Contains (numbers v) n). one.numbers_given n a) (λ (a : Contains (numbers w) n). two.numbers_given n a) (from_both n has);
          own_once = λ has. ⊎_elim
              (λ (a : Contains v.ended v.number). one.own_once a)
              (λ (a : Contains (w.number ∷ w.ended) v.number). away (k.numbered.apart other id w v v.number there at (subst (λ (ns : List ℕ). Contains ns v.number) (sym (numbers_of w y theirs)) a) (has_number v x is)))
              (Contains-append_cases v.ended (w.number ∷ w.ended) v.number has);
          ticket = one.ticket;
          inside = λ i. off (sym out ∙ i);
          drawn = (let a = one.drawn in let b = two.drawn in omega arith);
          found = (let a = one.found in let b = two.found in omega arith);
          first_pass = one.first_pass;
          next_number = one.next_number;
          before = pair (Continues (longer v.seen w.seen)) (numbers v, v.seen) (numbers w, w.seen) (l.0, mine) (l.1, his);
        }
      where
        pair : {X : Type 0} (P : X → Type 0) (a b : X) → P a → P b → All P (a ∷ b ∷ [])
        pair P a b p q zero d h = p
        pair P a b p q (suc zero) d h = q
        pair P a b p q (suc (suc j)) d h = absurd (omega arith)

    joins_at : Kept relates stands start (record { words = s.words; homes = s.homes; views = set (set s.views id (joined v w)) other left_by_join })
    joins_at = record {
      next = k.next;
      serving = k.serving;
      given = k.given;
      passes = k.passes;
      history = k.history;
      home = k.home;
      words = k.words;
      homes = k.homes;
      next_bound = k.next_bound;
      passes_bound = k.passes_bound;
      given_bound = k.given_bound;
      tickets = (
          let f = λ (z : View T E R). held z.ticket in
          let t = total_set (λ (z : View T E R). held z.ticket) s.views id v (joined v w) at in
          let t' = total_set (λ (z : View T E R). held z.ticket) (set s.views id (joined v w)) other w left_by_join there_mid in
          let o = k.tickets in
          let i = ap held idle in omega arith
          );
      legal = k.legal;
      standing = k.standing;
      slot = slot_set start k.next k.serving k.given k.passes k.history (set s.views id (joined v w)) other w left_by_join k.home there_mid out' refl
          (slot_set start k.next k.serving k.given k.passes k.history s.views id v (joined v w) k.home at out out k.slot);
      views = live_set start k.next k.serving k.given k.passes k.next k.serving k.given k.passes k.history k.history (set s.views id (joined v w)) other left_by_join
          (live_set start k.next k.serving k.given k.passes k.next k.serving k.given k.passes k.history k.history s.views id (joined v w) k.views (λ j u _ _ l. l) (inr lives_both))
          (λ j u _ _ l. l) (inl refl);
      apart = tickets_set (set s.views id (joined v w)) other w left_by_join there_mid (tickets_stay s.views id v (joined v w) at refl k.apart) (λ j u n _ _ t t'. none_not_some t');
      numbered = record {
        count = (
            let t = total_set (λ (z : View T E R). length (numbers z)) s.views id v (joined v w) at in
            let t' = total_set (λ (z : View T E R). length (numbers z)) (set s.views id (joined v w)) other w left_by_join there_mid in
            let c = k.numbered.count in
            let b = count_both in omega arith
            );
        apart = λ by by' u u' n e e' has has'.
            ⊎_elim
            (λ (a : (by ≡ id) × (Contains (numbers v) n ⊎ Contains (numbers w) n)). ⊎_elim
            (λ (b : (by' ≡ id) × (Contains (numbers v) n ⊎ Contains (numbers w) n)). a.0 ∙ sym b.0)
            (λ (b : (by' ≢ id) × (by' ≢ other) × (get_elem? s.views by' ≡ some u')). absurd (strange by' u' n b.0 b.1 b.2 has' a.1))
            (was_there by' u' n e' has'))
            (λ (a : (by ≢ id) × (by ≢ other) × (get_elem? s.views by ≡ some u)). ⊎_elim
            (λ (b : (by' ≡ id) × (Contains (numbers v) n ⊎ Contains (numbers w) n)). absurd (strange by u n a.0 a.1 a.2 has b.1))
            (λ (b : (by' ≢ id) × (by' ≢ other) × (get_elem? s.views by' ≡ some u')). k.numbered.apart by by' u u' n a.2 b.2 has has')
            (was_there by' u' n e' has'))
            (was_there by u n e has);
        entries = λ j d b. answered _ (k.numbered.entries j d b);
        longest = seen_still k.numbered.longest;
      };
    }
      where
        strange : (j : ℕ) (u : View T E R) (n : ℕ) → j ≢ id → j ≢ other → get_elem? s.views j ≡ some u → Contains (numbers u) n → Contains (numbers v) n ⊎ Contains (numbers w) n → ⊥
        strange j u n m m' e has = ⊎_elim (λ (a : Contains (numbers v) n). m (k.numbered.apart j id u v n e at has a)) (λ (a : Contains (numbers w) n). m' (k.numbered.apart j other u w n e there has a))

  pub joins : (id other : ℕ) (v w : View T E R) (x y : T) → v.start ≡ Some x → w.start ≡ Some y → w.ticket ≡ None → v.inside ≡ false → w.inside ≡ false
      → Joins (Holds relates stands start) id v other w (joined v w) left_by_join
  joins id other v w x y is theirs idle out out' s h at away there =
      let k = kept relates stands start s id v x is at h in
      inr (joins_at id other v w x y is theirs idle out out' s k at away (sym (set_else s.views id other (joined v w) away) ∙ there))
