-- The steps of a turn keep the rule: draw, arrive, enter and pass on.
use Rattle.std.proofs.Common.{◌≡◌, ◌≢◌, inr, ⊎_elim, ℕ, zero, suc, ◌+◌, ◌%◌, ◌^◌, ◌<◌, ◌≤◌, Bool, true, false, cond, List, [], ◌∷◌, ◌++◌, length, set, Some, None, Option, refl, sym, ap, ◌∙◌, subst, arith, Contains, All, slice_set, MatchBool, ◌==◌, length-append, append-nil, append_assoc}
use Rattle.std.proofs.lemmas.List.Elements.{All-append}
use Rattle.std.proofs.lemmas.Bool.Decides.{nat_tests}
use mathlib.Core.Option.{Option as Maybe, some, none, some-injective}
use lib.ListN.{get_elem?}
use base.Stored.{Gv}
use prog.Atomic.{either}
use Rattle.atomic_table.specs.Table.{State, Me, step, keeps, takes, gives, Allows}
use Rattle.atomic_table.proofs.Lists.{at_set}
use Rattle.ht_base.specs.History.{Entry, IsLegal, end_of, own}
use Rattle.ht_shared.specs.declared.view.View.{View}
use Rattle.ht_shared.specs.Rule.{held, if_live, numbers, IsSlot, IsAnswered, Kept, Holds}
use Rattle.ht_shared.specs.Plays.{holder, Draws, arrived, IsIn, Arrives, made, entered, EntersAs, outside, PassesOn}
use Rattle.ht_shared.proofs.Lists.{off, some_same, none_not_some, get_here, total_set, contains_first, prefix_same, own-append, own_other, legal_on, end_on}
use Rattle.ht_shared.proofs.Views.{live, live_inside, live_ticket, slot_set, live_set, tickets_set, tickets_stay, numbered_set, seen_set, stays, kept, not_true}
use Rattle.ht_shared.proofs.KeptByLooks.{Goes}

pub all_one : {X : Type 0} (P : X → Type 0) (x : X) → P x → All P (x ∷ [])
all_one P x p zero d b = p
all_one P x p (suc j) d b = absurd (omega arith)

-- numbers of a pass that has a state to begin with
pub numbers_of : {T E R : Type 0} (v : View T E R) (x : T) → v.start ≡ Some x → numbers v ≡ v.number ∷ v.ended
numbers_of {T} v x is = ap (λ (s : Option T). if_live s (v.number ∷ v.ended)) is

pub has_number : {T E R : Type 0} (v : View T E R) (x : T) → v.start ≡ Some x → Contains (numbers v) v.number
has_number v x is = subst (λ (ns : List ℕ). Contains ns v.number) (sym (numbers_of v x is)) (contains_first v.number v.ended)

module _ {T E R : Type 0} (relates : T → E → R → T → Type 0) (stands : T → Type 0) (start : T) where
  -- ---- a ticket is drawn

  module _ (id n : ℕ) (v : View T E R) (x : T) (is : v.start ≡ Some x) (idle : v.ticket ≡ None) (out : v.inside ≡ false) (low : n < 2 ^ 63) (s : State (Option T) (View T E R)) (k : Kept relates stands start s) (at : get_elem? s.views id ≡ some v) where
    draw_by : (b : Bool) → (k.next == n) ≡ b → Goes (Holds relates stands start) s id [] 0 (λ m. either (m == n) (n + 1) m) (Draws (step 1 0 n (n + 1) none) (v, [])) (k.next ∷ length k.history ∷ k.serving ∷ k.passes ∷ [])
    unfolding Goes
    draw_by false test =
        let mine = live start k.next k.serving k.given k.passes k.history v x is (k.views id v at) in (
          v,
          keeps,
          tt,
          inr (subst (λ (m : ℕ). Kept relates stands start (record { words = m ∷ length k.history ∷ k.serving ∷ k.passes ∷ []; homes = s.homes; views = set s.views id v })) (sym (ap (λ (b : Bool). either b (n + 1) k.next) test))
              (stays relates stands start id v v s k at k.passes k.passes_bound k.given_bound refl refl refl out out (λ j u _ _ l. l) (inr mine))),
          rw test refl,
        )
    draw_by true test =
        let same : k.next ≡ n = grind (arith, nat_tests) in
        let mine = live start k.next k.serving k.given k.passes k.history v x is (k.views id v at) in
        let w : View T E R = holder v n in
        let order : k.serving ≤ k.next = (let t = k.tickets in omega arith) in (
          w,
          keeps,
          tt,
          inr (record {
            next = n + 1;
            serving = k.serving;
            given = k.given;
            passes = k.passes;
            history = k.history;
            home = k.home;
            words = ap (λ (b : Bool). either b (n + 1) k.next ∷ length k.history ∷ k.serving ∷ k.passes ∷ []) test;
            homes = k.homes;
            next_bound = omega arith;
            passes_bound = k.passes_bound;
            given_bound = k.given_bound;
            tickets = (let t = total_set (λ (u : View T E R). held u.ticket) s.views id v w at in let o = k.tickets in let h = ap held idle in omega arith);
            legal = k.legal;
            standing = k.standing;
            slot = slot_set start (n + 1) k.serving k.given k.passes k.history s.views id v w k.home at out out k.slot;
            views = live_set start k.next k.serving k.given k.passes (n + 1) k.serving k.given k.passes k.history k.history s.views id w k.views
                (λ j u _ _ l. record {
                  start_is = l.start_is;
                  is_beginning = l.is_beginning;
                  own_seen = l.own_seen;
                  numbers_given = l.numbers_given;
                  own_once = l.own_once;
                  ticket = λ m t. (let b = l.ticket m t in (b.0, omega arith));
                  inside = l.inside;
                  drawn = (let d = l.drawn in omega arith);
                  found = l.found;
                  first_pass = l.first_pass;
                  next_number = l.next_number;
                  before = l.before;
                })
                (inr (record {
                  start_is = mine.start_is;
                  is_beginning = mine.is_beginning;
                  own_seen = mine.own_seen;
                  numbers_given = mine.numbers_given;
                  own_once = mine.own_once;
                  ticket = λ m t. (let e = some_same t in (omega arith, omega arith));
                  inside = λ i. off (sym out ∙ i);
                  drawn = (let d = mine.drawn in omega arith);
                  found = mine.found;
                  first_pass = mine.first_pass;
                  next_number = mine.next_number;
                  before = mine.before;
                }));
            apart = tickets_set s.views id v w at k.apart (λ j u m apart e t t'. let l = live_ticket start k.next k.serving k.given k.passes k.history u m t (k.views j u e) in let b = l.ticket m t in let f = some_same t' in omega arith);
            numbered = numbered_set s.views id v w at k.given k.history k.history refl (seen_set s.views id v w at k.history refl refl k.numbered.longest) k.numbered.entries k.numbered;
          }),
          rw test refl,
        )

  pub draws : (id n : ℕ) (v : View T E R) (x : T) → v.start ≡ Some x → v.ticket ≡ None → v.inside ≡ false → n < 2 ^ 63
      → Allows (Holds relates stands start) 1 id (v, []) 0 (λ m. either (m == n) (n + 1) m) (Draws (step 1 0 n (n + 1) none) (v, []))
  unfolding Goes
  draws id n v x is idle out low s h len at small =
      let k = kept relates stands start s id v x is at h in
      subst (Goes (Holds relates stands start) s id [] 0 (λ m. either (m == n) (n + 1) m) (Draws (step 1 0 n (n + 1) none) (v, []))) (sym k.words) (draw_by id n v x is idle out low s k at (k.next == n) refl)

  -- ---- a ticket's turn comes

  module _ (id n : ℕ) (v : View T E R) (y : T) (is : v.start ≡ Some y) (mine : v.ticket ≡ Some n) (out : v.inside ≡ false) (fresh : v.entered ≡ false) (s : State (Option T) (View T E R)) (k : Kept relates stands start s) (at : get_elem? s.views id ≡ some v) where
    come_home : (home : Maybe (Option T)) → s.homes ≡ home ∷ [] → IsSlot start k.serving k.history s.views home → k.serving ≡ n → (k.serving == n) ≡ true
        → Goes (Holds relates stands start) s id [] 2 (λ m. m) (Arrives relates stands (step 1 2 0 0 none) (v, [])) (k.next ∷ length k.history ∷ k.serving ∷ k.passes ∷ [])
    unfolding Goes
    come_home (some (Some x)) homes slot same test =
        let w : View T E R = arrived v k.history in
        let fit = live start k.next k.serving k.given k.passes k.history v y is (k.views id v at) in
        let begin : start ≡ y = some_is _ _ (sym fit.start_is ∙ is) in
        let nothing : ◌≡◌ {A = ℕ} (cond v.entered 1 0) 0 = ap (λ (b : Bool). cond {A = ℕ} b 1 0) fresh in (
          w,
          takes 0 (Some x),
          ap (λ hs. get_elem? hs 0) homes,
          inr (record {
            next = k.next;
            serving = k.serving;
            given = k.given;
            passes = k.passes;
            history = k.history;
            home = none;
            words = refl;
            homes = ap (λ hs. slice_set hs 0 none) homes;
            next_bound = k.next_bound;
            passes_bound = k.passes_bound;
            given_bound = k.given_bound;
            tickets = (let t = total_set (λ (u : View T E R). held u.ticket) s.views id v w at in let o = k.tickets in omega arith);
            legal = k.legal;
            standing = k.standing;
            slot = (id, w, get_here s.views id v w at, refl);
            views = live_set start k.next k.serving k.given k.passes k.next k.serving k.given k.passes k.history k.history s.views id w k.views (λ j u _ _ l. l)
                (inr (record {
                  start_is = fit.start_is;
                  is_beginning = prefix_same k.history;
                  own_seen = λ _ _. refl;
                  numbers_given = fit.numbers_given;
                  own_once = fit.own_once;
                  ticket = fit.ticket;
                  inside = λ _. (mine ∙ ap Some (sym same), refl, (let l = slot.1 in omega arith));
                  drawn = fit.drawn;
                  found = fit.found;
                  first_pass = fit.first_pass;
                  next_number = fit.next_number;
                  before = λ j d b. absurd (omega arith);
                }));
            apart = tickets_stay s.views id v w at refl k.apart;
            numbered = numbered_set s.views id v w at k.given k.history k.history refl
                (id, w, get_here s.views id v w at, (let c = ap length (numbers_of v y is) in omega arith), refl) k.numbered.entries k.numbered;
          }),
          λ m t. let old : Me (Option T) (View T E R) = (v, []) in let new : Me (Option T) (View T E R) = (w, (0, Some x) ∷ []) in
              subst (λ (z : ℕ). MatchBool (k.serving == z) (IsIn relates stands old new) (new ≡ old)) (some_same (sym mine ∙ t))
              (rw test (record {
                value = x;
                history = k.history;
                after = refl;
                is_beginning = fit.is_beginning;
                legal = λ b e. subst (λ (z : T). IsLegal relates z k.history) (some_is _ _ (sym fit.start_is ∙ e)) k.legal;
                end = λ b e. subst (λ (z : T). end_of z k.history ≡ x) (some_is _ _ (sym fit.start_is ∙ e)) slot.0;
                standing = subst stands slot.0 k.standing;
                own_seen = fit.own_seen;
                own_once = fit.own_once;
              })),
        )
      where
        some_is : (a b : T) → Some a ≡ Some b → a ≡ b
        some_is a b e = cc (e)
    come_home (some None) homes slot same test = absurd slot
    come_home none homes slot same test =
        let u : View T E R = slot.1 in
        let theirs = (live_inside start k.next k.serving k.given k.passes k.history u slot.3 (k.views slot.0 u slot.2)).inside slot.3 in
        let one : slot.0 ≡ id = k.apart slot.0 id u v n slot.2 at (theirs.0 ∙ ap Some same) mine in
        off (sym out ∙ (ap (λ (z : View T E R). z.inside) (some-injective v u (sym at ∙ (ap (get_elem? s.views) (sym one) ∙ slot.2))) ∙ slot.3))

    come_by : (b : Bool) → (k.serving == n) ≡ b → Goes (Holds relates stands start) s id [] 2 (λ m. m) (Arrives relates stands (step 1 2 0 0 none) (v, [])) (k.next ∷ length k.history ∷ k.serving ∷ k.passes ∷ [])
    unfolding Goes
    come_by false test =
        let fit = live start k.next k.serving k.given k.passes k.history v y is (k.views id v at) in (
          v,
          keeps,
          tt,
          inr (stays relates stands start id v v s k at k.passes k.passes_bound k.given_bound refl refl refl out out (λ j u _ _ l. l) (inr fit)),
          λ m t. let old : Me (Option T) (View T E R) = (v, []) in subst (λ (z : ℕ). MatchBool (k.serving == z) (IsIn relates stands old old) (old ≡ old)) (some_same (sym mine ∙ t)) (rw test refl),
        )
    come_by true test = come_home k.home k.homes k.slot (grind (arith, nat_tests)) test

  pub arrives : (id n : ℕ) (v : View T E R) (y : T) → v.start ≡ Some y → v.ticket ≡ Some n → v.inside ≡ false → v.entered ≡ false
      → Allows (Holds relates stands start) 1 id (v, []) 2 (λ m. m) (Arrives relates stands (step 1 2 0 0 none) (v, []))
  unfolding Goes
  arrives id n v y is mine out fresh s h len at small =
      let k = kept relates stands start s id v y is at h in
      subst (Goes (Holds relates stands start) s id [] 2 (λ m. m) (Arrives relates stands (step 1 2 0 0 none) (v, []))) (sym k.words) (come_by id n v y is mine out fresh s k at (k.serving == n) refl)

  -- ---- a call is entered

  module _ (id : ℕ) (v : View T E R) (y x : T) (ev : E) (r : R) (is : v.start ≡ Some y) (inside : v.inside ≡ true) (fresh : v.entered ≡ false) (s : State (Option T) (View T E R)) (k : Kept relates stands start s) (at : get_elem? s.views id ≡ some v) where
    -- the call that the step enters
    Told : ℕ → Me (Option T) (View T E R) → Type 0
    Told _ w = ◌≡◌ {A = Me (Option T) (View T E R)} w (entered v (made v.number ev r x), (0, Some x) ∷ [])

    put_away : (home : Maybe (Option T)) → s.homes ≡ home ∷ [] → IsSlot start k.serving k.history s.views home → relates (end_of y v.seen) ev r x → stands x
        → Goes (Holds relates stands start) s id ((0, Some x) ∷ []) 1 (λ m. (m + 1) % 2 ^ 64) Told (k.next ∷ length k.history ∷ k.serving ∷ k.passes ∷ [])
    unfolding Goes Told
    put_away (some (Some z)) homes slot does stood = off (sym (slot.2 id v at) ∙ inside)
    put_away (some None) homes slot does stood = absurd slot
    put_away none homes slot does stood =
        let e : Entry T E R = made v.number ev r x in
        let w : View T E R = entered v e in
        let fit = live start k.next k.serving k.given k.passes k.history v y is (k.views id v at) in
        let begin : start ≡ y = some_is _ _ (sym fit.start_is ∙ is) in
        let here = fit.inside inside in
        let low = fit.ticket k.serving here.0 in
        let zero_more : ◌≡◌ {A = ℕ} (cond v.entered 1 0) 0 = ap (λ (b : Bool). cond {A = ℕ} b 1 0) fresh in
        let count : length k.history ≡ k.serving = (let c = here.2 in omega arith) in
        let len = length-append k.history (e ∷ []) in
        let sum : (length k.history + 1) % 2 ^ 64 ≡ length (k.history ++ e ∷ []) = (let small = k.next_bound in omega (arith, low.1)) in
        let goes_on : w.seen ≡ k.history ++ e ∷ [] = ap (λ l. l ++ e ∷ []) here.1 in (
          w,
          keeps,
          tt,
          inr (record {
            next = k.next;
            serving = k.serving;
            given = k.given;
            passes = k.passes;
            history = k.history ++ e ∷ [];
            home = none;
            words = ap (λ (c : ℕ). k.next ∷ c ∷ k.serving ∷ k.passes ∷ []) sum;
            homes = homes;
            next_bound = k.next_bound;
            passes_bound = k.passes_bound;
            given_bound = k.given_bound;
            tickets = (let t = total_set (λ (u : View T E R). held u.ticket) s.views id v w at in let o = k.tickets in omega arith);
            legal = legal_on relates start k.history e k.legal (subst (λ (t : T). relates t ev r x) (ap (λ (t : T). end_of t v.seen) (sym begin) ∙ ap (end_of start) here.1) does);
            standing = subst stands (sym (end_on start k.history e)) stood;
            slot = (id, w, get_here s.views id v w at, inside);
            views = live_set start k.next k.serving k.given k.passes k.next k.serving k.given k.passes k.history (k.history ++ e ∷ []) s.views id w k.views
                (λ j u away at_j l. record {
                  start_is = l.start_is;
                  is_beginning = (l.is_beginning.0 ++ e ∷ [], sym (append_assoc u.seen l.is_beginning.0 (e ∷ [])) ∙ ap (λ m. m ++ e ∷ []) l.is_beginning.1);
                  own_seen = λ n has. (let other : v.number ≢ n = λ q. away (k.numbered.apart j id u v n at_j at has (subst (Contains (numbers v)) q (has_number v y is))) in
                      own-append n k.history (e ∷ []) ∙ (ap (λ m. own n k.history ++ m) (own_other n e other) ∙ (append-nil (own n k.history) ∙ l.own_seen n has)));
                  numbers_given = l.numbers_given;
                  own_once = l.own_once;
                  ticket = l.ticket;
                  inside = λ i. absurd (away (k.apart j id u v k.serving at_j at (l.inside i).0 here.0));
                  drawn = l.drawn;
                  found = (let f = l.found in omega arith);
                  first_pass = l.first_pass;
                  next_number = l.next_number;
                  before = l.before;
                })
                (inr (record {
                  start_is = fit.start_is;
                  is_beginning = ([], append-nil (v.seen ++ e ∷ []) ∙ goes_on);
                  own_seen = λ n has. ap (own n) (sym goes_on);
                  numbers_given = fit.numbers_given;
                  own_once = fit.own_once;
                  ticket = fit.ticket;
                  inside = λ _. (here.0, goes_on, omega arith);
                  drawn = fit.drawn;
                  found = (let f = fit.found in omega arith);
                  first_pass = fit.first_pass;
                  next_number = fit.next_number;
                  before = λ j d b. absurd (omega arith);
                }));
            apart = tickets_stay s.views id v w at refl k.apart;
            numbered = numbered_set s.views id v w at k.given k.history (k.history ++ e ∷ []) refl
                (id, w, get_here s.views id v w at, (let c = ap length (numbers_of v y is) in omega arith), goes_on)
                (All-append (λ (c : Entry T E R). IsAnswered s.views c.pass) k.history (e ∷ []) k.numbered.entries (all_one (λ (c : Entry T E R). IsAnswered s.views c.pass) e (id, v, at, has_number v y is)))
                k.numbered;
          }),
          refl,
        )
      where
        some_is : (a b : T) → Some a ≡ Some b → a ≡ b
        some_is a b e = cc (e)

  pub enters : (event_code : E → Gv) (reply_code : R → Gv) (id : ℕ) (v : View T E R) (y x : T) (ev : E) (r : R) → v.start ≡ Some y → v.inside ≡ true → v.entered ≡ false → relates (end_of y v.seen) ev r x → stands x
      → Allows (Holds relates stands start) 1 id (v, (0, Some x) ∷ []) 1 (λ m. (m + 1) % 2 ^ 64) (EntersAs event_code reply_code (event_code ev) (reply_code r) (step 1 1 1 0 none) (v, (0, Some x) ∷ []))
  unfolding Goes Told
  enters ec rc id v y x ev r is inside fresh does stood s h len at small =
      let k = kept relates stands start s id v y is at h in
      let told = Told id v y x ev r is inside fresh s k at in
      let g : Goes (Holds relates stands start) s id ((0, Some x) ∷ []) 1 (λ m. (m + 1) % 2 ^ 64) told s.words =
      subst (Goes (Holds relates stands start) s id ((0, Some x) ∷ []) 1 (λ m. (m + 1) % 2 ^ 64) told) (sym k.words) (put_away id v y x ev r is inside fresh s k at k.home k.homes k.slot does stood) in
      (g.0, g.1, g.2, g.3, (ev, r, x, refl, refl, refl, g.4))

  -- ---- the next ticket's turn

  module _ (id n : ℕ) (v : View T E R) (y x : T) (is : v.start ≡ Some y) (inside : v.inside ≡ true) (done : v.entered ≡ true) (mine : v.ticket ≡ Some n) (end : end_of y v.seen ≡ x) (s : State (Option T) (View T E R)) (k : Kept relates stands start s) (at : get_elem? s.views id ≡ some v) where
    go_out : Goes (Holds relates stands start) s id ((0, Some x) ∷ []) 2 (λ _. n + 1) (λ _. PassesOn (step 1 2 (n + 1) 0 none) (v, (0, Some x) ∷ []) (n + 1)) (k.next ∷ length k.history ∷ k.serving ∷ k.passes ∷ [])
    unfolding Goes
    go_out =
        let w : View T E R = outside v in
        let fit = live start k.next k.serving k.given k.passes k.history v y is (k.views id v at) in
        let begin : start ≡ y = some_is _ _ (sym fit.start_is ∙ is) in
        let here = fit.inside inside in
        let same : n ≡ k.serving = some_same (sym mine ∙ here.0) in
        let low = fit.ticket n mine in
        let one_more : ◌≡◌ {A = ℕ} (cond v.entered 1 0) 1 = ap (λ (b : Bool). cond {A = ℕ} b 1 0) done in
        let alone : (j : ℕ) (u : View T E R) → j ≢ id → get_elem? s.views j ≡ some u → u.inside ≡ false = λ j u away e. not_true u.inside (λ i. away (k.apart j id u v k.serving e at ((live_inside start k.next k.serving k.given k.passes k.history u i (k.views j u e)).inside i).0 here.0)) in (
          w,
          gives,
          tt,
          inr (record {
            next = k.next;
            serving = n + 1;
            given = k.given;
            passes = k.passes;
            history = k.history;
            home = some (Some x);
            words = refl;
            homes = ap (λ hs. slice_set hs 0 (some (Some x))) k.homes;
            next_bound = k.next_bound;
            passes_bound = k.passes_bound;
            given_bound = k.given_bound;
            tickets = (let t = total_set (λ (u : View T E R). held u.ticket) s.views id v w at in let o = k.tickets in let h = ap held mine in omega arith);
            legal = k.legal;
            standing = k.standing;
            slot = (
              sym (ap (λ (t : T). end_of t v.seen) (sym begin) ∙ ap (end_of start) here.1) ∙ end,
              (let c = here.2 in omega arith),
              (λ j u e. ⊎_elim (λ (q : (j ≡ id) × (w ≡ u)). sym (ap (λ (z : View T E R). z.inside) q.1)) (λ (q : (j ≢ id) × (get_elem? s.views j ≡ some u)). alone j u q.0 q.1) (at_set s.views id j w u e)),
            );
            views = live_set start k.next k.serving k.given k.passes k.next (n + 1) k.given k.passes k.history k.history s.views id w k.views
                (λ j u away e l. record {
                  start_is = l.start_is;
                  is_beginning = l.is_beginning;
                  own_seen = l.own_seen;
                  numbers_given = l.numbers_given;
                  own_once = l.own_once;
                  ticket = λ m t. (let b = l.ticket m t in let ne : m ≢ n = λ q. away (k.apart j id u v n e at (t ∙ ap Some q) mine) in (omega arith, b.1));
                  inside = λ i. off (sym (alone j u away e) ∙ i);
                  drawn = l.drawn;
                  found = l.found;
                  first_pass = l.first_pass;
                  next_number = l.next_number;
                  before = l.before;
                })
                (inr (record {
                  start_is = fit.start_is;
                  is_beginning = fit.is_beginning;
                  own_seen = fit.own_seen;
                  numbers_given = fit.numbers_given;
                  own_once = fit.own_once;
                  ticket = λ m t. none_not_some t;
                  inside = λ i. off i;
                  drawn = fit.drawn;
                  found = fit.found;
                  first_pass = fit.first_pass;
                  next_number = fit.next_number;
                  before = fit.before;
                }));
            apart = tickets_set s.views id v w at k.apart (λ j u m away e t t'. none_not_some t');
            numbered = numbered_set s.views id v w at k.given k.history k.history refl (seen_set s.views id v w at k.history refl refl k.numbered.longest) k.numbered.entries k.numbered;
          }),
          refl,
        )
      where
        some_is : (a b : T) → Some a ≡ Some b → a ≡ b
        some_is a b e = cc (e)

  pub passes : (id n : ℕ) (v : View T E R) (y x : T) → v.start ≡ Some y → v.inside ≡ true → v.entered ≡ true → v.ticket ≡ Some n → end_of y v.seen ≡ x
      → Allows (Holds relates stands start) 1 id (v, (0, Some x) ∷ []) 2 (λ _. n + 1) (λ _. PassesOn (step 1 2 (n + 1) 0 none) (v, (0, Some x) ∷ []) (n + 1))
  unfolding Goes
  passes id n v y x is inside done mine end s h len at small =
      let k = kept relates stands start s id v y is at h in
      subst (Goes (Holds relates stands start) s id ((0, Some x) ∷ []) 2 (λ _. n + 1) (λ _. PassesOn (step 1 2 (n + 1) 0 none) (v, (0, Some x) ∷ []) (n + 1))) (sym k.words) (go_out id n v y x is inside done mine end s k at)
