-- What a client sees of a step.
use Rattle.std.proofs.Common.{◌≡◌, ◌≢◌, ◌⊎◌, inl, inr, ℕ, Bool, true, false, cond, List, [], ◌∷◌, ◌++◌, length, Some, Ok, Err, Result, IfOk, Option, refl, sym, ap, ◌∙◌, subst, arith, Contains, All, eq-eqb, append-nil, nat_lt}
use Rattle.atomic_table.specs.Table.{Me}
use Rattle.atomic_table.specs.Seated.{TableId}
use Rattle.ht_base.specs.History.{Entry, own}
use Rattle.ht_shared.specs.declared.view.View.{View}
use Rattle.ht_shared.specs.Rule.{numbers, Continues}
use Rattle.ht_shared.specs.Plays.{made, joined, longer}
use Rattle.ht_shared.specs.Passes.{PassOf, Called, Joined}
use Rattle.ht_shared.specs.Standing.{called, Acts}
use Rattle.ht_shared.proofs.Lists.{own-append, own_other, contains_later}
use Rattle.ht_shared.proofs.KeptByTurns.{numbers_of, has_number}

pub if_ok : {X Y : Type 0} {P Q : X → Type 0} (r : Result X Y) → ((x : X) → P x → Q x) → IfOk r P → IfOk r Q
if_ok (Ok x) f h = f x h
if_ok (Err y) f h = h

module _ {T E R : Type 0} where
  own_mine : (n : ℕ) (e : Entry T E R) → e.pass ≡ n → own n (e ∷ []) ≡ e ∷ []
  own_mine n e same = rw (eq-eqb e.pass n same) refl

  -- a pass as it is seen
  abbrev pub shown : TableId → View T E R → PassOf T E R
  shown table v = record { table = table; start = v.start; number = v.number; seen = v.seen; ended = v.ended; drawn = v.drawn; found = v.found; given = v.given }

  pub called_from : (relates : T → E → R → T → Type 0) (start : T) (table table' : TableId) (v : View T E R) (w : Me (Option T) (View T E R)) (event : E) (reply : R) → table' ≡ table → v.start ≡ Some start
      → Acts relates v event reply w → Called relates start (shown table v) event reply (shown table' w.0)
  called_from relates start table table' v w event reply same is a =
      let e : Entry T E R = made v.number event reply a.after in
      let history : List (Entry T E R) = v.seen ++ a.between in
      let now : shown table (called v (history ++ e ∷ [])) ≡ shown table' w.0 = λ i. shown (sym same i) (sym a.is i).0 in
      subst (Called relates start (shown table v) event reply) now (record {
        after = a.after;
        between = a.between;
        seen = refl;
        legal = a.legal start is;
        mine = own-append v.number history (e ∷ []) ∙ (ap (λ l. own v.number history ++ l) (own_mine v.number e refl) ∙ ap (λ l. l ++ e ∷ []) (a.own_seen v.number (has_number v start is)));
        theirs = λ n has. (let other : e.pass ≢ n = λ q. a.own_once (subst (Contains v.ended) (sym q) has) in
            own-append n history (e ∷ []) ∙ (ap (λ l. own n history ++ l) (own_other n e other) ∙ (append-nil (own n history) ∙ a.own_seen n (subst (λ (ns : List ℕ). Contains ns n) (sym (numbers_of v start is)) (contains_later v.number n v.ended has)))));
        same = refl;
      })

  longer_one : (xs ys : List (Entry T E R)) → (longer xs ys ≡ xs) ⊎ (longer xs ys ≡ ys)
  longer_one xs ys = by_test (nat_lt (length xs) (length ys))
    where
      by_test : (b : Bool) → (cond b ys xs ≡ xs) ⊎ (cond b ys xs ≡ ys)
      by_test true = inr refl
      by_test false = inl refl

  pub joined_from : (table table' : TableId) (v w : View T E R) (x y : T) (m : Me (Option T) (View T E R)) → table' ≡ table → v.start ≡ Some x → w.start ≡ Some y → m ≡ (joined v w, [])
      → All (Continues (joined v w).seen) (joined v w).before → Joined (shown table v) (shown table w) (shown table' m.0)
  joined_from table table' v w x y m same is is' at before =
      let now : shown table (joined v w) ≡ shown table' m.0 = λ i. shown (sym same i) (sym at i).0 in
      let one : Continues (longer v.seen w.seen) (numbers v, v.seen) = before 0 (numbers v, v.seen) (omega arith) in
      let two : Continues (longer v.seen w.seen) (numbers w, w.seen) = before 1 (numbers w, w.seen) (omega arith) in
      subst (Joined (shown table v) (shown table w)) now (record {
        seen = longer_one v.seen w.seen;
        begins = one.0;
        continues = two.0;
        mine = λ n has. one.1 n (subst (λ (ns : List ℕ). Contains ns n) (sym (numbers_of v x is)) has);
        theirs = λ n has. two.1 n (subst (λ (ns : List ℕ). Contains ns n) (sym (numbers_of w y is')) has);
        same = refl;
      })
