-- Calls of a pass, one behind another.
use Rattle.std.proofs.Common.{◌≡◌, ◌⊎◌, inl, inr, ℕ, ◌-◌, ◌^◌, ◌≤◌, List, [], ◌∷◌, ◌++◌, append-nil, append_assoc, refl, sym, ap, subst, ◌∙◌, Some, Contains, Result, Ok, Err, IfOk, OnErr, MatchResult}
use Rattle.std.proofs.lemmas.List.{map-append}
use Rattle.ht_base.specs.History.{Entry, IsLegal, own}
use Rattle.ht_base.specs.declared.event.Event.{Event}
use Rattle.ht_base.specs.declared.reply.Reply.{Reply}
use Rattle.ht_serve.specs.Calls.{Call, call_of, calls_in}
use Rattle.ht_shared.specs.Passes.{Called, IsOf, IsSamePass, IsSpent, PassOf, SharedOf}
use Rattle.ht_shared.specs.Plays.{made}
use Rattle.ht_workers.specs.Passing.{IsLegalPass, IsOutOfTickets, PassMade}

module _ {S : Type 0} where
  pub same_self : (p : PassOf S Event Reply) → IsSamePass p p
  same_self p = record { table = refl; start = refl; number = refl; ended = refl; given = refl }

  pub same_then : (p q r : PassOf S Event Reply) → IsSamePass p q → IsSamePass q r → IsSamePass p r
  same_then p q r a b = record { table = b.table ∙ a.table; start = b.start ∙ a.start; number = b.number ∙ a.number; ended = b.ended ∙ a.ended; given = b.given ∙ a.given }

  -- a pass stays with its turn lock
  pub of_then : (s : SharedOf S) (p q : PassOf S Event Reply) → IsOf s p → IsSamePass p q → IsOf s q
  of_then s p q a b = (b.table ∙ a.0, b.start ∙ a.1)

module _ {S : Type 0} (Step : S → Event → Reply → S → Type 0) where
  -- no call
  pub pass_none : (p : PassOf S Event Reply) → PassMade Step p p []
  pass_none p = record {
    same = same_self p;
    more = [];
    seen = sym (append-nil p.seen);
    legal = inl refl;
    added = [];
    mine = sym (append-nil (own p.number p.seen));
    calls_are = refl;
    theirs = λ n c. refl;
    tickets = inl (refl, refl);
  }

  -- a call for which no ticket was left
  pub pass_away : (p q : PassOf S Event Reply) → IsSpent p q → PassMade Step p q []
  pass_away p q a =
      let seen : q.seen ≡ p.seen = ap (λ (x : PassOf S Event Reply). x.seen) a.same in
      record {
        same = subst (λ (x : PassOf S Event Reply). IsSamePass p x) (sym a.same) (record { table = refl; start = refl; number = refl; ended = refl; given = refl });
        more = [];
        seen = seen ∙ sym (append-nil p.seen);
        legal = inl refl;
        added = [];
        mine = ap (λ x. own p.number x) seen ∙ sym (append-nil (own p.number p.seen));
        calls_are = refl;
        theirs = λ n c. ap (λ x. own n x) seen;
        tickets = inr (a.drawn, a.found);
      }

  -- a call that was entered
  pub pass_one : (s : SharedOf S) (p q : PassOf S Event Reply) (e : Event) (r : Reply) → IsOf s p → Called Step s.start p e r q → PassMade Step p q (record { event = e; reply = r } ∷ [])
  pass_one s p q e r place a =
      let entry : Entry S Event Reply = made p.number e r a.after in
      let same : IsSamePass p q = subst (λ (x : PassOf S Event Reply). IsSamePass p x) (sym a.same) (record { table = refl; start = refl; number = refl; ended = refl; given = refl }) in
      record {
        same = same;
        more = a.between ++ entry ∷ [];
        seen = a.seen ∙ append_assoc p.seen a.between (entry ∷ []);
        legal = inr (legal_at same);
        added = entry ∷ [];
        mine = a.mine;
        calls_are = refl;
        theirs = a.theirs;
        tickets = inl (ap (λ (x : PassOf S Event Reply). x.drawn) a.same, ap (λ (x : PassOf S Event Reply). x.found) a.same);
      }
    where
      some_is : (x y : S) → Some x ≡ Some y → x ≡ y
      some_is x y e = cc

      legal_at : IsSamePass p q → IsLegalPass Step q
      legal_at same start is = subst (λ (x : S). IsLegal Step x q.seen) (some_is s.start start (sym place.1 ∙ sym same.start ∙ is)) a.legal

  -- calls behind others
  pub pass_more : (p q r : PassOf S Event Reply) (xs ys : List Call) → PassMade Step p q xs → PassMade Step q r ys → PassMade Step p r (xs ++ ys)
  pass_more p q r xs ys a b = record {
    same = same_then p q r a.same b.same;
    more = a.more ++ b.more;
    seen = b.seen ∙ ap (λ x. x ++ b.more) a.seen ∙ append_assoc p.seen a.more b.more;
    legal = legal_then a.legal b.legal;
    added = a.added ++ b.added;
    mine =
        ap (λ k. own k r.seen) (sym a.same.number) ∙ b.mine ∙ ap (λ k. own k q.seen ++ b.added) a.same.number ∙ ap (λ x. x ++ b.added) a.mine
        ∙ append_assoc (own p.number p.seen) a.added b.added;
    calls_are = map-append call_of a.added b.added ∙ ap (λ c. c ++ calls_in b.added) a.calls_are ∙ ap (λ c. xs ++ c) b.calls_are;
    theirs = λ n c. b.theirs n (subst (λ (ns : List ℕ). Contains ns n) (sym a.same.ended) c) ∙ a.theirs n c;
    tickets = tickets_then a.tickets b.tickets;
  }
    where
      nothing_came : b.more ≡ [] → r.seen ≡ q.seen
      nothing_came none = b.seen ∙ ap (λ x. q.seen ++ x) none ∙ append-nil q.seen

      legal_then : (a.more ≡ []) ⊎ IsLegalPass Step q → (b.more ≡ []) ⊎ IsLegalPass Step r → (a.more ++ b.more ≡ []) ⊎ IsLegalPass Step r
      legal_then first (inr legal) = inr legal
      legal_then (inl none) (inl still) = inl (ap (λ x. x ++ b.more) none ∙ still)
      legal_then (inr legal) (inl still) = inr (λ start is. subst (λ (x : List (Entry S Event Reply)). IsLegal Step start x) (sym (nothing_came still)) (legal start (sym b.same.start ∙ is)))

      tickets_then : ((q.drawn ≡ p.drawn) × (q.found ≡ p.found)) ⊎ IsOutOfTickets q → ((r.drawn ≡ q.drawn) × (r.found ≡ q.found)) ⊎ IsOutOfTickets r → ((r.drawn ≡ p.drawn) × (r.found ≡ p.found)) ⊎ IsOutOfTickets r
      tickets_then first (inr out) = inr out
      tickets_then (inl one) (inl two) = inl (two.0 ∙ one.0, two.1 ∙ one.1)
      tickets_then (inr out) (inl two) = inr (subst (λ (n : ℕ). 2 ^ 63 ≤ n) (sym two.0) out.0, subst (λ (n : ℕ). 2 ^ 63 - 2 ^ 32 ≤ n) (sym two.1) out.1)

  -- who is out of tickets stays so
  pub stays_out : (p q : PassOf S Event Reply) (xs : List Call) → PassMade Step p q xs → IsOutOfTickets p → IsOutOfTickets q
  stays_out p q xs a out = by_tickets a.tickets
    where
      by_tickets : ((q.drawn ≡ p.drawn) × (q.found ≡ p.found)) ⊎ IsOutOfTickets q → IsOutOfTickets q
      by_tickets (inr found) = found
      by_tickets (inl two) = (subst (λ (n : ℕ). 2 ^ 63 ≤ n) (sym two.0) out.0, subst (λ (n : ℕ). 2 ^ 63 - 2 ^ 32 ≤ n) (sym two.1) out.1)

  -- one call, whichever way it went
  pub pass_called : (s : SharedOf S) (p q : PassOf S Event Reply) (e : Event) {X : Type 0} (result : Result Reply X) → IsOf s p → IfOk result (λ r. Called Step s.start p e r q) → OnErr result (IsSpent p q)
      → MatchResult result (λ r. PassMade Step p q (record { event = e; reply = r } ∷ [])) (λ _. PassMade Step p q [])
  pass_called s p q e (Ok r) place called spent = pass_one s p q e r place called
  pass_called s p q e (Err x) place called spent = pass_away p q spent
