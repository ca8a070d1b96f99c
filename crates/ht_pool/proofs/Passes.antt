-- Passes that were joined, one behind the other.
use Rattle.std.proofs.Common.{◌≡◌, ℕ, ◌≤◌, arith, List, [], ◌∷◌, ◌++◌, append-nil, append_assoc, max, Contains, length, refl, sym, ap, subst, ◌∙◌, map}
use Rattle.std.specs.List.{AllByRecursion}
use Rattle.std.proofs.lemmas.List.Elements.{Contains-append_left, Contains-append_right}
use Rattle.ht_base.specs.History.{own}
use Rattle.ht_base.specs.declared.event.Event.{Event}
use Rattle.ht_base.specs.declared.reply.Reply.{Reply}
use Rattle.ht_shared.specs.Passes.{Joined, PassOf}
use Rattle.ht_pool.specs.Gathering.{JoinsPasses}

module _ {S : Type 0} where
  abbrev pub numbers : List (PassOf S Event Reply) → List ℕ
  numbers ps = map (λ p. p.number) ps

  -- what the joined pass has of another one
  pub record Has (all one : PassOf S Event Reply) : Type 0 where
    pub own_are : own one.number all.seen ≡ own one.number one.seen
    pub found : one.found ≤ all.found

  pub record Gathered (old : PassOf S Event Reply) (others : List (PassOf S Event Reply)) (all : PassOf S Event Reply) : Type 0 where
    pub ended : all.ended ≡ old.ended ++ numbers others
    pub table : all.table ≡ old.table
    pub start : all.start ≡ old.start
    pub number : all.number ≡ old.number
    pub given : all.given ≡ old.given
    pub kept : (n : ℕ) → Contains (old.number ∷ old.ended) n → own n all.seen ≡ own n old.seen
    pub found : old.found ≤ all.found
    pub each : AllByRecursion (Has all) others

  pub gathered : (old : PassOf S Event Reply) (others : List (PassOf S Event Reply)) (all : PassOf S Event Reply) → AllByRecursion (λ o. o.ended ≡ []) others → JoinsPasses old others all → Gathered old others all
  gathered old [] all none is = subst (λ (q : PassOf S Event Reply). Gathered old [] q) (sym is) (record {
    ended = sym (append-nil old.ended);
    table = refl;
    start = refl;
    number = refl;
    given = refl;
    kept = λ n c. refl;
    found = omega arith;
    each = tt;
  })
  gathered old (o ∷ os) all none joins =
      let mid = joins.0 in
      let j = joins.1 in
      let rest = gathered mid os all none.1 joins.2 in
      let ended : mid.ended ≡ old.ended ++ o.number ∷ [] = ap (λ (q : PassOf S Event Reply). q.ended) j.same ∙ ap (λ (ns : List ℕ). old.ended ++ o.number ∷ ns) none.0 in
      let number : mid.number ≡ old.number = ap (λ (q : PassOf S Event Reply). q.number) j.same in
      let mine : (n : ℕ) → Contains (old.number ∷ old.ended) n → Contains (mid.number ∷ mid.ended) n = λ n c.
      subst (λ (ns : List ℕ). Contains ns n) (sym (ap (λ (k : ℕ). k ∷ mid.ended) number ∙ ap (λ (ns : List ℕ). old.number ∷ ns) ended)) (Contains-append_left (old.number ∷ old.ended) (o.number ∷ []) n c) in
      let theirs : Contains (mid.number ∷ mid.ended) o.number =
      subst (λ (ns : List ℕ). Contains ns o.number) (sym (ap (λ (k : ℕ). k ∷ mid.ended) number ∙ ap (λ (ns : List ℕ). old.number ∷ ns) ended)) (Contains-append_right (old.number ∷ old.ended) (o.number ∷ []) o.number (0, omega arith, refl)) in
      let found : mid.found ≡ max old.found o.found = ap (λ (q : PassOf S Event Reply). q.found) j.same in
      let later = rest.found in
      record {
        ended = rest.ended ∙ ap (λ (ns : List ℕ). ns ++ numbers os) ended ∙ append_assoc old.ended (o.number ∷ []) (numbers os);
        table = rest.table ∙ ap (λ (q : PassOf S Event Reply). q.table) j.same;
        start = rest.start ∙ ap (λ (q : PassOf S Event Reply). q.start) j.same;
        number = rest.number ∙ number;
        given = rest.given ∙ ap (λ (q : PassOf S Event Reply). q.given) j.same;
        kept = λ n c. rest.kept n (mine n c) ∙ j.mine n c;
        found = omega (arith, found, later);
        each = (record { own_are = rest.kept o.number theirs ∙ j.theirs o.number (0, omega arith, refl); found = omega (arith, found, later) }, rest.each);
      }
