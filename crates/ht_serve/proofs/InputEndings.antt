-- An input ends in one way, and the ending of its connection says in which.
use Rattle.std.proofs.Common.{◌≡◌, ◌≢◌, ◌⊎◌, inl, inr, ℕ, ◌+◌, ◌<◌, ◌≤◌, Bool, true, false, List, [], ◌∷◌, ◌++◌, length, refl, sym, ap, subst, ◌∙◌, arith, append-nil, Option, Some, None}
use Rattle.std.proofs.lemmas.List.{length-map}
use Rattle.ht_outside.specs.Tells.{Flow, SinkState}
use Rattle.ht_wire.specs.declared.request.Request.{Request}
use Rattle.ht_wire.specs.Heads.{IsEnd}
use Rattle.ht_wire.specs.Reading.{EndsAt}
use Rattle.ht_wire.specs.Requests.{AreRequests, IsRequest, IsRefused}
use Rattle.ht_wire.proofs.PublicLaws.{one_request, request_or_end, request_or_refused}
use Rattle.ht_serve.specs.declared.ending.Ending.{Ending}
use Rattle.ht_serve.specs.declared.ending.Ending.TheVariants as ending
use Rattle.ht_serve.specs.Calls.{Call}
use Rattle.ht_serve.specs.Closing.{GoOn, Close, closes_at}
use Rattle.ht_serve.specs.Exchanges.{AreExchanges, Exchange, closings, requests}
use Rattle.ht_serve.specs.Inputs.{AreOver, IsBroken, IsEndingOf, IsTooMuch, IsWhole, closes_of}
use Rattle.ht_serve.specs.Serving.{IsClosed, Served, Sides, sides}
use Rattle.ht_serve.proofs.Standing.{still}

-- ---- one input, read twice

-- the first requests of both lists are one, and the rest is one input
same_rest : (s : List ℕ) (q r : Request) (a b : List ℕ) → IsRequest s q a → IsRequest s r b → (r.last ≡ q.last) × (a ≡ b)
same_rest s q r a b x y = let same = one_request s q r a b x y in (same.0.last, same.1)

-- what follows a reply that doesn't close
pub over_later : (c : Bool) (cs : List Bool) (rest : List ℕ) → (c ≡ true → ⊥) → AreOver (c ∷ cs) rest → AreOver cs rest
over_later c [] rest going (inl close) = absurd (going close)
over_later c (d ∷ ds) rest going (inl close) = inl close
over_later c cs rest going (inr both) = inr (both.0.1, both.1)

module _ (closing : Bool) (most : ℕ) where
  closes : ℕ → Request → Bool
  closes k r = closes_at closing most k r.last

  no_close : (k : ℕ) (q r : Request) → r.last ≡ q.last → closes_at closing most k q.last ≡ true → closes_at closing most k r.last ≡ false → ⊥
  no_close k q r same closed goes = absurd (let wrong : true ≡ false = sym closed ∙ sym (ap (λ (b : Bool). closes_at closing most k b) same) ∙ goes in cc)

  whole_or_broken : (k : ℕ) (s : List ℕ) (qs rs : List Request) (a b : List ℕ) (code : ℕ) → AreRequests s qs a → AreOver (closes_of closing most k qs) a → AreRequests s rs b → GoOn (closes_of closing most k rs) → IsRefused b code → ⊥
  whole_or_broken k s [] [] a b code x (inl close) y going refused = close
  whole_or_broken k s [] [] a b code x (inr both) y going refused = refused.more (subst IsEnd (sym x ∙ y) both.1)
  whole_or_broken k s [] (r ∷ rs) a b code x (inl close) y going refused = close
  whole_or_broken k s [] (r ∷ rs) a b code x (inr both) y going refused = request_or_end s r y.0 y.1 (subst IsEnd (sym x) both.1)
  whole_or_broken k s (q ∷ qs) [] a b code x over y going refused = request_or_refused s q x.0 code x.1 (subst (λ (l : List ℕ). IsRefused l code) (sym y) refused)
  whole_or_broken k s (q ∷ qs) (r ∷ rs) a b code x over y going refused =
      let same = same_rest s q r x.0 y.0 x.1 y.1 in
      whole_or_broken (k + 1) x.0 qs rs a b code x.3 (over_later (closes_at closing most k q.last) (closes_of closing most (k + 1) qs) a (λ last. no_close k q r same.0 last going.0) over) (subst (λ (l : List ℕ). AreRequests l rs b) (sym same.1) y.3) going.1 refused

  whole_or_much : (k n : ℕ) (s : List ℕ) (qs rs : List Request) (a b : List ℕ) → AreRequests s qs a → length qs ≤ n → AreOver (closes_of closing most k qs) a → AreRequests s rs b → length rs ≡ n → GoOn (closes_of closing most k rs) → (IsEnd b → ⊥) → ⊥
  whole_or_much k n s [] [] a b x few (inl close) y all going more = close
  whole_or_much k n s [] [] a b x few (inr both) y all going more = more (subst IsEnd (sym x ∙ y) both.1)
  whole_or_much k n s [] (r ∷ rs) a b x few (inl close) y all going more = close
  whole_or_much k n s [] (r ∷ rs) a b x few (inr both) y all going more = request_or_end s r y.0 y.1 (subst IsEnd (sym x) both.1)
  whole_or_much k n s (q ∷ qs) [] a b x few over y all going more = absurd (omega (arith, few, all))
  whole_or_much k n s (q ∷ qs) (r ∷ rs) a b x few over y all going more =
      let same = same_rest s q r x.0 y.0 x.1 y.1 in
      whole_or_much (k + 1) (length rs) x.0 qs rs a b x.3 (omega (arith, few, all)) (over_later (closes_at closing most k q.last) (closes_of closing most (k + 1) qs) a (λ last. no_close k q r same.0 last going.0) over) (subst (λ (l : List ℕ). AreRequests l rs b) (sym same.1) y.3) refl going.1 more

broken_or_much : (n : ℕ) (s : List ℕ) (qs rs : List Request) (a b : List ℕ) (code : ℕ) → AreRequests s qs a → length qs < n → IsRefused a code → AreRequests s rs b → length rs ≡ n → ⊥
broken_or_much n s [] [] a b code x few refused y all = absurd (omega (arith, few, all))
broken_or_much n s [] (r ∷ rs) a b code x few refused y all = request_or_refused s r y.0 code y.1 (subst (λ (l : List ℕ). IsRefused l code) (sym x) refused)
broken_or_much n s (q ∷ qs) [] a b code x few refused y all = absurd (omega (arith, few, all))
broken_or_much n s (q ∷ qs) (r ∷ rs) a b code x few refused y all =
    let same = same_rest s q r x.0 y.0 x.1 y.1 in
    broken_or_much (length rs) x.0 qs rs a b code x.3 (omega (arith, few, all)) refused (subst (λ (l : List ℕ). AreRequests l rs b) (sym same.1) y.3) refl

module _ (closing : Bool) (most : ℕ) (s : List ℕ) where
  not_both : IsWhole closing most s → IsBroken closing most s → ⊥
  not_both a b = whole_or_broken closing most 0 s a.asked b.asked a.rest b.rest b.code a.stand a.over b.stand b.open_still b.refused

  not_whole : IsWhole closing most s → IsTooMuch closing most s → ⊥
  not_whole a b = whole_or_much closing most 0 most s a.asked b.asked a.rest b.rest a.stand a.few a.over b.stand b.all b.open_still b.more

  not_broken : IsBroken closing most s → IsTooMuch closing most s → ⊥
  not_broken a b = broken_or_much most s a.asked b.asked a.rest b.rest a.code a.stand a.few a.refused b.stand b.all

-- ---- the ending of each

module _ (closing : Bool) (most : ℕ) (flow : Flow) where
  done : IsWhole closing most flow.left → IsEndingOf closing most (Some flow) ending.Done
  done whole = (
    ((λ _. whole), (λ _. refl)),
    ((λ wire. absurd (let is = wire.1 in cc)), (λ broken. absurd (not_both closing most flow.left whole broken))),
    ((λ budget. absurd (cc)), (λ much. absurd (not_whole closing most flow.left whole much))),
  )

  wire : (code : ℕ) → IsBroken closing most flow.left → IsEndingOf closing most (Some flow) (ending.Wire code)
  wire code broken = (
    ((λ done. absurd (cc)), (λ whole. absurd (not_both closing most flow.left whole broken))),
    ((λ _. broken), (λ _. (code, refl))),
    ((λ budget. absurd (cc)), (λ much. absurd (not_broken closing most flow.left broken much))),
  )

  budget : IsTooMuch closing most flow.left → IsEndingOf closing most (Some flow) ending.Budget
  budget much = (
    ((λ done. absurd (cc)), (λ whole. absurd (not_whole closing most flow.left whole much))),
    ((λ wire. absurd (let is = wire.1 in cc)), (λ broken. absurd (not_broken closing most flow.left broken much))),
    ((λ _. much), (λ _. refl)),
  )

closings_are : (closing : Bool) (most k : ℕ) (clock : Option (ℕ → ℕ)) (xs : List Exchange) → AreExchanges closing most clock k xs → closings xs ≡ closes_of closing most k (requests xs)
closings_are closing most k clock [] numbered = refl
closings_are closing most k clock (x ∷ xs) numbered =
    let first : x.closes ≡ closes_at closing most k x.request.last = numbered.2 in
    (λ i. first i ∷ closings_are closing most (k + 1) _ xs numbered.4 i)

module _ (Made : List Call → Type 0) (Spent : Type 0) (closing : Bool) (most : ℕ) (f g : Flow) (reads later : ℕ) (output written : SinkState) (clock rest_clock : Option (ℕ → ℕ)) where
  abbrev Ended : Ending → Type 0
  Ended e = Served Made Spent closing most 0 (sides (record { flow = Some f; faults = reads }) output clock) (sides (record { flow = Some g; faults = later }) written rest_clock) [] e

  -- the whole input: the bytes read, and those that the source has left
  stands : (e : Ending) (s : Ended e) → AreRequests f.left (requests s.exchanges) (s.rest ++ g.left)
  stands e s = subst (λ (l : List ℕ). AreRequests l (requests s.exchanges) (s.rest ++ g.left)) (sym s.takes.left) (still (requests s.exchanges) s.taken g.left s.rest s.serves.stand)

  counted : (xs : List Exchange) → length (requests xs) ≡ length xs
  counted xs = length-map xs (λ (x : Exchange). x.request)

  closing_as : (e : Ending) (s : Ended e) → closings s.exchanges ≡ closes_of closing most 0 (requests s.exchanges)
  closing_as e s = closings_are closing most 0 clock s.exchanges s.serves.numbered

  open_still : (e : Ending) (s : Ended e) → GoOn (closings s.exchanges) → GoOn (closes_of closing most 0 (requests s.exchanges))
  open_still e s going = subst GoOn (closing_as e s) going

  whole_over : (s : Ended ending.Done) (old new : Sides) → IsClosed old new [] s.exchanges ⊎ (GoOn (closings s.exchanges) × EndsAt (Some g) s.rest) → AreOver (closes_of closing most 0 (requests s.exchanges)) (s.rest ++ g.left)
  whole_over s old new (inl closed) = inl (subst Close (closing_as ending.Done s) closed.closes)
  whole_over s old new (inr both) = inr (open_still ending.Done s both.0, subst IsEnd (sym (append-nil s.rest) ∙ ap (λ l. s.rest ++ l) (sym both.1.0)) both.1.1)

  is_whole : Ended ending.Done → IsWhole closing most f.left
  is_whole s = record {
    asked = requests s.exchanges;
    rest = s.rest ++ g.left;
    stand = stands ending.Done s;
    few = (let n = counted s.exchanges in let few = s.ends.1 in omega (arith, n, few));
    over = whole_over s _ _ s.ends.0;
  }

  is_broken : (code : ℕ) → Ended (ending.Wire code) → IsBroken closing most f.left
  is_broken code s =
      let refused = s.ends.0 in
      record {
        asked = requests s.exchanges;
        rest = s.rest ++ g.left;
        stand = stands (ending.Wire code) s;
        few = (let n = counted s.exchanges in let few = refused.few in omega (arith, n, few));
        open_still = open_still (ending.Wire code) s refused.open_still;
        code = code;
        refused = (refused.refused).1;
      }

  is_much : Ended ending.Budget → IsTooMuch closing most f.left
  is_much s = record {
    stays = s.ends.0;
    asked = requests s.exchanges;
    rest = s.rest ++ g.left;
    stand = stands ending.Budget s;
    all = (let n = counted s.exchanges in let all = s.ends.2 in omega (arith, n, all));
    open_still = open_still ending.Budget s s.ends.1;
    more = s.ends.3;
  }

  told : (e : Ending) → Ended e → e ≢ ending.ReadFault → e ≢ ending.WriteFault → e ≢ ending.Memory → IsEndingOf closing most (Some f) e
  told ending.Done s read write memory = done closing most f (is_whole s)
  told (ending.Wire code) s read write memory = wire closing most f code (is_broken code s)
  told ending.Budget s read write memory = budget closing most f (is_much s)
  told ending.ReadFault s read write memory = absurd (read refl)
  told ending.WriteFault s read write memory = absurd (write refl)
  told ending.Memory s read write memory = absurd (memory refl)

module _ (Made : List Call → Type 0) (Spent : Type 0) (closing : Bool) (most : ℕ) where
  by_flow : (f g : Option Flow) (reads later : ℕ) (output written : SinkState) (clock rest_clock : Option (ℕ → ℕ)) (e : Ending)
      → Served Made Spent closing most 0 (sides (record { flow = f; faults = reads }) output clock) (sides (record { flow = g; faults = later }) written rest_clock) [] e → e ≢ ending.ReadFault → e ≢ ending.WriteFault → e ≢ ending.Memory → IsEndingOf closing most f e
  by_flow None g reads later output written clock rest_clock e s read write memory = tt
  by_flow (Some f) None reads later output written clock rest_clock e s read write memory = absurd s.takes
  by_flow (Some f) (Some g) reads later output written clock rest_clock e s read write memory = told Made Spent closing most f g reads later output written clock rest_clock e s read write memory

  pub ending_of_input : (old new : Sides) (e : Ending) → Served Made Spent closing most 0 old new [] e → e ≢ ending.ReadFault → e ≢ ending.WriteFault → e ≢ ending.Memory → IsEndingOf closing most old.input.flow e
  ending_of_input old new e s = by_flow old.input.flow new.input.flow old.input.faults new.input.faults old.output new.output old.clock new.clock e s
