-- The workers of a crew behind their work.
use Rattle.std.proofs.Common.{◌≡◌, ◌⊎◌, inl, inr, ℕ, suc, ◌+◌, ◌-◌, ◌^◌, ◌<◌, ◌≤◌, arith, List, [], ◌∷◌, ◌++◌, length, refl, sym, ap, subst, ◌∙◌, map, Option, Some, None}
use Rattle.std.specs.List.{AllByRecursion}
use Rattle.std.proofs.lemmas.List.{length-map}
use Rattle.ht_base.specs.History.{Entry, own}
use Rattle.ht_base.specs.Readings.{call_of}
use Rattle.ht_base.specs.declared.event.Event.{Event}
use Rattle.ht_base.specs.declared.reply.Reply.{Reply}
use Rattle.ht_serve.specs.Calls.{Call, calls_in}
use Rattle.ht_shared.specs.Passes.{IsOf, IsSamePass, PassOf, SharedOf, given_by}
use Rattle.ht_workers.specs.Passing.{IsOutOfTickets, PassMade}
use Rattle.ht_workers.specs.Working.{AreAsked, IsAsked}
use Rattle.ht_pool.specs.Crews.{IsLong, IsOfCrew, IsTurn, Said, calls_by}
use Rattle.ht_pool.specs.Gathering.{AreEach, AreOf, AreTurnsOnly, HasTurned, HasWorked, SeatOf, WorkerOf, gave, passes_of, staff_of}
use Rattle.ht_pool.proofs.Calls.{calls_are, of_pass}
use Rattle.ht_pool.proofs.Parts.{HaveWorkedAt, WorkedAt, worked_at}
use Rattle.ht_pool.proofs.Passes.{Has, numbers}

module _ {S : Type 0} (Step : S → Event → Reply → S → Type 0) where
  pub never_joined : (first : PassOf S Event Reply) (seats : List SeatOf) (ws : List (WorkerOf S)) → AreEach (HasWorked Step) (staff_of first seats) ws → AllByRecursion (λ p. p.ended ≡ []) (passes_of ws)
  never_joined first [] [] each = tt
  never_joined first [] (w ∷ ws) each = absurd each
  never_joined first (seat ∷ seats) [] each = absurd each
  never_joined first (seat ∷ seats) (w ∷ ws) each = (each.0.pass.ended, never_joined (gave first 1) seats ws each.1)

  pub as_many : (first : PassOf S Event Reply) (seats : List SeatOf) (ws : List (WorkerOf S)) → AreEach (HasWorked Step) (staff_of first seats) ws → length ws ≡ length seats
  as_many first [] [] each = refl
  as_many first [] (w ∷ ws) each = absurd each
  as_many first (seat ∷ seats) [] each = absurd each
  as_many first (seat ∷ seats) (w ∷ ws) each = ap suc (as_many (gave first 1) seats ws each.1)

  -- ---- of one turn lock

  pub staff_is_of : (shared : SharedOf S) (first : PassOf S Event Reply) (seats : List SeatOf) → IsOf shared first → AreOf shared (staff_of first seats)
  staff_is_of shared first [] is = tt
  staff_is_of shared first (seat ∷ seats) is = (is, staff_is_of shared (gave first 1) seats is)

  pub still_of : (shared : SharedOf S) (ws vs : List (WorkerOf S)) → AreEach (HasWorked Step) ws vs → AreOf shared ws → AreOf shared vs
  still_of shared [] [] each are = tt
  still_of shared [] (v ∷ vs) each are = absurd each
  still_of shared (w ∷ ws) [] each are = absurd each
  still_of shared (w ∷ ws) (v ∷ vs) each are = ((each.0.pass.table ∙ are.0.0, each.0.pass.start ∙ are.0.1), still_of shared ws vs each.1 are.1)

module _ {S : Type 0} (Step : S → Event → Reply → S → Type 0) (all : PassOf S Event Reply) (found : all.found ≤ length all.seen) where
  abbrev pub said : List Said
  said = map call_of all.seen

  pub long : 2 ^ 63 - 2 ^ 32 ≤ all.found → IsLong said
  long many = let l = length-map all.seen call_of in let f = found in omega (arith, many, l, f)

  -- the calls of a pass that began with nothing
  pub mine : (old new : PassOf S Event Reply) (n : ℕ) → old.number ≡ n → old.seen ≡ [] → IsSamePass old new → Has all new → (cs : List Call) → PassMade Step old new cs → cs ≡ calls_by n said
  mine old new n number nothing same has cs made =
      sym (calls_are n all.seen ∙ ap calls_in (subst (λ (k : ℕ). own k all.seen ≡ own k new.seen) (same.number ∙ number) has.own_are)
      ∙ ap calls_in (subst (λ (k : ℕ). own k new.seen ≡ own k old.seen ++ made.added) number made.mine ∙ ap (λ (es : List (Entry S Event Reply)). own n es ++ made.added) nothing) ∙ made.calls_are)

  -- ---- what each entry of a pass is

  abbrev pub AreOfCrew : ℕ → ℕ → Type 0
  AreOfCrew workers n = AllByRecursion (λ e. e.pass ≡ n → IsOfCrew workers (call_of e)) all.seen

  asked_by_recursion : (cs : List Call) → AreAsked cs → AllByRecursion (λ c. IsAsked c.event) cs
  asked_by_recursion [] a = tt
  asked_by_recursion (c ∷ cs) a = (a.0, asked_by_recursion cs a.1)

  turns_by_recursion : (cs : List Call) → AreTurnsOnly cs → AllByRecursion (λ c. IsTurn c.event) cs
  turns_by_recursion [] a = tt
  turns_by_recursion (c ∷ cs) a = (a.0, turns_by_recursion cs a.1)

  each_entry : (P : Event → Type 0) (workers n : ℕ) (h : List (Entry S Event Reply)) → ((e : Entry S Event Reply) → e.pass ≡ n → P e.event → IsOfCrew workers (call_of e)) → AllByRecursion (λ e. e.pass ≡ n → P e.event) h
      → AllByRecursion (λ e. e.pass ≡ n → IsOfCrew workers (call_of e)) h
  each_entry P workers n [] so a = tt
  each_entry P workers n (e ∷ es) so a = ((λ is. so e is (a.0 is)), each_entry P workers n es so a.1)

  of_worker : (workers n : ℕ) → 1 ≤ n → n ≤ workers → AreAsked (calls_by n said) → AreOfCrew workers n
  of_worker workers n low high asked =
      each_entry IsAsked workers n all.seen (λ e is a. inl (omega (arith, is, low), omega (arith, is, high), a))
      (of_pass IsAsked n all.seen (asked_by_recursion (calls_in (own n all.seen)) (subst AreAsked (calls_are n all.seen) asked)))

  pub of_timer : (workers n : ℕ) → n ≡ workers + 1 → AreTurnsOnly (calls_by n said) → AreOfCrew workers n
  of_timer workers n next turns =
      each_entry IsTurn workers n all.seen (λ e is a. inr (is ∙ next, a))
      (of_pass IsTurn n all.seen (turns_by_recursion (calls_in (own n all.seen)) (subst AreTurnsOnly (calls_are n all.seen) turns)))

  pub of_nobody : (workers n : ℕ) → own n all.seen ≡ [] → AreOfCrew workers n
  of_nobody workers n none =
      each_entry (λ e. ⊥) workers n all.seen (λ e is a. absurd a)
      (of_pass (λ e. ⊥) n all.seen (subst (λ (es : List (Entry S Event Reply)). AllByRecursion (λ (c : Call). ⊥) (calls_in es)) (sym none) tt))

  -- ---- all workers

  pub worked : (first : PassOf S Event Reply) (n : ℕ) (seats : List SeatOf) (ws : List (WorkerOf S)) → first.given ≡ n → first.seen ≡ [] → AreEach (HasWorked Step) (staff_of first seats) ws → AllByRecursion (Has all) (passes_of ws) → HaveWorkedAt said n seats ws
  worked first n [] [] given nothing each has = tt
  worked first n [] (w ∷ ws) given nothing each has = absurd each
  worked first n (seat ∷ seats) [] given nothing each has = absurd each
  worked first n (seat ∷ seats) (w ∷ ws) given nothing each has = (
    worked_at (PassMade Step (given_by first) w.pass) (IsOutOfTickets w.pass) said n seat w (mine (given_by first) w.pass n given nothing each.0.pass has.0) (λ out. let f = has.0.found in let o = out.1 in long (omega arith)) each.0.ends,
    worked (gave first 1) (n + 1) seats ws (ap (λ k. k + 1) given) nothing each.1 has.1,
  )

  pub of_workers : (first : PassOf S Event Reply) (n workers : ℕ) (seats : List SeatOf) (ws : List (WorkerOf S)) → first.given ≡ n → 1 ≤ n → n + length seats ≤ workers + 1 → AreEach (HasWorked Step) (staff_of first seats) ws → HaveWorkedAt said n seats ws
      → AllByRecursion (AreOfCrew workers) (numbers (passes_of ws))
  of_workers first n workers [] [] given low high each have = tt
  of_workers first n workers [] (w ∷ ws) given low high each have = absurd each
  of_workers first n workers (seat ∷ seats) [] given low high each have = absurd each
  of_workers first n workers (seat ∷ seats) (w ∷ ws) given low high each have = (
    subst (AreOfCrew workers) (sym (each.0.pass.number ∙ given)) (of_worker workers n low (omega (arith, high)) have.0.asked),
    of_workers (gave first 1) (n + 1) workers seats ws (ap (λ k. k + 1) given) (omega (arith, low)) (omega (arith, high)) each.1 have.1,
  )
