-- All of a crew, from its passes, its doors and the machine at its end.
use Rattle.std.proofs.Common.{◌≡◌, ◌⊎◌, inl, inr, ℕ, zero, suc, ◌+◌, ◌-◌, ◌^◌, ◌<◌, ◌≤◌, min, arith, All, Contains, List, [], ◌∷◌, ◌++◌, length, refl, sym, ap, subst, ◌∙◌, map, Option, option_map, Some, None}
use Rattle.std.specs.List.{AllByRecursion}
use Rattle.std.proofs.lemmas.List.{length-map}
use Rattle.ht_base.specs.History.{IsLegal, end_of, own}
use Rattle.ht_base.specs.Readings.{call_of}
use Rattle.ht_base.specs.declared.event.Event.{Event}
use Rattle.ht_base.specs.declared.reply.Reply.{Reply}
use Rattle.ht_doors.specs.Doors.{DoorState, LinkState}
use Rattle.ht_outside.specs.Causes.{Rose}
use Rattle.ht_serve.specs.Calls.{Call}
use Rattle.ht_shared.specs.Passes.{IsOf, Joined, PassOf, SharedOf, first_of, given_by}
use Rattle.ht_workers.specs.declared.working.WorkEnd.{WorkEnd}
use Rattle.ht_workers.specs.declared.working.WorkEnd.TheVariants as ended
use Rattle.ht_workers.specs.Counts.{Rises}
use Rattle.ht_workers.specs.Passing.{IsOutOfTickets}
use Rattle.ht_pool.specs.declared.crew.Crew.{Crew}
use Rattle.ht_pool.specs.Crews.{EndsCrew, HandsAllBack, IsCrewOf, IsLong, IsOfCrew, RunsCrew, Said, ServesAll, calls_by}
use Rattle.ht_pool.specs.Shares.{shares_to}
use Rattle.ht_pool.specs.Gathering.{AreEach, AreOf, AreTurnsOnly, HasTurned, HasWorked, IsCause, JoinsForks, JoinsPasses, SeatOf, WorkerOf, doors_of, endings_of, fork_of, gave, passes_of, seat_of, seats_to, staff_of, worst}
use Rattle.ht_pool.proofs.Calls.{of_passes}
use Rattle.ht_pool.proofs.Parts.{HaveWorkedAt, all_done, links_of, rose_of, told_by, untold}
use Rattle.ht_pool.proofs.Passes.{Gathered, gathered, numbers}
use Rattle.ht_pool.proofs.Shares.{all_shared, seats_are, sum_of}
use Rattle.ht_pool.proofs.Staff.{AreOfCrew, as_many, long, mine, never_joined, of_nobody, of_timer, of_workers, said, staff_is_of, still_of, worked}

-- a crew that couldn't begin
pub not_begun : {S : Type 0} (Step : S → Event → Reply → S → Type 0) (crew : Crew) (machine : S) (old new : DoorState) (cause : WorkEnd) → IsCause old.faults new.faults cause → RunsCrew Step crew machine machine old new cause
not_begun Step crew machine old new cause is = record { history = []; legal = tt; after_is = refl; crew_is = record { made = λ k d low. absurd (omega (arith, low)); ends = ends cause is } }
  where
    ends : (c : WorkEnd) → IsCause old.faults new.faults c → EndsCrew crew [] old new c
    ends ended.Done i = absurd i
    ends ended.Door i = i
    ends ended.Memory i = tt

-- from the door before its forks
pub from_before : {S : Type 0} (Step : S → Event → Reply → S → Type 0) (crew : Crew) (before after : S) (first old new : DoorState) (ending : WorkEnd) → old.links ≡ first.links → old.back ≡ first.back → first.faults ≤ old.faults → RunsCrew Step crew before after old new ending → RunsCrew Step crew before after first new ending
from_before Step crew before after first old new ending links back faults r = record { history = r.history; legal = r.legal; after_is = r.after_is; crew_is = record { made = r.crew_is.made; ends = ends ending r.crew_is.ends } }
  where
    later : (a b c : ℕ) → a ≤ b → Rose b c → Rose a c
    later a b c low rose = omega (arith, low, rose)

    ends : (e : WorkEnd) → EndsCrew crew (map call_of r.history) old new e → EndsCrew crew (map call_of r.history) first new e
    ends ended.Done s = record {
      connections = s.connections;
      asked_for = s.asked_for;
      links = λ low. s.links (subst (λ (n : ℕ). n + s.connections < 2 ^ 64) (sym links) low) ∙ ap (λ n. n + s.connections) links;
      back = subst (λ (b : Option (List LinkState)). HandsAllBack (map call_of r.history) (shares_to crew.workers s.connections crew.workers) s.connections b new.back) back s.back;
      turned = s.turned;
    }
    ends ended.Door rose = later first.faults old.faults new.faults faults rose
    ends ended.Memory s = tt

-- ---- without a number of connections no worker is done

shareless_push : (xs : List SeatOf) (x : SeatOf) → AllByRecursion (λ s. s.share ≡ None) xs → x.share ≡ None → AllByRecursion (λ s. s.share ≡ None) (xs ++ x ∷ [])
shareless_push [] x a is = (is, tt)
shareless_push (y ∷ ys) x a is = (a.0, shareless_push ys x a.1 is)

shareless : (workers : ℕ) (door : DoorState) (k : ℕ) → AllByRecursion (λ s. s.share ≡ None) (seats_to workers None door k)
shareless workers door zero = tt
shareless workers door (suc k) = shareless_push (seats_to workers None door k) (seat_of (fork_of door) None) (shareless workers door k) refl

nobody_done : {S : Type 0} (said : List Said) (n : ℕ) (seats : List SeatOf) (ws : List (WorkerOf S)) → 1 ≤ length seats → AllByRecursion (λ s. s.share ≡ None) seats → HaveWorkedAt said n seats ws → AllByRecursion (λ w. w.ending ≡ ended.Done) ws → ⊥
nobody_done said n [] ws some none have done = absurd (omega (arith, some))
nobody_done said n (seat ∷ seats) [] some none have done = have
nobody_done said n (seat ∷ seats) (w ∷ ws) some none have done = two seat.share none.0 (have.0.serves done.0).1
  where
    two : {m : ℕ} (share : Option ℕ) → share ≡ None → share ≡ Some m → ⊥
    two share a b = absurd (cc)

-- ---- what the first pass is in the end

module _ {S : Type 0} (Step : S → Event → Reply → S → Type 0) (shared : SharedOf S) (seats : List SeatOf) (workers : List (WorkerOf S)) (timer mid all : PassOf S Event Reply)
    (worked_is : AreEach (HasWorked Step) (staff_of (first_of shared) seats) workers) (turned : HasTurned Step (given_by (gave (first_of shared) (length seats))) timer)
    (joined : Joined (gave (gave (first_of shared) (length seats)) 1) timer mid) (joins : JoinsPasses mid (passes_of workers) all) where
  pub together : Gathered (gave (gave (first_of shared) (length seats)) 1) (timer ∷ passes_of workers) all
  together = gathered (gave (gave (first_of shared) (length seats)) 1) (timer ∷ passes_of workers) all (turned.pass.ended, never_joined Step (first_of shared) seats workers worked_is) (mid, joined, joins)

  pub of_shared : IsOf shared all
  of_shared = (together.table, together.start)

  pub is_first : all.number ≡ 0
  is_first = together.number

  pub all_joined : length all.ended + 1 ≡ all.given
  all_joined =
      let many : length (numbers (passes_of workers)) ≡ length seats = length-map (passes_of workers) (λ p. p.number) ∙ length-map workers (λ w. w.pass) ∙ as_many Step (first_of shared) seats workers worked_is in
      let ended : length all.ended ≡ suc (length (numbers (passes_of workers))) = ap length together.ended in
      let given : all.given ≡ 1 + length seats + 1 = together.given in
      omega (arith, many, ended, given)

module _ {S : Type 0} (Step : S → Event → Reply → S → Type 0) (crew : Crew) (some : 1 ≤ crew.workers) (shared : SharedOf S) (after : S) (old new : DoorState) (seats : List SeatOf) (seats_is : seats ≡ seats_to crew.workers crew.connections old crew.workers)
    (count : length seats ≡ crew.workers) (workers : List (WorkerOf S)) (timer all : PassOf S Event Reply) (ending : WorkEnd)
    (worked_is : AreEach (HasWorked Step) (staff_of (first_of shared) seats) workers) (turned : HasTurned Step (given_by (gave (first_of shared) (length seats))) timer)
    (gathered_is : Gathered (gave (gave (first_of shared) (length seats)) 1) (timer ∷ passes_of workers) all) (forks : JoinsForks old (doors_of workers) new)
    (ending_is : ending ≡ worst ended.Done (endings_of workers)) (value : after ≡ end_of shared.start all.seen) (legal : IsLegal Step shared.start all.seen) (entries : All (λ e. Contains (0 ∷ all.ended) e.pass) all.seen) (found : all.found ≤ length all.seen) where
  have : HaveWorkedAt (said Step all found) 1 seats workers
  have = worked Step all found (first_of shared) 1 seats workers refl refl worked_is gathered_is.each.1

  timer_number : timer.number ≡ crew.workers + 1
  timer_number = turned.pass.number ∙ (let c = count in let e : 1 + length seats ≡ crew.workers + 1 = omega (arith, c) in e)

  timer_calls : turned.calls ≡ calls_by (crew.workers + 1) (said Step all found)
  timer_calls = mine Step all found (given_by (gave (first_of shared) (length seats))) timer (crew.workers + 1) (sym turned.pass.number ∙ timer_number) refl turned.pass gathered_is.each.0 turned.calls turned.made

  made : All (IsOfCrew crew.workers) (map call_of all.seen)
  made = of_passes (IsOfCrew crew.workers) (0 ∷ numbers (timer ∷ passes_of workers)) all.seen (
    of_nobody Step all found crew.workers 0 (gathered_is.kept 0 (0, omega arith, refl)),
    (
      subst (λ (n : ℕ). AreOfCrew Step all found crew.workers n) (sym timer_number) (of_timer Step all found crew.workers (crew.workers + 1) refl (subst AreTurnsOnly timer_calls turned.turns)),
      of_workers Step all found (first_of shared) 1 crew.workers seats workers refl (omega arith) (let c = count in omega (arith, c)) worked_is have,
    ),
  )
      (subst (λ (ns : List ℕ). All (λ e. Contains (0 ∷ ns) e.pass) all.seen) gathered_is.ended entries)

  some_turn : (1 ≤ length (calls_by (crew.workers + 1) (said Step all found))) ⊎ IsLong (said Step all found)
  some_turn = by_two turned.some_turn
    where
      by_two : (1 ≤ length turned.calls) ⊎ IsOutOfTickets timer → (1 ≤ length (calls_by (crew.workers + 1) (said Step all found))) ⊎ IsLong (said Step all found)
      by_two (inl one) = inl (subst (λ (cs : List Call). 1 ≤ length cs) timer_calls one)
      by_two (inr out) = inr (long Step all found (let f = gathered_is.each.0.found in let o = out.1 in omega arith))

  -- all were served, where no worker ended otherwise
  serves : worst ended.Done (endings_of workers) ≡ ended.Done → ServesAll crew (said Step all found) old new
  serves done = by_number crew.connections refl
    where
      all_of_them : AllByRecursion (λ w. w.ending ≡ ended.Done) workers
      all_of_them = (all_done ended.Done workers done).1

      by_number : (connections : Option ℕ) → crew.connections ≡ connections → ServesAll crew (said Step all found) old new
      by_number None is = absurd (nobody_done (said Step all found) 1 seats workers (let c = count in let s = some in omega arith)
          (subst (λ (ss : List SeatOf). AllByRecursion (λ s. s.share ≡ None) ss) (sym (seats_is ∙ ap (λ (c : Option ℕ). seats_to crew.workers c old crew.workers) is)) (shareless crew.workers old crew.workers)) have all_of_them)
      by_number (Some connections) is =
          let shares : List ℕ = shares_to crew.workers connections crew.workers in
          let sum : sum_of shares ≡ connections = all_shared crew.workers connections some in
          let seats_for : seats ≡ map (λ s. seat_of (fork_of old) (Some s)) shares = seats_is ∙ ap (λ (c : Option ℕ). seats_to crew.workers c old crew.workers) is ∙ seats_are crew.workers connections old crew.workers in
          let here : HaveWorkedAt (said Step all found) 1 (map (λ s. seat_of (fork_of old) (Some s)) shares) workers = subst (λ (ss : List SeatOf). HaveWorkedAt (said Step all found) 1 ss workers) seats_for have in
          record {
            connections = connections;
            asked_for = is;
            links = subst (λ (n : ℕ). Rises old.links new.links n) sum (links_of (said Step all found) (fork_of old) 1 shares workers old new refl here all_of_them forks);
            back = by_back connections shares sum here old.back refl;
            turned = some_turn;
          }
        where
          by_back : (connections : ℕ) (shares : List ℕ) → sum_of shares ≡ connections → HaveWorkedAt (said Step all found) 1 (map (λ s. seat_of (fork_of old) (Some s)) shares) workers → (back : Option (List LinkState)) → old.back ≡ back
              → HandsAllBack (said Step all found) shares connections back new.back
          by_back connections shares sum here None is = untold (said Step all found) (fork_of old) 1 shares workers old new (ap (option_map (λ _. [])) is) is here all_of_them forks
          by_back connections shares sum here (Some told) is = λ low. told_by (said Step all found) (fork_of old) 1 shares workers old new told (ap (option_map (λ _. [])) is) is here all_of_them forks (subst (λ (n : ℕ). length told + n < 2 ^ 63) (sym sum) low)

  pub ran : RunsCrew Step crew shared.start after old new ending
  ran = record { history = all.seen; legal = legal; after_is = sym value; crew_is = record { made = made; ends = ends ending ending_is } }
    where
      ends : (e : WorkEnd) → e ≡ worst ended.Done (endings_of workers) → EndsCrew crew (map call_of all.seen) old new e
      ends ended.Done is = serves (sym is)
      ends ended.Door is = rose_of (said Step all found) old.faults 1 ended.Done seats workers old new have forks (let e : min old.faults (2 ^ 64 - 1) ≤ old.faults = omega arith in e) (λ e. absurd (cc)) (sym is)
      ends ended.Memory is = tt

-- ---- the same from what each step of the run says

module _ {S : Type 0} (Step : S → Event → Reply → S → Type 0) (shared : SharedOf S) (first given given_on : PassOf S Event Reply) (seats : List SeatOf) (n : ℕ) (count : n ≡ length seats)
    (first_is : first ≡ first_of shared) (given_is : given ≡ gave first n) (given_on_is : given_on ≡ gave given 1) where
  pub given_are : given ≡ gave (first_of shared) (length seats)
  given_are = given_is ∙ ap (λ (p : PassOf S Event Reply). gave p n) first_is ∙ ap (λ (k : ℕ). gave (first_of shared) k) count

  pub given_on_are : given_on ≡ gave (gave (first_of shared) (length seats)) 1
  given_on_are = given_on_is ∙ ap (λ (p : PassOf S Event Reply). gave p 1) given_are

  pub turned_from : (begun timer : PassOf S Event Reply) → begun ≡ given_by given → HasTurned Step begun timer → HasTurned Step (given_by (gave (first_of shared) (length seats))) timer
  turned_from begun timer is turned = subst (λ (p : PassOf S Event Reply). HasTurned Step p timer) (is ∙ ap given_by given_are) turned

  pub worked_from : (staffed workers : List (WorkerOf S)) → staffed ≡ staff_of first seats → AreEach (HasWorked Step) staffed workers → AreEach (HasWorked Step) (staff_of (first_of shared) seats) workers
  worked_from staffed workers is each = subst (λ (ws : List (WorkerOf S)). AreEach (HasWorked Step) ws workers) (is ∙ ap (λ (p : PassOf S Event Reply). staff_of p seats) first_is) each

  pub joined_from : (timer mid : PassOf S Event Reply) → Joined given_on timer mid → Joined (gave (gave (first_of shared) (length seats)) 1) timer mid
  joined_from timer mid joined = subst (λ (p : PassOf S Event Reply). Joined p timer mid) given_on_are joined

  pub few : length seats ≤ 64 → first.given + n < 4294967295
  few small = let g : first.given ≡ 1 = ap (λ (p : PassOf S Event Reply). p.given) first_is in let c = count in omega (arith, g, c, small)

  pub few_on : length seats ≤ 64 → given.given < 4294967295
  few_on small = let g : given.given ≡ 1 + length seats = ap (λ (p : PassOf S Event Reply). p.given) given_are in omega (arith, g, small)

  pub staffed_of : (staffed : List (WorkerOf S)) → staffed ≡ staff_of first seats → AreOf shared staffed
  staffed_of staffed is = subst (λ (ws : List (WorkerOf S)). AreOf shared ws) (sym (is ∙ ap (λ (p : PassOf S Event Reply). staff_of p seats) first_is)) (staff_is_of Step shared (first_of shared) seats (refl, refl))

  module _ (begun timer mid all : PassOf S Event Reply) (begun_is : begun ≡ given_by given) (turned : HasTurned Step begun timer) (staffed workers : List (WorkerOf S)) (staffed_is : staffed ≡ staff_of first seats)
      (each : AreEach (HasWorked Step) staffed workers) (joined : Joined given_on timer mid) (joins : JoinsPasses mid (passes_of workers) all) where
    gathered_from : Gathered (gave (gave (first_of shared) (length seats)) 1) (timer ∷ passes_of workers) all
    gathered_from = together Step shared seats workers timer mid all (worked_from staffed workers staffed_is each) (turned_from begun timer begun_is turned) (joined_from timer mid joined) joins

    pub of_shared_from : IsOf shared all
    of_shared_from = of_shared Step shared seats workers timer mid all (worked_from staffed workers staffed_is each) (turned_from begun timer begun_is turned) (joined_from timer mid joined) joins

    pub is_first_from : all.number ≡ 0
    is_first_from = is_first Step shared seats workers timer mid all (worked_from staffed workers staffed_is each) (turned_from begun timer begun_is turned) (joined_from timer mid joined) joins

    pub all_joined_from : length all.ended + 1 ≡ all.given
    all_joined_from = all_joined Step shared seats workers timer mid all (worked_from staffed workers staffed_is each) (turned_from begun timer begun_is turned) (joined_from timer mid joined) joins

    pub ran_from : (crew : Crew) → 1 ≤ crew.workers → (after : S) (old new : DoorState) → seats ≡ seats_to crew.workers crew.connections old crew.workers → n ≡ crew.workers → (ending : WorkEnd) → JoinsForks old (doors_of workers) new → ending ≡ worst ended.Done (endings_of workers)
        → after ≡ end_of shared.start all.seen → IsLegal Step shared.start all.seen → All (λ e. Contains (0 ∷ all.ended) e.pass) all.seen → all.found ≤ length all.seen → RunsCrew Step crew shared.start after old new ending
    ran_from crew some after old new seats_is workers_are ending forks ending_is value legal entries found =
        ran Step crew some shared after old new seats seats_is (sym count ∙ workers_are) workers timer all ending (worked_from staffed workers staffed_is each) (turned_from begun timer begun_is turned) gathered_from forks ending_is value legal entries found
