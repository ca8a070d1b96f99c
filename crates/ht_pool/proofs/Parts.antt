-- What each worker did, and what all of them did together.
use Rattle.std.proofs.Common.{◌≡◌, ◌⊎◌, inl, inr, ℕ, suc, ◌+◌, ◌-◌, ◌^◌, ◌<◌, ◌≤◌, min, arith, List, [], ◌∷◌, ◌++◌, append-nil, append_assoc, length, length-append, refl, sym, ap, subst, ◌∙◌, map, Option, Some, None, IfSome}
use Rattle.std.specs.List.{AllByRecursion}
use Rattle.ht_base.specs.declared.event.Event.{Event}
use Rattle.ht_doors.specs.Doors.{AreJoined, DoorState, LinkState, count_on}
use Rattle.ht_outside.specs.Causes.{Rose, next_count}
use Rattle.ht_serve.specs.Calls.{Call}
use Rattle.ht_workers.specs.declared.working.WorkEnd.{WorkEnd}
use Rattle.ht_workers.specs.declared.working.WorkEnd.TheVariants as ended
use Rattle.ht_workers.specs.Counts.{Rises}
use Rattle.ht_workers.specs.Working.{AreAsked, AreServed, EndsWork, HandsBack, Works}
use Rattle.ht_workers.proofs.PublicLaws.{works_as}
use Rattle.ht_pool.specs.Crews.{AreShares, HandsAllBack, IsLong, Said, calls_by, in_turn}
use Rattle.ht_pool.specs.Gathering.{JoinsFork, JoinsForks, SeatOf, WorkerOf, doors_of, endings_of, fork_of, seat_of, worse, worst}
use Rattle.ht_pool.proofs.Shares.{sum_of}

-- the calls of a worker are no turns
module _ (A : List Call → Type 0) (P : Type 0) where
  asks : (share : Option ℕ) (old new : DoorState) (e : WorkEnd) → EndsWork A P share old new e → (cs : List Call) × A cs × AreAsked cs
  asks None old new ended.Done w = absurd w
  asks (Some n) old new ended.Done w = (w.calls, w.made, w.asked)
  asks share old new ended.Door w = let s = w.0.2 in (s.calls ++ s.last, s.made, s.asked)
  asks share old new ended.Memory w = let s = w.2 in (s.calls ++ s.last, s.made, s.asked)

-- ---- one worker

-- it served its share
abbrev pub ServesPart : List Said → ℕ → SeatOf → DoorState → Type 0
ServesPart said n seat door = (share : ℕ) × (seat.share ≡ Some share) × Works (λ cs. cs ≡ calls_by n said) (IsLong said) share seat.door door

pub record WorkedAt {S : Type 0} (said : List Said) (n : ℕ) (seat : SeatOf) (w : WorkerOf S) : Type 0 where
  pub asked : AreAsked (calls_by n said)
  pub serves : w.ending ≡ ended.Done → ServesPart said n seat w.door
  pub fails : w.ending ≡ ended.Door → Rose seat.door.faults w.door.faults

-- workers whose passes are numbered from n on
abbrev pub HaveWorkedAt : {S : Type 0} → List Said → ℕ → List SeatOf → List (WorkerOf S) → Type 0
HaveWorkedAt said n [] [] = Unit {0}
HaveWorkedAt said n [] (w ∷ ws) = ⊥
HaveWorkedAt said n (seat ∷ seats) [] = ⊥
HaveWorkedAt said n (seat ∷ seats) (w ∷ ws) = WorkedAt said n seat w × HaveWorkedAt said (n + 1) seats ws

pub worked_at : {S : Type 0} (A : List Call → Type 0) (P : Type 0) (said : List Said) (n : ℕ) (seat : SeatOf) (w : WorkerOf S) → ((cs : List Call) → A cs → cs ≡ calls_by n said) → (P → IsLong said)
    → EndsWork A P seat.share seat.door w.door w.ending → WorkedAt said n seat w
worked_at A P said n seat w made kept work =
    let a = asks A P seat.share seat.door w.door w.ending work in
    record { asked = subst AreAsked (made a.0 a.1) a.2; serves = λ e. part seat.share refl (subst (λ (x : WorkEnd). EndsWork A P seat.share seat.door w.door x) e work); fails = λ e. (subst (λ (x : WorkEnd). EndsWork A P seat.share seat.door w.door x) e work).1 }
  where
    part : (share : Option ℕ) → seat.share ≡ share → EndsWork A P seat.share seat.door w.door ended.Done → ServesPart said n seat w.door
    part None is e = absurd (subst (λ (s : Option ℕ). EndsWork A P s seat.door w.door ended.Done) is e)
    part (Some m) is e = (m, is, works_as A (λ cs. cs ≡ calls_by n said) P (IsLong said) made kept m seat.door w.door (subst (λ (s : Option ℕ). EndsWork A P s seat.door w.door ended.Done) is e))

-- ---- how they ended

worse_done : (a b : WorkEnd) → worse a b ≡ ended.Done → (a ≡ ended.Done) × (b ≡ ended.Done)
worse_done ended.Done b is = (refl, is)
worse_done ended.Door b is = absurd (cc)
worse_done ended.Memory ended.Done is = absurd (cc)
worse_done ended.Memory ended.Memory is = absurd (cc)
worse_done ended.Memory ended.Door is = absurd (cc)

worse_door : (a b : WorkEnd) → worse a b ≡ ended.Door → (a ≡ ended.Door) ⊎ (b ≡ ended.Door)
worse_door ended.Done b is = inr is
worse_door ended.Door b is = inl refl
worse_door ended.Memory ended.Done is = absurd (cc)
worse_door ended.Memory ended.Memory is = absurd (cc)
worse_door ended.Memory ended.Door is = inr refl

module _ {S : Type 0} where
  pub all_done : (a : WorkEnd) (ws : List (WorkerOf S)) → worst a (endings_of ws) ≡ ended.Done → (a ≡ ended.Done) × AllByRecursion (λ w. w.ending ≡ ended.Done) ws
  all_done a [] is = (is, tt)
  all_done a (w ∷ ws) is =
      let rest = all_done (worse a w.ending) ws is in
      let two = worse_done a w.ending rest.0 in
      (two.0, (two.1, rest.1))

  module _ (said : List Said) (base : ℕ) where
    -- a worker whose door failed leaves a door that counts more faults
    pub rose_of : (n : ℕ) (a : WorkEnd) (seats : List SeatOf) (ws : List (WorkerOf S)) (old new : DoorState) → HaveWorkedAt said n seats ws → JoinsForks old (doors_of ws) new
        → min base (2 ^ 64 - 1) ≤ old.faults → (a ≡ ended.Door → Rose base old.faults) → worst a (endings_of ws) ≡ ended.Door → Rose base new.faults
    rose_of n a [] [] old new worked joins low rose is = subst (λ (d : DoorState). Rose base d.faults) (sym joins) (rose is)
    rose_of n a [] (w ∷ ws) old new worked joins low rose is = absurd worked
    rose_of n a (seat ∷ seats) [] old new worked joins low rose is = absurd worked
    rose_of n a (seat ∷ seats) (w ∷ ws) old new worked joins low rose is =
        rose_of (n + 1) (worse a w.ending) seats ws joins.0 new worked.1 joins.2 (later joins.0.faults joins.1.faults) (λ e. by_two joins.0.faults joins.1.faults (worse_door a w.ending e)) is
      where
        later : (m : ℕ) → m ≡ count_on old.faults w.door.faults → min base (2 ^ 64 - 1) ≤ m
        later m faults = omega (arith, faults, low)

        risen : (m o f : ℕ) → m ≡ count_on o f → Rose base o → Rose base m
        risen m o f faults r = omega (arith, faults, r)

        failed : (m o f g : ℕ) → m ≡ count_on o f → min base (2 ^ 64 - 1) ≤ o → Rose g f → Rose base m
        failed m o f g faults low r = omega (arith, faults, low, r)

        by_two : (m : ℕ) → m ≡ count_on old.faults w.door.faults → (a ≡ ended.Door) ⊎ (w.ending ≡ ended.Door) → Rose base m
        by_two m faults (inl e) = risen m old.faults w.door.faults faults (rose e)
        by_two m faults (inr e) = failed m old.faults w.door.faults seat.door.faults faults low (worked.0.fails e)

-- ---- all connections

some_is : (x y : ℕ) → Some x ≡ Some y → x ≡ y
some_is x y e = cc

abbrev seats_for : DoorState → List ℕ → List SeatOf
seats_for fork shares = map (λ s. seat_of fork (Some s)) shares

abbrev InParts : List Said → ℕ → List ℕ → List LinkState → Option (List LinkState) → Type 0
InParts said n shares told new = (parts : List (List LinkState)) × (new ≡ Some (told ++ in_turn parts)) × AreShares said n shares parts

module _ {S : Type 0} (said : List Said) (fork : DoorState) where
  abbrev AllDone : List (WorkerOf S) → Type 0
  AllDone ws = AllByRecursion (λ w. w.ending ≡ ended.Done) ws

  served : (n share : ℕ) (w : WorkerOf S) → WorkedAt said n (seat_of fork (Some share)) w → w.ending ≡ ended.Done → Works (λ cs. cs ≡ calls_by n said) (IsLong said) share fork w.door
  served n share w worked done =
      let part = worked.serves done in
      subst (λ (k : ℕ). Works (λ cs. cs ≡ calls_by n said) (IsLong said) k fork w.door) (sym (some_is share part.0 part.1)) part.2

  -- the count of links
  pub links_of : (n : ℕ) (shares : List ℕ) (ws : List (WorkerOf S)) (old new : DoorState) → fork.links ≡ 0 → HaveWorkedAt said n (seats_for fork shares) ws → AllDone ws → JoinsForks old (doors_of ws) new → Rises old.links new.links (sum_of shares)
  links_of n [] [] old new zero worked done joins = λ low. ap (λ (d : DoorState). d.links) joins ∙ (let e : old.links ≡ old.links + 0 = omega arith in e)
  links_of n [] (w ∷ ws) old new zero worked done joins = absurd worked
  links_of n (s ∷ ss) [] old new zero worked done joins = absurd worked
  links_of n (s ∷ ss) (w ∷ ws) old new zero worked done joins = λ low.
      let mid = joins.0 in
      let one = (served n s w worked.0 done.0).links in
      let rest = links_of (n + 1) ss ws mid new zero worked.1 done.1 joins.2 in
      added old.links mid.links new.links fork.links w.door.links s (sum_of ss) zero one rest joins.1.links low
    where
      added : (o m e f d s t : ℕ) → f ≡ 0 → Rises f d s → Rises m e t → m ≡ count_on o d → o + (s + t) < 2 ^ 64 → e ≡ o + (s + t)
      added o m e f d s t zero one rest counted low =
          let mine : d ≡ f + s = one (omega arith) in
          let here : m ≡ o + s = omega (arith, mine, zero, counted, low) in
          rest (omega (arith, here, low)) ∙ omega (arith, here)

  -- a door that doesn't tell
  pub untold : (n : ℕ) (shares : List ℕ) (ws : List (WorkerOf S)) (old new : DoorState) → fork.back ≡ None → old.back ≡ None → HaveWorkedAt said n (seats_for fork shares) ws → AllDone ws → JoinsForks old (doors_of ws) new → new.back ≡ None
  untold n [] [] old new fork_is old_is worked done joins = ap (λ (d : DoorState). d.back) joins ∙ old_is
  untold n [] (w ∷ ws) old new fork_is old_is worked done joins = absurd worked
  untold n (s ∷ ss) [] old new fork_is old_is worked done joins = absurd worked
  untold n (s ∷ ss) (w ∷ ws) old new fork_is old_is worked done joins =
      untold (n + 1) ss ws joins.0 new fork_is (subst (λ (o : Option (List LinkState)). AreJoined o w.door.back joins.0.back) old_is joins.1.back) worked.1 done.1 joins.2

  -- a door that tells
  pub told_by : (n : ℕ) (shares : List ℕ) (ws : List (WorkerOf S)) (old new : DoorState) (told : List LinkState) → fork.back ≡ Some [] → old.back ≡ Some told → HaveWorkedAt said n (seats_for fork shares) ws → AllDone ws → JoinsForks old (doors_of ws) new
      → length told + sum_of shares < 2 ^ 63 → InParts said n shares told new.back
  told_by n [] [] old new told fork_is old_is worked done joins low = ([], ap (λ (d : DoorState). d.back) joins ∙ old_is ∙ ap Some (sym (append-nil told)), tt)
  told_by n [] (w ∷ ws) old new told fork_is old_is worked done joins low = absurd worked
  told_by n (s ∷ ss) [] old new told fork_is old_is worked done joins low = absurd worked
  told_by n (s ∷ ss) (w ∷ ws) old new told fork_is old_is worked done joins low =
      with_back w.door.back refl (λ links is count. told_by (n + 1) ss ws joins.0 new (told ++ links) fork_is is worked.1 done.1 joins.2 count)
    where
      mine : HandsBack (IsLong said) s fork.back w.door.back (calls_by n said)
      mine = let x = served n s w worked.0 done.0 in subst (λ (cs : List Call). HandsBack (IsLong said) s fork.back w.door.back cs) x.made x.back

      here : (a b s t : ℕ) → b ≡ s → a + (s + t) < 2 ^ 63 → a + b < 2 ^ 63
      here a b s t count low = omega (arith, count, low)

      further : (a b c s t : ℕ) → c ≡ a + b → b ≡ s → a + (s + t) < 2 ^ 63 → c + t < 2 ^ 63
      further a b c s t sum count low = omega (arith, sum, count, low)

      with_back : (back : Option (List LinkState)) → w.door.back ≡ back → ((links : List LinkState) → joins.0.back ≡ Some (told ++ links) → length (told ++ links) + sum_of ss < 2 ^ 63 → InParts said (n + 1) ss (told ++ links) new.back) → InParts said n (s ∷ ss) told new.back
      with_back None is others = absurd (subst (λ (o : Option (List LinkState)). HandsBack (IsLong said) s (Some []) o (calls_by n said)) is (subst (λ (o : Option (List LinkState)). HandsBack (IsLong said) s o w.door.back (calls_by n said)) fork_is mine))
      with_back (Some all) is others =
          let hands : HandsBack (IsLong said) s (Some []) (Some all) (calls_by n said) = subst (λ (o : Option (List LinkState)). HandsBack (IsLong said) s (Some []) o (calls_by n said)) is (subst (λ (o : Option (List LinkState)). HandsBack (IsLong said) s o w.door.back (calls_by n said)) fork_is mine) in
          let links = hands.0 in
          let all_is : all ≡ links = hands.1 in
          let count : length links ≡ s = hands.2 in
          let joined : AreJoined (Some told) (Some links) joins.0.back = subst (λ (o : Option (List LinkState)). AreJoined (Some told) o joins.0.back) (is ∙ ap Some all_is) (subst (λ (o : Option (List LinkState)). AreJoined o w.door.back joins.0.back) old_is joins.1.back) in
          let low_here : length told + length links < 2 ^ 63 = here (length told) (length links) s (sum_of ss) count low in
          let mid_is : joins.0.back ≡ Some (told ++ links) = joined low_here in
          let rest = others links mid_is (further (length told) (length links) (length (told ++ links)) s (sum_of ss) (length-append told links) count low) in
          (links ∷ rest.0, rest.1 ∙ ap Some (append_assoc told links (in_turn rest.0)), (count, hands.3, rest.2))
