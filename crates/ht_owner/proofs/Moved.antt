-- That a row stays sound as an operation moves it.
use Rattle.ht_tree.specs.Rows.{model_in}
use Rattle.std.proofs.Common.{◌≡◌, ℕ, ◌<◌, Bool, true, false, ◌&&◌, ◌||◌, if◌then◌else◌, List, [], ◌∷◌, Some, None, refl, sym, ◌∙◌}
use Rattle.ht_base.specs.declared.operation.Op.{Op}
use Rattle.ht_base.specs.declared.operation.Op.TheVariants.{Claim, Stop, Release, Delegate, Forward, Nominate, Activate}
use Rattle.ht_base.specs.declared.state.State.{State}
use Rattle.ht_base.specs.declared.state.State.TheVariants.{Created, Ready, Reserved, InProgress, SuspendedReady, SuspendedReserved, SuspendedInProgress, Completed, Failed, Error, Exited, Obsolete}
use Rattle.ht_base.specs.Persons.{has}
use Rattle.ht_base.specs.State.{is_final}
use Rattle.ht_owner.specs.Moving.{changed, end_of, ending, moved, only_if, owner_after, state_after}
use Rattle.ht_rules.specs.declared.changes.After.{After}
use Rattle.ht_rules.specs.declared.changes.After.TheVariants as after
use Rattle.ht_rules.specs.declared.changes.Change.{Change}
use Rattle.ht_rules.specs.declared.changes.OwnerAfter.{OwnerAfter}
use Rattle.ht_rules.specs.declared.changes.OwnerAfter.TheVariants as owner
use Rattle.ht_rules.specs.Changes.{changing}
use Rattle.ht_rules.proofs.PublicLaws.{IsCaller, IsNamed}
use Rattle.ht_tree.specs.declared.row.Row.{Row}
use Rattle.ht_tree.proofs.PublicLaws.{by_people}
use Rattle.ht_tree.specs.Activation.{state_by}
use Rattle.ht_tree.specs.Tables.{TablesOf}
use Rattle.ht_tree.specs.Soundness.{IsSoundIn, IsTimed, IsWhose, is_created, is_owned, is_ownerless, is_suspended, needs_owner}

-- ---- whose it is

-- an owner comes and goes as the state wants it
abbrev IsFit : State → After → OwnerAfter → Type 0
IsFit s (after.To t) owner.Kept = is_owned s ≡ is_owned t
IsFit s after.Same owner.Kept = true ≡ true
IsFit s (after.To t) owner.Cleared = is_owned t ≡ false
IsFit s (after.To t) owner.Caller = is_owned t ≡ true
IsFit s (after.To t) owner.Named = is_owned t ≡ true
IsFit s after.ByPeople owner.ByPeople = is_owned s ≡ false
IsFit s _ _ = true ≡ false

abbrev Fits : State → Change → Type 0
Fits s c = IsFit s c.after c.owner

fits : (s : State) (op : Op) → Fits s (changing s op)
fits Created Claim = refl
fits Ready Claim = refl
fits Reserved Claim = refl
fits InProgress Claim = refl
fits SuspendedReady Claim = refl
fits SuspendedReserved Claim = refl
fits SuspendedInProgress Claim = refl
fits Completed Claim = refl
fits Failed Claim = refl
fits Error Claim = refl
fits Exited Claim = refl
fits Obsolete Claim = refl
fits s op = refl

-- ---- of a task that never has an owner

-- the operations that leave it so
abbrev pub serves_ownerless : Op → Bool
serves_ownerless Stop = false
serves_ownerless Release = false
serves_ownerless Delegate = false
serves_ownerless Forward = false
serves_ownerless Nominate = false
serves_ownerless Activate = false
serves_ownerless _ = true

-- it has no owner after it either, and a state of such a task
abbrev stays_ownerless : After → OwnerAfter → Bool
stays_ownerless (after.To t) owner.Kept = is_ownerless t
stays_ownerless (after.To t) owner.Cleared = is_ownerless t
stays_ownerless after.Same owner.Kept = true
stays_ownerless _ _ = false

leaves_ownerless : (s : State) (op : Op) → (if is_ownerless s && serves_ownerless op then stays_ownerless (changing s op).after (changing s op).owner else true) ≡ true
leaves_ownerless Created Claim = refl
leaves_ownerless Ready Claim = refl
leaves_ownerless Reserved Claim = refl
leaves_ownerless InProgress Claim = refl
leaves_ownerless SuspendedReady Claim = refl
leaves_ownerless SuspendedReserved Claim = refl
leaves_ownerless SuspendedInProgress Claim = refl
leaves_ownerless Completed Claim = refl
leaves_ownerless Failed Claim = refl
leaves_ownerless Error Claim = refl
leaves_ownerless Exited Claim = refl
leaves_ownerless Obsolete Claim = refl
leaves_ownerless s op = refl

-- a task that needs no owner is in such a state, and the operation serves it
either_stays : (needs there serves stays : Bool) → (needs || there) ≡ true → (serves || needs) ≡ true → (if there && serves then stays else true) ≡ true → (needs || stays) ≡ true
either_stays true there serves stays is may h = refl
either_stays false true true stays is may h = h
either_stays false true false stays is may h = cc
either_stays false false serves stays is may h = cc

-- ---- whether it has ended

-- only a task that hasn't ended gets another state
abbrev IsGoingOn : State → After → Type 0
IsGoingOn s after.Same = true ≡ true
IsGoingOn s a = is_final s ≡ false

going_on : (s : State) (op : Op) → IsGoingOn s (changing s op).after
going_on Created Claim = refl
going_on Ready Claim = refl
going_on Reserved Claim = refl
going_on InProgress Claim = refl
going_on SuspendedReady Claim = refl
going_on SuspendedReserved Claim = refl
going_on SuspendedInProgress Claim = refl
going_on Completed Claim = refl
going_on Failed Claim = refl
going_on Error Claim = refl
going_on Exited Claim = refl
going_on Obsolete Claim = refl
going_on s op = refl

-- what is no end leaves it as it is
pub no_end : (s : State) (op : Op) (owners : List ℕ) → ending s op ≡ None → is_final s ≡ is_final (state_after (changing s op).after owners s)
no_end s op owners none = at (changing s op).after (going_on s op) none
  where
    test : (t : State) (b : Bool) → is_final t ≡ b → (if b then Some t else None) ≡ None → is_final t ≡ false
    test t true is h = cc
    test t false is h = is

    by : (owners : List ℕ) → is_final s ≡ false → is_final s ≡ is_final (state_by owners s)
    by [] going = refl
    by (p ∷ []) going = going
    by (p ∷ q ∷ ps) going = going

    at : (a : After) → IsGoingOn s a → end_of a ≡ None → is_final s ≡ is_final (state_after a owners s)
    at (after.To t) going h = going ∙ sym (test t (is_final t) refl h)
    at after.Same going h = refl
    at after.ByPeople going h = by owners going

-- ---- whose it becomes

-- a person of the directory, and not an excluded one
pub record MayOwn (persons p : ℕ) (excluded : List ℕ) : Type 0 where
  pub known : p < persons
  pub allowed : has p excluded ≡ false

module _ (t : TablesOf) (persons caller named : ℕ) (row : Row) (sound : IsSoundIn t.models persons row) where
  abbrev Becomes : Bool → After → OwnerAfter → Type 0
  Becomes needs a o = IsWhose persons needs row.excluded_owners (state_after a row.potential_owners row.state) (owner_after o row.potential_owners row.owner caller named)

  -- of a task that has an owner, sooner or later
  becomes_owned : IsWhose persons true row.excluded_owners row.state row.owner → (a : After) (o : OwnerAfter) → IsFit row.state a o → (IsCaller o → MayOwn persons caller row.excluded_owners) → (IsNamed o → MayOwn persons named row.excluded_owners) → Becomes true a o
  becomes_owned old (after.To t) owner.Kept fit may told = record { owned = old.owned ∙ fit; ownerless = refl; known = old.known; allowed = old.allowed }
  becomes_owned old after.Same owner.Kept fit may told = old
  becomes_owned old (after.To t) owner.Cleared fit may told = record { owned = sym fit; ownerless = refl; known = tt; allowed = tt }
  becomes_owned old (after.To t) owner.Caller fit may told = record { owned = sym fit; ownerless = refl; known = (may tt).known; allowed = (may tt).allowed }
  becomes_owned old (after.To t) owner.Named fit may told = record { owned = sym fit; ownerless = refl; known = (told tt).known; allowed = (told tt).allowed }
  becomes_owned old after.ByPeople owner.ByPeople fit may told = by_people persons row.excluded_owners row.state row.potential_owners ((sound.who).known).potential_owners (sound.who).apart fit
  becomes_owned old a o fit may told = cc

  -- and of one that never has
  becomes_ownerless : IsWhose persons false row.excluded_owners row.state row.owner → (a : After) (o : OwnerAfter) → stays_ownerless a o ≡ true → Becomes false a o
  becomes_ownerless old (after.To t) owner.Kept stays = record { owned = old.owned; ownerless = stays; known = old.known; allowed = old.allowed }
  becomes_ownerless old (after.To t) owner.Cleared stays = record { owned = refl; ownerless = stays; known = tt; allowed = tt }
  becomes_ownerless old after.Same owner.Kept stays = old
  becomes_ownerless old a o stays = cc

  whose : (needs : Bool) → IsWhose persons needs row.excluded_owners row.state row.owner → (c : Change) → Fits row.state c → (needs || stays_ownerless c.after c.owner) ≡ true → (IsCaller c.owner → MayOwn persons caller row.excluded_owners) → (IsNamed c.owner → MayOwn persons named row.excluded_owners) → Becomes needs c.after c.owner
  whose true old c fit stays may told = becomes_owned old c.after c.owner fit may told
  whose false old c fit stays may told = becomes_ownerless old c.after c.owner stays

  -- ---- when

  timed : (state : State) (a b : Bool) → is_created state ≡ a → is_suspended state ≡ b → IsTimed state row.created (only_if a row.waits) (only_if b row.until)
  timed state true true c s = record { waits = λ _. c; until = λ _. s; created_within = (sound.when).created_within; waits_within = (sound.when).waits_within; until_within = (sound.when).until_within }
  timed state true false c s = record { waits = λ _. c; until = λ f. s ∙ f; created_within = (sound.when).created_within; waits_within = (sound.when).waits_within; until_within = tt }
  timed state false true c s = record { waits = λ f. c ∙ f; until = λ _. s; created_within = (sound.when).created_within; waits_within = tt; until_within = (sound.when).until_within }
  timed state false false c s = record { waits = λ f. c ∙ f; until = λ f. s ∙ f; created_within = (sound.when).created_within; waits_within = tt; until_within = tt }

  changed_sound : (c : Change) → Fits row.state c → (needs_owner (model_in t.models row) || stays_ownerless c.after c.owner) ≡ true → (IsCaller c.owner → MayOwn persons caller row.excluded_owners) → (IsNamed c.owner → MayOwn persons named row.excluded_owners) → IsSoundIn t.models persons (changed c caller named row)
  changed_sound c fit stays may told =
      let state = state_after c.after row.potential_owners row.state in
      record {
        filed = sound.filed;
        held = sound.held;
        who = sound.who;
        whose = whose (needs_owner (model_in t.models row)) sound.whose c fit stays may told;
        when = timed state (is_created state) (is_suspended state) refl refl;
        how = sound.how;
      }

  -- whichever operation of the table moves it, if it serves a task that never has an owner or this has one
  pub moved_sound : (op : Op) → (serves_ownerless op || needs_owner (model_in t.models row)) ≡ true → (IsCaller (changing row.state op).owner → MayOwn persons caller row.excluded_owners) → (IsNamed (changing row.state op).owner → MayOwn persons named row.excluded_owners) → IsSoundIn t.models persons (moved op caller named row)
  moved_sound op serves =
      let c = changing row.state op in
      changed_sound c (fits row.state op) (either_stays (needs_owner (model_in t.models row)) (is_ownerless row.state) (serves_ownerless op) (stays_ownerless c.after c.owner) (sound.whose).ownerless serves (leaves_ownerless row.state op))
