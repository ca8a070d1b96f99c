-- That a row stays sound, and in its family, by what comes of it.
use Rattle.ht_tree.specs.Rows.{model_in}
use Rattle.std.proofs.Common.{◌≡◌, ℕ, Bool, true, false, not, ◌&&◌, ◌||◌, List, Option, None, IsTrue, is_some, refl, sym, ap, ◌∙◌, subst, if◌then◌else◌}
use Rattle.ht_base.specs.declared.moment.Moment.{Moment}
use Rattle.ht_base.specs.declared.operation.Op.TheVariants.{Resume, Suspend}
use Rattle.ht_base.specs.declared.state.State.{State}
use Rattle.ht_base.specs.declared.state.State.TheVariants.{Ready, Reserved, InProgress, SuspendedReady, SuspendedReserved, SuspendedInProgress, Completed, Failed, Error, Exited, Obsolete}
use Rattle.ht_base.specs.State.{contains_state, is_final}
use Rattle.ht_compose.specs.declared.reaching.Change.{Change}
use Rattle.ht_compose.specs.declared.reaching.Change.TheVariants as change
use Rattle.ht_compose.specs.Downward.{closed, ended, freed, held, moved_by}
use Rattle.ht_compose.specs.Reaching.{changed, touches}
use Rattle.ht_models.specs.Model.{ModelOf}
use Rattle.ht_rules.specs.States.{opened}
use Rattle.ht_tree.specs.declared.row.Row.{Row}
use Rattle.ht_tree.specs.Soundness.{FitsIn, IsSoundIn, IsTimed, IsWhose, is_created, is_owned, is_ownerless, is_suspended, needs_owner}
use Rattle.ht_tree.proofs.PublicLaws.{standing}

-- a task ends only in a final state
abbrev pub EndsIn : Change → Type 0
EndsIn (change.End end) = is_final end ≡ true
EndsIn _ = Unit {0}

-- ---- it stands where it stood

pub changed_standing : (c : Change) (row : Row) → standing (changed c row) ≡ standing row
changed_standing change.Nothing row = refl
changed_standing (change.End end) row = go (is_final row.state)
  where
    go : (b : Bool) → standing (if b then row else closed end row) ≡ standing row
    go true = refl
    go false = refl
changed_standing change.Hold row = go (contains_state opened row.state)
  where
    go : (b : Bool) → standing (if b then record row { state = moved_by Suspend row.state } else row) ≡ standing row
    go true = refl
    go false = refl
changed_standing change.Free row = go (is_suspended row.state)
  where
    go : (b : Bool) → standing (if b then record row { state = moved_by Resume row.state; until = None } else row) ≡ standing row
    go true = refl
    go false = refl

-- what doesn't touch it leaves it
pub untouched : (c : Change) (row : Row) → touches c row.state ≡ false → changed c row ≡ row
untouched change.Nothing row h = refl
untouched (change.End end) row h = go (is_final row.state) h
  where
    go : (b : Bool) → not b ≡ false → (if b then row else closed end row) ≡ row
    go true h = refl
    go false h = cc
untouched change.Hold row h = ap (λ (b : Bool). if b then record row { state = moved_by Suspend row.state } else row) h
untouched change.Free row h = ap (λ (b : Bool). if b then record row { state = moved_by Resume row.state; until = None } else row) h

-- ---- whether it has ended

held_final : (s : State) → contains_state opened s ≡ true → (is_final (moved_by Suspend s) ≡ false) × (is_final s ≡ false)
held_final Ready h = (refl, refl)
held_final Reserved h = (refl, refl)
held_final InProgress h = (refl, refl)
held_final s h = cc

freed_final : (s : State) → is_suspended s ≡ true → (is_final (moved_by Resume s) ≡ false) × (is_final s ≡ false)
freed_final SuspendedReady h = (refl, refl)
freed_final SuspendedReserved h = (refl, refl)
freed_final SuspendedInProgress h = (refl, refl)
freed_final s h = cc

pub held_ends : (row : Row) → is_final (held row).state ≡ is_final row.state
held_ends row = go (contains_state opened row.state) refl
  where
    go : (b : Bool) → contains_state opened row.state ≡ b → is_final (if b then record row { state = moved_by Suspend row.state } else row).state ≡ is_final row.state
    go true is = let f = held_final row.state is in f.0 ∙ sym f.1
    go false is = refl

pub freed_ends : (row : Row) → is_final (freed row).state ≡ is_final row.state
freed_ends row = go (is_suspended row.state) refl
  where
    go : (b : Bool) → is_suspended row.state ≡ b → is_final (if b then record row { state = moved_by Resume row.state; until = None } else row).state ≡ is_final row.state
    go true is = let f = freed_final row.state is in f.0 ∙ sym f.1
    go false is = refl

pub ended_ends : (end : State) (row : Row) → is_final end ≡ true → is_final (ended end row).state ≡ true
ended_ends end row final = go (is_final row.state) refl
  where
    go : (b : Bool) → is_final row.state ≡ b → is_final (if b then row else closed end row).state ≡ true
    go true is = is
    go false is = final

-- ---- it stays sound

-- nobody owns a task that has ended, whether it needs an owner or not
final_whose : (end : State) → is_final end ≡ true → (is_owned end ≡ false) × (is_ownerless end ≡ true)
final_whose Completed h = (refl, refl)
final_whose Failed h = (refl, refl)
final_whose Error h = (refl, refl)
final_whose Exited h = (refl, refl)
final_whose Obsolete h = (refl, refl)
final_whose s h = cc

nobodys : (persons : ℕ) (needs : Bool) (others : List ℕ) (end : State) → is_final end ≡ true → IsWhose persons needs others end None
nobodys persons true others end final = record { owned = sym (final_whose end final).0; ownerless = refl; known = tt; allowed = tt }
nobodys persons false others end final = record { owned = refl; ownerless = (final_whose end final).1; known = tt; allowed = tt }

pub closed_sound : (models : List ModelOf) (persons : ℕ) (end : State) (row : Row) → is_final end ≡ true → IsSoundIn models persons row → IsSoundIn models persons (closed end row)
closed_sound models persons end row final sound =
    let who = sound.who in
    let known = who.known in
    record {
      filed = sound.filed;
      held = sound.held;
      who = record {
        known = record { initiator = known.initiator; last_owner = (sound.whose).known; potential_owners = known.potential_owners; excluded_owners = known.excluded_owners; administrators = known.administrators; stakeholders = known.stakeholders };
        apart = who.apart;
        potential_ascend = who.potential_ascend;
        excluded_ascend = who.excluded_ascend;
        administrators_ascend = who.administrators_ascend;
        stakeholders_ascend = who.stakeholders_ascend;
      };
      whose = nobodys persons (needs_owner (model_in models row)) row.excluded_owners end final;
      when = record { waits = λ h. absurd cc; until = λ h. absurd cc; created_within = (sound.when).created_within; waits_within = tt; until_within = tt };
      how = sound.how;
    }

-- the owner stays, in a state that is owned as the one before
same_whose : (persons : ℕ) (needs : Bool) (others : List ℕ) (s new : State) (owner : Option ℕ) → is_owned s ≡ is_owned new → is_ownerless s ≡ is_ownerless new → IsWhose persons needs others s owner → IsWhose persons needs others new owner
same_whose persons needs others s new owner a b w = record {
  owned = w.owned ∙ ap (λ (x : Bool). needs && x) a;
  ownerless = ap (λ (x : Bool). needs || x) (sym b) ∙ w.ownerless;
  known = w.known;
  allowed = w.allowed;
}

held_states : (s : State) → contains_state opened s ≡ true → (is_owned s ≡ is_owned (moved_by Suspend s)) × (is_ownerless s ≡ is_ownerless (moved_by Suspend s)) × (is_suspended (moved_by Suspend s) ≡ true) × (is_created s ≡ is_created (moved_by Suspend s))
held_states Ready h = (refl, refl, refl, refl)
held_states Reserved h = (refl, refl, refl, refl)
held_states InProgress h = (refl, refl, refl, refl)
held_states s h = cc

freed_states : (s : State) → is_suspended s ≡ true → (is_owned s ≡ is_owned (moved_by Resume s)) × (is_ownerless s ≡ is_ownerless (moved_by Resume s)) × (is_created s ≡ is_created (moved_by Resume s))
freed_states SuspendedReady h = (refl, refl, refl)
freed_states SuspendedReserved h = (refl, refl, refl)
freed_states SuspendedInProgress h = (refl, refl, refl)
freed_states s h = cc

still_created : (a b : Bool) (o : Option Moment) → a ≡ b → (IsTrue (is_some o) → IsTrue a) → IsTrue (is_some o) → IsTrue b
still_created a b o same waits h = let P : Bool → Type 0 = λ x. IsTrue x in subst P same (waits h)

held_when : (s : State) (made : Moment) (start end : Option Moment) → contains_state opened s ≡ true → IsTimed s made start end → IsTimed (moved_by Suspend s) made start end
held_when s made start end is w = record {
  waits = still_created (is_created s) (is_created (moved_by Suspend s)) start (held_states s is).3 w.waits;
  until = λ h. (held_states s is).2;
  created_within = w.created_within;
  waits_within = w.waits_within;
  until_within = w.until_within;
}

freed_when : (s : State) (made : Moment) (start end : Option Moment) → is_suspended s ≡ true → IsTimed s made start end → IsTimed (moved_by Resume s) made start None
freed_when s made start end is w = record {
  waits = still_created (is_created s) (is_created (moved_by Resume s)) start (freed_states s is).2 w.waits;
  until = λ h. absurd cc;
  created_within = w.created_within;
  waits_within = w.waits_within;
  until_within = tt;
}

pub changed_sound : (models : List ModelOf) (persons : ℕ) (c : Change) (row : Row) → EndsIn c → IsSoundIn models persons row → IsSoundIn models persons (changed c row)
changed_sound models persons change.Nothing row ends sound = sound
changed_sound models persons (change.End end) row ends sound = go (is_final row.state)
  where
    go : (b : Bool) → IsSoundIn models persons (if b then row else closed end row)
    go true = sound
    go false = closed_sound models persons end row ends sound
changed_sound models persons change.Hold row ends sound = go (contains_state opened row.state) refl
  where
    go : (b : Bool) → contains_state opened row.state ≡ b → IsSoundIn models persons (if b then record row { state = moved_by Suspend row.state } else row)
    go true is = record {
      filed = sound.filed;
      held = sound.held;
      who = sound.who;
      whose = same_whose persons (needs_owner (model_in models row)) row.excluded_owners row.state (moved_by Suspend row.state) row.owner (held_states row.state is).0 (held_states row.state is).1 sound.whose;
      when = held_when row.state row.created row.waits row.until is sound.when;
      how = sound.how;
    }
    go false is = sound
changed_sound models persons change.Free row ends sound = go (is_suspended row.state) refl
  where
    go : (b : Bool) → is_suspended row.state ≡ b → IsSoundIn models persons (if b then record row { state = moved_by Resume row.state; until = None } else row)
    go true is = record {
      filed = sound.filed;
      held = sound.held;
      who = sound.who;
      whose = same_whose persons (needs_owner (model_in models row)) row.excluded_owners row.state (moved_by Resume row.state) row.owner (freed_states row.state is).0 (freed_states row.state is).1 sound.whose;
      when = freed_when row.state row.created row.waits row.until is sound.when;
      how = sound.how;
    }
    go false is = sound

-- ---- it still fits

pub changed_fits : (models : List ModelOf) (persons : ℕ) (c : Change) (row : Row) → FitsIn models persons row → FitsIn models persons (changed c row)
changed_fits models persons change.Nothing row fits = fits
changed_fits models persons (change.End end) row fits = go (is_final row.state)
  where
    go : (b : Bool) → FitsIn models persons (if b then row else closed end row)
    go true = fits
    go false =
        let who = fits.who in
        record {
          filed = fits.filed;
          held = fits.held;
          who = record { initiator = who.initiator; last_owner = fits.owner; potential_owners = who.potential_owners; excluded_owners = who.excluded_owners; administrators = who.administrators; stakeholders = who.stakeholders };
          owner = tt;
          commenters = fits.commenters;
          waits = λ h. absurd cc;
          until = λ h. absurd cc;
        }
changed_fits models persons change.Hold row fits = go (contains_state opened row.state) refl
  where
    go : (b : Bool) → contains_state opened row.state ≡ b → FitsIn models persons (if b then record row { state = moved_by Suspend row.state } else row)
    go true is = record {
      filed = fits.filed;
      held = fits.held;
      who = fits.who;
      owner = fits.owner;
      commenters = fits.commenters;
      waits = still_created (is_created row.state) (is_created (moved_by Suspend row.state)) row.waits (held_states row.state is).3 fits.waits;
      until = λ h. (held_states row.state is).2;
    }
    go false is = fits
changed_fits models persons change.Free row fits = go (is_suspended row.state) refl
  where
    go : (b : Bool) → is_suspended row.state ≡ b → FitsIn models persons (if b then record row { state = moved_by Resume row.state; until = None } else row)
    go true is = record {
      filed = fits.filed;
      held = fits.held;
      who = fits.who;
      owner = fits.owner;
      commenters = fits.commenters;
      waits = still_created (is_created row.state) (is_created (moved_by Resume row.state)) row.waits (freed_states row.state is).2 fits.waits;
      until = λ h. absurd cc;
    }
    go false is = fits
