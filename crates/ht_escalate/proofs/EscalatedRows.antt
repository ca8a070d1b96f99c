-- That a row is sound once a deadline is taken.
use Rattle.ht_tree.specs.Rows.{model_in}
use Rattle.std.proofs.Common.{◌≡◌, ◌&&◌, ◌||◌, ◌∙◌, ℕ, suc, Bool, true, false, IfSome, IsTrue, if◌then◌else◌, List, [], ◌∷◌, filter, length, not, Option, None, Some, All, ap, refl, sym, subst}
use Rattle.std.specs.Prelude.{filter_map, slice_get}
use Rattle.std.specs.Option.{option_map_or}
use Rattle.std.proofs.lemmas.Option.{get_or_from_slice_get, slice_get_within}
use Rattle.ht_base.specs.declared.state.State.{State}
use Rattle.ht_base.specs.declared.state.State.TheVariants as state
use Rattle.ht_base.specs.Persons.{has}
use Rattle.ht_escalate.specs.Escalating.{first_reassignment, given_to, is_triggered, reassigned_by, state_then, taken_row, taken_with}
use Rattle.ht_expr.specs.Assignments.{Assignment, is_individual}
use Rattle.ht_models.specs.Model.{DeadlineOf, EscalationOf, ModelOf}
use Rattle.ht_models.specs.Reassigning.{ReassignsOwned}
use Rattle.ht_tree.specs.declared.row.Row.{Row}
use Rattle.ht_finding.specs.Assigning.{is_found, potential_owners, Sight}
use Rattle.ht_tree.specs.Creating.{seen_in}
use Rattle.ht_base.specs.State.{is_final}
use Rattle.ht_tree.specs.Soundness.{IsHeld, IsHeldBy, IsSoundRow, is_created, is_owned, is_ownerless, is_suspended, needs_owner}
use Rattle.ht_tree.specs.Tables.{TablesOf, directory, model_of}
use Rattle.ht_finding.proofs.PublicLaws.{none_excluded, selected_ascends}
use Rattle.ht_tree.proofs.PublicLaws.{all_selected, taken_ascends, taken_below}
use Rattle.ht_escalate.proofs.NewOwners.{of_this}

-- ---- states

unowned : (s : State) → is_final s ≡ false → is_owned (state_then s) ≡ false
unowned state.Created live = refl
unowned state.Ready live = refl
unowned state.Reserved live = refl
unowned state.InProgress live = refl
unowned state.SuspendedReady live = refl
unowned state.SuspendedReserved live = refl
unowned state.SuspendedInProgress live = refl
unowned state.Completed live = refl
unowned state.Failed live = refl
unowned state.Error live = refl
unowned state.Exited live = refl
unowned state.Obsolete live = refl

created_still : (s : State) → is_created (state_then s) ≡ is_created s
created_still state.Created = refl
created_still state.Ready = refl
created_still state.Reserved = refl
created_still state.InProgress = refl
created_still state.SuspendedReady = refl
created_still state.SuspendedReserved = refl
created_still state.SuspendedInProgress = refl
created_still state.Completed = refl
created_still state.Failed = refl
created_still state.Error = refl
created_still state.Exited = refl
created_still state.Obsolete = refl

suspended_still : (s : State) → is_suspended (state_then s) ≡ is_suspended s
suspended_still state.Created = refl
suspended_still state.Ready = refl
suspended_still state.Reserved = refl
suspended_still state.InProgress = refl
suspended_still state.SuspendedReady = refl
suspended_still state.SuspendedReserved = refl
suspended_still state.SuspendedInProgress = refl
suspended_still state.Completed = refl
suspended_still state.Failed = refl
suspended_still state.Error = refl
suspended_still state.Exited = refl
suspended_still state.Obsolete = refl

-- ---- a task that nobody is to own has no reassignment

all_at : {A : Type 0} (P : A → Type 0) (xs : List A) → All P xs → (i : ℕ) (x : A) → slice_get xs i ≡ Some x → P x
all_at P xs all i x at = subst P (get_or_from_slice_get xs i x x at) (all i x (slice_get_within xs i x at))

none_given : (test : EscalationOf → Bool) (es : List EscalationOf) → ((i : ℕ) (e : EscalationOf) → slice_get es i ≡ Some e → e.reassign ≡ None) → filter_map (λ e. e.reassign) (filter test es) ≡ []
none_given test [] none = refl
none_given test (e ∷ es) none = go (test e) (none_given test es (λ i x at. none (suc i) x at))
  where
    go : (b : Bool) → filter_map (λ e. e.reassign) (filter test es) ≡ [] → filter_map (λ e. e.reassign) (if b then e ∷ filter test es else filter test es) ≡ []
    go true rest = rw (none 0 e refl) rest
    go false rest = rest

not_reassigned : (s : Sight) (m : ModelOf) (d : DeadlineOf) (place : ℕ) → ReassignsOwned m → slice_get m.deadlines place ≡ Some d → m.owner_required ≡ false → first_reassignment s d ≡ None
not_reassigned s m d place law at free =
    let each = all_at (λ (x : DeadlineOf). All (λ e. e.reassign ≡ None) x.escalations) m.deadlines (law free) place d at in
    ap (λ (l : List Assignment). slice_get l 0) (none_given (is_triggered s) d.escalations (λ i e there. all_at (λ (x : EscalationOf). x.reassign ≡ None) d.escalations each i e there))

-- ---- the row

-- where its deadline is there, and isn't taken
module _ (u : TablesOf) (row : Row) (m : ModelOf) (d : DeadlineOf) (place : ℕ) (of : model_of u row ≡ Some m) (listed : slice_get m.deadlines place ≡ Some d) (absent : has place row.taken ≡ false) (sound : IsSoundRow u row) where
  abbrev persons : ℕ
  persons = length u.people.persons

  held : IsHeldBy persons m row.input row.output row.taken
  held = of_this (λ x. IsHeldBy persons x row.input row.output row.taken) (model_of u row) m of sound.held

  still_held : IsHeld persons (model_in u.models row) row.input row.output (taken_with place row.taken)
  still_held =
      let P : Option ModelOf → Type 0 = λ o. IfSome o (λ x. IsHeldBy persons x row.input row.output (taken_with place row.taken)) in
      subst P (sym of) (record {
        input = held.input;
        output = held.output;
        taken = taken_below (length m.deadlines) place row.taken held.taken_ascend absent held.taken (slice_get_within m.deadlines place d listed);
        taken_ascend = taken_ascends place row.taken held.taken_ascend absent;
      })

  taken_sound : IsSoundRow u (record row { taken = taken_with place row.taken })
  taken_sound = record { filed = sound.filed; held = still_held; who = sound.who; whose = sound.whose; when = sound.when; how = sound.how }

  -- and its task is given to some who aren't excluded
  given_sound : (s : Sight) (a : Assignment) (by_group : Bool) (ps : List ℕ) → ps ≡ potential_owners (directory u) s a row.excluded_owners → m.owner_required ≡ true → is_final row.state ≡ false → IsSoundRow u (record row { state = state_then row.state; owner = None; potential_owners = ps; by_group = by_group; taken = taken_with place row.taken })
  given_sound s a by_group ps is needed live =
      let P : List ℕ → Type 0 = λ l. IsSoundRow u (record row { state = state_then row.state; owner = None; potential_owners = l; by_group = by_group; taken = taken_with place row.taken }) in
      subst P (sym is) (record {
        filed = sound.filed;
        held = still_held;
        who = record {
          known = record {
            initiator = sound.who.known.initiator;
            last_owner = sound.who.known.last_owner;
            potential_owners = all_selected u test;
            excluded_owners = sound.who.known.excluded_owners;
            administrators = sound.who.known.administrators;
            stakeholders = sound.who.known.stakeholders;
          };
          apart = none_excluded (directory u) s a row.excluded_owners;
          potential_ascend = selected_ascends test persons;
          excluded_ascend = sound.who.excluded_ascend;
          administrators_ascend = sound.who.administrators_ascend;
          stakeholders_ascend = sound.who.stakeholders_ascend;
        };
        whose = record {
          owned = sym (ap (λ b. b && is_owned (state_then row.state)) needs ∙ unowned row.state live);
          ownerless = ap (λ b. b || is_ownerless (state_then row.state)) needs;
          known = tt;
          allowed = tt;
        };
        when = record {
          waits = λ some. subst IsTrue (sym (created_still row.state)) (sound.when.waits some);
          until = λ some. subst IsTrue (sym (suspended_still row.state)) (sound.when.until some);
          created_within = sound.when.created_within;
          waits_within = sound.when.waits_within;
          until_within = sound.when.until_within;
        };
        how = sound.how;
      })
    where
      test : ℕ → Bool
      test p = is_found (directory u) s a p && not (has p row.excluded_owners)

      needs : needs_owner (model_in u.models row) ≡ true
      needs = ap (λ (o : Option ModelOf). option_map_or (λ (x : ModelOf). x.owner_required) o true) of ∙ needed

  pub row_sound : ReassignsOwned m → is_final row.state ≡ false → IsSoundRow u (taken_row u row m d place)
  row_sound law live = go (first_reassignment s d) refl
    where
      s : Sight
      s = seen_in m u.rows row

      some : (a : Assignment) (ps : List ℕ) → ps ≡ potential_owners (directory u) s a row.excluded_owners → m.owner_required ≡ true → IsSoundRow u (record (given_to row (not (is_individual a)) ps) { taken = taken_with place row.taken })
      some a [] is needed = taken_sound
      some a (p ∷ ps) is needed = given_sound s a (not (is_individual a)) (p ∷ ps) is needed live

      needs : (a : Assignment) → first_reassignment s d ≡ Some a → (b : Bool) → m.owner_required ≡ b → m.owner_required ≡ true
      needs a at true e = e
      needs a at false e = let none = not_reassigned s m d place law listed e in cc

      go : (o : Option Assignment) → first_reassignment s d ≡ o → IsSoundRow u (record (reassigned_by (directory u) s row o) { taken = taken_with place row.taken })
      go None at = taken_sound
      go (Some a) at = some a (potential_owners (directory u) s a row.excluded_owners) refl (needs a at m.owner_required refl)
