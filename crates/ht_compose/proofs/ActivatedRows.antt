-- That an activated row is sound, and what activation does.
use Rattle.ht_tree.specs.Rows.{model_in}
use Rattle.std.proofs.Common.{◌≡◌, ℕ, Bool, true, false, length, List, [], ◌∷◌, Option, Some, is_some, IsTrue, refl, ap, sym, subst, ◌∙◌, if◌then◌else◌}
use Rattle.std.specs.Option.{option_map_or}
use Rattle.ht_base.specs.declared.moment.Moment.{Moment}
use Rattle.ht_base.specs.declared.state.State.{State}
use Rattle.ht_base.specs.declared.state.State.TheVariants.{Created, InProgress}
use Rattle.ht_compose.proofs.Acted.{MayReplace, on_this_task}
use Rattle.ht_compose.specs.Items.{Does, activated, activated_as, activates, does, still}
use Rattle.ht_compose.specs.Items.Item.{Activate, Begin}
use Rattle.ht_models.specs.Model.{ModelOf}
use Rattle.ht_tree.specs.declared.row.Row.{Row}
use Rattle.ht_tree.specs.Activation.{state_by}
use Rattle.ht_base.specs.State.{is_final}
use Rattle.ht_tree.specs.Soundness.{IsSoundRow, IsWhose, is_created, is_owned, is_suspended, needs_owner}
use Rattle.ht_tree.specs.Tables.{TablesOf, model_of, task_row, with_row}
use Rattle.ht_tree.proofs.PublicLaws.{by_people, filed_of}

-- a created task isn't suspended
not_suspended : (row : Row) → row.state ≡ Created → (IsTrue (is_some row.until) → IsTrue (is_suspended row.state)) → IsTrue (is_some row.until) → IsTrue false
not_suspended row created until h = let P : State → Type 0 = λ s. IsTrue (is_suspended s) in subst P created (until h)

going_on : (owners : List ℕ) → is_final (state_by owners Created) ≡ false
going_on [] = refl
going_on (p ∷ []) = refl
going_on (p ∷ q ∷ ps) = refl

pub activated_goes_on : (needs : Bool) (row : Row) → row.state ≡ Created → is_final (activated_as needs row.potential_owners row).state ≡ false
activated_goes_on true row created = ap (λ (s : State). is_final (state_by row.potential_owners s)) created ∙ going_on row.potential_owners
activated_goes_on false row created = refl

pub activated_filed : (needs : Bool) (row : Row) → filed_of (activated_as needs row.potential_owners row) ≡ filed_of row
activated_filed true row = refl
activated_filed false row = refl

pub activated_sound : (u : TablesOf) (needs : Bool) (row : Row) → row.state ≡ Created → needs_owner (model_in u.models row) ≡ needs → IsSoundRow u row → IsSoundRow u (activated_as needs row.potential_owners row)
activated_sound u true row created needed sound =
    let W : Bool → Type 0 = λ b. IsWhose (length u.people.persons) b row.excluded_owners (activated_as true row.potential_owners row).state (activated_as true row.potential_owners row).owner in
    record {
      filed = sound.filed;
      held = sound.held;
      who = sound.who;
      whose = subst W (sym needed) (by_people (length u.people.persons) row.excluded_owners row.state row.potential_owners ((sound.who).known).potential_owners (sound.who).apart (ap is_owned created));
      when = record {
        waits = λ h. absurd cc;
        until = λ h. absurd (let no = not_suspended row created (sound.when).until h in cc);
        created_within = (sound.when).created_within;
        waits_within = tt;
        until_within = (sound.when).until_within;
      };
      how = sound.how;
    }
activated_sound u false row created needed sound =
    let V : Bool → Type 0 = λ b. IsWhose (length u.people.persons) b row.excluded_owners row.state row.owner in
    let W : Bool → Type 0 = λ b. IsWhose (length u.people.persons) b row.excluded_owners InProgress row.owner in
    let w = subst V needed sound.whose in
    record {
      filed = sound.filed;
      held = sound.held;
      who = sound.who;
      whose = subst W (sym needed) (record { owned = w.owned; ownerless = refl; known = w.known; allowed = w.allowed });
      when = record {
        waits = λ h. absurd cc;
        until = λ h. absurd (let no = not_suspended row created (sound.when).until h in cc);
        created_within = (sound.when).created_within;
        waits_within = tt;
        until_within = (sound.when).until_within;
      };
      how = sound.how;
    }

-- a created row, of this model, and the row after its activation
pub record IsActivated (u : TablesOf) (row after : Row) (m : ModelOf) : Type 0 where
  pub created : row.state ≡ Created
  pub of_model : model_of u row ≡ Some m
  pub is : after ≡ activated_as m.owner_required row.potential_owners row

module _ {u : TablesOf} {row after : Row} {m : ModelOf} (a : IsActivated u row after m) where
  its_need : needs_owner (model_in u.models row) ≡ m.owner_required
  its_need = ap (λ (o : Option ModelOf). option_map_or (λ (x : ModelOf). x.owner_required) o true) a.of_model

  pub activated_may : MayReplace u row after
  activated_may = let P : Row → Type 0 = λ r. MayReplace u row r in subst P (sym a.is) (record {
    filed = activated_filed m.owner_required row;
    ends = ap is_final a.created ∙ sym (activated_goes_on m.owner_required row a.created);
    sound = activated_sound u m.owner_required row a.created its_need;
  })

  pub does_activate : (at : Moment) (t : ℕ) → task_row u t ≡ Some row → Does at u (Activate t) (does (with_row u after) (if m.owner_required then [] else Begin row.task.0 ∷ []))
  does_activate at t there =
      ap (λ (r : Row). does (with_row u r) (if m.owner_required then [] else Begin row.task.0 ∷ [])) a.is
      ∙ ap (λ (b : Bool). if b then does (with_row u (activated u m row)) (if m.owner_required then [] else Begin row.task.0 ∷ []) else still u) (sym (ap is_created a.created))
      ∙ on_this_task u (activates u) t row m there a.of_model
