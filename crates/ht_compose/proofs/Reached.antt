-- That tables stay sound by what reaches all tasks below one.
use Rattle.std.proofs.Common.{◌≡◌, ℕ, ◌==◌, Bool, true, false, ◌||◌, List, length, map, Some, refl, sym, ap, ◌∙◌, subst, if◌then◌else◌}
use Rattle.ht_base.specs.declared.state.State.{State}
use Rattle.ht_base.specs.declared.state.State.TheVariants.{Obsolete}
use Rattle.ht_base.specs.declared.task_id.TaskId.{TaskId}
use Rattle.ht_compose.specs.declared.reaching.Change.{Change}
use Rattle.ht_compose.specs.declared.reaching.Change.TheVariants as change
use Rattle.ht_compose.specs.declared.reaching.Reach.{Reach}
use Rattle.ht_compose.specs.declared.reaching.Reach.TheVariants as reach
use Rattle.ht_compose.specs.Downward.{end_below, ended, freed, held}
use Rattle.ht_compose.specs.Families.{is_above}
use Rattle.ht_compose.specs.Reaching.{ReachIsFinal, all_reached, changed, reached}
use Rattle.ht_compose.proofs.Chains.{sub_below}
use Rattle.ht_compose.proofs.Changed.{EndsIn, changed_sound, changed_standing, ended_ends, freed_ends, held_ends}
use Rattle.ht_tree.specs.declared.row.Row.{Row}
use Rattle.ht_base.specs.State.{is_final}
use Rattle.ht_tree.specs.Families.{HaveEndedBelow}
use Rattle.ht_tree.specs.Rows.{row_at}
use Rattle.ht_tree.specs.Soundness.{IsSound, IsSoundRow}
use Rattle.ht_tree.specs.Tables.{TablesOf, with_rows}
use Rattle.ht_tree.proofs.PublicLaws.{mapped_from, mapped_sound, standing}

-- which change comes of a row
pub record ComesOf (what : Reach) (rows : List Row) (task : ℕ) (row : Row) : Type 0 where
  pub change : Change
  pub is : reached what rows task row ≡ changed change row
  pub ends : EndsIn change

end_below_final : (end : State) → is_final (end_below end) ≡ true
end_below_final Obsolete = refl
end_below_final s = refl

pub comes_of : (what : Reach) (rows : List Row) (task : ℕ) (row : Row) → ReachIsFinal what → ComesOf what rows task row
comes_of (reach.Close end) rows task row ends = itself (row.task.0 == task) refl
  where
    lower : (b : Bool) → is_above rows task row ≡ b → (row.task.0 == task) ≡ false → ComesOf (reach.Close end) rows task row
    lower true e other = record { change = change.End (end_below end); is = rw (other, e) refl; ends = end_below_final end }
    lower false e other = record { change = change.Nothing; is = rw (other, e) refl; ends = tt }

    itself : (b : Bool) → (row.task.0 == task) ≡ b → ComesOf (reach.Close end) rows task row
    itself true e = record { change = change.End end; is = rw e refl; ends = ends }
    itself false e = lower (is_above rows task row) refl e
comes_of reach.Skip rows task row ends = go (is_above rows task row) refl
  where
    go : (b : Bool) → is_above rows task row ≡ b → ComesOf reach.Skip rows task row
    go true e = record { change = change.End Obsolete; is = rw e refl; ends = refl }
    go false e = record { change = change.Nothing; is = rw e refl; ends = tt }
comes_of reach.Hold rows task row ends = go (is_above rows task row) refl
  where
    go : (b : Bool) → is_above rows task row ≡ b → ComesOf reach.Hold rows task row
    go true e = record { change = change.Hold; is = rw e refl; ends = tt }
    go false e = record { change = change.Nothing; is = rw e refl; ends = tt }
comes_of reach.Free rows task row ends = go (is_above rows task row) refl
  where
    go : (b : Bool) → is_above rows task row ≡ b → ComesOf reach.Free rows task row
    go true e = record { change = change.Free; is = rw e refl; ends = tt }
    go false e = record { change = change.Nothing; is = rw e refl; ends = tt }

pub reached_standing : (what : Reach) (rows : List Row) (task : ℕ) (row : Row) → ReachIsFinal what → standing (reached what rows task row) ≡ standing row
reached_standing what rows task row ends = let c = comes_of what rows task row ends in ap standing c.is ∙ changed_standing c.change row

-- ---- below a task that has ended

module _ (u : TablesOf) (sound : IsSound u) (task : ℕ) where
  abbrev after : Reach → Row → Row
  after what row = reached what u.rows task row

  -- where it ends what it reaches: a task is reached that is below one
  abbrev Passes : Reach → Type 0
  Passes what = (id : ℕ) (row : Row) (p : TaskId × ℕ) (above : Row) → row_at id u.rows ≡ Some row → row.parent ≡ Some p → row_at p.0.0 u.rows ≡ Some above → is_final above.state ≡ false → is_final (after what above).state ≡ true → is_final (after what row).state ≡ true

  false_true : {A : Type 0} (b : Bool) → b ≡ false → b ≡ true → A
  false_true true f t = absurd cc
  false_true false f t = absurd cc

  -- or leaves whether it has ended
  pub leaves : (what : Reach) → ((row : Row) → is_final (after what row).state ≡ is_final row.state) → Passes what
  leaves what same id row p above at parent there going ended = false_true (is_final above.state) going (sym (same above) ∙ ended)

  closes : (end : State) → is_final end ≡ true → Passes (reach.Close end)
  closes end final id row p above at parent there going done = below (either (above.task.0 == task) (is_above u.rows task above) refl refl)
    where
      either : (a b : Bool) → (above.task.0 == task) ≡ a → is_above u.rows task above ≡ b → ((above.task.0 == task) || is_above u.rows task above) ≡ true
      either true b e f = rw e refl
      either false true e f = rw (e, f) refl
      either false false e f = false_true (is_final above.state) going (ap (λ (r : Row). is_final r.state) (sym (untouched e f)) ∙ done)
        where
          untouched : (above.task.0 == task) ≡ false → is_above u.rows task above ≡ false → after (reach.Close end) above ≡ above
          untouched e f = rw (e, f) refl

      below : ((above.task.0 == task) || is_above u.rows task above) ≡ true → is_final (after (reach.Close end) row).state ≡ true
      below reached = go (row.task.0 == task) refl
        where
          under : is_above u.rows task row ≡ true
          under = sub_below u sound id row p above task at parent there reached

          go : (b : Bool) → (row.task.0 == task) ≡ b → is_final (after (reach.Close end) row).state ≡ true
          go true e = rw e (ended_ends end row final)
          go false e = rw (e, under) (ended_ends (end_below end) row (end_below_final end))

  skips : Passes reach.Skip
  skips id row p above at parent there going done = below (either (is_above u.rows task above) refl)
    where
      either : (b : Bool) → is_above u.rows task above ≡ b → ((above.task.0 == task) || is_above u.rows task above) ≡ true
      either true f = rw f (or_true (above.task.0 == task))
        where
          or_true : (b : Bool) → (b || true) ≡ true
          or_true true = refl
          or_true false = refl
      either false f = false_true (is_final above.state) going (ap (λ (r : Row). is_final r.state) (sym untouched) ∙ done)
        where
          untouched : after reach.Skip above ≡ above
          untouched = rw f refl

      below : ((above.task.0 == task) || is_above u.rows task above) ≡ true → is_final (after reach.Skip row).state ≡ true
      below reached = rw (sub_below u sound id row p above task at parent there reached) (ended_ends Obsolete row refl)

  hold_leaves : (row : Row) → is_final (after reach.Hold row).state ≡ is_final row.state
  hold_leaves row = go (is_above u.rows task row)
    where
      go : (b : Bool) → is_final (if b then held row else row).state ≡ is_final row.state
      go true = held_ends row
      go false = refl

  free_leaves : (row : Row) → is_final (after reach.Free row).state ≡ is_final row.state
  free_leaves row = go (is_above u.rows task row)
    where
      go : (b : Bool) → is_final (if b then freed row else row).state ≡ is_final row.state
      go true = freed_ends row
      go false = refl

  passes : (what : Reach) → ReachIsFinal what → Passes what
  passes (reach.Close end) ends = closes end ends
  passes reach.Skip ends = skips
  passes reach.Hold ends = leaves reach.Hold hold_leaves
  passes reach.Free ends = leaves reach.Free free_leaves

  -- a task that had ended still has
  still_ended : (what : Reach) (row : Row) → ReachIsFinal what → is_final row.state ≡ true → is_final (after what row).state ≡ true
  still_ended what row ends final = let c = comes_of what u.rows task row ends in ap (λ (r : Row). is_final r.state) c.is ∙ go c.change c.ends
    where
      go : (c : Change) → EndsIn c → is_final (changed c row).state ≡ true
      go change.Nothing e = final
      go (change.End end) e = ended_ends end row e
      go change.Hold e = held_ends row ∙ final
      go change.Free e = freed_ends row ∙ final

  have_ended : (what : Reach) → ReachIsFinal what → HaveEndedBelow (map (λ row. reached what u.rows task row) u.rows)
  have_ended what ends id row above p at parent there final =
      let f = λ (r : Row). reached what u.rows task r in
      let r = mapped_from f u.rows id row at in
      let a = mapped_from f u.rows p.0.0 above there in
      let under : (r.0).parent ≡ Some p = ap (λ b. b.1.0) (sym (reached_standing what u.rows task r.0 ends)) ∙ ap (λ (x : Row). x.parent) r.2 ∙ parent in
      let done : is_final (after what a.0).state ≡ true = ap (λ (x : Row). is_final x.state) a.2 ∙ final in
      ap (λ (x : Row). is_final x.state) (sym r.2) ∙ ends_too r.0 r.1 under a.0 a.1 done (is_final (a.0).state) refl
    where
      ends_too : (r : Row) → row_at id u.rows ≡ Some r → r.parent ≡ Some p → (a : Row) → row_at p.0.0 u.rows ≡ Some a → is_final (after what a).state ≡ true → (b : Bool) → is_final a.state ≡ b → is_final (after what r).state ≡ true
      ends_too r at under a there done true is = still_ended what r ends ((sound.families).ended_below id r a p at under there is)
      ends_too r at under a there done false is = passes what ends id r p a at under there is done

  pub all_sound : (what : Reach) → ReachIsFinal what → IsSound (with_rows u (all_reached what u.rows task))
  all_sound what ends =
      mapped_sound u (λ row. reached what u.rows task row)
      (λ row. reached_standing what u.rows task row ends)
      (λ row fine. let c = comes_of what u.rows task row ends in let P : Row → Type 0 = λ r. IsSoundRow u r in subst P (sym c.is) (changed_sound u.models (length u.people.persons) c.change row c.ends fine))
      (have_ended what ends) sound
