-- That the effects of commands keep rows sound.
use Rattle.ht_base.specs.declared.limits.TheConstants.{LONGEST_TEXT, MOST_COMMENTS}
use Rattle.ht_tree.specs.Rows.{model_in}
use Rattle.std.proofs.Common.{◌≡◌, ℕ, ◌<◌, nat_lt, Bool, true, false, ◌&&◌, ◌||◌, not, ◌+◌, ◌≤◌, if◌then◌else◌, List, [], ◌∷◌, ◌++◌, filter, Option, Some, None, IfSome, IsTrue, is_some, unwrap_or, length, get_or, slice_get, zero, suc, refl, ap, sym, ◌∙◌, subst, arith}
use Rattle.std.proofs.lemmas.Bool.Decides.{nat_tests}
use Rattle.std.proofs.lemmas.List.{length-append}
use Rattle.std.proofs.lemmas.List.Elements.{All-append}
use Rattle.std.specs.List.{range_with_len}
use Rattle.std.specs.Option.{option_map_or}
use Rattle.ht_base.specs.declared.end.End.{End}
use Rattle.ht_base.specs.declared.end.End.TheVariants as ends
use Rattle.ht_base.specs.declared.event.Command.{Command}
use Rattle.ht_base.specs.declared.event.Command.TheVariants as command
use Rattle.ht_base.specs.declared.moment.Moment.{Moment}
use Rattle.ht_base.specs.declared.operation.Op.{Op}
use Rattle.ht_base.specs.declared.operation.Op.TheVariants as op
use Rattle.ht_base.specs.declared.reply.Limit.TheVariants.{Comments}
use Rattle.ht_base.specs.declared.reply.Refusal.{Refusal}
use Rattle.ht_base.specs.declared.reply.Refusal.TheVariants as refusal
use Rattle.ht_base.specs.declared.role_list.RoleList.{RoleList}
use Rattle.ht_base.specs.declared.role_list.RoleList.TheVariants as list
use Rattle.ht_base.specs.declared.scalar.Scalar.{Scalar}
use Rattle.ht_base.specs.declared.state.State.{State}
use Rattle.ht_base.specs.declared.state.State.TheVariants as state
use Rattle.ht_base.specs.Events.{AreGiven, IsCommand, IsEnd, op_of}
use Rattle.ht_base.specs.Moment.{last_moment}
use Rattle.ht_base.specs.Persons.{AllBelow, Ascends, has}
use Rattle.ht_base.specs.Values.{updated}
use Rattle.ht_expr.specs.declared.kinds.Side.TheVariants.{Output}
use Rattle.ht_models.specs.Kinded.{parts_of}
use Rattle.ht_models.specs.Model.{ModelOf}
use Rattle.ht_owner.specs.declared.follow.Follow.{Follow}
use Rattle.ht_owner.specs.declared.follow.Follow.TheVariants as follow
use Rattle.ht_owner.specs.Acting.{FollowIsFinal}
use Rattle.ht_owner.specs.Effects.{Effect, does, effect, following, is_forwarder, leaves, moved_now, named_owner, prepared, prepared_leaves, refuses, unless, with_comment, with_output, with_role}
use Rattle.ht_owner.specs.Faults.{fully_commented, excluded, fault, faults, first_of, no_output, owner_named, ownerless, role_faults, told, unknown_person}
use Rattle.ht_base.specs.State.{is_final}
use Rattle.ht_owner.specs.Moving.{end_of, ending, moved, only_if}
use Rattle.ht_owner.specs.Naming.{is_named, persons_named}
use Rattle.ht_owner.specs.Suspending.{end_at}
use Rattle.ht_owner.proofs.Moved.{MayOwn, moved_sound, no_end, serves_ownerless}
use Rattle.ht_owner.proofs.Named.{found_person, known_name, named_alone, no_fault, none_excluded, owner_unnamed}
use Rattle.ht_people.specs.Directory.{DirectoryOf, find}
use Rattle.ht_rules.specs.declared.judging.Verdict.TheVariants.{Yes}
use Rattle.ht_rules.specs.declared.changes.After.{After}
use Rattle.ht_rules.specs.declared.changes.After.TheVariants as after
use Rattle.ht_rules.specs.Changes.{changing}
use Rattle.ht_rules.specs.Judging.{verdict}
use Rattle.ht_rules.proofs.PublicLaws.{IsCaller, IsNamed, caller_is_potential, named_is_delegate}
use Rattle.ht_tree.specs.declared.comments.Comment.{Comment}
use Rattle.ht_tree.specs.declared.row.Row.{Row}
use Rattle.ht_finding.specs.Giving.{values_given}
use Rattle.ht_tree.specs.Roles.{roles_in}
use Rattle.ht_tree.specs.Soundness.{AreApart, ArePeople, IsHeldBy, IsSoundRow, is_suspended, needs_owner}
use Rattle.ht_tree.specs.Tables.{TablesOf, model_of}
use Rattle.ht_finding.proofs.PublicLaws.{has_selected, selected_apart, selected_ascends}
use Rattle.ht_tree.proofs.PublicLaws.{all_selected, filed_of, given_output_held, updated_held}

both_true : (a b : Bool) → (a && b) ≡ true → b ≡ true
both_true true b h = h
both_true false b h = cc

-- whoever passes either test isn't in a list, where both keep out of it
apart_of : (f g : ℕ → Bool) (n : ℕ) (qs : List ℕ) → ((p : ℕ) → f p ≡ true → has p qs ≡ false) → ((p : ℕ) → g p ≡ true → has p qs ≡ false) → AreApart (filter (λ p. f p || g p) (range_with_len 0 n)) qs
apart_of f g n qs first second p h = at (f p) refl (both_true (nat_lt p n) (f p || g p) (sym (has_selected (λ q. f q || g q) n p) ∙ h))
  where
    at : (b : Bool) → f p ≡ b → (b || g p) ≡ true → has p qs ≡ false
    at true is e = first p is
    at false is e = second p e

apart_one : (g : ℕ → Bool) (n : ℕ) (qs : List ℕ) → ((p : ℕ) → g p ≡ true → has p qs ≡ false) → AreApart (filter g (range_with_len 0 n)) qs
apart_one g n qs out p h = out p (both_true (nat_lt p n) (g p) (sym (has_selected g n p) ∙ h))

-- an operation ends a task only in a final state
pub ending_final : (s : State) (o : Op) (end : State) → ending s o ≡ Some end → IsTrue (is_final end)
ending_final s o end e = at (changing s o).after e
  where
    test : (t : State) (b : Bool) → is_final t ≡ b → (if b then Some t else None) ≡ Some end → IsTrue (is_final end)
    test t true is h = let same : t ≡ end = cc in let P : State → Type 0 = λ x. IsTrue (is_final x) in subst P same is
    test t false is h = cc

    at : (a : After) → end_of a ≡ Some end → IsTrue (is_final end)
    at (after.To t) h = test t (is_final t) refl h
    at after.Same h = cc
    at after.ByPeople h = cc

-- ---- suspensions that end by themselves

abbrev pub HasBegun : Command → Type 0
HasBegun (command.SuspendUntil end) = ⊥
HasBegun _ = Unit {0}

never_ends : (s : State) → ending s op.SuspendUntil ≡ None
never_ends state.Created = refl
never_ends s = refl

pub begun_before : (c : Command) (s : State) (end : State) → ending s (op_of c) ≡ Some end → HasBegun c
begun_before (command.SuspendUntil e) s end ends = let never = never_ends s in cc
begun_before c s end ends = tt

end_within : (at : Moment) (end : End) → IsEnd end → (end_at at end).0 ≤ last_moment
end_within at (ends.At m) is = is
end_within at (ends.After period) is = omega arith

only_then : (b : Bool) (m : Moment) → IsTrue (is_some (only_if b (Some m))) → IsTrue b
only_then true m h = refl
only_then false m h = cc

within_end : (b : Bool) (m : Moment) → m.0 ≤ last_moment → IfSome (only_if b (Some m)) (λ x. x.0 ≤ last_moment)
within_end true m h = h
within_end false m h = tt

first_true : (a b : Bool) → (a && b) ≡ true → a ≡ true
first_true true b h = refl
first_true false b h = cc

-- whether it is moved now or not, it is the same task
same_file_now : (next : Follow) (old new : Row) → filed_of new ≡ filed_of old → filed_of (moved_now next old new) ≡ filed_of old
same_file_now follow.Activate old new h = refl
same_file_now next old new h = h

-- what may be done leaves a sound row of the same task, with its parent and its model, which has ended
-- just where it had, and ends it only in a final state
pub record IsMade (u : TablesOf) (row new : Row) (next : Follow) : Type 0 where
  pub sound : IsSoundRow u new
  pub same : filed_of new ≡ filed_of row
  pub final : is_final row.state ≡ is_final new.state
  pub ends : FollowIsFinal next

-- what holds of one comment holds of each of a list of it
alone : (P : Comment → Type 0) (c : Comment) → P c → (k : ℕ) (d : Comment) → k < 1 → P (get_or (c ∷ []) k d)
alone P c h zero d low = h
alone P c h (suc k) d low = absurd (omega arith)

module _ (u : TablesOf) (m : ModelOf) (caller : ℕ) (moment : Moment) (row : Row) (sound : IsSoundRow u row) (of_model : model_of u row ≡ Some m) (known : caller < length u.people.persons) (within : moment.0 ≤ last_moment) where
  abbrev d : DirectoryOf
  d = u.people

  abbrev n : ℕ
  n = length u.people.persons

  -- with other persons in its roles
  with_people : (owners others admins holders : List ℕ) (group : Bool) → ArePeople n row.initiator row.last_owner owners others admins holders → IfSome row.owner (λ p. has p others ≡ false) → IsSoundRow u (record row { potential_owners = owners; excluded_owners = others; administrators = admins; stakeholders = holders; by_group = group })
  with_people owners others admins holders group who allowed = record {
    filed = sound.filed;
    held = sound.held;
    who = who;
    whose = record { owned = (sound.whose).owned; ownerless = (sound.whose).ownerless; known = (sound.whose).known; allowed = allowed };
    when = sound.when;
    how = sound.how;
  }

  -- of whom each list is one of persons
  people_of : (owners others admins holders : List ℕ) → AllBelow n owners → AllBelow n others → AllBelow n admins → AllBelow n holders → AreApart owners others → Ascends owners → Ascends others → Ascends admins → Ascends holders → ArePeople n row.initiator row.last_owner owners others admins holders
  people_of owners others admins holders a b c e out f g h i = record {
    known = record { initiator = ((sound.who).known).initiator; last_owner = ((sound.who).known).last_owner; potential_owners = a; excluded_owners = b; administrators = c; stakeholders = e };
    apart = out;
    potential_ascend = f;
    excluded_ascend = g;
    administrators_ascend = h;
    stakeholders_ascend = i;
  }

  -- with other potential owners, of whom none is excluded
  with_owners : (g : ℕ → Bool) (group : Bool) → AreApart (filter g (range_with_len 0 n)) row.excluded_owners → IsSoundRow u (record row { potential_owners = filter g (range_with_len 0 n); by_group = group })
  with_owners g group out =
      let who = sound.who in
      with_people (filter g (range_with_len 0 n)) row.excluded_owners row.administrators row.stakeholders group
      (people_of (filter g (range_with_len 0 n)) row.excluded_owners row.administrators row.stakeholders (all_selected u g) (who.known).excluded_owners (who.known).administrators (who.known).stakeholders out (selected_ascends g n) who.excluded_ascend who.administrators_ascend who.stakeholders_ascend)
      (sound.whose).allowed

  -- with other excluded owners, of whom the owner is none
  owner_stays : (names : List (List ℕ)) (owner : Option ℕ) → owner_named d owner names ≡ None → IfSome owner (λ p. has p (persons_named d names) ≡ false)
  owner_stays names None none = tt
  owner_stays names (Some p) none = has_selected (is_named d names) n p ∙ out (nat_lt p n) (is_named d names p) (owner_unnamed d p names none)
    where
      out : (a b : Bool) → b ≡ false → (a && b) ≡ false
      out true b h = h
      out false b h = refl

  role_sound : (role : RoleList) (names : List (List ℕ)) → first_of (role_faults d m row names role) ≡ None → IsSoundRow u (with_role d row names role)
  role_sound list.PotentialOwners names none =
      let out = no_fault (role_faults d m row names list.PotentialOwners) none 2 (excluded d row.excluded_owners names) refl in
      with_owners (is_named d names) false (apart_one (is_named d names) n row.excluded_owners (none_excluded d row.excluded_owners names out))
  role_sound list.ExcludedOwners names none =
      let who = sound.who in
      let out = no_fault (role_faults d m row names list.ExcludedOwners) none 1 (owner_named d row.owner names) refl in
      let named = is_named d names in
      let stays = λ (p : ℕ). has p row.potential_owners && not (is_named d names p) in
      with_people (filter stays (range_with_len 0 n)) (persons_named d names) row.administrators row.stakeholders row.by_group
      (people_of (filter stays (range_with_len 0 n)) (persons_named d names) row.administrators row.stakeholders (all_selected u stays) (all_selected u named) (who.known).administrators (who.known).stakeholders (selected_apart (λ p. has p row.potential_owners) named n) (selected_ascends stays n) (selected_ascends named n) who.administrators_ascend who.stakeholders_ascend)
      (owner_stays names row.owner out)
  role_sound list.Administrators names none =
      let who = sound.who in
      let named = is_named d names in
      with_people row.potential_owners row.excluded_owners (persons_named d names) row.stakeholders row.by_group
      (people_of row.potential_owners row.excluded_owners (persons_named d names) row.stakeholders (who.known).potential_owners (who.known).excluded_owners (all_selected u named) (who.known).stakeholders who.apart who.potential_ascend who.excluded_ascend (selected_ascends named n) who.stakeholders_ascend)
      (sound.whose).allowed
  role_sound list.Stakeholders names none =
      let who = sound.who in
      let named = is_named d names in
      with_people row.potential_owners row.excluded_owners row.administrators (persons_named d names) row.by_group
      (people_of row.potential_owners row.excluded_owners row.administrators (persons_named d names) (who.known).potential_owners (who.known).excluded_owners (who.known).administrators (all_selected u named) who.apart who.potential_ascend who.excluded_ascend who.administrators_ascend (selected_ascends named n))
      (sound.whose).allowed

  -- ---- what the command itself changes

  -- with other parts of the output
  output_sound : (output : List (List ℕ × Scalar)) → AreGiven output → IsSoundRow u (with_output d m row output)
  output_sound output are =
      let set = updated row.output (values_given d m.output output) in
      let Old : Option ModelOf → Type 0 = λ o. IfSome o (λ x. IsHeldBy n x row.input row.output row.taken) in
      let New : Option ModelOf → Type 0 = λ o. IfSome o (λ x. IsHeldBy n x row.input set row.taken) in
      let old : IsHeldBy n m row.input row.output row.taken = subst Old of_model sound.held in
      let held : IsHeldBy n m row.input set row.taken = record {
        input = old.input;
        output = updated_held (parts_of m.input m.output) n Output row.output (values_given d m.output output) old.output (given_output_held d m.input m.output output are);
        taken = old.taken;
        taken_ascend = old.taken_ascend;
      } in
      record { filed = sound.filed; held = subst New (sym of_model) held; who = sound.who; whose = sound.whose; when = sound.when; how = sound.how }

  -- with a comment more, of which there are fewer than the most
  comment_sound : (text : List ℕ) → 1 ≤ length text → length text ≤ LONGEST_TEXT → fully_commented row ≡ None → IsSoundRow u (with_comment row moment caller text)
  comment_sound text some short room =
      let how = sound.how in
      let more : List Comment = record { moment = moment; person = caller; text = text } ∷ [] in
      record {
        filed = sound.filed;
        held = sound.held;
        who = sound.who;
        whose = sound.whose;
        when = sound.when;
        how = record {
          priority_within = how.priority_within;
          few = one_more (length row.comments) (length (row.comments ++ more)) (length-append row.comments more) room;
          known = All-append (λ c. c.person < n) row.comments more how.known (alone (λ c. c.person < n) (record { moment = moment; person = caller; text = text }) known);
          moments_within = All-append (λ c. c.moment.0 ≤ last_moment) row.comments more how.moments_within (alone (λ c. c.moment.0 ≤ last_moment) (record { moment = moment; person = caller; text = text }) within);
          texts_within = All-append (λ c. (1 ≤ length c.text) × (length c.text ≤ LONGEST_TEXT)) row.comments more how.texts_within (alone (λ c. (1 ≤ length c.text) × (length c.text ≤ LONGEST_TEXT)) (record { moment = moment; person = caller; text = text }) (some, short));
        };
      }
    where
      one_more : (k l : ℕ) → l ≡ k + 1 → told (not (nat_lt k MOST_COMMENTS)) (refusal.Limit Comments) ≡ None → l ≤ MOST_COMMENTS
      one_more k l is room = few (nat_lt k MOST_COMMENTS) refl room
        where
          few : (b : Bool) → nat_lt k MOST_COMMENTS ≡ b → told (not b) (refusal.Limit Comments) ≡ None → l ≤ MOST_COMMENTS
          few true low h = grind (arith, nat_tests)
          few false low h = cc

  -- a suspension that ends by itself begins first
  prepared_sound : (c : Command) → HasBegun c → IsCommand c → fault u m moment row c ≡ None → IsSoundRow u (prepared d m caller moment c row)
  prepared_sound (command.Delegate name) begun is none =
      let out = no_fault (faults u m moment row (command.Delegate name)) none 2 (excluded d row.excluded_owners (name ∷ [])) refl in
      with_owners (λ p. has p row.potential_owners || is_named d (name ∷ []) p) row.by_group (apart_of (λ p. has p row.potential_owners) (is_named d (name ∷ [])) n row.excluded_owners (sound.who).apart (none_excluded d row.excluded_owners (name ∷ []) out))
  prepared_sound (command.Forward names) begun is none =
      let out = no_fault (faults u m moment row (command.Forward names)) none 3 (excluded d row.excluded_owners names) refl in
      with_owners (λ p. (has p row.potential_owners && not (is_forwarder caller row.state row.owner p)) || is_named d names p) row.by_group (apart_of (λ p. has p row.potential_owners && not (is_forwarder caller row.state row.owner p)) (is_named d names) n row.excluded_owners (λ p h. (sound.who).apart p (first_true _ _ h)) (none_excluded d row.excluded_owners names out))
  prepared_sound (command.Nominate names) begun is none =
      let out = no_fault (faults u m moment row (command.Nominate names)) none 2 (excluded d row.excluded_owners names) refl in
      with_owners (is_named d names) false (apart_one (is_named d names) n row.excluded_owners (none_excluded d row.excluded_owners names out))
  prepared_sound (command.SetRole role names) begun is none = role_sound role names none
  prepared_sound (command.SetPriority priority) begun is none =
      let how = sound.how in
      record {
        filed = sound.filed;
        held = sound.held;
        who = sound.who;
        whose = sound.whose;
        when = sound.when;
        how = record { priority_within = is; few = how.few; known = how.known; moments_within = how.moments_within; texts_within = how.texts_within };
      }
  prepared_sound (command.SetOutput output) begun is none = output_sound output is.0
  prepared_sound (command.Complete output) begun is none = output_sound output is
  prepared_sound (command.Fail name) begun is none = record { filed = sound.filed; held = sound.held; who = sound.who; whose = sound.whose; when = sound.when; how = sound.how }
  prepared_sound (command.AddComment text) begun is none = comment_sound text is.0 is.1 (no_fault (faults u m moment row (command.AddComment text)) none 0 (fully_commented row) refl)
  prepared_sound (command.SuspendUntil end) begun is none = absurd begun
  prepared_sound c begun is none = sound

  -- ---- whose it becomes

  -- who owns it by his own call
  owns : (o : Op) → IsCaller (changing row.state o).owner → verdict o row.state (roles_in u row caller) ≡ Yes → MayOwn n caller row.excluded_owners
  owns o h may = record { known = known; allowed = (sound.who).apart caller (caller_is_potential (roles_in u row caller) row.state o h may) }

  -- who is named as the owner
  named_owns : (name : List ℕ) → fault u m moment row (command.Delegate name) ≡ None → MayOwn n (unwrap_or (find name d) caller) row.excluded_owners
  named_owns name none = at (find name d) refl
    where
      out : excluded d row.excluded_owners (name ∷ []) ≡ None
      out = no_fault (faults u m moment row (command.Delegate name)) none 2 (excluded d row.excluded_owners (name ∷ [])) refl

      there : unknown_person d (name ∷ []) ≡ None
      there = no_fault (faults u m moment row (command.Delegate name)) none 1 (unknown_person d (name ∷ [])) refl

      at : (o : Option ℕ) → find name d ≡ o → MayOwn n (unwrap_or o caller) row.excluded_owners
      at None is = absurd (known_name d name there is)
      at (Some p) is = record { known = found_person d name p is; allowed = none_excluded d row.excluded_owners (name ∷ []) out p (named_alone d name p is) }

  -- no role is replaced by who would own the task so
  set_role_keeps : (s : State) → IsCaller (changing s op.SetRole).owner → ⊥
  set_role_keeps state.Created h = h
  set_role_keeps s h = h

  caller_owns : (c : Command) → verdict (op_of c) row.state (roles_in u row caller) ≡ Yes → IsCaller (changing (prepared d m caller moment c row).state (op_of c)).owner → MayOwn n caller (prepared d m caller moment c row).excluded_owners
  caller_owns (command.SetRole list.PotentialOwners names) may h = owns op.SetRole h may
  caller_owns (command.SetRole list.ExcludedOwners names) may h = absurd (set_role_keeps row.state h)
  caller_owns (command.SetRole list.Administrators names) may h = owns op.SetRole h may
  caller_owns (command.SetRole list.Stakeholders names) may h = owns op.SetRole h may
  caller_owns c may h = owns (op_of c) h may

  -- a command but a delegation names nobody as the owner
  not_named : (o : Op) (s : State) (persons p : ℕ) (others : List ℕ) → (o ≡ op.Delegate → ⊥) → IsNamed (changing s o).owner → MayOwn persons p others
  not_named o s persons p others other h = absurd (other (named_is_delegate s o h))

  told_owns : (c : Command) → fault u m moment row c ≡ None → IsNamed (changing (prepared d m caller moment c row).state (op_of c)).owner → MayOwn n (named_owner d caller c) (prepared d m caller moment c row).excluded_owners
  told_owns (command.Delegate name) none h = named_owns name none
  told_owns (command.SetRole role names) none h = not_named op.SetRole (prepared d m caller moment (command.SetRole role names) row).state n caller _ (λ e. cc) h
  told_owns c none h = not_named (op_of c) row.state n caller _ (λ e. cc) h

  -- ---- the whole effect

  -- a command whose first fault is that a task never has an owner is done on one that has
  has_owner : (c : Command) → fault u m moment row c ≡ None → slice_get (faults u m moment row c) 0 ≡ Some (ownerless m) → needs_owner (model_in u.models row) ≡ true
  has_owner c none first = ap (λ (o : Option ModelOf). option_map_or (λ x. x.owner_required) o true) of_model ∙ required m.owner_required (no_fault (faults u m moment row c) none 0 (ownerless m) first)
    where
      required : (b : Bool) → told (not b) refusal.Ownerless ≡ None → b ≡ true
      required true h = refl
      required false h = cc

  moves_sound : (c : Command) → HasBegun c → IsCommand c → verdict (op_of c) row.state (roles_in u row caller) ≡ Yes → fault u m moment row c ≡ None → (serves_ownerless (op_of c) || needs_owner (model_in u.models (prepared d m caller moment c row))) ≡ true → IsSoundRow u (moved (op_of c) caller (named_owner d caller c) (prepared d m caller moment c row))
  moves_sound c begun is may none serves = moved_sound u n caller (named_owner d caller c) (prepared d m caller moment c row) (prepared_sound c begun is none) (op_of c) serves (caller_owns c may) (told_owns c none)

  -- the row of a command that is no end
  abbrev row_now : Command → Row
  row_now c = moved_now (following c) (prepared d m caller moment c row) (moved (op_of c) caller (named_owner d caller c) (prepared d m caller moment c row))

  -- its end is later than its beginning, and no later than the last moment there is
  until_sound : (end : End) → IsEnd end → verdict op.SuspendUntil row.state (roles_in u row caller) ≡ Yes → IsSoundRow u (moved op.SuspendUntil caller caller (record row { until = Some (end_at moment end) }))
  until_sound end is may =
      let base = moved_sound u n caller caller row sound op.SuspendUntil refl (λ h. owns op.SuspendUntil h may) (λ h. not_named op.SuspendUntil row.state n caller _ (λ e. cc) h) in
      let when = base.when in
      let state = (moved op.SuspendUntil caller caller row).state in
      record {
        filed = base.filed;
        held = base.held;
        who = base.who;
        whose = base.whose;
        when = record {
          waits = when.waits;
          until = only_then (is_suspended state) (end_at moment end);
          created_within = when.created_within;
          waits_within = when.waits_within;
          until_within = within_end (is_suspended state) (end_at moment end) (end_within moment end is);
        };
        how = base.how;
      }

  now_sound : (c : Command) → IsCommand c → verdict (op_of c) row.state (roles_in u row caller) ≡ Yes → fault u m moment row c ≡ None → IsSoundRow u (row_now c)
  now_sound command.Activate is may none = sound
  now_sound (command.SuspendUntil end) is may none = until_sound end is may
  now_sound command.Stop is may none = moves_sound command.Stop tt is may none (has_owner command.Stop none refl)
  now_sound command.Release is may none = moves_sound command.Release tt is may none (has_owner command.Release none refl)
  now_sound (command.Delegate name) is may none = moves_sound (command.Delegate name) tt is may none (has_owner (command.Delegate name) none refl)
  now_sound (command.Forward names) is may none = moves_sound (command.Forward names) tt is may none (has_owner (command.Forward names) none refl)
  now_sound (command.Nominate names) is may none = moves_sound (command.Nominate names) tt is may none (has_owner (command.Nominate names) none refl)
  now_sound c is may none = moves_sound c tt is may none refl

  same_file : (c : Command) → filed_of (prepared d m caller moment c row) ≡ filed_of row
  same_file (command.SetRole list.PotentialOwners names) = refl
  same_file (command.SetRole list.ExcludedOwners names) = refl
  same_file (command.SetRole list.Administrators names) = refl
  same_file (command.SetRole list.Stakeholders names) = refl
  same_file c = refl

  same_state : (c : Command) → (prepared d m caller moment c row).state ≡ row.state
  same_state (command.SetRole list.PotentialOwners names) = refl
  same_state (command.SetRole list.ExcludedOwners names) = refl
  same_state (command.SetRole list.Administrators names) = refl
  same_state (command.SetRole list.Stakeholders names) = refl
  same_state c = refl

  -- what a command itself changes is no end
  final_before : (c : Command) → is_final row.state ≡ is_final (prepared d m caller moment c row).state
  final_before c = ap is_final (sym (same_state c))

  final_now : (c : Command) → ending (prepared d m caller moment c row).state (op_of c) ≡ None → is_final row.state ≡ is_final (row_now c).state
  final_now command.Activate none = refl
  final_now c none =
      let before = prepared d m caller moment c row in
      final_before c ∙ no_end before.state (op_of c) before.potential_owners none

  quiet : (c : Command) → FollowIsFinal (following c)
  quiet command.Start = tt
  quiet c = tt

  abbrev row_in : Effect → Row
  row_in (does r f) = r
  row_in (refuses why) = row

  abbrev follow_in : Effect → Follow
  follow_in (does r f) = f
  follow_in (refuses why) = follow.Nothing

  left_by : (c : Command) (new : Row) (next : Follow) → IsCommand c → verdict (op_of c) row.state (roles_in u row caller) ≡ Yes → fault u m moment row c ≡ None → (o : Option State) → ending (prepared d m caller moment c row).state (op_of c) ≡ o → leaves d caller c (prepared d m caller moment c row) o ≡ does new next → IsMade u row new next
  left_by c new next is may none None e h =
      let before = prepared d m caller moment c row in
      let R : Row → Type 0 = λ r. IsSoundRow u r × (filed_of r ≡ filed_of row) × (is_final row.state ≡ is_final r.state) in
      let file = same_file_now (following c) before (moved (op_of c) caller (named_owner d caller c) before) refl ∙ same_file c in
      let made : R new = subst R (ap row_in h) (now_sound c is may none, file, final_now c e) in
      let F : Follow → Type 0 = λ f. FollowIsFinal f in
      record { sound = made.0; same = made.1; final = made.2; ends = subst F (ap follow_in h) (quiet c) }
  left_by c new next is may none (Some end) e h =
      let R : Row → Type 0 = λ r. IsSoundRow u r × (filed_of r ≡ filed_of row) × (is_final row.state ≡ is_final r.state) in
      let made : R new = subst R (ap row_in h) (prepared_sound c (begun_before c (prepared d m caller moment c row).state end e) is none, same_file c, final_before c) in
      let F : Follow → Type 0 = λ f. FollowIsFinal f in
      record { sound = made.0; same = made.1; final = made.2; ends = subst F (ap follow_in h) (ending_final (prepared d m caller moment c row).state (op_of c) end e) }

  pub effect_makes : (c : Command) (new : Row) (next : Follow) → IsCommand c → verdict (op_of c) row.state (roles_in u row caller) ≡ Yes → effect u m caller moment c row ≡ does new next → IsMade u row new next
  effect_makes c new next is may done = first (fault u m moment row c) refl done
    where
      second : (o : Option Refusal) → fault u m moment row c ≡ None → unless o (leaves d caller c (prepared d m caller moment c row) (ending (prepared d m caller moment c row).state (op_of c))) ≡ does new next → IsMade u row new next
      second (Some why) none h = cc
      second None none h = left_by c new next is may none (ending (prepared d m caller moment c row).state (op_of c)) refl h

      first : (o : Option Refusal) → fault u m moment row c ≡ o → unless o (prepared_leaves d m caller c (prepared d m caller moment c row)) ≡ does new next → IsMade u row new next
      first (Some why) e h = cc
      first None none h = second (no_output m (prepared d m caller moment c row) c) none h
