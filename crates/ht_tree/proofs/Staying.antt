-- A task that stays in its lists.
use Rattle.std.proofs.Common.{◌≡◌, ℕ, ◌==◌, ◌||◌, ◌&&◌, not, false, Some, ap, sym, ◌∙◌}
use Rattle.std.specs.Option.{option_map_or}
use Rattle.ht_base.specs.Persons.{has}
use Rattle.ht_base.specs.State.{is_final}
use Rattle.ht_tree.specs.declared.listed_by.ListedBy.{ListedBy}
use Rattle.ht_tree.specs.declared.listed_by.ListedBy.TheVariants as by
use Rattle.ht_tree.specs.declared.row.Row.{Row}
use Rattle.ht_tree.specs.ListedBy.{HaveSameLists, has_task_role, is_in_lists, is_person, is_under}
use Rattle.ht_tree.specs.Moves.{StaysListed}
use Rattle.ht_tree.proofs.Moving.{role_parts}

in_both : (key : ℕ) (old new : Row) → HaveSameLists old new → is_in_lists key old ≡ is_in_lists key new
in_both key old new same =
    ap (λ n. (n == key) || (has key old.stakeholders || (has key old.potential_owners || has key old.administrators))) same.initiator
    ∙ ap (λ n. (new.initiator == key) || (has key n || (has key old.potential_owners || has key old.administrators))) same.stakeholders
    ∙ ap (λ n. (new.initiator == key) || (has key new.stakeholders || (has key n || has key old.administrators))) same.potential_owners
    ∙ ap (λ n. (new.initiator == key) || (has key new.stakeholders || (has key new.potential_owners || has key n))) same.administrators

same_roles : (key : ℕ) (old new : Row) → old.owner ≡ new.owner → HaveSameLists old new → has_task_role key old ≡ has_task_role key new
same_roles key old new owner same = role_parts key old ∙ ap (λ b. b || is_person key old.owner) (in_both key old new same) ∙ ap (λ o. is_in_lists key new || is_person key o) owner ∙ sym (role_parts key new)

pub stays_under : (old new : Row) → new.parent ≡ old.parent → is_final old.state ≡ is_final new.state → old.owner ≡ new.owner → HaveSameLists old new → StaysListed (Some old) (Some new)
stays_under old new parent end owner same = under
  where
    under : (kind : ListedBy) (key : ℕ) → is_under kind key old ≡ is_under kind key new
    under by.Parent key = ap (λ o. option_map_or (λ p. p.0.0 == key) o false) (sym parent)
    under by.Person key = same_roles key old new owner same
    under by.Live key = ap (λ b. not b && has_task_role key old) end ∙ ap (λ b. not (is_final new.state) && b) (same_roles key old new owner same)
    under by.Owner key = ap (is_person key) owner
