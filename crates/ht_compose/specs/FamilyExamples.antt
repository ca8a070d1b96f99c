-- Worked families, from the start of a composite task to its end. A wrong reading of the definitions
-- fails the check.
use Rattle.std.specs.Prelude.{◌≡◌, ◌≢◌, ◌+◌, ◌<◌, refl, ℕ, Bool, false, true, cond, List, [], ◌∷◌, Some, None, codes, bytes_eq}
use Rattle.std.proofs.Common.{inl, lit<, subst, sym}
use Rattle.std.proofs.lemmas.Bool.{false_from_ne_true}
use Rattle.std.proofs.lemmas.Slice.Eq.{bytes_eq-Decides}
use Rattle.ht_aggregate.specs.Frequencies.{IsElected}
use Rattle.ht_base.specs.declared.how.How.TheVariants as how
use Rattle.ht_base.specs.declared.kind.Kind.TheVariants as kind
use Rattle.ht_base.specs.declared.state.State.{State}
use Rattle.ht_base.specs.declared.state.State.TheVariants.{Completed, Created, Failed, InProgress, Obsolete, Ready, Reserved, SuspendedInProgress, SuspendedReady}
use Rattle.ht_base.specs.declared.value.Value.TheVariants.{Text}
use Rattle.ht_compose.specs.Agenda.{Ends}
use Rattle.ht_compose.specs.Agenda.Ends.{end, on}
use Rattle.ht_compose.specs.Downward.{freeing, holding}
use Rattle.ht_compose.specs.Examples.{at, tables, task}
use Rattle.ht_compose.specs.Items.{Does, Item, Step, does}
use Rattle.ht_compose.specs.Items.Item.{Activate, Begin, Check, Close, Make, Next, Up}
use Rattle.ht_expr.specs.declared.operator.Operator.TheVariants.{GreaterOrEqual}
use Rattle.ht_expr.specs.Trees.{binary, count_text, group, integer, user}
use Rattle.ht_models.specs.BuiltIn.{plain_model}
use Rattle.ht_entries.specs.declared.choices.Composition.TheVariants.{Parallel}
use Rattle.ht_entries.specs.declared.choices.Trigger.TheVariants.{Automatic}
use Rattle.ht_entries.specs.Finishes.{setting}
use Rattle.ht_models.specs.Model.{ModelOf}
use Rattle.ht_entries.specs.Parts.{part}
use Rattle.ht_entries.specs.SubEntries.{SubEntry, sub_entry}
use Rattle.ht_tree.specs.declared.row.Row.{Row}
use Rattle.ht_tree.specs.Creating.{bare_row}
use Rattle.ht_tree.specs.Tables.{TablesOf}

-- ---- models

abbrev unit : ModelOf
unit = record (plain_model (codes "unit")) { potential_owners = group (codes "clerks"); administrators = Some (user (codes "cora")) }

abbrev solo : ModelOf
solo = record (plain_model (codes "solo")) { potential_owners = user (codes "anna") }

abbrev for_anna : List ℕ → List SubEntry → ModelOf
for_anna name subs = record (plain_model name) { potential_owners = user (codes "anna"); instantiation = Automatic; subs = subs }

abbrev both : ModelOf
both = record (for_anna (codes "both") (sub_entry (codes "x") (codes "unit") [] ∷ sub_entry (codes "y") (codes "unit") [] ∷ [])) { composition = Parallel; size = 3 }

abbrev seq : ModelOf
seq = record (for_anna (codes "seq") (sub_entry (codes "x") (codes "unit") [] ∷ sub_entry (codes "y") (codes "solo") [] ∷ [])) { size = 3 }

abbrev ballot : ModelOf
ballot = record (plain_model (codes "ballot")) { potential_owners = group (codes "clerks"); output = part (codes "vote") kind.Text false ∷ [] }

abbrev ballots : List SubEntry
ballots = sub_entry (codes "x") (codes "ballot") [] ∷ sub_entry (codes "y") (codes "ballot") [] ∷ sub_entry (codes "z") (codes "ballot") [] ∷ []

-- two of three are enough, and what they say is decided
abbrev vote : ModelOf
vote = record (for_anna (codes "vote") ballots) {
  composition = Parallel;
  completion = Automatic;
  output = part (codes "decision") kind.Text false ∷ [];
  finishes = record {
    when = Some (binary GreaterOrEqual (count_text (codes "vote") (codes "yes")) (integer 2));
    settings = setting (codes "decision") (codes "vote") (how.VoteOnString 50) ∷ [];
  } ∷ [];
  size = 4;
}

abbrev office_of : List Row → TablesOf
office_of rows = tables (unit ∷ solo ∷ both ∷ seq ∷ ballot ∷ vote ∷ []) rows

-- from the one rows the items come to their end at the others
abbrev Leads : List Row → List Item → List Row → Type 0
Leads old items new = Ends (Does at) (office_of old) items (office_of new)

abbrev to : List Row → List Item → Step
to rows puts = does (office_of rows) puts

-- ---- rows

-- dan's task of a model, which anna has
abbrev annas : ℕ → State → Row
annas model state = record (task 1 state) { model = model; potential_owners = 0 ∷ []; owner = Some 0 }

abbrev begun : Row → Row
begun row = record row { started = true }

-- a sub task of an entry of anna's task, for the clerks
abbrev clerks : ℕ → ℕ → ℕ → State → Row
clerks n e model state = record (bare_row (record { 0 = n }) model (Some (record { 0 = 1 }, e)) 0 [] None at) { state = state; potential_owners = 0 ∷ 1 ∷ []; by_group = true }

abbrev unit_row : ℕ → ℕ → State → Row
unit_row n e state = record (clerks n e 0 state) { administrators = 2 ∷ [] }

abbrev taken_by : ℕ → Row → Row
taken_by person row = record row { state = InProgress; owner = Some person; started = true }

abbrev left_by : ℕ → State → Row → Row
left_by person state row = record row { state = state; owner = None; last_owner = Some person }

-- ---- manual completion: both sub tasks at once, and nothing ends by itself

abbrev both_begun : Row
both_begun = begun (annas 2 InProgress)

both_starts : Leads (annas 2 InProgress ∷ []) (Begin 1 ∷ []) (both_begun ∷ unit_row 2 0 Ready ∷ unit_row 3 1 Ready ∷ [])
both_starts =
    on {d = to (both_begun ∷ []) (Make 1 0 ∷ Make 1 1 ∷ Check 1 ∷ [])} refl
    (on {d = to (both_begun ∷ unit_row 2 0 Created ∷ []) (Activate 2 ∷ [])} refl
    (on {d = to (both_begun ∷ unit_row 2 0 Ready ∷ []) []} refl
    (on {d = to (both_begun ∷ unit_row 2 0 Ready ∷ unit_row 3 1 Created ∷ []) (Activate 3 ∷ [])} refl
    (on {d = to (both_begun ∷ unit_row 2 0 Ready ∷ unit_row 3 1 Ready ∷ []) []} refl
    (on {d = to (both_begun ∷ unit_row 2 0 Ready ∷ unit_row 3 1 Ready ∷ []) []} refl
    end)))))

abbrev first_done : Row
first_done = left_by 0 Completed (taken_by 0 (unit_row 2 0 Ready))

one_completes : Leads (both_begun ∷ taken_by 0 (unit_row 2 0 Ready) ∷ unit_row 3 1 Ready ∷ []) (Close 2 Completed ∷ []) (both_begun ∷ first_done ∷ unit_row 3 1 Ready ∷ [])
one_completes =
    on {d = to (both_begun ∷ first_done ∷ unit_row 3 1 Ready ∷ []) (Up 1 2 ∷ [])} refl
    (on {d = to (both_begun ∷ first_done ∷ unit_row 3 1 Ready ∷ []) (Check 1 ∷ Next 1 2 ∷ [])} refl
    (on {d = to (both_begun ∷ first_done ∷ unit_row 3 1 Ready ∷ []) []} refl
    (on {d = to (both_begun ∷ first_done ∷ unit_row 3 1 Ready ∷ []) []} refl
    end)))

abbrev both_suspended : Row
both_suspended = record both_begun { state = SuspendedInProgress }

-- where anna suspends the task, the open sub task is held, and comes back where she resumes it
it_is_held : holding 1 (both_suspended ∷ first_done ∷ unit_row 3 1 Ready ∷ []) ≡ both_suspended ∷ first_done ∷ unit_row 3 1 SuspendedReady ∷ []
it_is_held = refl

it_is_freed : freeing 1 (both_begun ∷ first_done ∷ unit_row 3 1 SuspendedReady ∷ []) ≡ both_begun ∷ first_done ∷ unit_row 3 1 Ready ∷ []
it_is_freed = refl

-- ---- one sub task behind the other, of which the second fails

abbrev seq_begun : Row
seq_begun = begun (annas 3 InProgress)

seq_starts : Leads (annas 3 InProgress ∷ []) (Begin 1 ∷ []) (seq_begun ∷ unit_row 2 0 Ready ∷ [])
seq_starts =
    on {d = to (seq_begun ∷ []) (Make 1 0 ∷ Check 1 ∷ [])} refl
    (on {d = to (seq_begun ∷ unit_row 2 0 Created ∷ []) (Activate 2 ∷ [])} refl
    (on {d = to (seq_begun ∷ unit_row 2 0 Ready ∷ []) []} refl
    (on {d = to (seq_begun ∷ unit_row 2 0 Ready ∷ []) []} refl
    end)))

abbrev solo_row : State → Row
solo_row state = record (bare_row (record { 0 = 3 }) 1 (Some (record { 0 = 1 }, 1)) 0 [] None at) { state = state; potential_owners = 0 ∷ [] }

abbrev solo_reserved : Row
solo_reserved = record (solo_row Reserved) { owner = Some 0 }

-- where the first is skipped, the second comes, and is for anna alone
one_is_skipped : Leads (seq_begun ∷ unit_row 2 0 Ready ∷ []) (Close 2 Obsolete ∷ []) (seq_begun ∷ unit_row 2 0 Obsolete ∷ solo_reserved ∷ [])
one_is_skipped =
    on {d = to (seq_begun ∷ unit_row 2 0 Obsolete ∷ []) (Up 1 2 ∷ [])} refl
    (on {d = to (seq_begun ∷ unit_row 2 0 Obsolete ∷ []) (Check 1 ∷ Next 1 2 ∷ [])} refl
    (on {d = to (seq_begun ∷ unit_row 2 0 Obsolete ∷ []) []} refl
    (on {d = to (seq_begun ∷ unit_row 2 0 Obsolete ∷ []) (Make 1 1 ∷ [])} refl
    (on {d = to (seq_begun ∷ unit_row 2 0 Obsolete ∷ solo_row Created ∷ []) (Activate 3 ∷ [])} refl
    (on {d = to (seq_begun ∷ unit_row 2 0 Obsolete ∷ solo_reserved ∷ []) []} refl
    end)))))

-- anna does it, and it fails with a fault
abbrev solo_lost : Row
solo_lost = record (taken_by 0 (solo_row Reserved)) { fault = Some (codes "lost") }

it_fails : Leads (seq_begun ∷ unit_row 2 0 Obsolete ∷ solo_lost ∷ []) (Close 3 Failed ∷ []) (record (left_by 0 Failed seq_begun) { fault = Some (codes "lost") } ∷ unit_row 2 0 Obsolete ∷ left_by 0 Failed solo_lost ∷ [])
it_fails =
    on {d = to (seq_begun ∷ unit_row 2 0 Obsolete ∷ left_by 0 Failed solo_lost ∷ []) (Up 1 3 ∷ [])} refl
    (on {d = to (record seq_begun { fault = Some (codes "lost") } ∷ unit_row 2 0 Obsolete ∷ left_by 0 Failed solo_lost ∷ []) (Close 1 Failed ∷ [])} refl
    (on {d = to (record (left_by 0 Failed seq_begun) { fault = Some (codes "lost") } ∷ unit_row 2 0 Obsolete ∷ left_by 0 Failed solo_lost ∷ []) []} refl
    end))

-- ---- a vote

abbrev vote_begun : Row
vote_begun = begun (annas 5 InProgress)

vote_starts : Leads (annas 5 InProgress ∷ []) (Begin 1 ∷ []) (vote_begun ∷ clerks 2 0 4 Ready ∷ clerks 3 1 4 Ready ∷ clerks 4 2 4 Ready ∷ [])
vote_starts =
    on {d = to (vote_begun ∷ []) (Make 1 0 ∷ Make 1 1 ∷ Make 1 2 ∷ Check 1 ∷ [])} refl
    (on {d = to (vote_begun ∷ clerks 2 0 4 Created ∷ []) (Activate 2 ∷ [])} refl
    (on {d = to (vote_begun ∷ clerks 2 0 4 Ready ∷ []) []} refl
    (on {d = to (vote_begun ∷ clerks 2 0 4 Ready ∷ clerks 3 1 4 Created ∷ []) (Activate 3 ∷ [])} refl
    (on {d = to (vote_begun ∷ clerks 2 0 4 Ready ∷ clerks 3 1 4 Ready ∷ []) []} refl
    (on {d = to (vote_begun ∷ clerks 2 0 4 Ready ∷ clerks 3 1 4 Ready ∷ clerks 4 2 4 Created ∷ []) (Activate 4 ∷ [])} refl
    (on {d = to (vote_begun ∷ clerks 2 0 4 Ready ∷ clerks 3 1 4 Ready ∷ clerks 4 2 4 Ready ∷ []) []} refl
    (on {d = to (vote_begun ∷ clerks 2 0 4 Ready ∷ clerks 3 1 4 Ready ∷ clerks 4 2 4 Ready ∷ []) []} refl
    end)))))))

abbrev yes_by : ℕ → Row → Row
yes_by person row = record (taken_by person row) { output = (codes "vote", Text (codes "yes")) ∷ [] }

abbrev yes_of_anna : Row
yes_of_anna = left_by 0 Completed (yes_by 0 (clerks 2 0 4 Ready))

-- one of three is not enough
one_votes : Leads (vote_begun ∷ yes_by 0 (clerks 2 0 4 Ready) ∷ clerks 3 1 4 Ready ∷ clerks 4 2 4 Ready ∷ []) (Close 2 Completed ∷ []) (vote_begun ∷ yes_of_anna ∷ clerks 3 1 4 Ready ∷ clerks 4 2 4 Ready ∷ [])
one_votes =
    on {d = to (vote_begun ∷ yes_of_anna ∷ clerks 3 1 4 Ready ∷ clerks 4 2 4 Ready ∷ []) (Up 1 2 ∷ [])} refl
    (on {d = to (vote_begun ∷ yes_of_anna ∷ clerks 3 1 4 Ready ∷ clerks 4 2 4 Ready ∷ []) (Check 1 ∷ Next 1 2 ∷ [])} refl
    (on {d = to (vote_begun ∷ yes_of_anna ∷ clerks 3 1 4 Ready ∷ clerks 4 2 4 Ready ∷ []) []} refl
    (on {d = to (vote_begun ∷ yes_of_anna ∷ clerks 3 1 4 Ready ∷ clerks 4 2 4 Ready ∷ []) []} refl
    end)))

abbrev yes_of_ben : Row
yes_of_ben = left_by 1 Completed (yes_by 1 (clerks 3 1 4 Ready))

abbrev decided : Row
decided = record vote_begun { output = (codes "decision", Text (codes "yes")) ∷ [] }

-- both say the same, and no other text is there
no_other : (other : List ℕ) → other ≢ codes "yes" → bytes_eq (codes "yes") other ≡ false
no_other other different = false_from_ne_true (bytes_eq (codes "yes") other) (λ same. different (sym ((bytes_eq-Decides (codes "yes") other).0 same)))

elected : IsElected 50 (codes "yes" ∷ codes "yes" ∷ []) (codes "yes")
elected = record {
  most = record { occurs = (0, lit< tt, refl); others = λ other different. subst (λ (b : Bool). 0 + cond b 1 0 + cond b 1 0 < 2) (sym (no_other other different)) (lit< tt) };
  enough = lit< tt;
}

-- two are, so the third ballot is skipped, and the task is completed
two_vote : Leads (vote_begun ∷ yes_of_anna ∷ yes_by 1 (clerks 3 1 4 Ready) ∷ clerks 4 2 4 Ready ∷ []) (Close 3 Completed ∷ []) (left_by 0 Completed decided ∷ yes_of_anna ∷ yes_of_ben ∷ clerks 4 2 4 Obsolete ∷ [])
two_vote =
    on {d = to (vote_begun ∷ yes_of_anna ∷ yes_of_ben ∷ clerks 4 2 4 Ready ∷ []) (Up 1 3 ∷ [])} refl
    (on {d = to (vote_begun ∷ yes_of_anna ∷ yes_of_ben ∷ clerks 4 2 4 Ready ∷ []) (Check 1 ∷ Next 1 3 ∷ [])} refl
    (on {d = to (decided ∷ yes_of_anna ∷ yes_of_ben ∷ clerks 4 2 4 Obsolete ∷ []) (Close 1 Completed ∷ [])} (_, (Some (Text (codes "yes")), inl elected, refl), refl)
    (on {d = to (left_by 0 Completed decided ∷ yes_of_anna ∷ yes_of_ben ∷ clerks 4 2 4 Obsolete ∷ []) []} refl
    (on {d = to (left_by 0 Completed decided ∷ yes_of_anna ∷ yes_of_ben ∷ clerks 4 2 4 Obsolete ∷ []) []} refl
    end))))
