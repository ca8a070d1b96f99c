-- A command is refused for the first of its refusals.
use Rattle.std.proofs.Common.{◌≡◌, ℕ, List, [], ◌∷◌, ◌++◌, Option, None, Some, refl, sym, ap, subst, ◌∙◌}
use Rattle.std.specs.Option.{option_map_or, option_or}
use Rattle.std.specs.Prelude.{is_some, if◌then◌else◌}
use Rattle.ht_base.specs.declared.event.Command.{Command}
use Rattle.ht_base.specs.declared.event.Command.TheVariants as command
use Rattle.ht_base.specs.declared.moment.Moment.{Moment}
use Rattle.ht_base.specs.declared.parts.Parts.{Parts}
use Rattle.ht_base.specs.declared.operation.Op.TheVariants as op
use Rattle.ht_base.specs.declared.reply.Refusal.{Refusal}
use Rattle.ht_base.specs.declared.reply.Refusal.TheVariants as refusal
use Rattle.ht_base.specs.declared.state.State.{State}
use Rattle.ht_base.specs.Events.{op_of}
use Rattle.ht_compose.specs.ByHand.{entry_of}
use Rattle.ht_machine.specs.Commands.{AfterEffect, BehindGate, Comes, Consequence, Creates, DoesOn, GathersFirst, HasEffect, MakesByHand, MakesEntry, accepted, refused, waits_until, why_not}
use Rattle.ht_machine.specs.Gate.{Gate, gate, opens, shuts}
use Rattle.ht_machine.specs.Refusals.{ComesOf, GathersBehind, IsRefusedInOrder, no_entry, of_task, row_refusals, why_shut}
use Rattle.ht_models.specs.Model.{ModelOf}
use Rattle.ht_owner.specs.Effects.{leaves, prepared, unless}
use Rattle.ht_owner.specs.Faults.{fault, faults, first_of, no_output}
use Rattle.ht_owner.specs.Moving.{ending}
use Rattle.ht_tree.specs.declared.row.Row.{Row}
use Rattle.ht_tree.specs.Tables.{TablesOf, directory, model_of, task_row}

first_append : (xs ys : List (Option Refusal)) → first_of (xs ++ ys) ≡ option_or (first_of xs) (first_of ys)
first_append [] ys = refl
first_append (None ∷ xs) ys = first_append xs ys
first_append (Some why ∷ xs) ys = refl

refused_for : (why : Refusal) (o : Consequence) → o ≡ refused why → ComesOf (Some why) o
refused_for why o is = let C : Consequence → Type 0 = λ x. ComesOf (Some why) x in subst C (sym is) refl

of_list : (u : TablesOf) (task : ℕ) (row : Row) (m : ModelOf) (why : Row → ModelOf → List (Option Refusal)) → task_row u task ≡ Some row → model_of u row ≡ Some m → of_task u task why ≡ why row m
of_list u task row m why there of =
    ap (λ (o : Option Row). option_map_or (λ r. option_map_or (why r) (model_of u r) []) o []) there
    ∙ ap (λ (o : Option ModelOf). option_map_or (why row) o []) of

module _ (u : TablesOf) (caller moment task : ℕ) where
  abbrev now : Moment
  now = record { 0 = moment }

  -- ---- an effect

  by_effect : (v : TablesOf) (c : Command) (row : Row) (o : Consequence) (f n : Option Refusal) (end : Option State) → AfterEffect v moment task (unless f (unless n (leaves (directory v) caller c row end))) o → ComesOf (option_or f (first_of (n ∷ []))) o
  by_effect v c row o (Some why) n end is = refused_for why o is
  by_effect v c row o None (Some why) end is = refused_for why o is
  by_effect v c row (accepted w about) None None end is = tt
  by_effect v c row (refused why) None None (Some end) is = is
  by_effect v c row (refused why) None None None is = is

  effect_comes : (v : TablesOf) (c : Command) (o : Consequence) → HasEffect v caller moment task c o → ComesOf (first_of (of_task v task (row_refusals v caller now c))) o
  effect_comes v c o (row, m, there, of, is) =
      let new = prepared (directory v) m caller now c row in
      let n = no_output m new c in
      let C : Option Refusal → Type 0 = λ r. ComesOf r o in
      let list = ap first_of (of_list v task row m (row_refusals v caller now c) there of) ∙ first_append (faults v m now row c) (n ∷ []) in
      subst C (sym list) (by_effect v c new o (fault v m now row c) n (ending new.state (op_of c)) is)

  -- ---- behind the gate

  abbrev Does : Command → Consequence → Type 0
  Does c o = (v : TablesOf) × GathersFirst c task u v × HasEffect v caller moment task c o

  abbrev InOrder : Gate → Command → Consequence → (TablesOf → List (Option Refusal)) → Type 0
  InOrder g c o rest = (v : TablesOf) × GathersBehind g c task u v × ComesOf (first_of (why_shut g ∷ rest v)) o

  acted : (c : Command) (o : Consequence) → (DoesOn u caller moment task c o → Does c o) → (g : Gate) → BehindGate u caller moment task c g o → InOrder g c o (λ v. of_task v task (row_refusals v caller now c))
  acted c o done (shuts why) is = (u, refl, refused_for why o is)
  acted c o done (opens row) is = let d = done is in (d.0, d.1, effect_comes d.0 c o d.2)

  entry_comes : (name : List ℕ) (found : Option ℕ) (o : Consequence) → MakesEntry u moment task name found o → ComesOf (first_of ((if is_some found then None else Some (refusal.SubRefused name)) ∷ [])) o
  entry_comes name None o is = refused_for (refusal.SubRefused name) o is
  entry_comes name (Some entry) (accepted v about) is = tt
  entry_comes name (Some entry) (refused why) is = is

  made : (name : List ℕ) (o : Consequence) → MakesByHand u moment task name o → ComesOf (first_of (of_task u task (no_entry u task name))) o
  made name o (found, (row, m, there, of, is), makes) =
      let C : List (Option Refusal) → Type 0 = λ l. ComesOf (first_of l) o in
      let M : Option ℕ → Type 0 = λ f. MakesEntry u moment task name f o in
      subst C (sym (of_list u task row m (no_entry u task name) there of)) (entry_comes name (entry_of u.rows m task name) o (subst M is makes))

  instantiated : (name : List ℕ) (o : Consequence) (g : Gate) → BehindGate u caller moment task (command.InstantiateSubTask name) g o → InOrder g (command.InstantiateSubTask name) o (λ v. of_task u task (no_entry u task name))
  instantiated name o (shuts why) is = (u, refl, refused_for why o is)
  instantiated name o (opens row) is = (u, refl, made name o is)

  -- ---- a create

  created : (name : Option (List ℕ)) (input : Parts) (waits : Option Moment) (o : Consequence) → Creates u caller moment name input waits o → ComesOf (why_not u name input) o
  created name input waits (accepted v about) is = let C : Option Refusal → Type 0 = λ r. ComesOf r (accepted v about) in subst C (sym is.0) tt
  created name input waits (refused why) is = let C : Option Refusal → Type 0 = λ r. ComesOf r (refused why) in subst C (sym is) refl

  not_gathered : (g : Gate) (name : Option (List ℕ)) (input : Parts) (at : Option Moment) → GathersBehind g (command.Create name input at) task u u
  not_gathered (opens row) name input at = refl
  not_gathered (shuts why) name input at = refl

  pub in_order : (c : Command) (o : Consequence) → Comes u caller moment task c o → IsRefusedInOrder u caller now task c o
  in_order (command.Create name input at) o is = (u, not_gathered (gate u op.Create caller task) name input at, created name input (waits_until moment at) o is)
  in_order (command.InstantiateSubTask name) o is = instantiated name o (gate u op.InstantiateSubTask caller task) is
  in_order c o is = acted c o (λ d. d) (gate u (op_of c) caller task) is
