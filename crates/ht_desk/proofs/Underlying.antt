-- The machine's history behind one of a desk.
use Rattle.std.proofs.Common.{◌≡◌, ◌⊎◌, inl, inr, [], ◌∷◌, Some, sym, subst, refl}
use Rattle.ht_base.specs.declared.event.Event.{Event}
use Rattle.ht_base.specs.declared.reply.Reply.{Reply}
use Rattle.ht_base.specs.History.{Entry, IsLegal, end_of}
use Rattle.ht_base.specs.Records.{RecordOf}
use Rattle.ht_machine.specs.History.{History, IsHistory}
use Rattle.ht_tree.specs.Tables.{TablesOf}
use Rattle.ht_desk.specs.Moves.{DeskHistory, IsMadeOf, IsStepOrNone, of_tables}
use Rattle.ht_desk.specs.Moves.IsMadeOf.{between, both, no_more, not_kept}
use Rattle.ht_desk.specs.Replaying.{Applies}
use Rattle.ht_desk.specs.States.{State}
use Rattle.ht_desk.specs.Steps.{Steps}
use Rattle.ht_desk.proofs.Turned.{first_moves, second_moves}

-- such a history, which leads to these tables
abbrev pub Behind : TablesOf → DeskHistory → TablesOf → Type 0
Behind t history u = (moves : History) × IsHistory t moves × IsMadeOf history moves × (end_of t moves ≡ u)

from_same : (t v u : TablesOf) (history : DeskHistory) → t ≡ v → Behind v history u → Behind t history u
from_same t v u history same is = subst (λ (x : TablesOf). Behind x history u) (sym same) is

-- with the step's own entry, or without it
own_behind : (t : TablesOf) (e : Entry State Event Reply) (es : DeskHistory) (u : TablesOf) → IsStepOrNone t e.event e.reply (e.after).tables → Behind (e.after).tables es u → Behind t (e ∷ es) u
own_behind t e es u (inl step) (moves, legal, made, at_end) = (of_tables e ∷ moves, (step, legal), both made, at_end)
own_behind t e es u (inr (same, told)) rest =
    let all = from_same t (e.after).tables u es (sym same) rest in
    (all.0, all.1, not_kept told all.2, all.3)

-- and with that of a record in doubt, if it joined the others
doubt_behind : (s mid : State) (history : DeskHistory) (u : TablesOf) → (mid.tables ≡ s.tables) ⊎ ((r : RecordOf) × (s.doubt ≡ Some r) × Applies s.tables r mid.tables) → Behind mid.tables history u → Behind s.tables history u
doubt_behind s mid history u (inl same) rest = from_same s.tables mid.tables u history (sym same) rest
doubt_behind s mid history u (inr (r, has, (kept, is, (e, reply, its, decides)))) (moves, legal, made, at_end) =
    let entry : Entry TablesOf Event Reply = record { pass = 0; event = e; reply = reply; after = mid.tables } in
    (entry ∷ moves, (inl (Some kept, decides), legal), between made, at_end)

pub desk_behind : (s : State) (history : DeskHistory) → IsLegal Steps s history → Behind s.tables history (end_of s history).tables
desk_behind s [] legal = ([], tt, no_more, refl)
desk_behind s (e ∷ es) legal =
    let p = legal.0 in
    let T : State → Type 0 = λ x. IsStepOrNone (p.mid).tables e.event e.reply x.tables in
    let own = subst T (sym p.counted) (second_moves p.mid e.event e.reply p.acted p.acts) in
    doubt_behind s p.mid (e ∷ es) (end_of s (e ∷ es)).tables (first_moves s p.mid p.settles)
    (own_behind (p.mid).tables e es (end_of s (e ∷ es)).tables own (desk_behind e.after es legal.1))
