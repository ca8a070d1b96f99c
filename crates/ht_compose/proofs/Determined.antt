-- What an item does is determined.
use Rattle.std.proofs.Common.{◌≡◌, List, [], ◌∷◌, length, Option, None, Some, sym, subst, ◌∙◌, if◌then◌else◌}
use Rattle.ht_aggregate.proofs.PublicLaws.{one_result}
use Rattle.ht_base.specs.declared.moment.Moment.{Moment}
use Rattle.ht_base.specs.declared.value.Value.{Value}
use Rattle.ht_base.specs.declared.values.Values.{Values}
use Rattle.ht_compose.specs.Agenda.{IsDetermined}
use Rattle.ht_compose.specs.Finishes.{Sets, chosen, completed, values_for, with_result}
use Rattle.ht_compose.specs.Items.{Checks, Does, Finishes, OnModel, OnTask, Step, finished, is_checked}
use Rattle.ht_compose.specs.Items.Item.{Activate, Begin, Check, Close, Make, Next, Up}
use Rattle.ht_entries.specs.Finishes.{Setting}
use Rattle.ht_models.specs.Model.{FinishOf, ModelOf}
use Rattle.ht_tree.specs.declared.row.Row.{Row}
use Rattle.ht_tree.specs.Tables.{TablesOf, model_of, task_row}

pub one_output : (subs : List Row) (ss : List Setting) (old a b : Values) → Sets subs ss old a → Sets subs ss old b → a ≡ b
one_output subs [] old a b x y = x ∙ sym y
one_output subs (s ∷ ss) old a b (r, is, x) (q, iq, y) =
    let same : r ≡ q = one_result s.how (values_for s.how s.from subs) r q is iq in
    let P : Option Value → Type 0 = λ o. Sets subs ss (with_result s.part o old) b in
    one_output subs ss (with_result s.part r old) a b x (subst P (sym same) y)

one_finish : (u : TablesOf) (row : Row) (m : ModelOf) (o : Option FinishOf) (d e : Step) → Finishes u row m o d → Finishes u row m o e → d ≡ e
one_finish u row m None d e x y = x ∙ sym y
one_finish u row m (Some f) d e (output, sets, is) (other, setting, as_well) =
    let same : output ≡ other = one_output (completed row.task.0 (length m.subs) u.rows) f.settings row.output output other sets setting in
    let P : Values → Type 0 = λ o. e ≡ finished u row o in
    is ∙ sym (subst P (sym same) as_well)

one_check : (u : TablesOf) (o : Option Row) (d e : Step) → OnTask u (Checks u) o d → OnTask u (Checks u) o e → d ≡ e
one_check u None d e x y = x ∙ sym y
one_check u (Some row) d e x y = of_model (model_of u row) x y
  where
    of_model : (o : Option ModelOf) → OnModel u row (Checks u) o d → OnModel u row (Checks u) o e → d ≡ e
    of_model None x y = x ∙ sym y
    of_model (Some m) x y = one_finish u row m (if is_checked u row m then chosen u.rows m row else None) d e x y

pub determined : (at : Moment) → IsDetermined (Does at)
determined at u (Activate t) d e x y = x ∙ sym y
determined at u (Begin t) d e x y = x ∙ sym y
determined at u (Make t n) d e x y = x ∙ sym y
determined at u (Check t) d e x y = one_check u (task_row u t) d e x y
determined at u (Close t end) d e x y = x ∙ sym y
determined at u (Up p c) d e x y = x ∙ sym y
determined at u (Next p c) d e x y = x ∙ sym y
