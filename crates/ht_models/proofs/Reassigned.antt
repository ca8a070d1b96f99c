-- Models whose tasks need no owner reassign none.
use Rattle.std.proofs.Common.{◌≡◌, ◌∙◌, ℕ, false, true, List, Option, Some, None, sym}
use Rattle.std.specs.Prelude.{is_some, slice_get}
use Rattle.std.specs.List.{AllZip, list_any}
use Rattle.std.proofs.lemmas.Bool.{false_from_ne_true, or_left, or_right}
use Rattle.ht_expr.specs.Kinds.{Declared}
use Rattle.ht_expr.specs.Trees.{Tree}
use Rattle.ht_models.specs.Contradictions.{owns_without_need, reassigns}
use Rattle.ht_entries.specs.Deadlines.{DeadlineText, EscalationText}
use Rattle.ht_models.specs.Expressions.{assignment, declared}
use Rattle.ht_models.specs.Model.{DeadlineOf, EscalationOf, ModelOf}
use Rattle.ht_entries.specs.ModelEntries.{ModelEntry}
use Rattle.ht_models.specs.Reading.{IsDeadline, IsEscalation, IsIfAny, IsModel}
use Rattle.ht_models.specs.Reassigning.{ReassignOwned}
use Rattle.ht_models.specs.Refusals.{IsContradicted}
use Rattle.ht_models.proofs.Elements.{all_at, fails_at}
use Rattle.ht_models.proofs.Zips.{zip_at}

none_said : (kinds : Declared) (text : Option (List ℕ)) (said : Option Tree) → is_some text ≡ false → IsIfAny kinds assignment text said → said ≡ None
none_said kinds None said none is = is
none_said kinds (Some text) said none is = cc

unreassigned : (kinds : Declared) (d : DeadlineText) (x : DeadlineOf) → IsDeadline kinds d x → reassigns d ≡ false → (i : ℕ) (e : EscalationOf) → slice_get x.escalations i ≡ Some e → e.reassign ≡ None
unreassigned kinds d x read none i e at =
    let from = zip_at (IsEscalation kinds) d.escalations x.escalations read.escalations i e at in
    none_said kinds from.0.reassign e.reassign (fails_at (λ (e : EscalationText). is_some e.reassign) d.escalations none i from.0 from.1) from.2.reassign

module _ (t : List ModelEntry) (models : List ModelOf) (fits : (place : ℕ) → IsContradicted t place → ⊥) (are : AllZip IsModel t models) where
  -- an entry whose tasks need no owner
  none_reassigned : (place : ℕ) (e : ModelEntry) → slice_get t place ≡ Some e → e.owner_required ≡ false → list_any reassigns e.deadlines ≡ false
  none_reassigned place e at free = false_from_ne_true _ (λ some.
      let owns : owns_without_need e ≡ true = rw free (or_right _ _ some) in
      fits place (e, at, or_left _ _ (or_left _ _ (or_left _ _ (or_left _ _ (or_left _ _ owns))))))

  pub reassign_owned : ReassignOwned models
  reassign_owned place m at free =
      let from = zip_at IsModel t models are place m at in
      let none = none_reassigned place from.0 from.1 (sym from.2.owner_required ∙ free) in
      all_at _ m.deadlines (λ i x there.
      let under = zip_at (IsDeadline (declared from.0)) from.0.deadlines m.deadlines from.2.deadlines i x there in
      all_at _ x.escalations (unreassigned (declared from.0) under.0 x under.2 (fails_at reassigns from.0.deadlines none i under.0 under.1)))
