-- One escalation more whose notification is sent.
use Rattle.std.proofs.Common.{◌≡◌, ◌∙◌, ℕ, ◌+◌, ◌<◌, Bool, true, false, List, [], ◌∷◌, ◌++◌, length, map, Option, Some, None, ap, refl, sym, drop, append_assoc, if◌then◌else◌}
use Rattle.std.specs.Prelude.{filter_map, slice_index_or}
use Rattle.std.specs.List.{cons_option}
use Rattle.std.proofs.lemmas.List.{drop_more}
use Rattle.ht_escalate.specs.Escalating.{is_triggered, triggered}
use Rattle.ht_models.specs.Model.{EscalationOf}
use Rattle.ht_models.specs.Shown as shown
use Rattle.ht_models.specs.declared.model.Escalation.{Escalation}
use Rattle.ht_finding.specs.Assigning.{Sight}
use Rattle.ht_tree.specs.declared.notice.Notice.{Notice}

module _ (N : EscalationOf → Option Notice) (s : Sight) where
  abbrev pub sent : List Escalation → List Notice
  sent es = filter_map N (triggered s (map shown.escalation_of es))

  first_sent : (e : Escalation) (rest : List Escalation) → sent (e ∷ rest) ≡ cons_option (if is_triggered s (shown.escalation_of e) then N (shown.escalation_of e) else None) (sent rest)
  first_sent e rest = by (is_triggered s (shown.escalation_of e)) refl
    where
      by : (b : Bool) → is_triggered s (shown.escalation_of e) ≡ b → sent (e ∷ rest) ≡ cons_option (if is_triggered s (shown.escalation_of e) then N (shown.escalation_of e) else None) (sent rest)
      by true is = rw is refl
      by false is = rw is refl

  behind : (found rest : List Notice) (o : Option Notice) → (found ++ cons_option o []) ++ rest ≡ found ++ cons_option o rest
  behind found rest None = append_assoc found [] rest
  behind found rest (Some n) = append_assoc found (n ∷ []) rest

  pub told_more : (es : List Escalation) (i : ℕ) (e : Escalation) (found more all : List Notice) → i < length es → e ≡ slice_index_or es i e → found ++ sent (drop i es) ≡ all
      → (o : Option Notice) → o ≡ (if is_triggered s (shown.escalation_of e) then N (shown.escalation_of e) else None) → more ≡ found ++ cons_option o [] → more ++ sent (drop (i + 1) es) ≡ all
  told_more es i e found more all low at so_far o is put =
      let rest = drop (i + 1) es in
      let here : drop i es ≡ e ∷ rest = drop_more es i e low ∙ ap (λ x. x ∷ rest) (sym at) in
      ap (λ l. l ++ sent rest) put ∙ behind found (sent rest) o
      ∙ ap (λ l. found ++ l) (ap (λ x. cons_option x (sent rest)) is ∙ sym (first_sent e rest) ∙ ap sent (sym here))
      ∙ so_far
