-- From what is found to the result: the empty text where none is found, and nothing of no values.
use Rattle.std.proofs.Common.{◌≡◌, ℕ, ℤ, false, List, [], Option, Some, None, Result, IfOk, MatchOption, refl, sym, ap, ◌∙◌, subst, inl, inr, length, ◌↔◌}
use Rattle.std.specs.Prelude.{IsNone, unwrap_or}
use Rattle.std.specs.Option.{is_some}
use Rattle.std.proofs.lemmas.Bool.{false≢true}
use Rattle.std.proofs.lemmas.List.{nil_from_length}
use Rattle.std.proofs.lemmas.Result.{IfOk-weaker}
use Rattle.ht_base.specs.declared.how.How.{How}
use Rattle.ht_base.specs.Kinds.{kind_of_how}
use Rattle.ht_base.specs.declared.kind.Kind.TheVariants as kind
use Rattle.ht_base.specs.declared.memory.Memory.{Memory}
use Rattle.ht_base.specs.declared.value.Value.{Value}
use Rattle.ht_base.specs.declared.value.Value.TheVariants.{Text}
use Rattle.ht_aggregate.specs.Aggregates.{IsText, NeedsValues}
use Rattle.ht_aggregate.specs.Frequencies.{IsOneOrEmpty}
use Rattle.ht_aggregate.specs.Searching.{IsOneOrNone}
use Rattle.ht_aggregate.specs.Given.{numbers}
use Rattle.ht_aggregate.proofs.OneKind.{AreOf, length-numbers}

IsText-weaker : (P Q : List ℕ → Type 0) → ((t : List ℕ) → P t → Q t) → (r : Option Value) → IsText P r → IsText Q r
IsText-weaker P Q to (Some (Text t)) h = to t h
IsText-weaker P Q to _ h = h

pub one_or_empty : (P : List ℕ → Type 0) (o : Option (List ℕ)) → IsOneOrNone P o → (t : List ℕ) → t ≡ unwrap_or o [] → IsOneOrEmpty P t
one_or_empty P None none t e = inr (none, e)
one_or_empty P (Some x) one t e = inl (subst P (sym e) one)

-- the text that is found, or the empty one
pub text_found : (P : List ℕ → Type 0) (o : Option (List ℕ)) (r : Result (Option Value) Memory) → IsOneOrNone P o
    → IfOk r (IsText (λ t. t ≡ unwrap_or o [])) → IfOk r (IsText (IsOneOrEmpty P))
text_found P o r found h =
    IfOk-weaker r (IsText (λ t. t ≡ unwrap_or o [])) (IsText (IsOneOrEmpty P)) (IsText-weaker (λ t. t ≡ unwrap_or o []) (IsOneOrEmpty P) (one_or_empty P o found)) h

no_numbers : (vs : List Value) → AreOf kind.Int vs → numbers vs ≡ [] → vs ≡ []
no_numbers vs of none = nil_from_length vs (sym (length-numbers vs of) ∙ ap length none)

none_of_none : (P : List ℤ → ℤ → Type 0) → ((n : ℤ) → P [] n → ⊥) → (vs : List Value) → AreOf kind.Int vs → (o : Option ℤ)
    → MatchOption o (numbers vs ≡ []) (P (numbers vs)) → (is_some o ≡ false → vs ≡ []) × (vs ≡ [] → is_some o ≡ false)
none_of_none P never vs of None h = (λ _. no_numbers vs of h, λ _. refl)
none_of_none P never vs of (Some n) h = (λ e. absurd (false≢true (sym e)), λ e. absurd (never n (subst (λ l. P (numbers l) n) e h)))

-- a number is found exactly where there are values
pub none_exactly : (P : List ℤ → ℤ → Type 0) → ((n : ℤ) → P [] n → ⊥) → (h : How) → NeedsValues h → kind_of_how h ≡ kind.Int
    → (vs ws : List Value) → AreOf (kind_of_how h) vs → ws ≡ vs → (o : Option ℤ) → MatchOption o (numbers ws ≡ []) (P (numbers ws))
    → (r : Option Value) → is_some r ≡ is_some o → IsNone r ↔ (NeedsValues h × (vs ≡ []))
none_exactly P never h needs kinds vs ws of same o found r as_found =
    let ints = subst (λ k. AreOf k vs) kinds of in
    let both = none_of_none P never vs ints o (subst (λ l. MatchOption o (numbers l ≡ []) (P (numbers l))) same found) in
    (λ none. (needs, both.0 (sym as_found ∙ none)), λ empty. as_found ∙ both.1 empty.1)
