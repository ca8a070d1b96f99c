-- Calls one behind another.
use Rattle.std.proofs.Common.{◌≡◌, List, [], ◌∷◌, ◌++◌, refl, sym, ap, subst, ◌∙◌, ◌==◌}
use Rattle.std.proofs.lemmas.List.{map-append}
use Rattle.std.proofs.lemmas.List.Elements.{filter-append}
use Rattle.ht_base.specs.History.{Entry, IsLegal, end_of, own}
use Rattle.ht_base.specs.declared.event.Event.{Event}
use Rattle.ht_base.specs.declared.reply.Reply.{Reply}
use Rattle.ht_serve.specs.Calls.{Call, StepsMade, call_of, calls_in}

module _ {S : Type 0} (Step : S → Event → Reply → S → Type 0) where
  legal_on : (s : S) (xs ys : List (Entry S Event Reply)) → IsLegal Step s xs → IsLegal Step (end_of s xs) ys → IsLegal Step s (xs ++ ys)
  legal_on s [] ys a b = b
  legal_on s (x ∷ xs) ys a b = (a.0, legal_on x.after xs ys a.1 b)

  end_on : (s : S) (xs ys : List (Entry S Event Reply)) → end_of s (xs ++ ys) ≡ end_of (end_of s xs) ys
  end_on s [] ys = refl
  end_on s (x ∷ xs) ys = end_on x.after xs ys

  own_on : (xs ys : List (Entry S Event Reply)) → own 0 xs ≡ xs → own 0 ys ≡ ys → own 0 (xs ++ ys) ≡ xs ++ ys
  own_on xs ys a b = filter-append (λ (e : Entry S Event Reply). e.pass == 0) xs ys ∙ (λ i. a i ++ b i)

  calls_on : (xs ys : List (Entry S Event Reply)) → calls_in (xs ++ ys) ≡ calls_in xs ++ calls_in ys
  calls_on xs ys = map-append call_of xs ys

  pub steps_more : (s t u : S) (xs ys : List Call) → StepsMade Step s t xs → StepsMade Step t u ys → StepsMade Step s u (xs ++ ys)
  steps_more s t u xs ys a b = record {
    history = a.history ++ b.history;
    legal = legal_on s a.history b.history a.legal (subst (λ (x : S). IsLegal Step x b.history) (sym a.ends) b.legal);
    ends = end_on s a.history b.history ∙ ap (λ x. end_of x b.history) a.ends ∙ b.ends;
    own_are = own_on a.history b.history a.own_are b.own_are;
    calls_are = calls_on a.history b.history ∙ ap (λ c. c ++ calls_in b.history) a.calls_are ∙ ap (λ c. xs ++ c) b.calls_are;
  }

  pub steps_none : (s : S) → StepsMade Step s s []
  steps_none s = record { history = []; legal = tt; ends = refl; own_are = refl; calls_are = refl }

  pub steps_one : (s t : S) (e : Event) (r : Reply) → Step s e r t → StepsMade Step s t (record { event = e; reply = r } ∷ [])
  steps_one s t e r step =
      let entry : Entry S Event Reply = record { pass = 0; event = e; reply = r; after = t } in
      record { history = entry ∷ []; legal = (step, tt); ends = refl; own_are = refl; calls_are = refl }
