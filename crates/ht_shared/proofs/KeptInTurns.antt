-- What a turn leaves in the hands of its pass.
use Rattle.std.proofs.Common.{◌≡◌, ℕ, List, [], ◌∷◌, Some, Option, sym, ap, ◌∙◌, subst, ◌++◌}
use Rattle.atomic_table.specs.Table.{Me, rest}
use Rattle.ht_base.specs.History.{Entry, IsLegal, end_of, own}
use Rattle.ht_shared.specs.declared.view.View.{View}
use Rattle.ht_shared.specs.Plays.{holder, arrived, IsIn, made}
use Rattle.ht_shared.specs.Standing.{HasActed, called, Acts}
use Rattle.ht_shared.proofs.Lists.{legal_on, some_value}

pub taken : {T : Type 0} (cs : List (ℕ × Option T)) (x : T) → cs ≡ (0, Some x) ∷ [] → (y : Option T) × (cs ≡ (0, y) ∷ rest cs)
taken {T} cs x h = (Some x, h ∙ ap (λ (ds : List (ℕ × Option T)). (0, Some x) ∷ rest ds) (sym h))

module _ {T E R : Type 0} (relates : T → E → R → T → Type 0) (stands : T → Type 0) (event : E) (reply : R) where
  acts_at : (v : View T E R) (n : ℕ) (m w : Me (Option T) (View T E R)) → IsIn relates stands (holder v n, []) m → HasActed relates event reply m w → Acts relates v event reply w
  acts_at v n m w turn entry =
      let history = turn.history in
      let done : HasActed relates event reply (arrived (holder v n) history, (0, Some turn.value) ∷ []) w = subst (λ (z : Me (Option T) (View T E R)). HasActed relates event reply z w) turn.after entry in
      let e : Entry T E R = made v.number event reply done.1 in
      let same : history ≡ v.seen ++ turn.is_beginning.0 = sym turn.is_beginning.1 in record {
        after = done.1;
        between = turn.is_beginning.0;
        is = done.4 ∙ ap (λ l. (called v (l ++ e ∷ []), [])) same;
        legal = λ s h. subst (λ l. IsLegal relates s (l ++ e ∷ [])) same (legal_on relates s history e (turn.legal s h) (subst (λ (z : T). relates (end_of z history) event reply done.1) (some_value (sym done.2 ∙ h)) done.3));
        own_seen = λ k has. ap (own k) (sym same) ∙ turn.own_seen k has;
        own_once = turn.own_once;
      }

  pub acts : (n : ℕ) (old mid m w : Me (Option T) (View T E R)) → mid ≡ (holder old.0 n, []) → IsIn relates stands mid m → HasActed relates event reply m w → Acts relates old.0 event reply w
  acts n old mid m w drawn turn entry = acts_at old.0 n m w (subst (λ (z : Me (Option T) (View T E R)). IsIn relates stands z m) drawn turn) entry
