use Rattle.std.proofs.Common.{◌≡◌, ◌∙◌, ◌++◌, ℕ, List, [], ◌∷◌, Bool, Option, Some, None, cond, true, ap, decimal}
use Rattle.ht_base.specs.Name.{is_name}
use Rattle.ht_load.proofs.Callers.{is_caller}
use Rattle.ht_load.proofs.requests.caller_of.Goals as goal

no : {A : Type 0} (o : Option A) (x : A) → o ≡ Some x → o ≡ None → ⊥
no o x e f = cc

pub unreachable-requires : goal.unreachable-requires
unreachable-requires c =
    let bytes = c.deref.result.now in
    let put : c.put_number.new.line.items ≡ 112 ∷ decimal c.args.number = c.put_number.ensures.text ∙ ap (λ (l : List ℕ). l ++ (112 ∷ []) ++ decimal c.args.number) c.new-name.ensures in
    let text : bytes ≡ 112 ∷ decimal c.args.number = c.deref.ensures.0 ∙ put in
    let named : is_name bytes ≡ true = ap is_name text ∙ is_caller c.args.number c.requires in
    no c.of.result bytes (c.of.ensures ∙ ap (λ (b : Bool). cond b (Some bytes) None) named) c.in-None.is
