-- What goes along with a machine makes the steps that the machine makes.
use Rattle.std.proofs.Common.{◌≡◌, List, [], ◌∷◌, refl, ap, subst, ◌∙◌}
use Rattle.std.specs.List.{AllByRecursion}
use Rattle.ht_base.specs.History.{Entry, IsLegal, end_of, own}
use Rattle.ht_base.specs.declared.event.Event.{Event}
use Rattle.ht_base.specs.declared.reply.Reply.{Reply}
use Rattle.ht_serve.specs.Calls.{Call, StepsMade, call_of, calls_in}

module _ {A S : Type 0} (Goes : A → S → Type 0) (Moves : A → Event → Reply → A → Type 0) (Step : S → Event → Reply → S → Type 0) (Each : Call → Type 0)
    (follows : (a : A) (e : Event) (r : Reply) (b : A) (s : S) → Moves a e r b → Goes a s → (t : S) × Step s e r t × Goes b t × Each (record { event = e; reply = r })) where
  record Followed (s : S) (b : A) (made : List Call) : Type 0 where
    history : List (Entry S Event Reply)
    legal : IsLegal Step s history
    goes : Goes b (end_of s history)
    own_are : own 0 history ≡ history
    calls_are : calls_in history ≡ made
    each : AllByRecursion Each made

  followed : (a : A) (s : S) (es : List (Entry A Event Reply)) → IsLegal Moves a es → Goes a s → Followed s (end_of a es) (calls_in es)
  followed a s [] legal goes = record { history = []; legal = tt; goes = goes; own_are = refl; calls_are = refl; each = tt }
  followed a s (e ∷ es) legal goes =
      let one = follows a e.event e.reply e.after s legal.0 goes in
      let rest = followed e.after one.0 es legal.1 one.2 in
      let first : Entry S Event Reply = record { pass = 0; event = e.event; reply = e.reply; after = one.0 } in
      record {
        history = first ∷ rest.history;
        legal = (one.1, rest.legal);
        goes = rest.goes;
        own_are = ap (λ (l : List (Entry S Event Reply)). first ∷ l) rest.own_are;
        calls_are = ap (λ (cs : List Call). call_of first ∷ cs) rest.calls_are;
        each = (one.3, rest.each);
      }

  pub simulated : (a b : A) (s : S) (made : List Call) → StepsMade Moves a b made → Goes a s → (t : S) × StepsMade Step s t made × Goes b t × AllByRecursion Each made
  simulated a b s made steps goes =
      let f = followed a s steps.history steps.legal goes in (
        end_of s f.history,
        record { history = f.history; legal = f.legal; ends = refl; own_are = f.own_are; calls_are = f.calls_are ∙ steps.calls_are },
        subst (λ (x : A). Goes x (end_of s f.history)) steps.ends f.goes,
        subst (λ (cs : List Call). AllByRecursion Each cs) steps.calls_are f.each,
      )
