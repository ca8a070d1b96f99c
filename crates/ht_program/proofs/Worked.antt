-- A connection that was served by a machine on a disk was served by the office that is on it.
use Rattle.std.proofs.Common.{◌≡◌, ◌≢◌, ◌≤◌, ℕ, false, List, [], ◌∷◌, Option, Some, refl, sym, ap, subst, ◌∙◌}
use Rattle.std.specs.List.{AllByRecursion}
use Rattle.ht_base.specs.declared.event.Event.{Event}
use Rattle.ht_base.specs.declared.reply.Reply.{Reply}
use Rattle.ht_base.specs.History.{Entry, IsLegal, end_of}
use Rattle.ht_desk.specs.declared.desk_state.DeskState.{DeskState}
use Rattle.ht_desk.specs.Keeping.{IsAt}
use Rattle.ht_desk.specs.Replaying.{TextsOf}
use Rattle.ht_desk.specs.States.{State}
use Rattle.ht_desk.specs.Stepping.{AnswersWith}
use Rattle.ht_desk.specs.Steps.{Steps, store_reply}
use Rattle.ht_journal.specs.Rooms.{IsRoomy}
use Rattle.ht_outside.specs.Causes.{together}
use Rattle.ht_outside.specs.Clocks.{moment_of}
use Rattle.ht_outside.specs.declared.disk.Disk.{Ghosts}
use Rattle.ht_serve.specs.declared.ending.Ending.{Ending}
use Rattle.ht_serve.specs.Calls.{Call, StepsMade}
use Rattle.ht_serve.specs.Exchanges.{calls}
use Rattle.ht_serve.specs.Serving.{Served, Sides, sides}
use Rattle.ht_program.specs.Inputs.{budget}
use Rattle.ht_program.specs.Running.{NoneFailed, Streams}
use Rattle.ht_program.specs.Words.WorkOf.{running}
use Rattle.ht_program.specs.Working.{DidOver}
use Rattle.ht_program.proofs.Folded.{ran}
use Rattle.ht_program.proofs.Simulated.{simulated}

-- the same connection, of whose calls something else is said
abbrev with_made : (P Q : List Call → Type 0) (most : ℕ) (old new : Sides) (e : Ending) (s : Served P ⊥ false most 0 old new [] e) → Q (calls s.exchanges) → Served Q ⊥ false most 0 old new [] e
with_made P Q most old new e s made = record {
  exchanges = s.exchanges;
  taken = s.taken;
  takes = s.takes;
  rest = s.rest;
  serves = record { stand = s.serves.stand; numbered = s.serves.numbered; made = made; away = s.serves.away };
  clock = s.clock;
  ends = s.ends;
  later = s.later;
}

module _ {D A N : Type 0} (d : Ghosts D) (disk : A → D) (desk : A → DeskState) (name : A → N) where
  abbrev pub Moves : A → Event → Reply → A → Type 0
  Moves old event reply new = (name new ≡ name old) × AnswersWith d event reply (desk old) (desk new) (disk old) (disk new)

  -- it keeps its disk
  kept : (a : A) (es : List (Entry A Event Reply)) → IsLegal Moves a es → name (end_of a es) ≡ name a
  kept a [] legal = refl
  kept a (e ∷ es) legal = kept e.after es legal.1 ∙ (legal.0).0

  pub same_disk : (a b : A) (made : List Call) → StepsMade Moves a b made → name b ≡ name a
  same_disk a b made steps = ap name (sym steps.ends) ∙ kept a steps.history steps.legal

  module _ (beside : ℕ) (texts : TextsOf) (a : A) (s : State) where
    abbrev Roomy : Type 0
    Roomy = IsRoomy (d.room (disk a)) s.limit

    record Goes (b : A) (t : State) : Type 0 where
      at : IsAt d beside texts t (desk b) (disk b)
      room : d.room (disk b) ≡ d.room (disk a)
      limit : ((desk b).journal).limit ≡ s.limit
      still : Roomy → d.faults (disk b) ≡ d.faults (disk a)

    abbrev Each : Call → Type 0
    Each c = Roomy → (c.reply).answer ≢ store_reply.answer

    roomy_still : (b : A) (t : State) → Goes b t → Roomy → IsRoomy (d.room (disk b)) ((desk b).journal).limit
    roomy_still b t goes roomy = record { most = roomy.most; is = goes.room ∙ roomy.is; enough = subst (λ (n : ℕ). n ≤ roomy.most) (sym goes.limit) roomy.enough }

    follows : (b : A) (e : Event) (r : Reply) (c : A) (t : State) → Moves b e r c → Goes b t → (u : State) × Steps t e r u × Goes c u × Each (record { event = e; reply = r })
    follows b e r c t moves goes =
        let answers = moves.1 in
        let made = answers.steps beside texts t goes.at in
        let safe : Roomy → r.answer ≢ store_reply.answer = λ roomy. answers.in_room (roomy_still b t goes roomy) in (
          made.0,
          made.1,
          record { at = made.2; room = answers.room ∙ goes.room; limit = answers.limit ∙ goes.limit; still = λ roomy. answers.still (safe roomy) ∙ goes.still roomy },
          safe,
        )

    all_safe : (made : List Call) → AllByRecursion Each made → Roomy → NoneFailed made
    all_safe [] each roomy = tt
    all_safe (c ∷ cs) each roomy = (each.0 roomy, all_safe cs each.1 roomy)

    begins : IsAt d beside texts s (desk a) (disk a) → Goes a s
    begins at = record { at = at; room = refl; limit = sym at.limited; still = λ roomy. refl }

  pub ran_over : (from step : ℕ) (a b : A) (old new : Streams) (clock : Option (ℕ → ℕ)) (e : Ending) → Served (StepsMade Moves a b) ⊥ false budget 0 (sides old.input old.output (Some (moment_of from step))) (sides new.input new.output clock) [] e → DidOver d (running from step) (desk a) (disk a) (disk b) old new e
  ran_over from step a b old new clock e served = λ beside texts s at.
      let made = simulated (Goes beside texts a s) Moves Steps (Each beside texts a s) (follows beside texts a s) a b s (calls served.exchanges) (served.serves).made (begins beside texts a s at) in
      let here = with_made (StepsMade Moves a b) (StepsMade Steps s made.0) budget _ _ e served made.1 in
      let goes = made.2 in (
        made.0,
        desk b,
        ran (moment_of from step) budget s made.0 old new clock e here,
        goes.at,
        (λ roomy. ((goes.at).failures ∙ ap (λ (n : ℕ). together n beside) (goes.still roomy) ∙ sym at.failures, all_safe beside texts a s (calls served.exchanges) made.3 roomy)),
      )

-- what holds of a disk holds of the one that it ends as
pub through : {D P : Type 0} (Q : D → Type 0) (y : D) (given : (x : D) × (P → x ≡ y)) → P → Q y → Q given.0
through Q y given p q = subst Q (sym (given.1 p)) q
