-- A crew that ran at a machine on a disk ran at the office that is on it.
use Rattle.std.proofs.Common.{◌≡◌, ℕ, List, [], ◌∷◌, refl, sym, ap, subst, ◌∙◌, map, Result, Ok, Err, is_err, true}
use Rattle.ht_base.specs.History.{Entry, IsLegal, end_of}
use Rattle.ht_base.specs.Readings.{Carries, Reads, call_of}
use Rattle.ht_base.proofs.Readings.{read, reads_calls, reads_end, reads_legal}
use Rattle.ht_base.specs.declared.event.Event.{Event}
use Rattle.ht_base.specs.declared.reply.Reply.{Reply}
use Rattle.ht_desk.specs.declared.desk_state.DeskState.{DeskState}
use Rattle.ht_desk.specs.Keeping.{IsAt}
use Rattle.ht_desk.specs.Replaying.{TextsOf}
use Rattle.ht_desk.specs.States.{State}
use Rattle.ht_desk.specs.Stepping.{AnswersWith}
use Rattle.ht_desk.specs.Steps.{Steps}
use Rattle.ht_doors.specs.Doors.{DoorState}
use Rattle.ht_outside.specs.Causes.{HasCause}
use Rattle.ht_outside.specs.Tells.{SinkState}
use Rattle.ht_outside.specs.declared.disk.Disk.{Ghosts}
use Rattle.ht_pool.specs.declared.crew.Crew.{Crew}
use Rattle.ht_pool.specs.Crews.{IsCrewOf, RunsCrew, Said}
use Rattle.ht_pool.proofs.PublicLaws.{not_begun}
use Rattle.ht_workers.specs.declared.working.WorkEnd.{WorkEnd}
use Rattle.ht_workers.specs.declared.working.WorkEnd.TheVariants as ended
use Rattle.ht_server.specs.declared.service.ServiceEnd.{ServiceEnd}
use Rattle.ht_server.specs.declared.service.ServiceEnd.TheVariants as end
use Rattle.ht_server.specs.Moves.{Moves}
use Rattle.ht_server.specs.Services.{EndsService, Served, ServesOver, counts_line}

module _ {D A N : Type 0} (d : Ghosts D) (disk : A → D) (desk : A → DeskState) (name : A → N) where
  abbrev Steps1 : A → Event → Reply → A → Type 0
  Steps1 old event reply new = Moves d disk desk name old event reply new

  pub same_disk : (a : A) (es : List (Entry A Event Reply)) → IsLegal Steps1 a es → name (end_of a es) ≡ name a
  same_disk a [] legal = refl
  same_disk a (e ∷ es) legal = same_disk e.after es legal.1 ∙ legal.0.0

  module _ (crew : Crew) (a b : A) (old new : DoorState) (ending : WorkEnd) (ran : RunsCrew Steps1 crew a b old new ending) where
    pub still_there : name b ≡ name a
    still_there = ap name (sym ran.after_is) ∙ same_disk a ran.history ran.legal

    module _ (beside : ℕ) (texts : TextsOf) where
      abbrev IsOn : State → A → Type 0
      IsOn s x = IsAt d beside texts s (desk x) (disk x)

      carries : (x : A) (e : Event) (r : Reply) (y : A) → Steps1 x e r y → Carries IsOn Steps x e r y
      carries x e r y moves = λ s at. let t = moves.1.steps beside texts s at in (t.0, t.1, t.2)

      pub followed : (s : State) → IsOn s a → (t : State) × RunsCrew Steps crew s t old new ending × IsOn t b
      followed s at =
          let k = read IsOn Steps Steps1 carries s a ran.history at ran.legal in (
            end_of s k.0,
            record {
              history = k.0;
              legal = reads_legal IsOn Steps s a k.0 ran.history k.1;
              after_is = refl;
              crew_is = subst (λ (said : List Said). IsCrewOf crew said old new ending) (sym (reads_calls IsOn Steps s a k.0 ran.history k.1)) ran.crew_is;
            },
            subst (λ (x : A). IsOn (end_of s k.0) x) ran.after_is (reads_end IsOn Steps s a k.0 ran.history k.1),
          )

    pub serves_over : (out_old out_new : SinkState) (told : ServiceEnd) → EndsService ending (counts_line (desk b).counts) out_old out_new told → ServesOver d crew (desk a) (disk a) (disk b) old new out_old out_new told
    serves_over out_old out_new told ends = λ beside texts s at.
        let f = followed beside texts s at in (
          f.0,
          desk b,
          record { crew_end = ending; runs = f.1; ends = subst (λ (c : _). EndsService ending (counts_line c) out_old out_new told) (sym f.2.counted) ends },
          f.2,
        )

-- a door that doesn't listen
pub listening_failed : {D E : Type 0} (d : Ghosts D) (crew : Crew) (desk : DeskState) (disk : D) (old new : DoorState) (output : SinkState) (heard : Result (Unit {0}) E) → is_err heard ≡ true → HasCause old.faults new.faults heard
    → ServesOver d crew desk disk disk old new output output end.Door
listening_failed d crew desk disk old new output (Ok done) failed cause = absurd (cc)
listening_failed d crew desk disk old new output (Err why) failed cause = λ beside texts s at.
    (s, desk, record { crew_end = ended.Door; runs = not_begun Steps crew s old new ended.Door cause.failed; ends = (refl, refl) }, at)

-- what holds of a disk holds of the one that it ends as
pub through : {D P : Type 0} (Q : D → Type 0) (y : D) (given : (x : D) × (P → x ≡ y)) → P → Q y → Q given.0
through Q y given p q = subst Q (sym (given.1 p)) q
