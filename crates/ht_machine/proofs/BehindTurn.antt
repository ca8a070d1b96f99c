-- What is left where a turn comes first.
use Rattle.std.proofs.Common.{◌≡◌, ◌≤◌, ℕ, zero, suc, Option, None, Some, refl, ap, sym, subst, ◌∙◌}
use Rattle.ht_base.specs.declared.record.Record.{Record}
use Rattle.ht_base.specs.declared.record.Record.TheVariants as record_of
use Rattle.ht_base.specs.declared.reply.Answer.{Answer}
use Rattle.ht_base.specs.declared.reply.Answer.TheVariants.{Turned}
use Rattle.ht_base.specs.Moment.{last_moment}
use Rattle.ht_machine.specs.declared.asking.CommandAt.{CommandAt}
use Rattle.ht_machine.specs.Deciding.{Asks, Behind, Rests, kept_at, last_after, left_with}
use Rattle.ht_machine.specs.Planning.{Leaves, Makes, PlansAsk}
use Rattle.ht_machine.specs.Turning.{IsTurn, Turns}
use Rattle.ht_machine.proofs.Asked.{stays}
use Rattle.ht_tree.specs.Plans.{IsSoundPlan, PlanOf, no_plan, planned}
use Rattle.ht_tree.specs.Soundness.{IsSound}
use Rattle.ht_tree.specs.Tables.{TablesOf, at_moment}
use Rattle.ht_tree.proofs.PublicLaws.{no_plan_fits, planned_nothing, sound_at}

-- where nothing is planned the tables are as they are
pub nothing_planned : (t : TablesOf) (p : PlanOf) → p ≡ no_plan → IsSound t → IsSoundPlan t p
nothing_planned t p none sound =
    let S : TablesOf → Type 0 = λ u. IsSound u in
    record { fits = no_plan_fits t p none; sound = subst S (sym (planned_nothing t p none)) sound }

-- ---- the record that is left

left_makes : (t : TablesOf) (p : PlanOf) (moment n : ℕ) (own : Option Record) (u : TablesOf) → t.last ≤ moment → moment ≤ last_moment → Makes t p own u → Makes t p (left_with moment n own) u
left_makes t p moment n (Some k) u later within makes = makes
left_makes t p moment zero None u later within makes = makes
left_makes t p moment (suc n) None u later within makes = record { fits = makes.fits; makes = makes.makes; sound = makes.sound; later = later; within = within }

last_of : (t : TablesOf) (p : PlanOf) (left : Option Record) → last_after (planned t p) left ≡ last_after t left
last_of t p None = refl
last_of t p (Some (record_of.Opening models people)) = refl
last_of t p (Some (record_of.Turn at)) = refl
last_of t p (Some (record_of.Asked at caller retry task command)) = refl

-- the moment of the record becomes the last one
kept_leaves : (t : TablesOf) (p : PlanOf) (left : Option Record) (u : TablesOf) → Makes t p left u → Leaves t p left (kept_at left u)
kept_leaves t p left u makes =
    let same : last_after u left ≡ last_after t left = ap (λ (x : TablesOf). last_after x left) (sym makes.makes) ∙ last_of t p left in
    let S : ℕ → Type 0 = λ m. IsSound (at_moment u m) in
    record {
      fits = makes.fits;
      makes = ap (λ (x : TablesOf). at_moment x (last_after t left)) makes.makes ∙ ap (λ (m : ℕ). at_moment u m) (sym same);
      sound = subst S (sym same) (sound_at u (last_after t left) makes.sound makes.within);
      later = makes.later;
    }

-- ---- the turn

module _ (t : TablesOf) (start p : PlanOf) (moment n : ℕ) (none : start ≡ no_plan) (turns : Turns t start p moment n) where
  from : planned t start ≡ t
  from = planned_nothing t start none

  turn_is : IsTurn moment t turns.dues turns.after
  turn_is = let P : TablesOf → Type 0 = λ u. IsTurn moment u turns.dues turns.after in subst P from turns.turn

  sound_after : IsSound (planned t p)
  sound_after = let S : TablesOf → Type 0 = λ u. IsSound u in subst S (sym (turns.goes).to) turns.sound

  -- alone
  pub turn_plans : moment ≤ last_moment → t.last ≤ moment → (left : Option Record) → left ≡ left_with moment n None → (after : TablesOf) × Behind t moment Rests left (record { taken = n; answer = Turned }) after × Leaves t p left after
  turn_plans within later left is =
      let M : TablesOf → Type 0 = λ u. Makes t p None u in
      let makes : Makes t p None turns.after = subst M (turns.goes).to (stays t p (turns.goes).fits sound_after) in
      let K : Option Record → Type 0 = λ k. Makes t p k turns.after in (
        kept_at left turns.after,
        record {
          turned = turns.after;
          dues = turns.dues;
          turn = turn_is;
          taken = turns.count;
          own = None;
          acted = turns.after;
          does = ((refl, refl), refl);
          left_is = is ∙ ap (λ (k : ℕ). left_with moment k None) turns.count;
          after_is = refl;
        },
        kept_leaves t p left turns.after (subst K (sym is) (left_makes t p moment n None turns.after later within makes)),
      )

  -- and a command behind it
  pub then_asks : (a : CommandAt) (q r : PlanOf) (own left : Option Record) (answer : Answer) → q ≡ record p { marked = p.changes } → moment ≤ last_moment → t.last ≤ moment → left ≡ left_with moment n own → PlansAsk t q r moment a.caller a.retry a.task a.command.now own answer → (after : TablesOf) × Behind t moment (λ u. Asks u moment a.caller a.retry a.task a.command.now) left (record { taken = n; answer = answer }) after × Leaves t r left after
  then_asks a q r own left answer marked within later is asks =
      let same : planned t q ≡ turns.after = ap (λ (x : PlanOf). planned t x) marked ∙ (turns.goes).to in
      let A : TablesOf → Type 0 = λ u. Asks u moment a.caller a.retry a.task a.command.now own answer asks.after in
      let K : Option Record → Type 0 = λ k. Makes t r k asks.after in (
        kept_at left asks.after,
        record {
          turned = turns.after;
          dues = turns.dues;
          turn = turn_is;
          taken = turns.count;
          own = own;
          acted = asks.after;
          does = subst A same asks.asks;
          left_is = is ∙ ap (λ (k : ℕ). left_with moment k own) turns.count;
          after_is = refl;
        },
        kept_leaves t r left asks.after (subst K (sym is) (left_makes t r moment n own asks.after later within asks.makes)),
      )

-- ---- a read

pub read_leaves : (t : TablesOf) (p : PlanOf) → p ≡ no_plan → IsSound t → Leaves t p None t
read_leaves t p none sound =
    let same = planned_nothing t p none in
    let S : TablesOf → Type 0 = λ u. IsSound u in
    let L : TablesOf → Type 0 = λ u. Leaves t p None u in
    subst L same (kept_leaves t p None (planned t p) (stays t p (no_plan_fits t p none) (subst S (sym same) sound)))
