-- What an effect makes of planned tables.
use Rattle.std.proofs.Common.{◌≡◌, ℕ, ◌<◌, ◌≤◌, length, Option, Some, subst}
use Rattle.ht_base.specs.declared.event.Command.{Command}
use Rattle.ht_base.specs.declared.moment.Moment.{Moment}
use Rattle.ht_base.specs.Events.{IsCommand, op_of}
use Rattle.ht_base.specs.Moment.{last_moment}
use Rattle.ht_models.specs.Model.{ModelOf}
use Rattle.ht_owner.specs.declared.follow.Follow.{Follow}
use Rattle.ht_owner.specs.Acting.{FollowIsFinal, IsAllowed}
use Rattle.ht_owner.specs.Effects.{does, effect}
use Rattle.ht_owner.proofs.EffectsSound.{effect_makes}
use Rattle.ht_rules.specs.declared.judging.Verdict.TheVariants.{Yes}
use Rattle.ht_rules.specs.Judging.{verdict}
use Rattle.ht_tree.specs.declared.row.Row.{Row}
use Rattle.ht_tree.specs.Roles.{roles_in}
use Rattle.ht_tree.specs.Soundness.{Fits, IsSound}
use Rattle.ht_tree.specs.Tables.{TablesOf, model_of, task_row}
use Rattle.ht_tree.proofs.PublicLaws.{IsPutAgain, put_again_of, sound_row_fits}

one : {A : Type 0} (o : Option A) (x y : A) → o ≡ Some x → o ≡ Some y → x ≡ y
one o x y e f = cc

-- it is allowed with the row that was found
pub may_of : (u : TablesOf) (task caller : ℕ) (command : Command) (row : Row) → task_row u task ≡ Some row → IsAllowed u (op_of command) caller task → verdict (op_of command) row.state (roles_in u row caller) ≡ Yes
may_of u task caller command row at allowed =
    let P : Row → Type 0 = λ r. verdict (op_of command) r.state (roles_in u r caller) ≡ Yes in
    subst P (one (task_row u task) allowed.row row allowed.there at) allowed.may

-- the row that a command leaves of a task of sound tables
pub record IsLeft (u : TablesOf) (task : ℕ) (row new : Row) (follow : Follow) : Type 0 where
  pub again : IsPutAgain u task row new
  pub fits : Fits u new
  pub ends : FollowIsFinal follow

pub made : (u : TablesOf) (m : ModelOf) (caller task : ℕ) (at : Moment) (command : Command) (row new : Row) (follow : Follow) → IsSound u → task_row u task ≡ Some row → model_of u row ≡ Some m → caller < length u.people.persons → at.0 ≤ last_moment → IsCommand command → verdict (op_of command) row.state (roles_in u row caller) ≡ Yes → effect u m caller at command row ≡ does new follow → IsLeft u task row new follow
made u m caller task at command row new follow sound there of_model known within valid may is =
    let after = effect_makes u m caller at row (sound.rows_sound task row there) of_model known within command new follow valid may is in
    record {
      again = put_again_of u task row new there (sound.numbered task row there) after.same after.final (λ fine. after.sound);
      fits = sound_row_fits u.models (length u.people.persons) new after.sound;
      ends = after.ends;
    }
