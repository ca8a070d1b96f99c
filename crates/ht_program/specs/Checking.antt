-- What `check` does: it judges two texts, and tells how many models, persons and groups they have.
use Rattle.std.specs.Prelude.{◌≡◌, ℕ, List, ◌++◌, length, Result, Ok, Err, codes, decimal}
use Rattle.ht_desk.specs.declared.fault.OpenFault.{OpenFault}
use Rattle.ht_desk.specs.Opening.{IsTextFault}
use Rattle.ht_desk.specs.Replaying.{TextsOf}
use Rattle.ht_models.specs.Model.{ModelOf}
use Rattle.ht_models.specs.Reading as models_text
use Rattle.ht_outside.specs.Tells.{SinkState}
use Rattle.ht_people.specs.Directory.{DirectoryOf}
use Rattle.ht_people.specs.Reading as people_text
use Rattle.ht_serve.specs.declared.ending.Ending.{Ending}
use Rattle.ht_program.specs.declared.checking.Counted.{Counted}
use Rattle.ht_program.specs.Working.{Tells}

-- nothing is wrong with the texts, and there are so many of each
pub record AreCounted (texts : TextsOf) (counted : Counted) : Type 0 where
  pub models : List ModelOf
  pub people : DirectoryOf
  pub models_read : models_text.Reads texts.models (Ok models)
  pub people_read : people_text.Reads texts.people (Ok people)
  pub models_are : counted.models ≡ length models
  pub persons_are : counted.persons ≡ length people.persons
  pub groups_are : counted.groups ≡ length people.groups

abbrev pub counted_line : Counted → List ℕ
counted_line n = codes "models " ++ decimal n.models ++ codes " persons " ++ decimal n.persons ++ codes " groups " ++ decimal n.groups ++ codes "\n"

-- The line was written; or something is wrong with a text, of which the models text is judged first, and nothing was
-- written.
abbrev pub Checks : TextsOf → SinkState → SinkState → Result Ending OpenFault → Type 0
Checks texts old new (Ok ending) = (counted : Counted) × AreCounted texts counted × Tells (counted_line counted) old new ending
Checks texts old new (Err fault) = IsTextFault texts fault × (new ≡ old)
