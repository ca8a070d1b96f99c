-- What a people text is read to: its directory, where nothing is wrong with it, and else the first
-- refusal that holds of it.
use Rattle.std.specs.Prelude.{◌≡◌, ℕ, List, Result}
use Rattle.ht_toml.specs.Refusals as text_reads
use Rattle.ht_people.specs.declared.refusal.PeopleRefusal.{PeopleRefusal}
use Rattle.ht_people.specs.declared.refusal.PeopleRefusal.TheVariants.{Memory}
use Rattle.ht_people.specs.Directory.{DirectoryOf, directory_of}
use Rattle.ht_people.specs.PeopleText.{PeopleTextOf}
use Rattle.ht_people.specs.Refusals.{IsPeopleText, refusals}

-- the directory that the text says
abbrev pub IsDirectory : List ℕ → DirectoryOf → Type 0
IsDirectory text directory = (t : PeopleTextOf) × IsPeopleText text t × (directory ≡ directory_of t)

-- want of memory says nothing of the text
abbrev pub Reads : List ℕ → Result DirectoryOf PeopleRefusal → Type 0
Reads text answer = text_reads.Reads Memory (refusals text) (IsDirectory text) answer
