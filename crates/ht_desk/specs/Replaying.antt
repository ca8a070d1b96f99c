-- What records lead to, one after another, and which records are those of an office.
use Rattle.std.specs.Prelude.{◌≡◌, ℕ, List, [], ◌∷◌, Ok}
use Rattle.ht_base.specs.declared.record.Record.{Record}
use Rattle.ht_base.specs.Records.{RecordOf, record_of}
use Rattle.ht_base.specs.Records.RecordOf.{an_opening}
use Rattle.ht_machine.specs.History as machine
use Rattle.ht_models.specs.Reading as models_text
use Rattle.ht_people.specs.Reading as people_text
use Rattle.ht_tree.specs.Tables.{TablesOf, empty_tables}

-- A record is applied to tables: on them its own event leaves just this record. An Opening is of no event.
abbrev pub Applies : TablesOf → RecordOf → TablesOf → Type 0
Applies old r new = (kept : Record) × (record_of kept ≡ r) × machine.Applies old kept new

-- one after another
abbrev pub Replays : TablesOf → List RecordOf → TablesOf → Type 0
Replays old [] new = new ≡ old
Replays old (r ∷ records) new = (mid : TablesOf) × Applies old r mid × Replays mid records new

-- ---- an office

-- its texts
pub record TextsOf : Type 0 where
  pub models : List ℕ
  pub people : List ℕ

abbrev pub texts_of : List ℕ → List ℕ → TextsOf
texts_of models people = record { models = models; people = people }

-- the first record of its journal
abbrev pub opening_of : TextsOf → RecordOf
opening_of texts = an_opening texts.models texts.people

-- it begins with the models and the people of the texts, and no tasks
abbrev pub Begins : TextsOf → TablesOf → Type 0
Begins texts t =
    (models : _) × (people : _) × models_text.Reads texts.models (Ok models) × people_text.Reads texts.people (Ok people) × (t ≡ empty_tables models people)

-- The records of an office, and its tables after them. The first record has the texts, and the others are
-- replayed on the tables that these say.
pub record IsJournalOf (texts : TextsOf) (records : List RecordOf) (t : TablesOf) : Type 0 where
  pub first : TablesOf
  pub rest : List RecordOf
  pub begins : Begins texts first
  pub opened : records ≡ opening_of texts ∷ rest
  pub replays : Replays first rest t
