-- The records of a journal: what each is spelled as, and what a file holds of them.
use Rattle.std.specs.Prelude.{◌≡◌, ℕ, List, [], ◌∷◌, ◌++◌, map, Option, None, Some, Ok}
use Rattle.std.specs.List.{AllByRecursion}
use Rattle.ht_base.specs.Records.{RecordOf}
use Rattle.ht_codec.specs.Records.{entry}
use Rattle.ht_journal.specs.Files.{contents, journal_length}

-- the bytes of a record
abbrev pub spelling : RecordOf → List ℕ
spelling r = entry.text r

-- one that has a spelling
abbrev pub IsSpelled : RecordOf → Type 0
IsSpelled r = entry.Fits r

-- each of them
abbrev pub AreSpelled : List RecordOf → Type 0
AreSpelled records = AllByRecursion IsSpelled records

abbrev pub bodies_of : List RecordOf → List (List ℕ)
bodies_of records = map spelling records

-- the length of a journal with these records
abbrev pub length_of : List RecordOf → ℕ
length_of records = journal_length (bodies_of records)

-- a reader of the file finds these records and no more
abbrev pub Finds : List RecordOf → List ℕ → Type 0
Finds records file = contents file ≡ Ok (bodies_of records)

-- it finds these and the one in doubt
abbrev pub FindsAlso : List RecordOf → Option RecordOf → List ℕ → Type 0
FindsAlso records None file = ⊥
FindsAlso records (Some r) file = Finds (records ++ r ∷ []) file
