-- How it is told what the program did: its status, and its line on complaints.
use Rattle.std.specs.Prelude.{ℕ, List, [], ◌++◌, Result, Ok, Err, codes, decimal}
use Rattle.ht_desk.specs.declared.fault.OpenFault.{OpenFault}
use Rattle.ht_desk.specs.declared.fault.OpenFault.TheVariants as fault
use Rattle.ht_models.specs.declared.refusal.ModelsRefusal.{ModelsRefusal}
use Rattle.ht_models.specs.declared.refusal.ModelsRefusal.TheVariants as models
use Rattle.ht_people.specs.declared.refusal.PeopleRefusal.{PeopleRefusal}
use Rattle.ht_people.specs.declared.refusal.PeopleRefusal.TheVariants as people
use Rattle.ht_serve.specs.declared.ending.Ending.{Ending}
use Rattle.ht_serve.specs.declared.ending.Ending.TheVariants.{Done, Wire, Budget, ReadFault, WriteFault}
use Rattle.ht_serve.specs.declared.ending.Ending.TheVariants as ending
use Rattle.ht_program.specs.declared.reading.TextsFault.{TextsFault}
use Rattle.ht_program.specs.declared.reading.TextsFault.TheVariants.{Unread, TooLong, Memory}
use Rattle.ht_program.specs.declared.reading.Which.{Which}
use Rattle.ht_program.specs.declared.reading.Which.TheVariants as which
use Rattle.ht_program.specs.Reading.{name_in}

-- ---- what was done to its ending

abbrev pub ending_status : Ending → ℕ
ending_status Done = 0
ending_status (Wire code) = 1
ending_status Budget = 9
ending_status ReadFault = 7
ending_status WriteFault = 7
ending_status ending.Memory = 8

abbrev pub ending_line : Ending → List ℕ
ending_line Done = []
ending_line (Wire code) = codes "wire: " ++ decimal code ++ codes "\n"
ending_line Budget = codes "budget\n"
ending_line ReadFault = []
ending_line WriteFault = []
ending_line ending.Memory = codes "memory\n"

-- ---- an office that wasn't opened

abbrev pub fault_status : OpenFault → ℕ
fault_status (fault.Models why) = 4
fault_status (fault.People why) = 4
fault_status (fault.Damaged at) = 5
fault_status (fault.RecordRefused n) = 5
fault_status fault.TextsDiffer = 5
fault_status fault.Store = 6
fault_status fault.Memory = 8

-- a fault by its name and, where it has one, its place
abbrev pub placed : List ℕ → ℕ → List ℕ
placed name place = name ++ codes " " ++ decimal place

abbrev pub models_words : ModelsRefusal → List ℕ
models_words models.Syntax = codes "Syntax"
models_words (models.Field place) = placed (codes "Field") place
models_words (models.Twice place) = placed (codes "Twice") place
models_words (models.UnknownModel place) = placed (codes "UnknownModel") place
models_words (models.Cycle place) = placed (codes "Cycle") place
models_words (models.Expression place) = placed (codes "Expression") place
models_words (models.Limit place) = placed (codes "Limit") place
models_words (models.Contradiction place) = placed (codes "Contradiction") place
models_words models.Memory = codes "Memory"

abbrev pub people_words : PeopleRefusal → List ℕ
people_words people.Syntax = codes "Syntax"
people_words (people.Field place) = placed (codes "Field") place
people_words (people.Twice place) = placed (codes "Twice") place
people_words (people.UnknownMember place) = placed (codes "UnknownMember") place
people_words (people.Cycle place) = placed (codes "Cycle") place
people_words people.Limit = codes "Limit"
people_words people.Memory = codes "Memory"

abbrev pub fault_line : OpenFault → List ℕ
fault_line (fault.Models why) = codes "models: " ++ models_words why ++ codes "\n"
fault_line (fault.People why) = codes "people: " ++ people_words why ++ codes "\n"
fault_line (fault.Damaged at) = codes "journal: damaged at " ++ decimal at ++ codes "\n"
fault_line (fault.RecordRefused n) = codes "journal: record " ++ decimal n ++ codes "\n"
fault_line fault.TextsDiffer = codes "journal: texts differ\n"
fault_line fault.Store = codes "journal: store\n"
fault_line fault.Memory = codes "memory\n"

-- ---- either

abbrev pub end_status : Result Ending OpenFault → ℕ
end_status (Ok ending) = ending_status ending
end_status (Err fault) = fault_status fault

abbrev pub end_line : Result Ending OpenFault → List ℕ
end_line (Ok ending) = ending_line ending
end_line (Err fault) = fault_line fault

-- ---- texts that are missing

abbrev pub missing_status : TextsFault → ℕ
missing_status (Unread w) = 3
missing_status (TooLong w) = 4
missing_status Memory = 8

abbrev pub which_name : Which → List ℕ
which_name which.Models = codes "models"
which_name which.People = codes "people"

-- for texts of these names
abbrev pub missing_line : List ℕ × List ℕ → TextsFault → List ℕ
missing_line names (Unread w) = codes "texts: " ++ name_in w names ++ codes "\n"
missing_line names (TooLong w) = which_name w ++ codes ": TooLong\n"
missing_line names Memory = codes "memory\n"

-- the same, but for a text that couldn't be read, whose name may be of any length
abbrev pub short_line : TextsFault → List ℕ
short_line (Unread w) = []
short_line (TooLong w) = missing_line ([], []) (TooLong w)
short_line Memory = missing_line ([], []) Memory

-- ---- wrong words

abbrev pub usage_line : List ℕ
usage_line = codes "usage: office run, serve, check, load or export\n"
