-- The two texts of an office: which are read, why they are missing, and which are asked for.
use Rattle.std.specs.Prelude.{◌≡◌, ◌⊎◌, ℕ, ◌<◌, ◌≤◌, List, [], ◌∷◌, ◌++◌, length, map, Option, Some, None, Result, Ok, Err, MatchResult, OnOk, ⊤}
use Rattle.ht_base.specs.Bytes.{BytesOf}
use Rattle.ht_base.specs.declared.limits.TheConstants.{LONGEST_OFFICE_TEXT}
use Rattle.ht_desk.specs.Replaying.{TextsOf, texts_of}
use Rattle.ht_outside.specs.Causes.{Rose}
use Rattle.ht_outside.specs.Texts.{TextsState}
use Rattle.ht_outside.specs.declared.asked.Asked.{Asked}
use Rattle.ht_models.specs.declared.refusal.ModelsRefusal.{ModelsRefusal}
use Rattle.ht_models.specs.Refusals as models_wrong
use Rattle.ht_people.specs.declared.refusal.PeopleRefusal.{PeopleRefusal}
use Rattle.ht_people.specs.Refusals as people_wrong
use Rattle.ht_toml.specs.Refusals.{Holds}
use Rattle.ht_program.specs.declared.reading.TextsFault.{TextsFault}
use Rattle.ht_program.specs.declared.reading.TextsFault.TheVariants.{Unread, TooLong, Memory}
use Rattle.ht_program.specs.declared.reading.Which.{Which}
use Rattle.ht_program.specs.declared.reading.Which.TheVariants as which
use Rattle.ht_program.specs.OfficeTexts.{built_in_texts}

-- ---- one text

-- a text can't be read, is too long, or there is no memory for it
abbrev pub IsMissing : Which → List ℕ → TextsFault → Type 0
IsMissing w text (Unread v) = v ≡ w
IsMissing w text (TooLong v) = (v ≡ w) × (LONGEST_OFFICE_TEXT < length text)
IsMissing w text Memory = ⊤

-- a text was read whole, or it is missing
abbrev pub Gives : Which → List ℕ → Result BytesOf TextsFault → Type 0
Gives w text result = MatchResult result (λ bytes. (bytes.items ≡ text) × (length text ≤ LONGEST_OFFICE_TEXT)) (IsMissing w text)

-- ---- both texts

-- Both are read, the models text first: it is missing, or else the people text is.
abbrev pub GivesBoth : List ℕ → List ℕ → Result TextsOf TextsFault → Type 0
GivesBoth m p (Ok texts) = (texts ≡ texts_of m p) × (length m ≤ LONGEST_OFFICE_TEXT) × (length p ≤ LONGEST_OFFICE_TEXT)
GivesBoth m p (Err why) = IsMissing which.Models m why ⊎ ((length m ≤ LONGEST_OFFICE_TEXT) × IsMissing which.People p why)

-- the built-in ones are always there
abbrev pub GivesBuiltIn : Result TextsOf TextsFault → Type 0
GivesBuiltIn (Ok texts) = texts ≡ built_in_texts
GivesBuiltIn (Err why) = ⊥

-- this is the text of the name, as far as the texts are told
abbrev pub IsTextOf : Option (List ℕ → List ℕ) → List ℕ → List ℕ → Type 0
IsTextOf None name text = ⊤
IsTextOf (Some told) name text = text ≡ told name

-- there is a text of this name, of which this was read
abbrev pub ReadsText : Which → Option (List ℕ → List ℕ) → List ℕ → Result BytesOf TextsFault → Type 0
ReadsText w told name result = (text : List ℕ) × IsTextOf told name text × Gives w text result

-- without names they are the built-in ones, and else those of these names, which are there also where they
-- aren't told
abbrev pub Reads : Option (List ℕ × List ℕ) → Option (List ℕ → List ℕ) → Result TextsOf TextsFault → Type 0
Reads None told result = GivesBuiltIn result
Reads (Some names) told result =
    (models : List ℕ) × (people : List ℕ) × IsTextOf told names.0 models × IsTextOf told names.1 people × GivesBoth models people result

-- ---- which texts were asked for

-- the last of these reads was of this name, and failed: the count of faults rose in it
pub record LastFailed (reads : List Asked) (name : List ℕ) (before now : ℕ) : Type 0 where
  pub earlier : List Asked
  pub last : Asked
  pub reads_are : reads ≡ earlier ++ last ∷ []
  pub named : last.name ≡ name
  pub later : before ≤ last.before
  pub failed : Rose last.before now

abbrev pub name_in : Which → List ℕ × List ℕ → List ℕ
name_in which.Models names = names.0
name_in which.People names = names.1

-- The names that were asked for are a beginning of models and people, and both where they were
-- read. A text that couldn't be read is the one that was asked for last.
pub record Asks (names : List ℕ × List ℕ) (old new : TextsState) (result : Result TextsOf TextsFault) : Type 0 where
  pub reads : List Asked
  pub grown : new.asked ≡ old.asked ++ reads
  pub unasked : List (List ℕ)
  pub begins : names.0 ∷ names.1 ∷ [] ≡ map (λ a. a.name) reads ++ unasked
  pub both : OnOk result (unasked ≡ [])
  pub unread : (w : Which) → result ≡ Err (Unread w) → LastFailed reads (name_in w names) old.faults new.faults

-- without names no text was asked for, and else these
abbrev pub AsksFor : Option (List ℕ × List ℕ) → TextsState → TextsState → Result TextsOf TextsFault → Type 0
AsksFor None old new result = new ≡ old
AsksFor (Some names) old new result = Asks names old new result

-- something is wrong with one of two texts
abbrev pub AreWrong : List ℕ → List ℕ → Type 0
AreWrong m p =
    ((LONGEST_OFFICE_TEXT < length m) ⊎ (LONGEST_OFFICE_TEXT < length p))
    ⊎ (((why : ModelsRefusal) × Holds (models_wrong.refusals m) why) ⊎ ((why : PeopleRefusal) × Holds (people_wrong.refusals p) why))

-- the answer is that one of the texts couldn't be read
abbrev pub IsUnread : {T : Type 0} → Result T TextsFault → Type 0
IsUnread result = (w : Which) × (result ≡ Err (Unread w))
