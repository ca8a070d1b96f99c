-- The two texts of an office: what is seen of them, and which are built in.
use Rattle.std.specs.Prelude.{◌≤◌, length, Result, Ok, Err}
use Rattle.ht_base.specs.declared.limits.TheConstants.{LONGEST_OFFICE_TEXT}
use Rattle.ht_desk.specs.Replaying.{TextsOf, texts_of}
use Rattle.ht_program.specs.declared.office_texts.OfficeTexts.{OfficeTexts}
use Rattle.ht_program.specs.declared.office_texts.OfficeTexts.TheVariants.{BuiltIn, Read}
use Rattle.ht_program.specs.declared.reading.TextsFault.{TextsFault}
use Rattle.ht_models.specs.BuiltIn as models
use Rattle.ht_people.specs.BuiltIn as people

-- those of a program that is given none
abbrev pub built_in_texts : TextsOf
built_in_texts = texts_of models.built_in_text people.built_in_text

abbrev pub texts_seen : OfficeTexts → TextsOf
texts_seen BuiltIn = built_in_texts
texts_seen (Read models people) = texts_of models.items people.items

abbrev pub are_seen : Result OfficeTexts TextsFault → Result TextsOf TextsFault
are_seen (Ok texts) = Ok (texts_seen texts)
are_seen (Err why) = Err why

-- neither is longer than a text may be
abbrev pub AreShort : TextsOf → Type 0
AreShort texts = (length texts.models ≤ LONGEST_OFFICE_TEXT) × (length texts.people ≤ LONGEST_OFFICE_TEXT)
