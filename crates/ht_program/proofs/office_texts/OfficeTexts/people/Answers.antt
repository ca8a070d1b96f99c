use Rattle.std.proofs.Common.{refl}
use Rattle.std.specs.Fmt.{digits}
use Rattle.ht_people.specs.BuiltIn.{built_in_text}
use Rattle.ht_program.proofs.office_texts.OfficeTexts.people.Goals as goal

pub returns-in-BuiltIn : goal.returns-in-BuiltIn
unfolding built_in_text digits
returns-in-BuiltIn c = rw c.in-BuiltIn.is refl
