-- What the machine refuses by the tables alone.
use Rattle.std.specs.Prelude.{◌≡◌, Bool, true, false}
use Rattle.ht_base.specs.declared.reply.Answer.{Answer}
use Rattle.ht_base.specs.declared.reply.Answer.TheVariants as answer
use Rattle.ht_base.specs.declared.reply.Limit.TheVariants.{Journal}
use Rattle.ht_base.specs.declared.reply.Refusal.{Refusal}
use Rattle.ht_base.specs.declared.reply.Refusal.TheVariants as refusal

-- a refusal that isn't for want of memory, of a disk, of room in the journal or of turns
abbrev pub is_its_own : Refusal → Bool
is_its_own refusal.Memory = false
is_its_own refusal.Store = false
is_its_own refusal.Spent = false
is_its_own (refusal.Limit Journal) = false
is_its_own why = true

-- what is refused, is so by the tables
abbrev pub AnswersItself : Answer → Type 0
AnswersItself (answer.Refused why) = is_its_own why ≡ true
AnswersItself other = Unit {0}
