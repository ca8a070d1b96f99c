-- Which answers count as what.
use Rattle.std.specs.Prelude.{◌≢◌, ℕ, Bool, true, false, not}
use Rattle.std.specs.List.{AllByRecursion, count_by}
use Rattle.ht_base.specs.declared.reply.Answer.{Answer}
use Rattle.ht_base.specs.declared.reply.Answer.TheVariants.{Done}
use Rattle.ht_desk.specs.Moves.{DeskHistory}
use Rattle.ht_desk.specs.Steps.{full_reply, memory_reply, store_reply}

-- it is accepted
abbrev pub is_done : Answer → Bool
is_done (Done task state owner) = true
is_done _ = false

-- how many events of a history were accepted, and how many weren't, for whichever reason
abbrev pub accepted_in : DeskHistory → ℕ
accepted_in history = count_by (λ e. is_done (e.reply).answer) history

abbrev pub refused_in : DeskHistory → ℕ
refused_in history = count_by (λ e. not (is_done (e.reply).answer)) history

-- ---- answers of the task machine

-- none of those for which nothing is decided, or what was decided isn't kept
abbrev pub IsDecided : Answer → Type 0
IsDecided answer = (answer ≢ memory_reply.answer) × (answer ≢ store_reply.answer) × (answer ≢ full_reply.answer)

abbrev pub AreDecided : DeskHistory → Type 0
AreDecided history = AllByRecursion (λ e. IsDecided (e.reply).answer) history

-- no disk failed
abbrev pub NoneFailed : DeskHistory → Type 0
NoneFailed history = AllByRecursion (λ e. (e.reply).answer ≢ store_reply.answer) history
