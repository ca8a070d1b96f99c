-- The status and the text of the replies.
use Rattle.std.specs.Prelude.{ℕ, true, List, Result, Ok, Err}
use Rattle.ht_api.specs.Refusals.{wire_refusal}
use Rattle.ht_api.specs.Replies.{answer_text}
use Rattle.ht_api.specs.Statuses.{answer_status}
use Rattle.ht_wire.specs.Replies.{reply_bytes}
use Rattle.ht_base.specs.declared.event.Event.{Event}
use Rattle.ht_base.specs.declared.event.Event.TheVariants.{Ask}
use Rattle.ht_base.specs.declared.event.Command.TheVariants as command
use Rattle.ht_base.specs.declared.reply.Answer.{Answer}
use Rattle.ht_base.specs.declared.reply.Answer.TheVariants.{Done, Refused}
use Rattle.ht_base.specs.declared.reply.Refusal.{Refusal}
use Rattle.ht_base.specs.declared.reply.Refusal.TheVariants as refusal

-- 201 where a task was created, or a sub task made, also where that is told again
abbrev pub done_status : Event → ℕ
done_status (Ask at caller retry task (command.Create model input activate_at)) = 201
done_status (Ask at caller retry task (command.InstantiateSubTask sub)) = 201
done_status e = 200

-- the status of the answer to an event
abbrev pub reply_status : Event → Answer → ℕ
reply_status e (Done task state owner) = done_status e
reply_status e a = answer_status a

-- of a request for which there is no memory
abbrev pub memory_text : List ℕ
memory_text = answer_text (Refused refusal.Memory)

-- of a refusal, and of a connection that is refused with this status
unfoldable pub refusal_text : Refusal → List ℕ
refusal_text why = answer_text (Refused why)

abbrev pub refused_text : ℕ → List ℕ
refused_text code = refusal_text (wire_refusal code)

-- the reply to a connection that is refused with this status, which it ends
abbrev pub refusal_bytes : ℕ → List ℕ
refusal_bytes code = reply_bytes code (refused_text code) true

-- ---- as the code has them: a status, or none where there is no memory

abbrev pub status_or : {E : Type 0} → Result ℕ E → ℕ
status_or (Ok status) = status
status_or (Err e) = 500

abbrev pub text_or : {E : Type 0} → Result ℕ E → List ℕ → List ℕ
text_or (Ok status) text = text
text_or (Err e) text = memory_text
