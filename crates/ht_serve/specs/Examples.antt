-- Worked examples of the definitions. A wrong reading of one fails the check.
use Rattle.std.specs.Prelude.{◌≡◌, refl, [], Some, None, codes, true, false}
use Rattle.serde_json.proofs.OnLiterals.{serde_json_on_literals}
use Rattle.ht_base.specs.declared.event.Event.TheVariants.{Ask}
use Rattle.ht_base.specs.declared.event.Command.TheVariants as command
use Rattle.ht_base.specs.declared.reply.Answer.TheVariants.{Done, Refused}
use Rattle.ht_base.specs.declared.reply.Limit.TheVariants.{Tasks}
use Rattle.ht_base.specs.declared.reply.Refusal.TheVariants as refusal
use Rattle.ht_base.specs.declared.state.State.TheVariants.{Ready, Reserved}
use Rattle.ht_serve.specs.Closing.{closes_at}
use Rattle.ht_serve.specs.Exchanges.{status_of, text_of, turned_away}
use Rattle.ht_serve.specs.Texts.{memory_text, refusal_text, refused_text, reply_status}

-- ---- statuses and texts

a_created_task : reply_status (Ask (record { 0 = 1000 }) (codes "p3") None (record { 0 = 0 }) (command.Create None [] None)) (Done (record { 0 = 1 }) Ready None) ≡ 201
a_created_task = refl

a_sub_task_made : reply_status (Ask (record { 0 = 1000 }) (codes "anna") None (record { 0 = 1 }) (command.InstantiateSubTask (codes "x"))) (Done (record { 0 = 2 }) Ready None) ≡ 201
a_sub_task_made = refl

a_refused_create : reply_status (Ask (record { 0 = 1000 }) (codes "p3") None (record { 0 = 0 }) (command.Create None [] None)) (Refused (refusal.Limit Tasks)) ≡ 507
a_refused_create = refl

a_claimed_task : reply_status (Ask (record { 0 = 1000 }) (codes "p3") None (record { 0 = 1 }) command.Claim) (Done (record { 0 = 1 }) Reserved (Some (codes "p3"))) ≡ 200
a_claimed_task = refl

no_memory : memory_text ≡ codes "{\"fault\":\"Memory\"}"
unfolding refusal_text serde_json_on_literals
no_memory = refl

no_head : refused_text 400 ≡ codes "{\"fault\":\"Head\"}"
unfolding refusal_text serde_json_on_literals
no_head = refl

too_long : refused_text 431 ≡ codes "{\"fault\":\"Fields\"}"
unfolding refusal_text serde_json_on_literals
too_long = refl

too_long_a_body : refused_text 413 ≡ codes "{\"fault\":\"Body\"}"
unfolding refusal_text serde_json_on_literals
too_long_a_body = refl

a_coded_body : refused_text 501 ≡ codes "{\"fault\":\"Coding\"}"
unfolding refusal_text serde_json_on_literals
a_coded_body = refl

a_request_turned_away : status_of (turned_away (Ask (record { 0 = 1000 }) (codes "p3") None (record { 0 = 1 }) command.Claim)) ≡ 503
a_request_turned_away = refl

and_its_text : text_of (turned_away (Ask (record { 0 = 1000 }) (codes "p3") None (record { 0 = 1 }) command.Claim)) ≡ codes "{\"fault\":\"Spent\"}"
unfolding serde_json_on_literals
and_its_text = refl

-- ---- which reply closes

-- the last of its connection closes it
a_last_request : closes_at false 2 0 true ≡ true
a_last_request = refl

-- of two that may be answered, the second does where the connection is to be closed behind it
the_second_of_two : closes_at true 2 1 false ≡ true
the_second_of_two = refl

not_the_first : closes_at true 2 0 false ≡ false
not_the_first = refl

nor_where_it_stays_open : closes_at false 2 1 false ≡ false
nor_where_it_stays_open = refl
