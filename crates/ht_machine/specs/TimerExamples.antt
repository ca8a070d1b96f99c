-- Rows of the definitions on the timer, and of what is taken once.
use Rattle.std.specs.Prelude.{◌≡◌, ℕ, true, false, [], ◌∷◌, None, refl}
use Rattle.ht_base.specs.declared.event.Command.TheVariants as command
use Rattle.ht_base.specs.declared.event.Event.{Event}
use Rattle.ht_base.specs.declared.event.Event.TheVariants.{Ask, Read, Turn}
use Rattle.ht_base.specs.declared.query.Query.TheVariants as query
use Rattle.ht_base.specs.declared.reply.Answer.{Answer}
use Rattle.ht_base.specs.declared.reply.Answer.TheVariants.{Refused, Turned}
use Rattle.ht_base.specs.declared.reply.Refusal.TheVariants as refusal
use Rattle.ht_base.specs.declared.reply.Reply.{Reply}
use Rattle.ht_base.specs.History.{Entry}
use Rattle.ht_due.specs.declared.due.Due.{Due}
use Rattle.ht_machine.specs.TakenOnce.{is_among, is_of_deadline}
use Rattle.ht_machine.specs.Timer.{AddsTurns, AreAlike, answers_of, moment_of_last}
use Rattle.ht_machine.specs.Timer.AddsTurns.{both, none, turn}
use Rattle.ht_tree.specs.Tables.{TablesOf, at_moment}

abbrev turn_at : ℕ → Event
turn_at n = Turn (record { 0 = n })

abbrev ask_at : ℕ → Event
ask_at n = Ask (record { 0 = n }) [] None (record { 0 = 1 }) command.Claim

abbrev look : Event
look = Read [] (query.Sheet (record { 0 = 1 }))

-- ---- moments

of_none : moment_of_last 7 [] ≡ 7
of_none = refl

of_a_read : moment_of_last 7 (ask_at 9 ∷ look ∷ []) ≡ 9
of_a_read = refl

of_a_turn : moment_of_last 7 (look ∷ ask_at 8 ∷ turn_at 12 ∷ []) ≡ 12
of_a_turn = refl

-- ---- Turn events that are added: before, between and behind

adds : AddsTurns (ask_at 5 ∷ look ∷ []) (turn_at 5 ∷ ask_at 5 ∷ turn_at 5 ∷ look ∷ turn_at 6 ∷ [])
adds = turn (both (turn (both (turn none))))

-- also beside one that was there
adds_more : AddsTurns (turn_at 5 ∷ []) (turn_at 5 ∷ turn_at 5 ∷ [])
adds_more = both (turn none)

-- ---- answers: of commands alone

module _ (t : TablesOf) where
  abbrev told : Event → Answer → Entry TablesOf Event Reply
  told event answer = record { pass = 0; event = event; reply = record { taken = 1; answer = answer }; after = t }

  of_commands : answers_of (told (turn_at 5) Turned ∷ told (ask_at 5) (Refused refusal.Person) ∷ told look (Refused refusal.Person) ∷ []) ≡ Refused refusal.Person ∷ []
  of_commands = refl

  later : AreAlike t (at_moment t 9)
  later = refl

-- ---- deadlines

abbrev due : ℕ → ℕ → ℕ → Due
due task kind place = record { at = record { 0 = 5 }; task = record { 0 = task }; kind = kind; place = place }

of_a_start_deadline : is_of_deadline 4 1 (due 4 2 1) ≡ true
of_a_start_deadline = refl

of_a_completion_deadline : is_of_deadline 4 1 (due 4 3 1) ≡ true
of_a_completion_deadline = refl

of_no_deadline : is_of_deadline 4 0 (due 4 1 0) ≡ false
of_no_deadline = refl

of_another_place : is_of_deadline 4 1 (due 4 3 0) ≡ false
of_another_place = refl

of_another_task : is_of_deadline 4 1 (due 5 3 1) ≡ false
of_another_task = refl

among : is_among 4 1 (due 4 0 0 ∷ due 4 3 1 ∷ []) ≡ true
among = refl

not_among : is_among 4 1 (due 4 0 0 ∷ due 5 3 1 ∷ []) ≡ false
not_among = refl
