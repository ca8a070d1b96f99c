-- Worked examples of events before which something is due: a Turn event, and commands that are accepted,
-- refused and sent again. dan's task waits up to the moment 5,000.
use Rattle.std.specs.Prelude.{refl, ℕ, ◌∷◌, [], None, Some, codes}
use Rattle.ht_base.specs.declared.event.Command.TheVariants.{Claim}
use Rattle.ht_base.specs.declared.event.Event.TheVariants.{Turn}
use Rattle.ht_base.specs.declared.moment.Moment.{Moment}
use Rattle.ht_base.specs.declared.record.Record.TheVariants as record_of
use Rattle.ht_base.specs.declared.reply.Answer.TheVariants.{Done, Refused, Turned}
use Rattle.ht_base.specs.declared.reply.Refusal.TheVariants.{Person}
use Rattle.ht_base.specs.declared.state.State.TheVariants.{Reserved}
use Rattle.ht_compose.specs.Agenda.Ends.{end, on}
use Rattle.ht_due.specs.declared.due.Due.{Due}
use Rattle.ht_machine.specs.Commands.{accepted}
use Rattle.ht_machine.specs.declared.sending.Sending.TheVariants as sending
use Rattle.ht_machine.specs.declared.sending.Sending.TheVariants.{New, Answered}
use Rattle.ht_machine.specs.Deciding.{Decides}
use Rattle.ht_machine.specs.Examples.{annas, asks, at_once, claimed, claims_at, fifth, kept, nothing_yet, ready, waiting}
use Rattle.ht_machine.specs.Turning.{IsTurn, Takings}
use Rattle.ht_tree.specs.Examples.{unit}
use Rattle.ht_tree.specs.Tables.{TablesOf}

abbrev at : ℕ → Moment
at moment = record { 0 = moment }

-- its last record is of the moment 1,000
abbrev it_waits : TablesOf
it_waits = record nothing_yet { rows = waiting ∷ []; last = 1000 }

-- it is activated
abbrev the_activation : Due
the_activation = record { at = at 5000; task = record { 0 = 1 }; kind = 0; place = 0 }

abbrev it_is_ready : ℕ → TablesOf
it_is_ready last = record nothing_yet { rows = ready ∷ []; last = last }

the_turn : IsTurn 6000 it_waits (the_activation ∷ []) (it_is_ready 1000)
the_turn = record { takings = Takings.on refl (on refl end) Takings.end; ended = refl }

-- ---- a Turn event

-- what was due is done, and the turn is kept, at the event's moment
a_turn : Decides it_waits (Turn (at 6000)) (Some (record_of.Turn (at 6000))) (record { taken = 1; answer = Turned }) (it_is_ready 6000)
a_turn = record { turned = it_is_ready 1000; dues = the_activation ∷ []; turn = the_turn; taken = refl; own = None; acted = it_is_ready 1000; does = ((refl, refl), refl); left_is = refl; after_is = refl }

-- a millisecond too early nothing is due, and nothing is kept
too_early : Decides it_waits (Turn (at 4999)) None (record { taken = 0; answer = Turned }) it_waits
too_early = at_once it_waits refl ((refl, refl), refl)

-- ---- commands behind it

-- anna claims the task that was activated just before: her command alone is kept
a_claim_behind : Decides it_waits (asks (codes "anna") 6000 1 Claim) (kept (codes "anna") 6000 1 Claim) (record { taken = 1; answer = Done (record { 0 = 1 }) Reserved (Some (codes "anna")) }) (record nothing_yet { rows = claimed ∷ []; last = 6000 })
a_claim_behind = record {
  turned = it_is_ready 1000;
  dues = the_activation ∷ [];
  turn = the_turn;
  taken = refl;
  own = kept (codes "anna") 6000 1 Claim;
  acted = record nothing_yet { rows = claimed ∷ []; last = 1000 };
  does = record {
    sending = New 0;
    sent = refl;
    asks = (accepted (record nothing_yet { rows = claimed ∷ []; last = 1000 }) 1, (it_is_ready 1000, refl, (ready, unit, refl, refl, (refl, refl))), (annas, (claimed, refl, refl), refl, refl, refl));
  };
  left_is = refl;
  after_is = refl;
}

-- a stranger's command is refused, and the turn is kept
a_stranger_behind : Decides it_waits (asks (codes "eve") 6000 1 Claim) (Some (record_of.Turn (at 6000))) (record { taken = 1; answer = Refused Person }) (it_is_ready 6000)
a_stranger_behind = record {
  turned = it_is_ready 1000;
  dues = the_activation ∷ [];
  turn = the_turn;
  taken = refl;
  own = None;
  acted = it_is_ready 1000;
  does = record { sending = sending.Refused Person; sent = refl; asks = ((refl, refl), refl) };
  left_is = refl;
  after_is = refl;
}

-- and so is it where anna's earlier claim is sent again, which gets its first answer
abbrev it_waits_again : TablesOf
it_waits_again = record it_waits { slots = fifth ∷ [] }

the_turn_again : IsTurn 6000 it_waits_again (the_activation ∷ []) (record it_waits_again { rows = ready ∷ [] })
the_turn_again = record { takings = Takings.on refl (on refl end) Takings.end; ended = refl }

sent_again_behind : Decides it_waits_again (claims_at 6000 1 5 1) (Some (record_of.Turn (at 6000))) (record { taken = 1; answer = Done (record { 0 = 1 }) Reserved (Some (codes "anna")) }) (record it_waits_again { rows = ready ∷ []; last = 6000 })
sent_again_behind = record {
  turned = record it_waits_again { rows = ready ∷ [] };
  dues = the_activation ∷ [];
  turn = the_turn_again;
  taken = refl;
  own = None;
  acted = record it_waits_again { rows = ready ∷ [] };
  does = record { sending = Answered annas; sent = (refl, refl, refl, refl); asks = ((refl, refl), refl) };
  left_is = refl;
  after_is = refl;
}
