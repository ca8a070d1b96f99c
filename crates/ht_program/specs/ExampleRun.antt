-- A worked run: two requests in, the bytes of two replies out. A wrong reading of a definition fails
-- the check.
use Rattle.std.specs.Prelude.{◌≡◌, refl, ℕ, List, [], ◌∷◌, ◌++◌, Some, None, codes, true, false}
use Rattle.std.specs.Fmt.{digits}
use Rattle.std.specs.Str.{chars, is_utf8}
use Rattle.serde_json.proofs.OnLiterals.{serde_json_on_literals}
use Rattle.std.proofs.Common.{lit≤, lit<, inl, inr, sym}
use Rattle.std.proofs.lemmas.List.Elements.{All-nil}
use Rattle.ht_base.specs.declared.event.Event.{Event}
use Rattle.ht_base.specs.declared.event.Event.TheVariants.{Ask}
use Rattle.ht_base.specs.declared.event.Command.TheVariants as command
use Rattle.ht_base.specs.declared.reply.Answer.TheVariants.{Done}
use Rattle.ht_base.specs.declared.reply.Reply.{Reply}
use Rattle.ht_base.specs.declared.state.State.TheVariants.{Ready}
use Rattle.ht_desk.specs.States.{State}
use Rattle.ht_desk.specs.Steps.{Steps}
use Rattle.ht_outside.specs.Clocks.{moment_of}
use Rattle.ht_serve.specs.declared.ending.Ending.TheVariants as ending
use Rattle.ht_serve.specs.Calls.{StepsMade}
use Rattle.ht_serve.specs.Exchanges.{Exchange, AreExchanges, HasAway, after as clock_after, answered, calls, refused, replies}
use Rattle.ht_wire.specs.ExampleRequests.{both_stand, first, first_bytes, second, second_bytes}
use Rattle.ht_wire.specs.Heads.{IsLineByte}
use Rattle.ht_wire.specs.Replies.{phrase_of, reply_head}
use Rattle.ht_wire.proofs.PublicLaws.{request_or_end}
use Rattle.ht_api.specs.declared.refusal.ApiRefusal.TheVariants.{Person}
use Rattle.ht_program.specs.Folding.{Decided, Folds, IsOutput, OfficeOf, office_of}
use Rattle.ht_program.specs.Running.{Ran, Streams}

-- ---- the exchanges, and the steps that were made

abbrev create : Event
create = Ask (record { 0 = 2000 }) (codes "p3") None (record { 0 = 0 }) (command.Create None [] None)

abbrev created : Reply
created = record { taken = 0; answer = Done (record { 0 = 1 }) Ready None }

-- the first request makes no event, since it says no person; the second is a create
abbrev exchanges : List Exchange
exchanges =
    record { request = first; moment = 1000; closes = false; outcome = refused Person }
    ∷ record { request = second; moment = 2000; closes = true; outcome = answered (record { event = create; reply = created }) }
    ∷ []

the_steps : (s t : State) → Steps s create created t → StepsMade Steps s t (calls exchanges)
the_steps s t step = record {
  history = record { pass = 0; event = create; reply = created; after = t } ∷ [];
  legal = (step, tt);
  ends = refl;
  own_are = refl;
  calls_are = refl;
}

two_exchanges : AreExchanges false 1048576 (Some (moment_of 1000 1000)) 0 exchanges
unfolding chars is_utf8 digits serde_json_on_literals
two_exchanges = (refl, lit≤ tt, refl, refl, (refl, lit≤ tt, refl, refl, tt))

none_away : HasAway exchanges → ⊥
none_away (inl away) = away
none_away (inr (inl away)) = away
none_away (inr (inr away)) = away

-- ---- the run

abbrev first_out : List ℕ
first_out = codes "HTTP/1.1 401 Unauthorized\r\ncontent-type: application/json\r\ncontent-length: 18\r\n\r\n{\"fault\":\"Person\"}"

abbrev second_out : List ℕ
second_out = codes "HTTP/1.1 201 Created\r\ncontent-type: application/json\r\ncontent-length: 39\r\nconnection: close\r\n\r\n{\"owner\":null,\"state\":\"Ready\",\"task\":1}"

abbrev bytes_out : List ℕ
bytes_out = first_out ++ second_out

the_bytes_out : replies exchanges ≡ bytes_out
unfolding reply_head phrase_of digits serde_json_on_literals
the_bytes_out = refl

-- what the fold over both requests gives
the_fold : (limit : ℕ) (old new : OfficeOf) → Decided limit old create created new → Folds (Decided limit) (moment_of 1000 1000) old (first ∷ second ∷ []) bytes_out
unfolding chars is_utf8 reply_head phrase_of digits serde_json_on_literals
the_fold limit old new decides = (first_out, old, second_out, (refl, refl), (second_out, new, [], (created, decides, refl), refl, refl), refl)

the_output : (limit : ℕ) (old new : OfficeOf) → Decided limit old create created new → IsOutput (Decided limit) (moment_of 1000 1000) 1048576 old (first_bytes ++ second_bytes) bytes_out
the_output limit old new decides = record {
  asked = first ∷ second ∷ [];
  rest = [];
  stand = both_stand;
  replies = bytes_out;
  folds = the_fold limit old new decides;
  tail = [];
  behind = inl (refl, inl (lit≤ tt, inl refl));
  all = refl;
}

-- the input had both requests, and one read took them
abbrev before : Streams
before = record {
  input = record { flow = Some (record { left = first_bytes ++ second_bytes; taken = []; before = [] }); faults = 0 };
  output = record { written = Some []; faults = 0 };
}

abbrev after : Streams
after = record {
  input = record { flow = Some (record { left = []; taken = first_bytes ++ second_bytes; before = [] }); faults = 0 };
  output = record { written = Some bytes_out; faults = 0 };
}

a_run : (s t : State) → Steps s create created t → Decided s.limit (office_of s) create created (office_of t) → Ran (moment_of 1000 1000) 1048576 s t before after ending.Done
a_run s t step decides = record {
  clock = clock_after exchanges (Some (moment_of 1000 1000));
  served = record {
    exchanges = exchanges;
    taken = first_bytes ++ second_bytes;
    takes = record { left = refl; taken = refl };
    rest = [];
    serves = record { stand = both_stand; numbered = two_exchanges; made = the_steps s t step; away = none_away };
    clock = refl;
    ends = (inl (record { closes = refl; needed = inr ([], refl, (λ rest whole. request_or_end [] first whole.0 whole.1 (record { short = lit< tt; blank = All-nil IsLineByte }))) }), lit≤ tt, sym the_bytes_out);
    later = record { input = lit≤ tt; output = lit≤ tt };
  };
  written = λ sure settled decided. (bytes_out, the_output s.limit (office_of s) (office_of t) decides, refl);
}
