-- Worked examples of the definitions. A wrong reading of one fails the check.
use Rattle.std.specs.Prelude.{◌≡◌, ℕ, ◌+◌, List, [], ◌∷◌, ◌++◌, None, Some, true, false, refl}
use Rattle.ht_base.specs.declared.event.Command.{Command}
use Rattle.ht_base.specs.declared.event.Event.TheVariants.{Ask, Read, Turn}
use Rattle.ht_base.specs.declared.query.Query.{Query}
use Rattle.ht_base.specs.Records.{RecordOf}
use Rattle.ht_base.specs.Records.RecordOf.{an_opening, a_turn, an_asking}
use Rattle.ht_codec.specs.declared.refusal.CodecRefusal.TheVariants.{Short, Tag}
use Rattle.ht_desk.specs.declared.fault.OpenFault.TheVariants.{Damaged}
use Rattle.ht_desk.specs.Counting.{capped, no_counts, replied, with_joined}
use Rattle.ht_desk.specs.Opening.{damage_of}
use Rattle.ht_desk.specs.Records.{FindsAlso, length_of}
use Rattle.ht_desk.specs.States.{State, is_asking}
use Rattle.ht_desk.specs.Steps.{Acts, Settles, full_reply, memory_reply, replied_to, store_reply, with_record}
use Rattle.ht_desk.specs.Steps.Acts.{unsettled}
use Rattle.ht_desk.specs.Steps.Settles.{dropped}
use Rattle.ht_tree.specs.Tables.{TablesOf}

-- a turn of eight bytes whose body begins at 455, and a first byte that is no record's
a_cut_turn : damage_of 455 (Short 8) ≡ Damaged 463
a_cut_turn = refl

another_kind : damage_of 455 (Tag 0) ≡ Damaged 455
another_kind = refl

-- the header and a gate
no_records : length_of [] ≡ 9
no_records = refl

a_turn_is_no_command : is_asking (a_turn (record { 0 = 1000 })) ≡ false
a_turn_is_no_command = refl

an_opening_is_no_command : is_asking (an_opening [] []) ≡ false
an_opening_is_no_command = refl

a_command_is_counted : with_joined no_counts true ≡ record { turns = 0; accepted = 1; taken = 0 }
a_command_is_counted = refl

a_turn_is_not : with_joined no_counts false ≡ no_counts
a_turn_is_not = refl

-- a count stops at its greatest
the_greatest_count : capped 18446744073709551616 ≡ 18446744073709551615
the_greatest_count = refl

-- ---- a step

-- two timed actions at a turn, one before a command, none before a read
a_turn_of_two : replied no_counts (Turn (record { 0 = 1000 })) 2 ≡ record { turns = 1; accepted = 0; taken = 2 }
a_turn_of_two = refl

one_before_a_command : (command : Command) → replied no_counts (Ask (record { 0 = 1000 }) [] None (record { 0 = 1 }) command) 1 ≡ record { turns = 0; accepted = 0; taken = 1 }
one_before_a_command command = refl

a_read : (what : Query) → replied no_counts (Read [] what) 0 ≡ no_counts
a_read what = refl

-- an idle turn is one all the same
an_idle_turn : replied no_counts (Turn (record { 0 = 1000 })) 0 ≡ record { turns = 1; accepted = 0; taken = 0 }
an_idle_turn = refl

-- three replies take nothing
nothing_is_taken : ((store_reply.taken ≡ 0) × (full_reply.taken ≡ 0)) × (memory_reply.taken ≡ 0)
nothing_is_taken = ((refl, refl), refl)

-- the record of a turn joins the others, and is no command that was accepted
a_turn_joins : (s : State) (u : TablesOf) → (with_record s (a_turn (record { 0 = 1000 })) u).counts ≡ s.counts
a_turn_joins s u = refl

a_command_joins : (s : State) (command : Command) (u : TablesOf) → ((with_record s (an_asking (record { 0 = 1000 }) [] None (record { 0 = 1 }) command) u).counts).accepted ≡ capped ((s.counts).accepted + 1)
a_command_joins s command u = refl

it_stands_last : (s : State) (r : RecordOf) (u : TablesOf) → (with_record s r u).records ≡ s.records ++ r ∷ []
it_stands_last s r u = refl

-- a doubt whose record isn't there is forgotten, and nothing else changes
a_dropped_doubt : (s : State) (r : RecordOf) → Settles (record s { doubt = Some r }) (record s { doubt = None })
a_dropped_doubt s r = dropped r refl refl

-- while it stays, every event is refused
a_doubt_that_stays : (s : State) (r : RecordOf) → Acts (record s { doubt = Some r }) (Turn (record { 0 = 1000 })) store_reply (record s { doubt = Some r })
a_doubt_that_stays s r = unsettled r refl refl refl

-- and a turn that is refused is counted
a_refused_turn : (s : State) → ((replied_to s (Turn (record { 0 = 1000 })) store_reply).counts).turns ≡ capped ((s.counts).turns + 1)
a_refused_turn s = refl

-- nothing more is found where nothing is in doubt
nothing_in_doubt : (records : List RecordOf) (file : List ℕ) → FindsAlso records None file ≡ ⊥
nothing_in_doubt records file = refl
