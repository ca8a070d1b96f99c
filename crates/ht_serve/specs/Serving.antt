-- How a connection is served, from request number k on and from the bytes that are pending: which
-- calls are made, which replies are written, and how it ends.
use Rattle.std.specs.Prelude.{◌≡◌, ◌⊎◌, ℕ, ◌+◌, ◌<◌, ◌≤◌, Bool, true, false, List, [], ◌∷◌, ◌++◌, length, Option, Some, None, ⊤}
use Rattle.ht_outside.specs.declared.clock.Clock as clock
use Rattle.ht_outside.specs.declared.sink.Sink as sink
use Rattle.ht_outside.specs.declared.source.Source as source
use Rattle.ht_outside.specs.Causes.{Rose}
use Rattle.ht_outside.specs.Tells.{Flow, SourceState, SinkState, Takes, Grows}
use Rattle.ht_wire.specs.Heads.{IsEnd}
use Rattle.ht_wire.specs.Reading.{EndsAt, LastReadWhere, RefusedAt}
use Rattle.ht_wire.specs.Requests.{AreRequests, IsUnfinished}
use Rattle.ht_wire.specs.declared.request.Request.{Request}
use Rattle.ht_serve.specs.declared.ending.Ending.{Ending}
use Rattle.ht_serve.specs.declared.ending.Ending.TheVariants.{Done, Wire, Budget, ReadFault, WriteFault, Memory}
use Rattle.ht_serve.specs.Calls.{Call}
use Rattle.ht_serve.specs.Closing.{GoOn, Close}
use Rattle.ht_serve.specs.Exchanges.{Exchange, AreExchanges, HasAway, after, calls, closings, replies, requests, spelled}
use Rattle.ht_serve.specs.Texts.{refusal_bytes}

-- what the two ends of a connection and the clock tell
pub record Sides : Type 0 where
  pub input : SourceState
  pub output : SinkState
  pub clock : Option (ℕ → ℕ)

abbrev pub sides : SourceState → SinkState → Option (ℕ → ℕ) → Sides
sides input output clock = record { input = input; output = output; clock = clock }

-- of a link and a clock
abbrev pub sides_of : {L C : Type 0} → source.Ghosts L → sink.Ghosts L → clock.Ghosts C → L → C → Sides
sides_of reads writes ticks link time = sides (reads.source_state link) (writes.sink_state link) (ticks.moments time)

-- no count of faults falls
pub record AreLater (old new : Sides) : Type 0 where
  pub input : old.input.faults ≤ new.input.faults
  pub output : old.output.faults ≤ new.output.faults

-- ---- exchanges one behind another

-- These exchanges were made, from number k on. Their requests stand in the bytes, in order, and rest
-- behind them. Their calls are Made, each once, and one is turned away only where Spent holds.
pub record Serves (Made : List Call → Type 0) (Spent : Type 0) (closing : Bool) (most k : ℕ) (clock : Option (ℕ → ℕ)) (bytes rest : List ℕ) (xs : List Exchange) : Type 0 where
  pub stand : AreRequests bytes (requests xs) rest
  pub numbered : AreExchanges closing most clock k xs
  pub made : Made (calls xs)
  pub away : HasAway xs → Spent

-- ---- why more was read

-- not all of these requests stand whole in the bytes
abbrev pub AreNotWhole : List Request → List ℕ → Type 0
AreNotWhole asked bytes = (rest : List ℕ) → AreRequests bytes asked rest → ⊥

-- or more bytes are needed to tell what stands behind them
abbrev pub AreUnfinished : List Request → List ℕ → Type 0
AreUnfinished asked bytes =
    AreNotWhole asked bytes ⊎ ((rest : List ℕ) × AreRequests bytes asked rest × IsUnfinished rest)

-- nothing was read behind these requests
abbrev pub ReadsThem : List Request → Sides → Sides → List ℕ → Type 0
ReadsThem asked old new pending = LastReadWhere (AreNotWhole asked) old.input.flow new.input.flow pending

-- nothing was read but these requests and what stands behind them
abbrev pub ReadsOneMore : List Request → Sides → Sides → List ℕ → Type 0
ReadsOneMore asked old new pending = LastReadWhere (AreUnfinished asked) old.input.flow new.input.flow pending

-- ---- how a connection ends, behind n exchanges of which xs are the last

-- What was read behind them, rest, is refused with this code, and nothing behind that was read. The
-- exchanges go on, and are fewer than the most that are answered.
pub record IsRefusedBehind (most n : ℕ) (old new : Sides) (pending rest : List ℕ) (xs : List Exchange) (code : ℕ) : Type 0 where
  pub open_still : GoOn (closings xs)
  pub few : n < most
  pub refused : RefusedAt new.input.flow rest code
  pub needed : ReadsOneMore (requests xs) old new pending

-- the last reply closes the connection, and nothing was read behind its request
pub record IsClosed (old new : Sides) (pending : List ℕ) (xs : List Exchange) : Type 0 where
  pub closes : Close (closings xs)
  pub needed : ReadsThem (requests xs) old new pending

-- The last exchange's reply is the one that wasn't written whole, and nothing was read or called
-- behind it. The replies before it are `whole`.
pub record IsCutInReply (old new : Sides) (pending : List ℕ) (xs : List Exchange) (whole cut : List ℕ) : Type 0 where
  pub earlier : List Exchange
  pub last : Exchange
  pub they_are : xs ≡ earlier ++ last ∷ []
  pub needed : ReadsThem (requests xs) old new pending
  pub whole_is : whole ≡ replies earlier
  pub cut_is : cut ≡ spelled last

-- or so is the reply to what was refused behind all exchanges
pub record IsCutInRefusal (most n : ℕ) (old new : Sides) (pending rest : List ℕ) (xs : List Exchange) (whole cut : List ℕ) : Type 0 where
  pub code : ℕ
  pub refused : IsRefusedBehind most n old new pending rest xs code
  pub whole_is : whole ≡ replies xs
  pub cut_is : cut ≡ refusal_bytes code

-- A write failed: its count rose. All replies but the last that was begun were written whole, and of
-- that one a prefix, `front`.
pub record IsCutOff (most n : ℕ) (old new : Sides) (pending rest : List ℕ) (xs : List Exchange) : Type 0 where
  pub rose : Rose old.output.faults new.output.faults
  pub whole : List ℕ
  pub cut : List ℕ
  pub last : IsCutInReply old new pending xs whole cut ⊎ IsCutInRefusal most n old new pending rest xs whole cut
  pub front : List ℕ
  pub back : List ℕ
  pub cut_is : cut ≡ front ++ back
  pub wrote : Grows old.output.written new.output.written (whole ++ front)

-- the bytes read, and those that the source has left, are not the end of the requests
abbrev pub IsMoreAt : Option Flow → List ℕ → Type 0
IsMoreAt None bytes = ⊤
IsMoreAt (Some flow) bytes = IsEnd (bytes ++ flow.left) → ⊥

-- how it ends, and what was written of these exchanges
abbrev pub EndsAs : Bool → ℕ → ℕ → Ending → Sides → Sides → List ℕ → List ℕ → List Exchange → Type 0
EndsAs closing most n Done old new pending rest xs =
    (IsClosed old new pending xs ⊎ (GoOn (closings xs) × EndsAt new.input.flow rest))
    × (n ≤ most)
    × Grows old.output.written new.output.written (replies xs)
EndsAs closing most n (Wire code) old new pending rest xs =
    IsRefusedBehind most n old new pending rest xs code
    × Grows old.output.written new.output.written (replies xs ++ refusal_bytes code)
EndsAs closing most n Budget old new pending rest xs =
    (closing ≡ false)
    × GoOn (closings xs)
    × (n ≡ most)
    × IsMoreAt new.input.flow rest
    × Grows old.output.written new.output.written (replies xs)
EndsAs closing most n ReadFault old new pending rest xs =
    GoOn (closings xs)
    × (n ≤ most)
    × IsUnfinished rest
    × Rose old.input.faults new.input.faults
    × Grows old.output.written new.output.written (replies xs)
EndsAs closing most n WriteFault old new pending rest xs = (n ≤ most) × IsCutOff most n old new pending rest xs
EndsAs closing most n Memory old new pending rest xs =
    GoOn (closings xs) × (n ≤ most) × Grows old.output.written new.output.written (replies xs)

-- A connection was served to its ending. At most so many requests are answered, and where `closing`
-- is true the reply to the last of these closes the connection.
pub record Served (Made : List Call → Type 0) (Spent : Type 0) (closing : Bool) (most k : ℕ) (old new : Sides) (pending : List ℕ) (ending : Ending) : Type 0 where
  pub exchanges : List Exchange
  pub taken : List ℕ
  pub takes : Takes old.input.flow new.input.flow taken
  pub rest : List ℕ
  pub serves : Serves Made Spent closing most k old.clock (pending ++ taken) rest exchanges
  pub clock : new.clock ≡ after exchanges old.clock
  pub ends : EndsAs closing most (k + length exchanges) ending old new pending rest exchanges
  pub later : AreLater old new

-- ---- the way there

-- the connection was served up to before number next, and goes on
pub record Goes (Made : List Call → Type 0) (Spent : Type 0) (closing : Bool) (most k next : ℕ) (old new : Sides) (pending rest : List ℕ) : Type 0 where
  pub exchanges : List Exchange
  pub counted : next ≡ k + length exchanges
  pub short : closing ≡ true → next < most
  pub taken : List ℕ
  pub takes : Takes old.input.flow new.input.flow taken
  pub serves : Serves Made Spent closing most k old.clock (pending ++ taken) rest exchanges
  pub clock : new.clock ≡ after exchanges old.clock
  pub open_still : GoOn (closings exchanges)
  pub wrote : Grows old.output.written new.output.written (replies exchanges)
  pub needed : ReadsThem (requests exchanges) old new pending
  pub later : AreLater old new

-- what stands in the input behind the last request that may be answered
abbrev pub FollowsAs : Ending → SourceState → SourceState → List ℕ → Type 0
FollowsAs Done f g rest = EndsAt g.flow rest
FollowsAs (Wire code) f g rest = ⊥
FollowsAs Budget f g rest = IsMoreAt g.flow rest
FollowsAs ReadFault f g rest = IsUnfinished rest × Rose f.faults g.faults
FollowsAs WriteFault f g rest = ⊥
FollowsAs Memory f g rest = Unit {0}

pub record Follows (f g : SourceState) (pending : List ℕ) (ending : Ending) : Type 0 where
  pub taken : List ℕ
  pub takes : Takes f.flow g.flow taken
  pub follows : FollowsAs ending f g (pending ++ taken)
  pub later : f.faults ≤ g.faults
