use Rattle.std.proofs.Common.{◌≡◌, ◌≤◌, ℕ, ap, sym, subst, ◌∙◌, arith, max}
use Rattle.ht_base.specs.declared.event.Event.TheVariants as event
use Rattle.ht_base.specs.Moment.{last_moment}
use Rattle.ht_base.specs.declared.reply.Answer.TheVariants.{Turned}
use Rattle.ht_base.specs.declared.reply.Reply.{Reply}
use Rattle.ht_machine.specs.Deciding.{Behind, Rests, effective}
use Rattle.ht_machine.specs.History.{record_at}
use Rattle.ht_machine.specs.Planning.{record_in}
use Rattle.ht_machine.proofs.BehindTurn.{nothing_planned, turn_plans}
use Rattle.ht_machine.proofs.deciding.plan_turn.Goals as goal

pub turn-requires-clause-plan : goal.turn-requires-clause-plan
turn-requires-clause-plan c = nothing_planned c.args.tables.now.tables c.args.plan.now c.requires.plan c.last.ensures.sound

pub returns : goal.returns
returns c =
    let t = c.args.tables.now.tables in
    let at = c.args.at in
    let moment = c.effective-by.result.0 in
    let is = c.effective-by.ensures in
    let last = c.last.ensures.value in
    let last_within = c.last.ensures.sound.last_within in
    let within : moment ≤ last_moment = omega (arith, is, last, last_within, c.requires.at) in
    let later : t.last ≤ moment = omega (arith, is, last) in
    let left = record_in (event.Turn at) c.by_turn.result in
    let r = turn_plans t c.args.plan.now c.turn.new.plan moment c.in_ok-taken.taken c.requires.plan c.in_ok-taken.ensures.turns within later left (c.by_turn.ensures (record_at (event.Turn at))) in
    let same : moment ≡ effective t at.0 = is ∙ ap (λ (n : ℕ). max at.0 n) last in
    let reply : Reply = record { taken = c.in_ok-taken.taken; answer = Turned } in
    let D : ℕ → Type 0 = λ m. Behind t m Rests left reply r.0 in
    record { after = r.0; decides = subst D same r.1; leaves = r.2 }
