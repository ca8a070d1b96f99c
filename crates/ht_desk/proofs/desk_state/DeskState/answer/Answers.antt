use Rattle.std.proofs.Common.{◌≡◌, inl, inr, ⊎_elim, ℕ, IsTrue, true, false, sym, ◌∙◌, subst, refl, arith}
use Rattle.ht_journal.specs.Rooms.{IsRoomy}
use Rattle.ht_journal.proofs.PublicLaws.{runs_on, weaker}
use Rattle.ht_outside.specs.Causes.{Rose}
use Rattle.ht_outside.specs.Moments.{LeavesOnly}
use Rattle.ht_desk.specs.Moments.{IsOffice, MayFind}
use Rattle.ht_desk.specs.Steps.Acts.{unsettled}
use Rattle.ht_desk.proofs.Imaged.{found_office}
use Rattle.ht_desk.proofs.Opened.{roomier, same_room}
use Rattle.ht_desk.proofs.desk_state.DeskState.answer.Goals as goal

pub act-requires-clause-at : goal.act-requires-clause-at
act-requires-clause-at g c =
    let q = c.requires.at in
    let m = c.settle.ensures.settles q.0 q.1 q.2 q.3 in
    (q.0, q.1, m.0, m.2)

pub returns-then-not-settle-clause-answers : goal.returns-then-not-settle-clause-answers
returns-then-not-settle-clause-answers g c beside texts s at =
    let m = c.settle.ensures.settles beside texts s at in
    let r = m.4 c.if-not-settle.true in
    let all : IsTrue (g.D.Disk.tells_images c.args.disk.now) → LeavesOnly g.D.Disk c.args.disk.now c.settle.new.disk (MayFind s m.0 c.args.event.now) = λ tells. weaker g.D.Disk c.args.disk.now c.settle.new.disk _ (MayFind s m.0 c.args.event.now) (c.settle.ensures.any_moment beside texts s at tells)
    (λ image found. ⊎_elim (λ f. inl f) (λ f. inr (inl f)) found) in (
      m.0,
      m.0,
      m.1,
      unsettled r.0 r.1 c.store_reply.ensures refl,
      m.2,
      m.2.sound,
      all,
      λ tells. weaker g.D.Disk c.args.disk.now c.settle.new.disk _ (IsOffice texts) (all tells)
          (λ image found. found_office g.D.Disk beside texts s m.0 c.args.self.now c.settle.new.self c.args.disk.now c.settle.new.disk at m.2 c.args.event.now image found),
    )

pub returns-then-not-settle-clause-in_room : goal.returns-then-not-settle-clause-in_room
returns-then-not-settle-clause-in_room g c roomy =
    let sure = c.settle.ensures.in_room (roomier (g.D.Disk.room c.args.disk.now) c.args.self.now.journal.limit 0 (omega arith) roomy) in
    let e : true ≡ false = sym sure ∙ c.if-not-settle.true in
    absurd (cc)

pub returns-then-not-settle-clause-store : goal.returns-then-not-settle-clause-store
returns-then-not-settle-clause-store g c told = c.settle.ensures.store c.if-not-settle.true

pub returns-clause-answers : goal.returns-clause-answers
returns-clause-answers g c beside texts s at =
    let m = c.settle.ensures.settles beside texts s at in
    let a = c.act.ensures.acts beside texts m.0 m.2 in
    let all : IsTrue (g.D.Disk.tells_images c.args.disk.now) → LeavesOnly g.D.Disk c.args.disk.now c.act.new.disk (MayFind s m.0 c.args.event.now) = λ tells.
    let first = weaker g.D.Disk c.args.disk.now c.settle.new.disk _ (MayFind s m.0 c.args.event.now) (c.settle.ensures.any_moment beside texts s at tells)
    (λ image found. ⊎_elim (λ f. inl f) (λ f. inr (inl f)) found) in
    runs_on g.D.Disk c.args.disk.now c.settle.new.disk c.act.new.disk (MayFind s m.0 c.args.event.now) _ first
    (c.act.ensures.any_moment beside texts m.0 m.2 (subst IsTrue (sym c.settle.ensures.tells) tells))
    (λ image found. ⊎_elim (λ f. inr (inr (inl f))) (λ f. inr (inr (inr f))) found) in (
      m.0,
      a.0,
      m.1,
      a.1,
      a.2,
      m.2.sound,
      all,
      λ tells. weaker g.D.Disk c.args.disk.now c.act.new.disk _ (IsOffice texts) (all tells)
          (λ image found. found_office g.D.Disk beside texts s m.0 c.args.self.now c.settle.new.self c.args.disk.now c.settle.new.disk at m.2 c.args.event.now image found),
    )

pub returns-clause-in_room : goal.returns-clause-in_room
returns-clause-in_room g c roomy =
    let before = g.D.Disk.room c.args.disk.now in
    c.act.ensures.in_room (subst (λ (n : ℕ). IsRoomy (g.D.Disk.room c.settle.new.disk) n) (sym c.settle.ensures.limit) (same_room before (g.D.Disk.room c.settle.new.disk) c.args.self.now.journal.limit c.settle.ensures.room roomy))

pub returns-clause-still : goal.returns-clause-still
returns-clause-still g c away = c.act.ensures.still away ∙ c.settle.ensures.still c.if-not-settle.false

pub returns-clause-store : goal.returns-clause-store
returns-clause-store g c told =
    let rose = c.act.ensures.store told in
    subst (λ (n : ℕ). Rose n (g.D.Disk.faults c.act.new.disk)) (c.settle.ensures.still c.if-not-settle.false) rose
