use Rattle.std.proofs.Common.{◌∙◌, ap, sym}
use Rattle.ht_base.specs.Values.{put}
use Rattle.ht_base.proofs.Putting.{ascend_put, inserted, rank_within, replaced}
use Rattle.ht_base.proofs.values.Values.put.Goals as goal
use Rattle.ht_base.proofs.values.Values.put.Goals.{in-Text-1, in-Int-1}

pub invariant_of-self : goal.invariant_of-self
invariant_of-self c =
    let is = replaced c.args.name c.args.value c.self.inside.items.items _ _ c.rank-place.result c.stands_at.result c.deref.ensures.value c.deref-2.ensures.value c.rank-place.ensures c.stands_at.ensures c.if-stands_at.true in
    rw is (ascend_put c.args.name c.args.value c.self.inside.items.items c.self.invariant)

pub invariant_of-self-then-stands_at-2 : goal.invariant_of-self-then-stands_at-2
invariant_of-self-then-stands_at-2 c =
    let is = replaced c.args.name c.args.value c.self.inside.items.items _ _ c.rank-place.result c.stands_at.result c.deref.ensures.value c.deref-2.ensures.value c.rank-place.ensures c.stands_at.ensures c.if-stands_at.true in
    rw is (ascend_put c.args.name c.args.value c.self.inside.items.items c.self.invariant)

pub insert-requires : goal.insert-requires
insert-requires c = rw (c.rank-place.ensures, sym c.deref.ensures.len) (rank_within c.args.name c.deref.result.now)

pub invariant_of-self-in-Continue-1 : goal.invariant_of-self-in-Continue-1
invariant_of-self-in-Continue-1 c =
    let is = inserted c.args.name c.args.value c.self.inside.items.items _ _ c.rank-place.result c.stands_at.result c.deref.ensures.value c.deref-2.ensures.value c.rank-place.ensures c.stands_at.ensures c.if-stands_at.false in
    rw (c.in_ok-insert.ensures.items, is) (ascend_put c.args.name c.args.value c.self.inside.items.items c.self.invariant)

pub returns-then-stands_at-clause-ok : goal.returns-then-stands_at-clause-ok
returns-then-stands_at-clause-ok c =
    let is = replaced c.args.name c.args.value c.self.inside.items.items _ _ c.rank-place.result c.stands_at.result c.deref.ensures.value c.deref-2.ensures.value c.rank-place.ensures c.stands_at.ensures c.if-stands_at.true in
    elim c.match-index_mut.branch [ in-Text-1 w ↦ rw w.self-is (is ∙ ap (λ vs. put c.args.name c.args.value vs) c.self.view_is) | in-Int-1 w ↦ rw w.self-is (is ∙ ap (λ vs. put c.args.name c.args.value vs) c.self.view_is) ]

pub returns-in_ok-insert-clause-ok : goal.returns-in_ok-insert-clause-ok
returns-in_ok-insert-clause-ok c =
    let is = inserted c.args.name c.args.value c.self.inside.items.items _ _ c.rank-place.result c.stands_at.result c.deref.ensures.value c.deref-2.ensures.value c.rank-place.ensures c.stands_at.ensures c.if-stands_at.false in
    c.in_ok-insert.ensures.items ∙ (is ∙ ap (λ vs. put c.args.name c.args.value vs) c.self.view_is)
