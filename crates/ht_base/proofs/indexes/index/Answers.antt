use Rattle.std.proofs.Common.{◌≡◌, length, sym, ◌∙◌, refl, inl, inr, arith}
use Rattle.std.specs.BTreeMap.{get}
use Rattle.std.proofs.lemmas.Bool.{cases_lt}
use Rattle.std.proofs.lemmas.Option.{slice_get_read, slice_get_within}
use Rattle.ht_base.proofs.Indexing.{distinct_more, index_at, repeated_from}
use Rattle.ht_base.proofs.indexes.index.Goals as goal

pub returns-then-is_some-clause-repeated : goal.returns-then-is_some-clause-repeated
returns-then-is_some-clause-repeated g c =
    let i = c.loop-place.place in
    let ks = c.args.keys.now in
    let at = slice_get_read ks (length ks) i c.index-keys-place.result refl c.loop-place-test.true c.index-keys-place.is in
    let again = repeated_from g.K.Ord.cmp g.met.K.Key.exact ks i c.index-keys-place.result c.in_ok-insert.field-0 at (c.in_ok-insert.ensures.old ∙ c.loop-place.invariant.index c.index-keys-place.result) (sym c.is_some.ensures ∙ c.if-is_some.true) in
    λ place e. let same : i ≡ place = cc in
    rw (← same) (record { holds = again; least = λ j r. elim (cases_lt j i) [ inl h ↦ absurd (c.loop-place.invariant.distinct j h r) | inr h ↦ h ] })

pub loop-place-preserved : goal.loop-place-preserved
loop-place-preserved g c =
    let i = c.loop-place.place in
    let ks = c.args.keys.now in
    let k = c.index-keys-place.result in
    let at = slice_get_read ks (length ks) i k refl c.loop-place-test.true c.index-keys-place.is in
    record {
      index = index_at g.K.Ord.cmp g.met.K.Key.exact ks i k (λ q. get g.K.Ord.cmp c.loop-place.places q) (λ q. get g.K.Ord.cmp c.insert.new.self q) c.in_ok-insert.field-0 at c.loop-place.invariant.index c.in_ok-insert.ensures.old (sym c.is_some.ensures ∙ c.if-is_some.false) c.in_ok-insert.ensures.updates.0;
      distinct = distinct_more g.K.Ord.cmp g.met.K.Ord.total ks i k c.in_ok-insert.field-0 at (c.in_ok-insert.ensures.old ∙ c.loop-place.invariant.index k) (sym c.is_some.ensures ∙ c.if-is_some.false) c.loop-place.invariant.distinct;
    }

pub returns-clause-distinct : goal.returns-clause-distinct
returns-clause-distinct g c =
    λ place r. c.loop-place.invariant.distinct place (let within = slice_get_within c.args.keys.now place r.2 r.4 in let past = c.loop-place-test.false in omega arith) r
