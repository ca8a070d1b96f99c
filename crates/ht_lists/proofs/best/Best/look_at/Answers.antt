use Rattle.std.proofs.Common.{◌≡◌, ◌<◌, true, sym, ap, ◌∙◌, arith}
use Rattle.ht_lists.specs.declared.keys.Key.{Key}
use Rattle.ht_lists.specs.Best.{first_of, is_behind}
use Rattle.ht_lists.specs.Keys.{key_of}
use Rattle.ht_lists.proofs.BestKeys.{behind_is}
use Rattle.ht_lists.proofs.best.Best.look_at.Goals as goal

pub returns-then-is_behind : goal.returns-then-is_behind
returns-then-is_behind c =
    let b = c.self.inside in
    let row = c.in-Some.row.now in
    let behind : is_behind (key_of row) b.bound ≡ true =
    ap (λ (k : Key). is_behind k b.bound) (sym c.key_of-key.ensures) ∙ sym c.is_behind.ensures ∙ c.if-is_behind.true in
    let some : row.priority < 255 = omega (arith, c.in-Some.ensures.sound.how.priority_within) in
    let same = behind_is b.limit (first_of b.limit b.keys.items) (key_of row) b.bound behind some c.self.invariant.bounds in
    rw (← c.in-Some.ensures.value, ← c.self.view_is) (λ i. record { limit = b.limit; keys = sym same i; total = b.total })
