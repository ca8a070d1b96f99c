use Rattle.std.proofs.Common.{◌-◌, length, slice_get, sym, subst, ◌∙◌, ap, unwrap_or, arith}
use Rattle.ht_lists.specs.Best.{Bounds, first_of}
use Rattle.ht_lists.specs.Keys.{compare_keys}
use Rattle.ht_lists.proofs.BestKeys.{bounds_more, cut_bounds, held_more}
use Rattle.ht_lists.proofs.FirstFew.{first_again}
use Rattle.ht_lists.proofs.KeyOrder.{key_order}
use Rattle.ht_lists.proofs.best.hold.Goals as goal

pub returns-then-len-limit-clause-first : goal.returns-then-len-limit-clause-first
returns-then-len-limit-clause-first c = ap (first_of c.args.limit) c.in_ok-push.ensures.items ∙ held_more c.args.limit c.args.keys.now.items c.args.key

pub returns-then-len-limit-clause-bounds : goal.returns-then-len-limit-clause-bounds
returns-then-len-limit-clause-bounds c =
    rw (c.in_ok-push.ensures.items) (bounds_more c.args.limit c.args.keys.now.items c.args.key c.args.bound c.requires.bounds)

pub returns-clause-first : goal.returns-clause-first
returns-clause-first c =
    ap (first_of c.args.limit) c.cut.ensures
    ∙ first_again compare_keys key_order c.args.limit c.push.new.self.items
    ∙ ap (first_of c.args.limit) c.in_ok-push.ensures.items
    ∙ held_more c.args.limit c.args.keys.now.items c.args.key

pub returns-clause-bounds : goal.returns-clause-bounds
returns-clause-bounds c =
    let keys = c.push.new.self.items in
    let limit = c.args.limit in
    let last = c.copied.ensures ∙ c.last.ensures.value ∙ ap (λ l. slice_get l (length l - 1)) (c.deref.ensures.value ∙ c.cut.ensures) in
    subst (λ b. Bounds limit (first_of limit c.cut.new.keys.items) b) (sym c.unwrap_or.ensures)
    (subst (λ l. Bounds limit (first_of limit l) (unwrap_or c.copied.result c.args.bound)) (sym c.cut.ensures)
    (cut_bounds limit keys c.args.bound c.copied.result (omega arith) last))
