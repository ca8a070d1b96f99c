use Rattle.std.proofs.Common.{refl, arith, rules}
use Rattle.ht_expr.proofs.Scanned.{found_length, found_fault, found_kept, found_dropped}
use Rattle.ht_expr.proofs.scanning.tokens.Goals as goal
use Rattle.ht_expr.proofs.scanning.tokens.Goals.{then-len-lt-MOST_TOKENS+in_ok-push, else-len-lt-MOST_TOKENS}

pub overflow_sub-at : goal.overflow_sub-at
overflow_sub-at c = found_length c.args.text.now c.loop-rest.rest.now _ _ c.loop-rest.invariant.found

pub returns-in_default : goal.returns-in_default
returns-in_default c = found_fault c.args.text.now c.loop-rest.rest.now _ _ c.loop-rest.invariant.found c.in_default.ensures (λ empty. search rules)

pub loop-rest-preserved : goal.loop-rest-preserved
loop-rest-preserved c = record {
  utf8 = c.behind_blanks-rest-in-loop-rest.utf8;
  found = elim c.if-len-lt-MOST_TOKENS.branch [
    | then-len-lt-MOST_TOKENS+in_ok-push w ↦
        rw (w.tokens-is, w.is_too_long-is, w.in_ok-push.ensures.items)
        (found_kept c.args.text.now c.loop-rest.rest.now c.in-Some.behind.now _ _ _ _ c.loop-rest.invariant.found c.in-Some.ensures refl c.behind_blanks-rest-in-loop-rest.ensures (omega (arith, c.len.ensures, c.loop-rest.tokens.ok.0)))
    | else-len-lt-MOST_TOKENS w ↦
        rw (w.tokens-is, w.is_too_long-is)
        (found_dropped c.args.text.now c.loop-rest.rest.now c.in-Some.behind.now _ _ _ (record { token = c.in-Some.token; at = _ }) c.loop-rest.invariant.found c.in-Some.ensures refl c.behind_blanks-rest-in-loop-rest.ensures (omega (arith, c.len.ensures, c.loop-rest.tokens.ok.0)))
  ];
}
