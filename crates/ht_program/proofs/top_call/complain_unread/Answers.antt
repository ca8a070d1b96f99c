use Rattle.std.proofs.Common.{◌++◌, codes}
use Rattle.ht_program.proofs.Complaining.{failed, went_on}
use Rattle.ht_program.proofs.top_call.complain_unread.Goals as goal

pub returns-then-is_err : goal.returns-then-is_err
returns-then-is_err g c = failed _ _ _ (codes "texts: ") (c.args.name.now ++ codes "\n") _ c.is_err.ensures.value c.if-is_err.true c.write.ensures.bytes c.write.ensures.cause

pub returns-then-is_err-2 : goal.returns-then-is_err-2
returns-then-is_err-2 g c = went_on _ _ _ _ (codes "texts: ") (c.args.name.now ++ codes "\n") _ c.is_err.ensures.value c.if-is_err.false c.write.ensures.bytes c.write.ensures.cause
    (failed _ _ _ c.args.name.now (codes "\n") _ c.is_err-2.ensures.value c.if-is_err-2.true (rw (← c.as_bytes.ensures.value) c.write-2.ensures.bytes) c.write-2.ensures.cause)

pub returns : goal.returns
returns g c = went_on _ _ _ _ (codes "texts: ") (c.args.name.now ++ codes "\n") _ c.is_err.ensures.value c.if-is_err.false c.write.ensures.bytes c.write.ensures.cause
    (went_on _ _ _ _ c.args.name.now (codes "\n") _ c.is_err-2.ensures.value c.if-is_err-2.false (rw (← c.as_bytes.ensures.value) c.write-2.ensures.bytes) c.write-2.ensures.cause c.complain.ensures)
