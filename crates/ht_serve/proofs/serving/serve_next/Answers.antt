use Rattle.std.proofs.Common.{refl}
use Rattle.ht_serve.proofs.Exchanging.{one_more, one_last, one_broken, none_done, none_fault, none_memory, none_refused, none_broken, reads_at, grows_at, part_at, rose_at, read_still, write_still, ends_with}
use Rattle.ht_serve.proofs.serving.serve_next.Goals as goal

-- ---- a request came

pub returns-then-closes-clause-served : goal.returns-then-closes-clause-served
returns-then-closes-clause-served g c = one_last _ _ _ _ _ _ _ _ _ _ _ _ _ _
    (reads_at _ _ _ _ _ _ c.reply_to-replied.ensures.beside c.in-Request.ensures.reads)
    (record { input = read_still _ _ _ c.reply_to-replied.ensures.beside c.in-Request.ensures.cause.later; output = write_still _ _ _ c.next_request.ensures.beside c.reply_to-replied.ensures.cause.later })
    c.now-at.ensures.next c.now-at.ensures.valid c.now-at.ensures.left c.closes_at-closes.ensures c.in-Ok.ensures.replied.answers c.requires.few c.if-closes.true
    (grows_at _ _ _ _ c.next_request.ensures.beside c.in-Ok.ensures.replied.wrote)

pub returns-in-Ok-clause-served : goal.returns-in-Ok-clause-served
returns-in-Ok-clause-served g c = rw c.in-Ok.ensures.input (one_more _ _ _ _ _ _ _ _ _ _ _ _ _ _
    (reads_at _ _ _ _ _ _ c.reply_to-replied.ensures.beside c.in-Request.ensures.reads)
    (record { input = read_still _ _ _ c.reply_to-replied.ensures.beside c.in-Request.ensures.cause.later; output = write_still _ _ _ c.next_request.ensures.beside c.reply_to-replied.ensures.cause.later })
    c.now-at.ensures.next c.now-at.ensures.valid c.now-at.ensures.left c.closes_at-closes.ensures c.in-Ok.ensures.replied.answers c.requires.few c.if-closes.false
    (grows_at _ _ _ _ c.next_request.ensures.beside c.in-Ok.ensures.replied.wrote))

pub returns-in-Request-clause-served : goal.returns-in-Request-clause-served
returns-in-Request-clause-served g c = one_broken _ _ _ _ _ _ _ _ _ _ _ _ _ _
    (reads_at _ _ _ _ _ _ c.reply_to-replied.ensures.beside c.in-Request.ensures.reads)
    (record { input = read_still _ _ _ c.reply_to-replied.ensures.beside c.in-Request.ensures.cause.later; output = write_still _ _ _ c.next_request.ensures.beside c.reply_to-replied.ensures.cause.later })
    c.now-at.ensures.next c.now-at.ensures.valid c.now-at.ensures.left c.closes_at-closes.ensures c.in-Err.ensures.replied.answers c.requires.few
    (rose_at _ _ _ c.next_request.ensures.beside c.in-Err.ensures.cause.failed)
    (part_at _ _ _ _ c.next_request.ensures.beside c.in-Err.ensures.replied.wrote)

-- ---- none came

pub returns-in-End-clause-served : goal.returns-in-End-clause-served
returns-in-End-clause-served g c =
    ends_with _ _ _ _ _ _ _ _ _ _ _ _ c.next_request.ensures.beside (none_done _ _ (g.met.Q.Caller.made_none _) _ _ _ _ _ _ _ _ _ c.in-End.ensures.cause.later c.requires.few c.in-End.ensures.reads)

pub returns-in-Ok-write_reply-clause-served : goal.returns-in-Ok-write_reply-clause-served
returns-in-Ok-write_reply-clause-served g c =
    none_refused _ _ (g.met.Q.Caller.made_none _) _ _ _ _ _ _ _ _ _ _ (read_still _ _ _ c.write_reply.ensures.beside c.in-Refused.ensures.cause.later) (write_still _ _ _ c.next_request.ensures.beside c.write_reply.ensures.cause.later) c.requires.few _ (reads_at _ _ _ _ _ _ c.write_reply.ensures.beside c.in-Refused.ensures.reads) (grows_at _ _ _ _ c.next_request.ensures.beside (rw c.refused_text.ensures at c.in-Ok-write_reply.ensures.written))

pub returns-in-Refused-clause-served : goal.returns-in-Refused-clause-served
returns-in-Refused-clause-served g c =
    none_broken _ _ (g.met.Q.Caller.made_none _) _ _ _ _ _ _ _ _ _ _ (read_still _ _ _ c.write_reply.ensures.beside c.in-Refused.ensures.cause.later) (write_still _ _ _ c.next_request.ensures.beside c.write_reply.ensures.cause.later) c.requires.few _ (reads_at _ _ _ _ _ _ c.write_reply.ensures.beside c.in-Refused.ensures.reads)
    (rose_at _ _ _ c.next_request.ensures.beside c.in-Err-write_reply.ensures.cause.failed)
    (part_at _ _ _ _ c.next_request.ensures.beside (rw c.refused_text.ensures at c.in-Err-write_reply.ensures.written))

pub returns-in-ReadFault-clause-served : goal.returns-in-ReadFault-clause-served
returns-in-ReadFault-clause-served g c =
    ends_with _ _ _ _ _ _ _ _ _ _ _ _ c.next_request.ensures.beside (none_fault _ _ (g.met.Q.Caller.made_none _) _ _ _ _ _ _ _ _ _ c.in-ReadFault.ensures.cause.later c.requires.few (c.in-ReadFault.ensures.cause.failed refl) c.in-ReadFault.ensures.reads)

pub returns-clause-served : goal.returns-clause-served
returns-clause-served g c =
    ends_with _ _ _ _ _ _ _ _ _ _ _ _ c.next_request.ensures.beside (none_memory _ _ (g.met.Q.Caller.made_none _) _ _ _ _ _ _ _ _ _ c.in-Memory.ensures.cause.later c.requires.few c.in-Memory.ensures.reads)
