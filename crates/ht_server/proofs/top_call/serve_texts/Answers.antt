use Rattle.std.proofs.Common.{◌≡◌, ◌∙◌, ℕ, List, Some, Option, Result, Ok, Err, inl, inr, refl, sym, ap, subst}
use Rattle.ht_desk.specs.declared.fault.OpenFault.{OpenFault}
use Rattle.ht_program.specs.Attaching.{disks}
use Rattle.ht_program.specs.Named.{service_told, words_told, work_told}
use Rattle.ht_program.specs.OfficeTexts.{texts_seen}
use Rattle.ht_program.specs.Running.{Complains}
use Rattle.ht_server.proofs.Ended.{not_opened}
use Rattle.ht_server.proofs.top_call.serve_texts.Goals as goal

pub returns-in-Ok-clause-office : goal.returns-in-Ok-clause-office
returns-in-Ok-clause-office g c = λ told mid unread reads asks.
    inr (record {
      service = service_told c.in-Serve-Some.service;
      asked = ap work_told c.in-Serve-Some.is-0;
      texts = texts_seen c.args.read.now;
      reads = reads;
      asks = asks;
      ending = c.in-Ok.end;
      served = c.in-Ok.ensures;
      unread = refl;
      status_is = c.status_of.ensures;
      complains = subst (λ (l : List ℕ). Complains (g.Q.Sink.sink_state c.args.complaints.now) (g.Q.Sink.sink_state c.complain.new.complaints) l) c.line_of.ensures c.complain.ensures;
    })

pub returns-in-Err-clause-office : goal.returns-in-Err-clause-office
returns-in-Err-clause-office g c = λ told mid unread reads asks.
    inl (not_opened g.D.Disk (words_told c.args.words.now) (texts_seen c.args.read.now) _ _ _ _ told mid unread _ _ _ _ _ c.in-Err.fault c.requires.service c.requires.journal reads asks c.in-Err.ensures c.status_of_fault.ensures
    (subst (λ (l : List ℕ). Complains (g.Q.Sink.sink_state c.args.complaints.now) (g.Q.Sink.sink_state c.complain-in-Err.new.complaints) l) (c.deref.ensures.0 ∙ c.line_of_fault.ensures) c.complain-in-Err.ensures))
