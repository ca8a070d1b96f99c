use Rattle.std.proofs.Common.{◌∙◌, ℕ, List, subst, refl, inl, inr}
use Rattle.ht_program.specs.OfficeTexts.{texts_seen}
use Rattle.ht_program.specs.Running.{Complains}
use Rattle.ht_program.proofs.top_call.run_office.Goals as goal

pub returns-in-Ok-clause-office : goal.returns-in-Ok-clause-office
returns-in-Ok-clause-office g c = inl (record {
  texts = texts_seen c.in-Ok.read;
  reads = c.in-Ok.ensures.reads;
  asks = c.in-Ok.ensures.asks;
  end = c.check_or_work-end.result;
  status_is = c.status_of.ensures;
  runs = c.check_or_work-end.ensures;
  complains = subst (λ (l : List ℕ). Complains (g.Q.Sink.sink_state c.args.complaints.now) (g.Q.Sink.sink_state c.complain.new.complaints) l) (c.deref.ensures.0 ∙ c.line_of.ensures) c.complain.ensures;
})

pub returns-in-Err-clause-office : goal.returns-in-Err-clause-office
returns-in-Err-clause-office g c = inr (record {
  why = c.in-Err.fault;
  reads = c.in-Err.ensures.reads;
  asks = c.in-Err.ensures.asks;
  status_is = c.status_of_missing.ensures;
  untouched = (refl, refl);
  complains = c.complain_of.ensures;
})
