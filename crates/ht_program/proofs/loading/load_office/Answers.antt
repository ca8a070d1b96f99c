use Rattle.ht_program.proofs.loading.load_office.Goals as goal

pub returns-in-Ok : goal.returns-in-Ok
returns-in-Ok g c = record {
  sums = c.load-sums.result;
  last = c.load-sums.new.desk;
  loads = c.load-sums.ensures.loads;
  tells = record { wrote = c.in-Ok.ensures.written; cause = record { later = (c.in-Ok.ensures.cause).later; failed = λ e. absurd (cc) } };
}
