-- What the words say, as bytes and numbers.
use Rattle.std.specs.Prelude.{ℕ, List, option_map}
use Rattle.ht_program.specs.declared.command.Named.{Named}
use Rattle.ht_program.specs.declared.command.Serve.{Serve}
use Rattle.ht_program.specs.declared.command.Words.{Words}
use Rattle.ht_program.specs.declared.command.Work.{Work}
use Rattle.ht_program.specs.declared.command.Work.TheVariants as work
use Rattle.ht_program.specs.Words.{Service, WordsOf, WorkOf}
use Rattle.ht_program.specs.Words.WorkOf.{checking, exporting, loading, running, serving}

-- the names of two texts
abbrev pub pair_of : Named → List ℕ × List ℕ
pair_of n = (n.models.now, n.people.now)

abbrev pub service_told : Serve → Service
service_told s = record { port = s.port; workers = s.workers; tick = s.tick; connections = s.connections }

abbrev pub work_told : Work → WorkOf
work_told (work.Run run) = running run.from run.step
work_told (work.Serve service) = serving (service_told service)
work_told work.Check = checking
work_told work.Export = exporting
work_told (work.Load seed count) = loading seed count

abbrev pub words_told : Words → WordsOf
words_told w = record {
  work = work_told w.work;
  texts = option_map pair_of w.texts;
  journal = option_map (λ s. s.now) w.journal;
  limit = w.limit;
}
