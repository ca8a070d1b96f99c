use Rattle.std.proofs.Common.{drop}
use Rattle.ht_api.specs.Contents.{tasks_data}
use Rattle.ht_api.specs.Writing.{Going, tasks_left, tokens_of}
use Rattle.ht_api.proofs.contents.put_tasks.Given as goal

abbrev pub invariant-loop-task : goal.invariant-loop-task
invariant-loop-task l = Going l.fn.writer l.writer (tokens_of (tasks_data l.tasks)) (tasks_left (drop l.task-index l.tasks))
