use Rattle.std.proofs.Common.{◌≡◌, length, ap, ◌∙◌, arith}
use Rattle.ht_index.specs.Indexes.{with_task}
use Rattle.ht_index.specs.Sets.{TasksOf}
use Rattle.ht_index.proofs.Gathered.{one_put}
use Rattle.ht_index.proofs.Marking.{put_marks}
use Rattle.ht_index.proofs.tasks.Tasks.put.Goals as goal

pub returns-clause-tasks : goal.returns-clause-tasks
returns-clause-tasks c =
    one_put c.self.inside.words.items c.set.new.words.items c.args.task c.set.ensures.bits
    ∙ ap (λ (s : TasksOf). with_task c.args.task s.tasks) c.self.view_is

pub invariant_of-self : goal.invariant_of-self
invariant_of-self c =
    let i = c.self.inside in
    let h = c.self.invariant in
    let words : length c.set.new.words.items ≡ length i.words.items = c.set.ensures.len in
    let full : length c.set-2.new.words.items ≡ length i.full.items = c.set-2.ensures.len in
    record {
      few = omega (arith, h.few);
      few_marks = omega (arith, h.few_marks);
      room = omega (arith, h.room);
      marks = put_marks i.words.items c.set.new.words.items i.full.items c.args.task.0 h.marks c.set.ensures.others c.set-2.new.words.items c.set.ensures.bits c.set-2.ensures.bits;
    }
