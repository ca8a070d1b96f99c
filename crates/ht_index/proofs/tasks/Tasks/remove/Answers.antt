use Rattle.std.proofs.Common.{◌≡◌, ◌/◌, length, ap, sym, ◌∙◌, arith}
use Rattle.ht_index.specs.Indexes.{without_task}
use Rattle.ht_index.specs.Sets.{TasksOf, word_at}
use Rattle.ht_index.proofs.Gathered.{one_removed}
use Rattle.ht_index.proofs.Marking.{emptied_marks, kept_marks}
use Rattle.ht_index.proofs.tasks.Tasks.remove.Goals as goal

pub returns-then-word-eq0-clause-tasks : goal.returns-then-word-eq0-clause-tasks
returns-then-word-eq0-clause-tasks c =
    one_removed c.self.inside.words.items c.clear.new.words.items c.args.task c.clear.ensures.bits
    ∙ ap (λ (s : TasksOf). without_task c.args.task s.tasks) c.self.view_is

pub returns-else-word-eq0-clause-tasks : goal.returns-else-word-eq0-clause-tasks
returns-else-word-eq0-clause-tasks c =
    one_removed c.self.inside.words.items c.clear.new.words.items c.args.task c.clear.ensures.bits
    ∙ ap (λ (s : TasksOf). without_task c.args.task s.tasks) c.self.view_is

pub invariant_of-self : goal.invariant_of-self
invariant_of-self c =
    let i = c.self.inside in
    let h = c.self.invariant in
    let words : length c.clear.new.words.items ≡ length i.words.items = c.clear.ensures.len in
    let full : length c.clear-then-word-eq0.new.words.items ≡ length i.full.items = c.clear-then-word-eq0.ensures.len in
    let zero : word_at (c.args.task.0 / 64) c.clear.new.words.items ≡ 0 = ap (word_at (c.args.task.0 / 64)) (sym c.deref.ensures.value) ∙ sym c.word.ensures ∙ c.if-word-eq0.true in
    record {
      few = omega (arith, h.few);
      few_marks = omega (arith, h.few_marks);
      room = omega (arith, h.room);
      marks = emptied_marks i.words.items c.clear.new.words.items i.full.items c.args.task.0 h.marks c.clear.ensures.others c.clear-then-word-eq0.new.words.items zero c.clear-then-word-eq0.ensures.bits;
    }

pub invariant_of-self-else-word-eq0 : goal.invariant_of-self-else-word-eq0
invariant_of-self-else-word-eq0 c =
    let i = c.self.inside in
    let h = c.self.invariant in
    let words : length c.clear.new.words.items ≡ length i.words.items = c.clear.ensures.len in
    let some : word_at (c.args.task.0 / 64) c.clear.new.words.items ≡ 0 → ⊥ = λ zero. c.if-word-eq0.false (c.word.ensures ∙ ap (word_at (c.args.task.0 / 64)) c.deref.ensures.value ∙ zero) in
    record {
      few = omega (arith, h.few);
      few_marks = omega (arith, h.few_marks);
      room = omega (arith, h.room);
      marks = kept_marks i.words.items c.clear.new.words.items i.full.items c.args.task.0 h.marks c.clear.ensures.others c.clear.ensures.less some;
    }
