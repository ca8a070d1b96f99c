use Rattle.std.proofs.Common.{◌≡◌, ◌+◌, ◌*◌, ◌/◌, ap, sym, subst, ◌∙◌, arith}
use Rattle.ht_index.specs.Sets.{IsFirst, tasks_in, words_left}
use Rattle.ht_index.proofs.TasksLeft.{none_left, went_on}
use Rattle.ht_index.proofs.rest.Rest.next.Goals as goal
use Rattle.ht_index.proofs.rest.Rest.next.Goals.{then-self-eq0+in-Some, else-self-eq0}

pub returns-in-None-clause-none : goal.returns-in-None-clause-none
returns-in-None-clause-none c =
    let i = c.self.inside in
    let none = sym c.self.view_is ∙ ap (λ b. tasks_in (words_left (i.base / 64) b i.words.now)) c.if-self-eq0.true ∙ none_left i.full.now i.words.now (i.base / 64) c.self.invariant.marks c.in-None.ensures in
    (none, none)

pub returns-clause-some : goal.returns-clause-some
returns-clause-some c =
    let i = c.self.inside in
    let j = c.if-self-eq0.self-inside in
    let ready : tasks_in (words_left (j.base / 64) j.bits j.words.now) ≡ c.args.self.now = elim c.if-self-eq0.branch [
      | then-self-eq0+in-Some w ↦
          let next = w.in-Some.place in
          let on = went_on i.full.now i.words.now (i.base / 64) next c.self.invariant.marks (subst (IsFirst (i.base / 64 + 1) i.full.now) w.in-Some.is w.first_from.ensures) in
          let place : 64 * next / 64 ≡ next = omega arith in
          rw w.self-inside-is (
          ap (λ p. tasks_in (words_left p w.word-self-inside.result i.words.now)) place
          ∙ ap (λ b. tasks_in (words_left next b i.words.now)) w.word-self-inside.ensures
          ∙ on.1
          ∙ sym (ap (λ b. tasks_in (words_left (i.base / 64) b i.words.now)) w.if-self-eq0.true)
          ∙ c.self.view_is
          )
      | else-self-eq0 w ↦ rw w.self-inside-is c.self.view_is
    ] in
    sym ready ∙ c.take_lowest.ensures j.words.now
