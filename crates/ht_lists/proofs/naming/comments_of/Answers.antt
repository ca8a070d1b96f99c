use Rattle.std.proofs.Common.{option_map, ap, sym, ◌∙◌}
use Rattle.ht_lists.specs.Naming as spec
use Rattle.ht_lists.proofs.Found.{none_found}
use Rattle.ht_lists.proofs.CommentsShown.{added, there_is}
use Rattle.ht_lists.proofs.naming.comments_of.Goals as goal
use Rattle.ht_lists.proofs.naming.comments_of.Goals.{in-Some+in_ok-shown_comment+in_ok-push, in_default}

pub loop-place-preserved : goal.loop-place-preserved
loop-place-preserved c =
    let comments = c.args.comments.now in
    elim c.match-get.branch [
      | in-Some+in_ok-shown_comment+in_ok-push w ↦ w.shown-is ∙ added (spec.shown_comment c.args.people.now) comments c.loop-place.place w.in-Some.comment.now c.loop-place.shown w.push.new.self w.in_ok-shown_comment.field-0 (sym w.in-Some.ensures) c.loop-place.invariant w.in_ok-shown_comment.ensures w.in_ok-push.ensures.ok
      | in_default w ↦ absurd (there_is comments c.loop-place.place (rw (← c.count-place-end.ensures) c.loop-place-test.true) (sym c.get.ensures ∙ ap (λ o. option_map (λ x. x.now) o) (none_found c.get.result w.in_default.not-Some)))
    ]
