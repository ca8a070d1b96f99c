use Rattle.std.proofs.Common.{◌∙◌, sym, subst}
use Rattle.ht_shared.proofs.Lists.{none_not_some, some_value}
use Rattle.ht_shared.proofs.KeptAtOpening.{ends, slot_is}
use Rattle.ht_shared.proofs.numbers.close_at.Goals as goal

pub unreachable-requires : goal.unreachable-requires
unreachable-requires g c =
    let i = c.requires.idle.1 in
    let e = ends g.T.Stepper.relates g.T.Stepper.stands c.args.board.shared.key c.args.place.id c.args.place.me.0 c.requires.idle.0 _ _ i.free.start_is i.free.outside c.requires.first c.requires.all c.close_with-closed.ensures.values.2 in
    none_not_some (sym (slot_is g.T.Stepper.relates g.T.Stepper.stands c.args.board.shared.key c.args.place.me.0 _ e c.take.result c.take.ensures.value ∙ c.in-None.is))

pub returns-clause-stands : goal.returns-clause-stands
returns-clause-stands g c =
    let i = c.requires.idle.1 in
    let e = ends g.T.Stepper.relates g.T.Stepper.stands c.args.board.shared.key c.args.place.id c.args.place.me.0 c.requires.idle.0 _ _ i.free.start_is i.free.outside c.requires.first c.requires.all c.close_with-closed.ensures.values.2 in
    let same = slot_is g.T.Stepper.relates g.T.Stepper.stands c.args.board.shared.key c.args.place.me.0 _ e c.take.result c.take.ensures.value ∙ c.in-Some.is in
    subst g.T.Stepper.stands (some_value same) e.standing

pub returns-clause-value : goal.returns-clause-value
returns-clause-value g c x is =
    let i = c.requires.idle.1 in
    let e = ends g.T.Stepper.relates g.T.Stepper.stands c.args.board.shared.key c.args.place.id c.args.place.me.0 c.requires.idle.0 _ _ i.free.start_is i.free.outside c.requires.first c.requires.all c.close_with-closed.ensures.values.2 in
    let same = slot_is g.T.Stepper.relates g.T.Stepper.stands c.args.board.shared.key c.args.place.me.0 _ e c.take.result c.take.ensures.value ∙ c.in-Some.is in
    e.end x is ∙ some_value same

pub returns-clause-legal : goal.returns-clause-legal
returns-clause-legal g c =
    let i = c.requires.idle.1 in
    let e = ends g.T.Stepper.relates g.T.Stepper.stands c.args.board.shared.key c.args.place.id c.args.place.me.0 c.requires.idle.0 _ _ i.free.start_is i.free.outside c.requires.first c.requires.all c.close_with-closed.ensures.values.2 in
    e.legal

pub returns-clause-entries : goal.returns-clause-entries
returns-clause-entries g c =
    let i = c.requires.idle.1 in
    let e = ends g.T.Stepper.relates g.T.Stepper.stands c.args.board.shared.key c.args.place.id c.args.place.me.0 c.requires.idle.0 _ _ i.free.start_is i.free.outside c.requires.first c.requires.all c.close_with-closed.ensures.values.2 in
    e.entries

pub returns-clause-found : goal.returns-clause-found
returns-clause-found g c =
    let i = c.requires.idle.1 in
    let e = ends g.T.Stepper.relates g.T.Stepper.stands c.args.board.shared.key c.args.place.id c.args.place.me.0 c.requires.idle.0 _ _ i.free.start_is i.free.outside c.requires.first c.requires.all c.close_with-closed.ensures.values.2 in
    e.found
