use Rattle.std.proofs.Common.{lit≤}
use Rattle.std.specs.Fmt.{digits}
use Rattle.ht_people.specs.BuiltIn.{built_in_text}
use Rattle.std.proofs.lemmas.Result.{err_from_is_err_and}
use Rattle.ht_program.specs.Named.{pair_of}
use Rattle.ht_program.proofs.Opened.{asks_both, asks_first, asks_second, both_read, first_failed, second_failed}
use Rattle.ht_program.proofs.reading.read_texts.Goals as goal

pub returns-in_err-models-clause-reads : goal.returns-in_err-models-clause-reads
returns-in_err-models-clause-reads g c =
    let p = err_from_is_err_and c.from_residual.result c.from_residual.ensures.1 in
    rw (c.in-Some.is, p.1, p.2) (first_failed _ (pair_of c.in-Some.named) _ c.in_err-models.ensures.text)

pub returns-in_err-models-clause-asks : goal.returns-in_err-models-clause-asks
returns-in_err-models-clause-asks g c =
    let p = err_from_is_err_and c.from_residual.result c.from_residual.ensures.1 in
    let old = g.X.Texts.texts_state c.args.texts.now in
    rw (c.in-Some.is, p.1, p.2) (asks_first (pair_of c.in-Some.named) old old _ _ _ c.in_err-models.ensures.asked c.in_err-models.ensures.text c.in_err-models.ensures.cause)

pub returns-in_err-people-clause-reads : goal.returns-in_err-people-clause-reads
returns-in_err-people-clause-reads g c =
    let p = err_from_is_err_and c.from_residual-in_err-people.result c.from_residual-in_err-people.ensures.1 in
    let told = (g.X.Texts.texts_state c.args.texts.now).texts in
    rw (c.in-Some.is, p.1, p.2) (second_failed told (pair_of c.in-Some.named) c.in_ok-models.models _ c.in_ok-models.ensures.text (rw c.text_of.ensures.kept at c.in_err-people.ensures.text))

pub returns-in_err-people-clause-asks : goal.returns-in_err-people-clause-asks
returns-in_err-people-clause-asks g c =
    let p = err_from_is_err_and c.from_residual-in_err-people.result c.from_residual-in_err-people.ensures.1 in
    rw (c.in-Some.is, p.1, p.2) (asks_second (pair_of c.in-Some.named) (g.X.Texts.texts_state c.args.texts.now) (g.X.Texts.texts_state c.text_of.new.texts) (g.X.Texts.texts_state c.text_of-2.new.texts) _ c.in_ok-models.models _ c.in_ok-models.ensures.asked c.in_ok-models.ensures.cause.later c.in_err-people.ensures.asked c.in_err-people.ensures.text c.in_err-people.ensures.cause)

pub returns-clause-reads : goal.returns-clause-reads
returns-clause-reads g c =
    let told = (g.X.Texts.texts_state c.args.texts.now).texts in
    rw (c.in-Some.is) (both_read told (pair_of c.in-Some.named) c.in_ok-models.models c.in_ok-people.people c.in_ok-models.ensures.text (rw c.text_of.ensures.kept at c.in_ok-people.ensures.text))

pub returns-clause-asks : goal.returns-clause-asks
returns-clause-asks g c =
    let told = (g.X.Texts.texts_state c.args.texts.now).texts in
    rw (c.in-Some.is) (asks_both (pair_of c.in-Some.named) (g.X.Texts.texts_state c.args.texts.now) (g.X.Texts.texts_state c.text_of.new.texts) (g.X.Texts.texts_state c.text_of-2.new.texts) told c.in_ok-models.models c.in_ok-people.people _ c.in_ok-models.ensures.asked c.in_ok-people.ensures.asked)

pub returns-in_default-clause-short : goal.returns-in_default-clause-short
unfolding built_in_text digits
returns-in_default-clause-short g c = (lit≤ tt, lit≤ tt)
