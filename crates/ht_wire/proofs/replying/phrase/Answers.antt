use Rattle.std.proofs.Common.{◌≡◌, ℕ, List, ◌≤◌, length, sym, ap, ◌∙◌, subst}
use Rattle.http.specs.StatusCode.{reason_phrase}
use Rattle.ht_wire.specs.Replies.{phrase_of}
use Rattle.ht_wire.proofs.Phrases.{phrase_good, phrase_is}
use Rattle.ht_wire.proofs.replying.phrase.Goals as goal

pub returns-in-Some-clause-value : goal.returns-in-Some-clause-value
returns-in-Some-clause-value c = phrase_is _ _ (c.in-Some.ensures.value ∙ ap reason_phrase c.in-Ok.ensures.1)

pub returns-in-Some-clause-short : goal.returns-in-Some-clause-short
returns-in-Some-clause-short c =
    let e : c.in-Some.phrase.now ≡ phrase_of c.args.status = phrase_is _ _ (c.in-Some.ensures.value ∙ ap reason_phrase c.in-Ok.ensures.1) in
    subst (λ (p : List ℕ). length p ≤ 31) (sym e) (phrase_good _ c.requires).2

pub returns-in-None-clause-value : goal.returns-in-None-clause-value
returns-in-None-clause-value c = phrase_is _ _ (c.in-None.ensures.value ∙ ap reason_phrase c.in-Ok.ensures.1)
