use Rattle.std.proofs.Common.{◌∙◌, None, ap, ap₂, sym}
use Rattle.std.proofs.lemmas.Str.{IsUtf8-from_ascii}
use Rattle.matchit.specs.Params.{walk}
use Rattle.matchit.specs.Seek.{first}
use Rattle.ht_api.specs.Routes.{place_at}
use Rattle.ht_api.specs.Table.{values_of}
use Rattle.ht_api.proofs.Routing.{place_found}
use Rattle.ht_api.proofs.routes.Routes.place_in.Goals as goal

pub returns-in-Ok-at : goal.returns-in-Ok-at
returns-in-Ok-at c =
    let is = c.in-Ok.ensures.cases.0 in
    let p = c.in-Ok-at.found.params in
    c.place_at.ensures
    ∙ ap (λ path. place_at c.in-Ok-at.found.value.now (values_of (walk p.pattern.now p.text.now path p.names.now 0 0))) (c.in-Ok-at.ensures.path ∙ is)
    ∙ place_found c.args.target.now _ c.if-not-is_ascii.ensures.cases (sym (ap₂ first c.self.invariant is) ∙ c.in-Ok-at.ensures.found)

pub returns-in-Err-at : goal.returns-in-Err-at
returns-in-Err-at c =
    place_found c.args.target.now None c.if-not-is_ascii.ensures.cases (sym (ap₂ first c.self.invariant c.in-Ok.ensures.cases.0) ∙ c.in-Err-at.ensures.missing)

pub returns-in-Err : goal.returns-in-Err
returns-in-Err c = absurd (c.in-Err.ensures.cases.0 (IsUtf8-from_ascii c.args.target.now c.if-not-is_ascii.ensures.cases))
