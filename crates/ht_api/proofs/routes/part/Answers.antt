use Rattle.std.proofs.Common.{◌≡◌, ◌∙◌, ap, sym, subst}
use Rattle.matchit.specs.Params.{walk}
use Rattle.ht_api.specs.Routes.{nth_of}
use Rattle.ht_api.specs.Table.{values_of}
use Rattle.ht_api.proofs.Ascii.{AreTexts, are_texts}
use Rattle.ht_api.proofs.routes.part.Goals as goal

pub loop-value-init : goal.loop-value-init
loop-value-init c =
    let p = c.args.params.now in
    let is : c.into_iter-value-iterator.result ≡ walk p.pattern.now p.text.now p.path.now p.names.now 0 0 = c.into_iter-value-iterator.ensures.into_iter_gives ∙ c.iter-value-items.ensures.value in
    record {
      part = ap (λ ps. nth_of c.args.at (values_of ps)) (sym is);
      texts = subst AreTexts (sym is) (are_texts p.pattern.now p.text.now p.path.now p.names.now 0 0 c.requires);
    }
