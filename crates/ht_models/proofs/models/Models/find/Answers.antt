use Rattle.std.proofs.Common.{◌∙◌, rules, sym}
use Rattle.ht_models.proofs.Lookups.{found_within, indexed, small_place}
use Rattle.ht_models.proofs.models.Models.find.Goals as goal

pub returns-in_err-place-clause-value : goal.returns-in_err-place-clause-value
returns-in_err-place-clause-value c =
    c.from_residual.ensures ∙ c.in_err-place.ensures.value ∙ indexed c.self.inside c.args.self.now c.args.name c.self.invariant c.self.view_is

pub overflow_cast-result : goal.overflow_cast-result
overflow_cast-result c = let small = small_place c.self.inside c.args.name c.in_ok-place.field-0.now c.self.invariant (sym c.in_ok-place.ensures.value) in search rules

pub returns-clause-value : goal.returns-clause-value
returns-clause-value c = c.in_ok-place.ensures.value ∙ indexed c.self.inside c.args.self.now c.args.name c.self.invariant c.self.view_is

pub returns-clause-within : goal.returns-clause-within
returns-clause-within c = found_within c.self.inside c.args.self.now c.args.name c.in_ok-place.field-0.now c.self.invariant c.self.view_is (sym c.in_ok-place.ensures.value)
