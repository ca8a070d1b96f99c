use Rattle.std.proofs.Common.{subst}
use Rattle.ht_models.specs.DeclaredParts.{DeclareOnce}
use Rattle.ht_models.specs.MappedInputs.{AreMapped}
use Rattle.ht_models.specs.Reassigning.{ReassignOwned}
use Rattle.ht_models.specs.SetOutputs.{SetOutputs}
use Rattle.ht_models.specs.TreeSizes.{AreSized}
use Rattle.ht_models.proofs.FewDeadlines.{few_there}
use Rattle.ht_models.proofs.FittingParts.{set_outputs}
use Rattle.ht_models.proofs.Lookups.{found_there, kinded_there}
use Rattle.ht_models.proofs.models.Models.model.Goals as goal

pub returns-clause-found : goal.returns-clause-found
returns-clause-found c = found_there c.self.inside c.args.self.now c.args.place c.index.result.now c.self.invariant c.self.view_is c.requires c.index.ensures

pub returns-clause-kinds : goal.returns-clause-kinds
returns-clause-kinds c = kinded_there c.self.inside c.args.self.now c.args.place c.index.result.now c.self.invariant c.self.view_is c.requires c.index.ensures

pub returns-clause-trees : goal.returns-clause-trees
returns-clause-trees c = subst AreSized c.self.view_is c.self.invariant.trees

pub returns-clause-parts : goal.returns-clause-parts
returns-clause-parts c = subst DeclareOnce c.self.view_is c.self.invariant.parts

pub returns-clause-inputs : goal.returns-clause-inputs
returns-clause-inputs c = subst AreMapped c.self.view_is c.self.invariant.inputs

pub returns-clause-owned : goal.returns-clause-owned
returns-clause-owned c = subst ReassignOwned c.self.view_is c.self.invariant.owned

pub returns-clause-deadlines : goal.returns-clause-deadlines
returns-clause-deadlines c = few_there c.self.inside c.args.self.now c.args.place c.index.result.now c.self.invariant c.self.view_is c.requires c.index.ensures

pub returns-clause-outputs : goal.returns-clause-outputs
returns-clause-outputs c = subst SetOutputs c.self.view_is (set_outputs c.self.inside.models.items c.self.invariant.kinds)
