use Rattle.ht_machine.proofs.Remembering.{is_kept, remembers}
use Rattle.ht_machine.proofs.laws.a_command_acts_once.Goals as goal

pub returns-clause-kept : goal.returns-clause-kept
returns-clause-kept c = λ t at moment caller r task command reply after up d. is_kept t at moment caller r task command reply after up d

pub returns-clause-remembered : goal.returns-clause-remembered
returns-clause-remembered c = λ s t history since legal. remembers s t history since legal
