use Rattle.ada_values.proofs.Results.{result_law}
use Rattle.ada_values.proofs.Division.{modulo_law, quotient_law}
use Rattle.ada_values.proofs.operations.operation_laws.Goals as goal

pub returns-clause-quotient : goal.returns-clause-quotient
returns-clause-quotient c = quotient_law

pub returns-clause-modulo : goal.returns-clause-modulo
returns-clause-modulo c = modulo_law

pub returns-clause-result : goal.returns-clause-result
returns-clause-result c = result_law
