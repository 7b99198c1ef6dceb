use Rattle.statement_laws.proofs.Indications.{index_range_told, indicated_told, part_subtype_told, range_in_told, static_range_told}
use Rattle.statement_laws.proofs.Telling.{told_range}
use Rattle.statement_laws.proofs.laws.indications_are_first.Goals as goal

pub returns-clause-ranges : goal.returns-clause-ranges
returns-clause-ranges c = told_range

pub returns-clause-constraints : goal.returns-clause-constraints
returns-clause-constraints c = range_in_told

pub returns-clause-static_ranges : goal.returns-clause-static_ranges
returns-clause-static_ranges c = static_range_told

pub returns-clause-indexes : goal.returns-clause-indexes
returns-clause-indexes c = index_range_told

pub returns-clause-indications : goal.returns-clause-indications
returns-clause-indications c = indicated_told

pub returns-clause-parts : goal.returns-clause-parts
returns-clause-parts c = part_subtype_told
