use Rattle.check_sites.proofs.Members.{ascending, each_site, first_owner, only_checks}
use Rattle.check_sites.proofs.laws.laws_of_program_sites.Goals as goal

pub returns-clause-each : goal.returns-clause-each
returns-clause-each c = each_site

pub returns-clause-only : goal.returns-clause-only
returns-clause-only c = only_checks

pub returns-clause-first : goal.returns-clause-first
returns-clause-first c = first_owner

pub returns-clause-ascending : goal.returns-clause-ascending
returns-clause-ascending c = ascending
