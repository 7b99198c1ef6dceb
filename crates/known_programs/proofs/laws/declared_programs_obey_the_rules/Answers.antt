use Rattle.known_programs.proofs.Walked.{program_built}
use Rattle.known_programs.proofs.laws.declared_programs_obey_the_rules.Goals as goal

pub returns : goal.returns
returns c = program_built
