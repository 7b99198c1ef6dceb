use Rattle.known_programs.proofs.Sampled.{sample_declared}
use Rattle.known_programs.proofs.Walked.{decl_found, decl_ready, program_found, sub_found, unit_found}
use Rattle.known_programs.proofs.laws.declarations_known_where_declared.Goals as goal

pub returns-clause-declarations : goal.returns-clause-declarations
returns-clause-declarations c = decl_found

pub returns-clause-subprograms : goal.returns-clause-subprograms
returns-clause-subprograms c = sub_found

pub returns-clause-units : goal.returns-clause-units
returns-clause-units c = unit_found

pub returns-clause-programs : goal.returns-clause-programs
returns-clause-programs c = program_found

pub returns-clause-sample : goal.returns-clause-sample
returns-clause-sample c = sample_declared

pub returns-clause-worlds : goal.returns-clause-worlds
returns-clause-worlds c = decl_ready
