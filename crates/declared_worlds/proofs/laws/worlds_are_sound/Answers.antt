use Rattle.statement_typing.specs.Units.{opened}
use Rattle.declared_worlds.proofs.Declaring.{declared_sound, decls_sound, files_sound, heading_sound, package_sound, programs_sound, start_sound, sub_sound, unit_sound, value_sound, with_heading_sound}
use Rattle.declared_worlds.proofs.laws.worlds_are_sound.Goals as goal

pub returns-clause-start : goal.returns-clause-start
returns-clause-start c = start_sound

pub returns-clause-declarations : goal.returns-clause-declarations
returns-clause-declarations c = declared_sound

pub returns-clause-values : goal.returns-clause-values
returns-clause-values c = value_sound

pub returns-clause-lists : goal.returns-clause-lists
returns-clause-lists c = decls_sound

pub returns-clause-contracts : goal.returns-clause-contracts
returns-clause-contracts c = heading_sound

pub returns-clause-headings : goal.returns-clause-headings
returns-clause-headings c = with_heading_sound

pub returns-clause-bodies : goal.returns-clause-bodies
returns-clause-bodies c = λ h xs d a. decls_sound h xs (opened d) a

pub returns-clause-subprograms : goal.returns-clause-subprograms
returns-clause-subprograms c = sub_sound

pub returns-clause-names : goal.returns-clause-names
returns-clause-names c = package_sound

pub returns-clause-units : goal.returns-clause-units
returns-clause-units c = unit_sound

pub returns-clause-files : goal.returns-clause-files
returns-clause-files c = files_sound

pub returns-clause-programs : goal.returns-clause-programs
returns-clause-programs c = programs_sound
