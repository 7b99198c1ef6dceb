use Rattle.statement_typing.specs.Units.{opened}
use Rattle.declared_worlds.proofs.Entering.{value_lasts}
use Rattle.declared_worlds.proofs.Declaring.{any_files, declared_lasts, decls_last, files_last, heading_lasts, name_lasts, programs_settled, start_settled, sub_lasts, unit_lasts, with_heading_lasts}
use Rattle.declared_worlds.proofs.Numbering.{AnyNumber, any_decl, any_decls, any_sub, any_unit}
use Rattle.declared_worlds.proofs.Lasting.{IsSettled, settled_lasts}
use Rattle.declared_worlds.proofs.laws.identifiers_are_stated.Goals as goal

pub returns-clause-start : goal.returns-clause-start
returns-clause-start c = λ fs. (start_settled fs).1

pub returns-clause-declarations : goal.returns-clause-declarations
returns-clause-declarations c = λ h x d a b. (declared_lasts AnyNumber IsSettled settled_lasts h x d (any_decl h.file h.routines x) (a, b)).1

pub returns-clause-values : goal.returns-clause-values
returns-clause-values c = λ h p s d a b. (value_lasts AnyNumber IsSettled settled_lasts h p s d (a, b)).1

pub returns-clause-lists : goal.returns-clause-lists
returns-clause-lists c = λ h xs d a b. (decls_last AnyNumber IsSettled settled_lasts h xs d (any_decls h.file h.routines xs) (a, b)).1

pub returns-clause-contracts : goal.returns-clause-contracts
returns-clause-contracts c = λ h q s d a b. (heading_lasts AnyNumber IsSettled settled_lasts h q s d tt (a, b)).1

pub returns-clause-headings : goal.returns-clause-headings
returns-clause-headings c = λ first h q s d a b. (with_heading_lasts AnyNumber IsSettled settled_lasts first h q s d (λ e. tt) (a, b)).1

pub returns-clause-bodies : goal.returns-clause-bodies
returns-clause-bodies c = λ h xs d a b. (decls_last AnyNumber IsSettled settled_lasts h xs (opened d) (any_decls h.file h.routines xs) (a, b)).1

pub returns-clause-subprograms : goal.returns-clause-subprograms
returns-clause-subprograms c = λ h s d a b. (sub_lasts AnyNumber IsSettled settled_lasts h s d (any_sub h.file h.routines s) (a, b)).1

pub returns-clause-names : goal.returns-clause-names
returns-clause-names c = λ h p d a b. (name_lasts AnyNumber IsSettled settled_lasts h p d (a, b)).1

pub returns-clause-units : goal.returns-clause-units
returns-clause-units c = λ h u d a b. (unit_lasts AnyNumber IsSettled settled_lasts h u d (any_unit h.file h.routines u) (a, b)).1

pub returns-clause-files : goal.returns-clause-files
returns-clause-files c = λ fs order d a b. (files_last AnyNumber IsSettled settled_lasts fs order d (any_files fs) (a, b)).1

pub returns-clause-programs : goal.returns-clause-programs
returns-clause-programs c = λ fs order. (programs_settled fs order).1
