use Rattle.declaration_laws.proofs.Declared.{decl_more, decls_more, sub_more}
use Rattle.declaration_laws.proofs.laws.declarations_are_told.Goals as goal

pub returns-clause-declarations : goal.returns-clause-declarations
returns-clause-declarations c = decl_more

pub returns-clause-subprograms : goal.returns-clause-subprograms
returns-clause-subprograms c = sub_more

pub returns-clause-lists : goal.returns-clause-lists
returns-clause-lists c = decls_more
