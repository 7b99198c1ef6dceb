use Rattle.std.proofs.Common.{◌≡◌, ◌+◌, ◌*◌, drop}
use Rattle.program_scope.specs.Homes.{home_of}
use Rattle.statement_typing.specs.Tellings.{decls_told}
use Rattle.statement_typing.specs.Units.{all_declared}
use Rattle.syntax_view.specs.View.{decl, decls_of}
use Rattle.type_checker.proofs.declarations.+declared.Given as goal

abbrev pub decreases-declared : goal.decreases-declared
decreases-declared l = 4 * goal.size-declared l

abbrev pub decreases-sub_declared : goal.decreases-sub_declared
decreases-sub_declared l = 4 * goal.size-sub_declared l + 3

abbrev pub decreases-body_declared : goal.decreases-body_declared
decreases-body_declared l = 4 * goal.size-body_declared l + 2

abbrev pub decreases-all_declared : goal.decreases-all_declared
decreases-all_declared l = 4 * goal.size-all_declared l + 1

abbrev pub invariant-all_declared-loop-declaration : goal.invariant-all_declared-loop-declaration
invariant-all_declared-loop-declaration l =
    (all_declared (home_of l.home) (decls_of decl (drop l.declaration-index l.declaration-items)) l.draft ≡ all_declared (home_of l.home) (decls_of decl l.declaration-items) l.fn.draft)
    × (decls_told (home_of l.home) (decls_of decl (drop l.declaration-index l.declaration-items)) l.draft l.told ≡ decls_told (home_of l.home) (decls_of decl l.declaration-items) l.fn.draft l.fn.told)
