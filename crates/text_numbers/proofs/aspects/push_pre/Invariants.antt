use Rattle.std.proofs.Common.{◌≡◌, ◌++◌, drop, map}
use Rattle.program_scope.specs.Homes.{file_of}
use Rattle.syntax_view.specs.View.{aspect_of}
use Rattle.statement_typing.specs.Numbers.{in_aspects, is_pre}
use Rattle.text_numbers.proofs.aspects.push_pre.Given as goal

abbrev pub invariant-loop-aspect : goal.invariant-loop-aspect
invariant-loop-aspect l = l.found ++ in_aspects is_pre (file_of l.file).word (map aspect_of (drop l.aspect-index l.aspects)) ≡ l.initial.found ++ in_aspects is_pre (file_of l.file).word (map aspect_of l.aspects)
