-- A sample program: procedure P is X : Integer := 3; begin X := 2; end P;
use Rattle.std.specs.Prelude.{false, Some, None, []}
use Rattle.syntax_view.specs.Trees as tree
use Rattle.typing_rules.specs.Cases.{num, span}
use Rattle.statement_typing.specs.Cases.{an_object, assign, file, mark, procedure}
use Rattle.statement_typing.specs.Files.{File}

abbrev pub program : tree.Sub
program = tree.sub (procedure 90 [] []) (tree.body (an_object 60 false (mark 103) (Some (num 500 3))) (assign 160 (num 700 2)) None)

abbrev pub sample : File
sample = record file { unit = record { span = span 0; context = []; unit = record { span = span 0; form = tree.sub_unit program } } }
