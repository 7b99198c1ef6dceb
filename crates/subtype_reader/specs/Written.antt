-- Ranges as they are written, in the words of the rules.
use Rattle.subtype_reader.specs.declared.written_ranges.WrittenRange as code
use Rattle.subtype_reader.specs.declared.written_ranges.WrittenRange.TheVariants as written
use Rattle.syntax_view.specs.Trees as tree
use Rattle.syntax_view.specs.View.{expr}

abbrev pub range_as : code.WrittenRange → tree.Range
range_as (written.Named e) = tree.range (expr e.now) tree.no_expr
range_as (written.Bounds l h) = tree.range (expr l.now) (tree.an_expr (expr h.now))
