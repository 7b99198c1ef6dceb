-- Where what may be left out ends.
use Rattle.std.specs.Prelude.{Option, Some, None}
use Rattle.ada_text.specs.declared.token.Span.{Span}
use Rattle.ada_syntax.specs.declared.declarations.Bounds.{Bounds}
use Rattle.ada_syntax.specs.declared.expressions.Expr.{Expr}
use Rattle.ada_syntax.specs.declared.expressions.Item.{Item}
use Rattle.tree_parts.specs.Operations.{span_of}

abbrev pub bounds_end : Option Bounds → Span → Span
bounds_end None before = before
bounds_end (Some b) before = span_of b.high

abbrev pub item_end : Option (Item Expr) → Span → Span
item_end None before = before
item_end (Some i) before = i.span

abbrev pub expr_end : Option Expr → Span → Span
expr_end None before = before
expr_end (Some e) before = span_of e
