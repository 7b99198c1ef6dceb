use Rattle.std.proofs.Common.{◌∙◌, sym, ap, Option}
use Rattle.std.specs.Prelude.{option_map}
use Rattle.ada_syntax.specs.declared.declarations.Bounds.{Bounds}
use Rattle.statement_typing.specs.Subtypes.{constraint_of}
use Rattle.syntax_view.specs.View.{bounds_of, expr, suffixes_of}
use Rattle.subtype_reader.proofs.Ends.{bounded_suffixes}
use Rattle.subtype_reader.proofs.constraints.constraint_of.Goals as goal

pub returns-in-len1-up : goal.returns-in-len1-up
returns-in-len1-up c =
    bounded_suffixes c.args.suffixes.now (bounds_of c.in-Some.bounds) c.in-len1-up.len_at_least
    ∙ ap (λ (b : Option Bounds). constraint_of (suffixes_of expr c.args.suffixes.now) (option_map bounds_of b)) (sym c.in-Some.is)
