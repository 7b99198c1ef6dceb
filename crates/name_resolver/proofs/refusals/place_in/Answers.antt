use Rattle.std.proofs.Common.{ap, ◌∙◌}
use Rattle.text_lines.specs.Lines.{place_in}
use Rattle.name_resolver.proofs.Placed.{place_made, place_min}
use Rattle.name_resolver.proofs.refusals.place_in.Goals as goal

pub returns : goal.returns
returns c =
    place_made c.args.text.now c.args.file c.min.result c.line_col-line.result.0 c.line_col-line.result.1 c.line_col-line.ensures.line c.line_col-line.ensures.column
    ∙ ap (place_in c.args.text.now c.args.file) c.min.ensures ∙ place_min c.args.text.now c.args.file c.args.at
