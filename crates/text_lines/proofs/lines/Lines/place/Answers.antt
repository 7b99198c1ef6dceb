use Rattle.std.proofs.Common.{List, ℕ, ap, ◌∙◌}
use Rattle.text_lines.specs.Lines.{place_at}
use Rattle.text_lines.proofs.Told.{place_by_lines}
use Rattle.text_lines.proofs.lines.Lines.place.Goals as goal

pub returns : goal.returns
returns c text are within =
    c.place_at.ensures ∙ ap (λ (ss : List ℕ). place_at ss c.args.file c.args.at) are ∙ place_by_lines text c.args.file c.args.at within c.requires
