use Rattle.std.proofs.Common.{◌≡◌, drop}
use Rattle.syntax_view.specs.View.{expr, suffixes_of}
use Rattle.name_events.specs.Asked.{are_selectors}
use Rattle.name_events.proofs.asked.are_selectors.Given as goal

abbrev pub invariant-loop-suffix : goal.invariant-loop-suffix
invariant-loop-suffix l = are_selectors (suffixes_of expr (drop l.suffix-index l.suffix-items)) ≡ are_selectors (suffixes_of expr l.suffix-items)
