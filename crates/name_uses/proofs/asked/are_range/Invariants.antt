use Rattle.std.proofs.Common.{◌≡◌, drop}
use Rattle.syntax_view.specs.View.{expr, suffixes_of}
use Rattle.name_uses.specs.Asked.{are_range}
use Rattle.name_uses.proofs.asked.are_range.Given as goal

abbrev pub invariant-loop-suffix : goal.invariant-loop-suffix
invariant-loop-suffix l = are_range (suffixes_of expr (drop l.suffix-index l.suffix-items)) ≡ are_range (suffixes_of expr l.suffix-items)
