use Rattle.std.proofs.Common.{drop, map}
use Rattle.cert_lines.specs.View.{line as line_of}
use Rattle.logic_text.specs.Fits.{Every, IsLine}
use Rattle.logic_text.proofs.fits.lines_fit.Given as goal

abbrev pub invariant-loop-line : goal.invariant-loop-line
invariant-loop-line l = Every IsLine (map line_of (drop l.line-index l.line-items)) → Every IsLine (map line_of l.lines)
