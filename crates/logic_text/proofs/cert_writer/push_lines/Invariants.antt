use Rattle.std.proofs.Common.{◌≡◌, ◌++◌, drop, map}
use Rattle.cert_lines.specs.View.{line as line_of}
use Rattle.logic_text.specs.Certs.{lines_text}
use Rattle.logic_text.proofs.cert_writer.push_lines.Given as goal

abbrev pub invariant-loop-line : goal.invariant-loop-line
invariant-loop-line l = l.fn.text.items ++ lines_text (map line_of l.lines) ≡ l.text.items ++ lines_text (map line_of (drop l.line-index l.line-items))
