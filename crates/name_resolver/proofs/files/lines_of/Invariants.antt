use Rattle.std.proofs.Common.{◌≡◌, map, take}
use Rattle.text_lines.specs.Lines.{line_starts}
use Rattle.name_resolver.specs.Resolved.{texts_of}
use Rattle.name_resolver.proofs.files.lines_of.Given as goal

abbrev pub invariant-loop-file : goal.invariant-loop-file
invariant-loop-file l = l.lines ≡ map line_starts (texts_of (take l.file-index l.files))
