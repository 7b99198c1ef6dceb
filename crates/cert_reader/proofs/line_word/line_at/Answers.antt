use Rattle.std.proofs.Common.{sym}
use Rattle.std.proofs.lemmas.List.{get_or-map}
use Rattle.cert_reader.specs.declared.line_word.LineWord.{LineWord}
use Rattle.cert_reader.proofs.line_word.line_at.Goals as goal

pub returns : goal.returns
returns c = sym (get_or-map (λ w. w.1) c.args.table.now c.args.place _ LineWord.End c.requires)
