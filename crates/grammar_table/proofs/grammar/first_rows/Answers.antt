use Rattle.std.proofs.Common.{◌∙◌, map, arith}
use Rattle.std.proofs.lemmas.List.{length-set}
use Rattle.grammar_table.specs.Choices.{first_from}
use Rattle.grammar_table.proofs.Firsts.{set_more}
use Rattle.grammar_table.proofs.grammar.first_rows.Goals as goal

pub loop-phrase-preserved : goal.loop-phrase-preserved
loop-phrase-preserved c =
    let long = c.loop-phrase.invariant.0 in (
      length-set c.loop-phrase.firsts c.loop-phrase.phrase _ ∙ long,
      set_more c.loop-phrase.firsts c.loop-phrase.phrase _ (λ at. first_from at 0 (map (λ r. r.0) c.args.rows.now)) (omega (arith, long)) c.first_row.ensures c.loop-phrase.invariant.1,
    )

pub returns : goal.returns
returns c = λ at h. c.loop-phrase.invariant.1 at (omega arith)
