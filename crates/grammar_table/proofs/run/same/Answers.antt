use Rattle.grammar_table.proofs.Steps.{same_place}
use Rattle.grammar_table.proofs.run.same.Goals as goal

pub returns : goal.returns
returns c = same_place c.args.a c.args.b _ _ c.place.ensures.value c.place-2.ensures.value
