use Rattle.logic_terms.specs.Goal.{problem}
use Rattle.logic_text.proofs.Wholes.{good_bytes}
use Rattle.logic_text.proofs.goal_writer.goal_text.Goals as goal

pub returns-clause-read : goal.returns-clause-read
returns-clause-read c = good_bytes (problem c.args.g.now) c.in_ok-text.text c.goal_fits.ensures c.in_ok-text.ensures
