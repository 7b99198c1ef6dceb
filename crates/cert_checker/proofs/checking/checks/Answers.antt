use Rattle.logic_terms.specs.Goal.{problem}
use Rattle.cert_lines.specs.View.{lines}
use Rattle.cert_checker.proofs.Valid.{valid_so}
use Rattle.cert_checker.proofs.checking.checks.Goals as goal

pub returns-in-Ok-clause-sound : goal.returns-in-Ok-clause-sound
returns-in-Ok-clause-sound c = valid_so (problem c.args.g.now) (lines c.args.c.now) c.check_lines.result c.check_lines.ensures
