use Rattle.std.proofs.Common.{◌∙◌}
use Rattle.routine_rules.proofs.Suffixed.{no_global}
use Rattle.routine_rules.proofs.listed.listed_as.Goals as goal

pub returns-in-len1-up : goal.returns-in-len1-up
returns-in-len1-up c = c.refuse-in-len1-up.ensures ∙ no_global c.args.place c.args.mode c.args.entity c.args.rest.now c.in-len1-up.len_at_least
