use Rattle.attribute_rules.proofs.earlier.entry_at.Goals as goal

pub returns-in-InLoop : goal.returns-in-InLoop
returns-in-InLoop c = rw c.in-InLoop.is c.value_then.ensures
