use Rattle.std.proofs.Common.{sym, ◌∙◌}
use Rattle.static_values.proofs.Folds.{aggregate_where}
use Rattle.static_values.proofs.values.+values.Goals as goal

pub static_value-returns-in-Aggregate : goal.static_value-returns-in-Aggregate
static_value-returns-in-Aggregate t c = aggregate_where c.args.x.now c.in-Aggregate.composite c.in-Aggregate.bounds c.in-Aggregate.associations _ (sym c.get.ensures ∙ c.in-Aggregate.is) c.aggregate.ensures
