use Rattle.std.proofs.Common.{map}
use Rattle.ada_text.proofs.Letters.{row_at}
use Rattle.ada_text.proofs.item.row_of.Goals as goal

pub returns : goal.returns
returns c = row_at c.args.table.now c.args.number _ (λ r. map (λ w. (w.0.now, w.1)) r.now) c.requires
