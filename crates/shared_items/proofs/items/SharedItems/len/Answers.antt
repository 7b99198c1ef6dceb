use Rattle.std.proofs.Common.{sym, ap, ◌∙◌, length}
use Rattle.shared_items.proofs.Chunks.{length-chained}
use Rattle.shared_items.proofs.items.SharedItems.len.Goals as goal

pub returns : goal.returns
returns g c = c.self.invariant.1 ∙ sym (length-chained c.self.inside.chunks c.self.inside.rest c.self.invariant.0) ∙ ap length c.self.view_is
