use Rattle.std.proofs.Common.{ap, ◌∙◌, ◌++◌, ◌∷◌, []}
use Rattle.shared_items.specs.Chunks.{chained}
use Rattle.shared_items.proofs.Chunks.{chained_push}
use Rattle.shared_items.proofs.items.SharedItems.push.Goals as goal

pub returns-clause-ok : goal.returns-clause-ok
returns-clause-ok g c =
    ap (chained c.self.inside.chunks) c.in_ok-push.ensures.ok ∙ chained_push c.self.inside.chunks c.self.inside.rest c.args.item
    ∙ ap (λ xs. xs ++ c.args.item ∷ []) (c.self.view_is ∙ c.make_room.ensures)
