use Rattle.std.proofs.Common.{sym, ap, ◌∙◌, slice_get}
use Rattle.shared_items.proofs.Chunks.{get_at_chunk, get_at_rest}
use Rattle.shared_items.proofs.items.SharedItems.get.Goals as goal

pub returns-in-Some : goal.returns-in-Some
returns-in-Some g c =
    c.get-in-Some.ensures ∙ get_at_chunk c.self.inside.chunks c.self.inside.rest c.in-Some.chunk.now c.args.at c.self.invariant.0 (sym c.in-Some.ensures)
    ∙ ap (λ xs. slice_get xs c.args.at) c.self.view_is

pub returns-in-None : goal.returns-in-None
returns-in-None g c =
    c.get-in-None.ensures ∙ get_at_rest c.self.inside.chunks c.self.inside.rest c.args.at c.len.result c.self.invariant.0 (sym c.in-None.ensures) c.len.ensures
    ∙ ap (λ xs. slice_get xs c.args.at) c.self.view_is
