use Rattle.std.proofs.Common.{sym, ap, ◌∙◌, ◌++◌, ◌∷◌, []}
use Rattle.shared_items.proofs.Chunks.{kept_more, same_more}
use Rattle.shared_items.proofs.items.SharedItems.make_room.Goals as goal

pub invariant_of-self-then-len-eq-WIDTH : goal.invariant_of-self-then-len-eq-WIDTH
invariant_of-self-then-len-eq-WIDTH g c =
    kept_more c.self.inside.chunks c.push.new.self c.self.inside.rest c.in_ok-rest.rest c.self.inside.len c.self.invariant (sym c.len.ensures ∙ c.if-len-eq-WIDTH.true)
    (c.in_ok-push.ensures.ok ∙ ap (λ d. c.self.inside.chunks ++ d ∷ []) c.in_ok-chunk.ensures) (c.in_ok-rest.ensures ∙ c.new.ensures.items)

pub returns-in_ok-push : goal.returns-in_ok-push
returns-in_ok-push g c =
    same_more c.self.inside.chunks c.push.new.self c.self.inside.rest c.in_ok-rest.rest
    (c.in_ok-push.ensures.ok ∙ ap (λ d. c.self.inside.chunks ++ d ∷ []) c.in_ok-chunk.ensures) (c.in_ok-rest.ensures ∙ c.new.ensures.items)
    ∙ c.self.view_is
