use Rattle.std.proofs.Common.{List, ap, ◌∙◌}
use Rattle.name_library.specs.declared.links.Usage.{Usage}
use Rattle.name_links.specs.Links.{link_at}
use Rattle.name_links.proofs.links.Links.link_at.Goals as goal

pub returns : goal.returns
returns c =
    c.copied.ensures ∙ c.get.ensures.value ∙ c.self.invariant c.args.spot.file c.args.spot.at ∙ ap (λ (us : List Usage). link_at us c.args.spot) c.self.view_is
