use Rattle.std.proofs.Common.{List, length, ap, ◌∙◌}
use Rattle.name_library.specs.declared.links.Spot.{Spot}
use Rattle.program_scope.proofs.Ranked.{or_else, ranked}
use Rattle.program_scope.proofs.ranks.SpotRanks.rank.Goals as goal
use Rattle.statement_typing.specs.Files.{rank}

pub returns-in-Some : goal.returns-in-Some
returns-in-Some c =
    ap (or_else (length c.self.inside.list)) (c.in-Some.ensures.value ∙ c.self.invariant.0 c.args.spot.file c.args.spot.at)
    ∙ ranked c.self.inside.list c.args.spot
    ∙ ap (λ (l : List Spot). rank l c.args.spot) c.self.view_is

pub returns-in-None : goal.returns-in-None
returns-in-None c =
    c.self.invariant.1
    ∙ ap (or_else (length c.self.inside.list)) (c.in-None.ensures.value ∙ c.self.invariant.0 c.args.spot.file c.args.spot.at)
    ∙ ranked c.self.inside.list c.args.spot
    ∙ ap (λ (l : List Spot). rank l c.args.spot) c.self.view_is
