use Rattle.std.proofs.Common.{◌∙◌, ap, List, Some}
use Rattle.typed_units.specs.declared.operators.Bounds.{Bounds}
use Rattle.static_values.specs.Owners.{owned}
use Rattle.statement_typing.specs.Values.{in_ranges}
use Rattle.static_values.proofs.Owned.{by_others, by_ranges}
use Rattle.static_values.proofs.owners.give.Goals as goal

pub returns-then-share : goal.returns-then-share
returns-then-share c = c.give_range.ensures ∙ by_others (Some c.args.number) c.args.share.now c.args.bounds c.args.owners.now.items c.requires c.if-share.true

pub returns-else-share : goal.returns-else-share
returns-else-share c = c.give_ranges.ensures
    ∙ ap (λ (bs : List Bounds). owned (Some c.args.number) (λ m. in_ranges m bs) c.args.bounds.first c.args.owners.now.items) c.as_slice.ensures
    ∙ by_ranges (Some c.args.number) c.args.share.now c.args.bounds.first c.args.owners.now.items c.if-share.false
