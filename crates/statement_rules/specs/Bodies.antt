-- The statements of a loop, in the words of the rules.
use Rattle.typing_rules.specs.declared.prefix.Found.{Found}
use Rattle.typing_rules.specs.Fits.{with_found}
use Rattle.statement_rules.specs.declared.stages.LoopBody as code
use Rattle.statement_rules.specs.declared.stages.Stage as place
use Rattle.statement_rules.specs.declared.stages.Stage.TheVariants as stage
use Rattle.statement_rules.specs.declared.sorts.Sort as pragma
use Rattle.statement_rules.specs.declared.sorts.Sort.TheVariants as sort
use Rattle.statement_typing.specs.Statements.{Body, Sort, Stage, after_group, another, before_group, in_group, invariant, variant}
use Rattle.syntax_view.specs.View.{args_of, expr}

abbrev pub stage_as : place.Stage → Stage
stage_as stage.BeforeGroup = before_group
stage_as (stage.InGroup b) = in_group b
stage_as stage.AfterGroup = after_group

abbrev pub body_from : code.LoopBody → Body
body_from b = record { before = b.before; group = b.group; after = b.after }

abbrev pub bodies : Found code.LoopBody → Found Body
bodies = with_found body_from

abbrev pub sort_as : pragma.Sort → Sort
sort_as (sort.Invariant as') = invariant (args_of expr as'.now)
sort_as (sort.Variant as') = variant (args_of expr as'.now)
sort_as sort.Another = another
