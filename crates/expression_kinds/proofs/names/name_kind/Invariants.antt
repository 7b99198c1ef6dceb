use Rattle.std.proofs.Common.{◌≡◌, drop}
use Rattle.reading_scope.specs.Scopes.{scope_of}
use Rattle.syntax_view.specs.View.{expr, suffixes_of}
use Rattle.typing_rules.specs.Kinds.{suffixes_hint}
use Rattle.typing_rules.specs.Reading.{suffixes}
use Rattle.expression_kinds.proofs.names.name_kind.Given as goal

abbrev pub invariant-loop-suffix : goal.invariant-loop-suffix
invariant-loop-suffix l = suffixes_hint (scope_of l.scope) l.hint (suffixes (scope_of l.scope) (suffixes_of expr (drop l.suffix-index l.suffix-items))) ≡ suffixes_hint (scope_of l.scope) l.initial.hint (suffixes (scope_of l.scope) (suffixes_of expr l.suffix-items))
