-- The shares of an aggregate's associations, over the code's expressions.
use Rattle.std.specs.Prelude.{List, [], ◌∷◌, true}
use Rattle.ada_values.specs.declared.values.Value.{Value}
use Rattle.front_codes.specs.declared.codes.Code.TheVariants.{L27}
use Rattle.typed_units.specs.declared.expressions.Association.{Association}
use Rattle.typed_units.specs.declared.expressions.Expr.{Expr, out-Expr}
use Rattle.typing_rules.specs.declared.prefix.Found.{Found}
use Rattle.typing_rules.specs.declared.prefix.Found.TheVariants.{Is}
use Rattle.typing_rules.specs.Fits.{with_found}
use Rattle.statement_typing.specs.declared.parts.Share.{Share}
use Rattle.statement_typing.specs.Checks.{added, and_also, unless}
use Rattle.statement_typing.specs.Values.{is_empty, static_value}

abbrev pub as_share : Association Expr → Value → Share
as_share a v = record { ranges = a.ranges; others = a.others; value = v }

-- what an association gives whose value was read
abbrev pub share_by : Association Expr → Found Value → Found Share
share_by a f = with_found (as_share a) (and_also f (unless (is_empty a.checks) L27 (out-Expr a.value).place true))

abbrev pub share_onto : Found (List Share) → Association Expr → Found (List Share)
share_onto done a = added done (share_by a (static_value a.value))

abbrev pub shares_onto : Found (List Share) → List (Association Expr) → Found (List Share)
shares_onto done [] = done
shares_onto done (a ∷ as') = shares_onto (share_onto done a) as'

abbrev pub shares_in : List (Association Expr) → Found (List Share)
shares_in as' = shares_onto (Is []) as'
