-- A range by the places of its bounds is what the rules say of it.
use Rattle.std.proofs.Common.{◌≡◌, refl, sym, ap}
use Rattle.ada_syntax.specs.declared.expressions.Expr.{Expr, out-Expr}
use Rattle.front_codes.specs.declared.codes.Code.{Code}
use Rattle.syntax_view.specs.Trees as tree
use Rattle.syntax_view.specs.View.{expr}
use Rattle.syntax_view.proofs.Forms.{expr_has}
use Rattle.type_base.specs.declared.seen.Want.{Want}
use Rattle.type_base.specs.Scope.{Scope}
use Rattle.typing_rules.specs.declared.prefix.Between.{Between}
use Rattle.typing_rules.specs.declared.prefix.Found.{Found}
use Rattle.typing_rules.specs.Fits.{found_then}
use Rattle.typing_rules.specs.Ranges.{reach_of}
use Rattle.typing_rules.specs.Reading.{range}
use Rattle.range_rules.proofs.Placed.{reach_in_placed}
use Rattle.statement_typing.specs.Asked as asked
use Rattle.subtype_reader.specs.Reaches.{range_of_want}

pub place_is : (c : Scope) (e : Expr) → c.place (out-Expr e).span.from ≡ asked.place_of c (expr e)
place_is c e = ap (asked.place_of c) (sym (expr_has e (out-Expr e).node refl))

pub range_is : (c : Scope) (r : Code) (w : Want) (g : tree.Range)
    → range_of_want c r w (asked.low_place c g) (asked.high_place c g) (reach_of c r w (range c g)) ≡ asked.range_seen c r w g
range_is c r w (tree.range (tree.at s n) tree.no_expr) =
    let g : tree.Range = tree.range (tree.at s n) tree.no_expr in
    ap (λ (b : Found Between). found_then b (asked.of_wanted c r w g)) (reach_in_placed c r (asked.number_type w) (range c g) (reach_of c r w (range c g)))
range_is c r w (tree.range (tree.at s n) (tree.an_expr (tree.at t m))) =
    let g : tree.Range = tree.range (tree.at s n) (tree.an_expr (tree.at t m)) in
    ap (λ (b : Found Between). found_then b (asked.of_wanted c r w g)) (reach_in_placed c r (asked.number_type w) (range c g) (reach_of c r w (range c g)))
