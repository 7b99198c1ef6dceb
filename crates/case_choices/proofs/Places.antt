-- Where expressions begin, and how a choice is read.
use Rattle.std.proofs.Common.{◌≡◌, ◌∙◌, refl, sym, ap, true, false}
use Rattle.std.specs.Prelude.{if◌then◌else◌, Bool, List, map}
use Rattle.ada_syntax.specs.declared.expressions.Expr.{Expr, out-Expr}
use Rattle.syntax_view.specs.Trees as tree
use Rattle.syntax_view.specs.View.{expr}
use Rattle.syntax_view.proofs.Forms.{expr_has}
use Rattle.type_base.specs.declared.seen.Want.{Want}
use Rattle.type_base.specs.Scope.{Scope}
use Rattle.typed_units.specs.declared.statements.Alternative.{Alternative}
use Rattle.typed_units.specs.declared.statements.Stmt.{Stmt}
use Rattle.typing_rules.specs.declared.prefix.Found.{Found}
use Rattle.typing_rules.specs.declared.prefix.Found.TheVariants.{Refused, Unknown, Is}
use Rattle.typing_rules.specs.Fits.{both, with_found}
use Rattle.statement_typing.specs.declared.parts.Spread.{Spread}
use Rattle.statement_typing.specs.Asked.{place_of}
use Rattle.statement_typing.specs.Checks.{all_of}
use Rattle.statement_typing.specs.Choices.{choice_seen, has_others, range_choice, spreads_in, value_choice}
use Rattle.statement_typing.specs.Statements.{alternative_of}
use Rattle.case_choices.specs.Choosing.{is_stretch}

pub place_is : (c : Scope) (e : Expr) → c.place (out-Expr e).span.from ≡ place_of c (expr e)
place_is c e = ap (place_of c) (sym (expr_has e (out-Expr e).node refl))

pub choice_is : (c : Scope) (w : Want) (e : tree.Expr) (h : tree.MaybeExpr) → (if is_stretch c (tree.range e h) then range_choice c w (tree.range e h) else value_choice c w e) ≡ choice_seen c w (tree.range e h)
choice_is c w e (tree.an_expr h) = refl
choice_is c w (tree.at s (tree.name n)) tree.no_expr = refl
choice_is c w (tree.at s (tree.number n)) tree.no_expr = refl
choice_is c w (tree.at s tree.null) tree.no_expr = refl
choice_is c w (tree.at s (tree.group as')) tree.no_expr = refl
choice_is c w (tree.at s (tree.unary p o a)) tree.no_expr = refl
choice_is c w (tree.at s (tree.binary p o a b)) tree.no_expr = refl
choice_is c w (tree.at s (tree.member p n a r)) tree.no_expr = refl

-- the first expression of a range
abbrev pub low_of : tree.Range → tree.Expr
low_of (tree.range e h) = e

pub ranged : (c : Scope) (w : Want) (r : tree.Range) → is_stretch c r ≡ true → range_choice c w r ≡ choice_seen c w r
ranged c w (tree.range e h) y = ap (λ (b : Bool). if b then range_choice c w (tree.range e h) else value_choice c w e) (sym y) ∙ choice_is c w e h

pub valued : (c : Scope) (w : Want) (r : tree.Range) → is_stretch c r ≡ false → value_choice c w (low_of r) ≡ choice_seen c w r
valued c w (tree.range e h) y = ap (λ (b : Bool). if b then range_choice c w (tree.range e h) else value_choice c w e) (sym y) ∙ choice_is c w e h

with_choices : (o : Bool) (xs : Found (List Spread)) (ss : Found (List Stmt))
    → both {C = Alternative Stmt} (λ ks ys. record { choices = ks; others = o; body = ys }) (with_found (map (λ x. x.choice)) xs) ss
    ≡ both {C = Alternative Stmt} (λ zs ys. record { choices = map (λ x. x.choice) zs; others = o; body = ys }) xs ss
with_choices o (Refused f) ss = refl
with_choices o Unknown ss = refl
with_choices o (Is xs) ss = refl

pub alternative_is : (c : Scope) (w : Want) (ks : List tree.Choice) (ss : Found (List Stmt))
    → both {C = Alternative Stmt} (λ xs ys. record { choices = xs; others = has_others ks; body = ys }) (with_found (map (λ x. x.choice)) (all_of (spreads_in c w ks))) ss ≡ alternative_of c w ks ss
alternative_is c w ks ss = with_choices (has_others ks) (all_of (spreads_in c w ks)) ss
