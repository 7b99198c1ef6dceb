-- What steps of the code give, in the words of the rules.
use Rattle.std.proofs.Common.{◌≡◌, ◌≤◌, ap, arith, refl, sym, ◌∙◌, Bool, length, false, ℕ, zero, suc, List, [], ◌∷◌, Option, Some, None}
use Rattle.std.specs.Prelude.{slice_get}
use Rattle.ada_text.specs.declared.token.Span.{Span}
use Rattle.ada_syntax.specs.declared.expressions.Arg.{Arg}
use Rattle.ada_syntax.specs.declared.expressions.Suffix.{Suffix}
use Rattle.ada_syntax.specs.declared.expressions.Expr.{Expr as Tree}
use Rattle.ada_values.specs.declared.place.Place.{Place}
use Rattle.syntax_view.specs.Trees as tree
use Rattle.syntax_view.specs.View.{args_of, expr, suffixes_of}
use Rattle.type_base.specs.Scope.{Scope}
use Rattle.typed_units.specs.declared.expressions.Association.{Association}
use Rattle.typed_units.specs.declared.expressions.Expr.{Expr}
use Rattle.typed_units.specs.declared.operators.Bounds.{Bounds}
use Rattle.typing_rules.specs.declared.prefix.Found.{Found}
use Rattle.typing_rules.specs.declared.prefix.Found.TheVariants.{Refused, Unknown, Is}
use Rattle.typing_rules.specs.Aggregates.{Cover, arg_place, cover_found, cover_of, covered}
use Rattle.typing_rules.specs.Fits.{with_found}
use Rattle.typing_rules.specs.Forms.{is_identifier}
use Rattle.typing_rules.specs.Parts.{Arg as Given}
use Rattle.typing_rules.specs.Reading.{args, name_form}

pub as_found : {A : Type 0} (x : Found A) → with_found (λ y. y) x ≡ x
as_found (Refused f) = refl
as_found Unknown = refl
as_found (Is a) = refl

abbrev pub start_place : Scope → Place → Option (Arg Tree) → Place
start_place c p (Some a) = c.place a.span.from
start_place c p None = p

-- the place of the association of a number
pub arg_there : (c : Scope) (p : Place) (as' : List (Arg Tree)) (n : ℕ) → arg_place c p (slice_get (args c (args_of expr as')) n) ≡ start_place c p (slice_get as' n)
arg_there c p [] n = refl
arg_there c p (a ∷ as') zero = refl
arg_there c p (a ∷ as') (suc n) = arg_there c p as' n

-- a name with a suffix
pub followed : (c : Scope) (s i : Span) (ss : List (Suffix Tree)) → 1 ≤ length ss → false ≡ is_identifier (name_form c (tree.named s i (suffixes_of expr ss)))
followed c s i [] h = absurd (omega arith)
followed c s i (x ∷ xs) h = refl

-- what the ranges are decides
pub covered_is : (c : Scope) (p : Place) (b : Bounds) (as' : List Given) (partial : Bool) (found : Found (List Bounds)) (rs xs : List Bounds) (o : Cover) (done : Found (List (Association Expr)))
    → found ≡ Is rs → xs ≡ rs → o ≡ cover_of b xs → cover_found c p as' partial o done ≡ covered c p b as' partial found done
covered_is c p b as' partial found rs xs o done f e h =
    ap (λ (x : Cover). cover_found c p as' partial x done) (h ∙ ap (cover_of b) e) ∙ ap (λ (x : Found (List Bounds)). covered c p b as' partial x done) (sym f)
