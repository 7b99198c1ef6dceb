-- What a name with suffixes is as an index.
use Rattle.std.proofs.Common.{◌≡◌, refl, ◌≤◌, List, [], ◌∷◌, length, arith}
use Rattle.ada_syntax.specs.declared.expressions.Expr.{Expr}
use Rattle.ada_syntax.specs.declared.expressions.Suffix.{Suffix}
use Rattle.ada_values.specs.declared.place.Place.{Place}
use Rattle.front_codes.specs.declared.codes.Code.TheVariants.{L20}
use Rattle.syntax_view.specs.View.{expr, suffixes_of}
use Rattle.type_base.specs.declared.entities.Entity.{Entity}
use Rattle.type_base.specs.declared.entities.Entity.TheVariants as entity
use Rattle.type_base.specs.Scope.{Scope}
use Rattle.statement_typing.specs.Checks.{refuse}
use Rattle.statement_typing.specs.Subtypes.{mark}
use Rattle.statement_typing.specs.Types.{discrete_mark}

-- it names no discrete subtype
pub suffixed : (c : Scope) (p : Place) (e : Entity) (ss : List (Suffix Expr)) → 1 ≤ length ss → refuse L20 p ≡ discrete_mark c p (mark e (suffixes_of expr ss))
suffixed c p e [] l = absurd (omega arith)
suffixed c p entity.Unknown (s ∷ ss) l = refl
suffixed c p entity.Package (s ∷ ss) l = refl
suffixed c p (entity.Subtype k) (s ∷ ss) l = refl
suffixed c p (entity.Routine k) (s ∷ ss) l = refl
suffixed c p (entity.Number n) (s ∷ ss) l = refl
suffixed c p (entity.Literal k n) (s ∷ ss) l = refl
suffixed c p (entity.Static k n) (s ∷ ss) l = refl
suffixed c p (entity.Constant k n) (s ∷ ss) l = refl
suffixed c p (entity.Object k o a) (s ∷ ss) l = refl
