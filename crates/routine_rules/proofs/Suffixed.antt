-- A name with suffixes that are left is no global, and no mode.
use Rattle.std.proofs.Common.{◌≡◌, ◌≤◌, ◌∙◌, ap, sym, refl, List, [], ◌∷◌, length, Option, None, arith}
use Rattle.ada_syntax.specs.declared.expressions.Expr.{Expr, out-Expr}
use Rattle.ada_syntax.specs.declared.expressions.ExprNode.TheVariants as node
use Rattle.ada_syntax.specs.declared.expressions.Item.{Item}
use Rattle.ada_syntax.specs.declared.expressions.ItemForm.{ItemForm}
use Rattle.ada_syntax.specs.declared.expressions.ItemForm.TheVariants as form
use Rattle.ada_syntax.specs.declared.expressions.Name.{Name}
use Rattle.ada_syntax.specs.declared.expressions.Suffix.{Suffix}
use Rattle.ada_text.specs.declared.token.Span.{Span}
use Rattle.ada_values.specs.declared.place.Place.{Place}
use Rattle.front_codes.specs.declared.codes.Code.TheVariants.{L30}
use Rattle.typed_units.specs.declared.operators.Object.TheVariants as object
use Rattle.typed_units.specs.declared.programs.GlobalMode.{GlobalMode}
use Rattle.type_base.specs.declared.entities.Entity.{Entity}
use Rattle.type_base.specs.declared.entities.Entity.TheVariants as entity
use Rattle.syntax_view.specs.Trees as tree
use Rattle.syntax_view.specs.View.{expr, form_of, item_of, name_of, suffixes_of}
use Rattle.syntax_view.proofs.Forms.{expr_has}
use Rattle.statement_typing.specs.Aspects.{choice_mode, listed_as}
use Rattle.statement_typing.specs.Checks.{refuse}
use Rattle.statement_typing.specs.Files.{Home}

pub no_global : (p : Place) (m : GlobalMode) (e : Entity) (ss : List (Suffix Expr)) → 1 ≤ length ss → refuse L30 p ≡ listed_as p m e (suffixes_of expr ss)
no_global p m e [] h = absurd (omega arith)
no_global p m entity.Unknown (s ∷ ss) h = refl
no_global p m entity.Package (s ∷ ss) h = refl
no_global p m (entity.Subtype k) (s ∷ ss) h = refl
no_global p m (entity.Routine k) (s ∷ ss) h = refl
no_global p m (entity.Number n) (s ∷ ss) h = refl
no_global p m (entity.Literal k n) (s ∷ ss) h = refl
no_global p m (entity.Static k n) (s ∷ ss) h = refl
no_global p m (entity.Constant k n) (s ∷ ss) h = refl
no_global p m (entity.Object k (object.Param n) a) (s ∷ ss) h = refl
no_global p m (entity.Object k (object.Local n) a) (s ∷ ss) h = refl
no_global p m (entity.Object k (object.Global n) a) (s ∷ ss) h = refl
no_global p m (entity.Object k (object.Turn n) a) (s ∷ ss) h = refl
no_global p m (entity.Object k (object.Index n) a) (s ∷ ss) h = refl

-- nor is it a mode
pub no_mode : (h : Home) (s t u n : Span) (ss : List (Suffix Expr)) → 1 ≤ length ss → None ≡ choice_mode h (tree.part (tree.item s (tree.plain (tree.at t (tree.name (tree.named u n (suffixes_of expr ss)))))))
no_mode h s t u n [] l = absurd (omega arith)
no_mode h s t u n (x ∷ ss) l = refl

-- an item's mode is that of the name that it is
pub of_item : (h : Home) (i : Item Expr) (e : Expr) (n : Name Expr) (m : Option GlobalMode) → i.form ≡ form.Plain e → (out-Expr e).node ≡ node.Name n
    → ((s t : Span) → m ≡ choice_mode h (tree.part (tree.item s (tree.plain (tree.at t (tree.name (name_of expr n)))))))
    → m ≡ choice_mode h (tree.part (item_of expr i))
of_item h i e n m f g all =
    all i.span (out-Expr e).span
    ∙ ap (λ (x : tree.Expr). choice_mode h (tree.part (tree.item i.span (tree.plain x)))) (sym (expr_has e (node.Name n) g))
    ∙ ap (λ (x : ItemForm Expr). choice_mode h (tree.part (tree.item i.span (form_of expr x)))) (sym f)
