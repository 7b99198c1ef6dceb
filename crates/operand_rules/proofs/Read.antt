-- What is made of operands that have been read is what the rules make of them.
use Rattle.std.proofs.Common.{◌≡◌, refl, sym, ap, ℕ, false, List, Option, Some, None}
use Rattle.ada_syntax.specs.declared.expressions.Expr.{Expr, out-Expr}
use Rattle.ada_values.specs.declared.place.Place.{Place}
use Rattle.front_codes.specs.declared.codes.Code.TheVariants as code
use Rattle.syntax_view.specs.Trees as tree
use Rattle.syntax_view.specs.View.{expr}
use Rattle.syntax_view.proofs.Forms.{expr_has}
use Rattle.typed_units.specs.declared.programs.Mode.{Mode}
use Rattle.typed_units.specs.declared.programs.Mode.TheVariants as mode
use Rattle.type_base.specs.Scope.{Scope}
use Rattle.type_base.specs.declared.seen.Seen.{Seen}
use Rattle.type_base.specs.declared.seen.Want.{Want}
use Rattle.type_base.specs.declared.seen.Want.TheVariants as want
use Rattle.type_base.specs.declared.world.Component.{Component}
use Rattle.type_base.specs.declared.world.Formal.{Formal}
use Rattle.typing_rules.specs.declared.aggregates.Gives.{Gives}
use Rattle.typing_rules.specs.declared.prefix.Mapping.{Mapping}
use Rattle.typing_rules.specs.declared.prefix.Mapping.TheVariants as mapping
use Rattle.typing_rules.specs.Aggregates.{value_for}
use Rattle.typing_rules.specs.Attributes as attributes
use Rattle.typing_rules.specs.Calls.{argument_by}
use Rattle.typing_rules.specs.Faults.{mapped_want}
use Rattle.typing_rules.specs.Lookups.{Array}
use Rattle.typing_rules.specs.Names.{conversion_of, index_by, operand_beside}
use Rattle.typing_rules.specs.Parts.{Operand}
use Rattle.typing_rules.specs.Reading.{read}
use Rattle.typing_rules.specs.Values.{place_of}
use Rattle.operand_rules.specs.Operands.{actual_want, argument_read, beside_read, conversion_read, index_read, mapped_read, read_as, read_maybe, value_for_read}

pub expression_place : (c : Scope) (e : Expr) → c.place (out-Expr e).span.from ≡ place_of c (read c (expr e))
expression_place c e = ap (λ (t : tree.Expr). c.place (read c t).from) (sym (expr_has e (out-Expr e).node refl))

pub conversion_of_read : (c : Scope) (p : Place) (k : ℕ) (o : Option Operand) → conversion_read c p k (read_maybe c want.Free o) ≡ conversion_of c p k o
conversion_of_read c p k (Some o) = refl
conversion_of_read c p k None = refl

pub mapped_of_read : (c : Scope) (p : Place) (m : Mapping) (t : Place) (k : ℕ) (o : Option Operand) → mapped_read c p m t k (read_maybe c (mapped_want c m k) o) ≡ attributes.mapped c p m t k o
mapped_of_read c p mapping.Succ t k (Some o) = refl
mapped_of_read c p mapping.Pred t k (Some o) = refl
mapped_of_read c p mapping.Pos t k (Some o) = refl
mapped_of_read c p mapping.Val t k (Some o) = refl
mapped_of_read c p m t k None = refl

pub index_by_read : (c : Scope) (a : Array) (q : Place) (o : Option Operand) → index_read c a.index a.bounds q (read_maybe c (want.Subtype a.index) o) ≡ index_by c a q o
index_by_read c a q (Some o) = refl
index_by_read c a q None = refl

pub operand_beside_read : (c : Scope) (o : Option Operand) (s : Seen) → beside_read c (read_maybe c want.Unknown o) s ≡ operand_beside c o s
operand_beside_read c (Some o) s = refl
operand_beside_read c None s = refl

by_mode : (c : Scope) (n s k : ℕ) (m : Mode) (o : Operand) → argument_read c n (record { name = s; mode = m; subtype = k }) (Some (read_as c (actual_want m k) o)) ≡ argument_by c n (Some (record { name = s; mode = m; subtype = k })) (Some o)
by_mode c n s k mode.In o = refl
by_mode c n s k mode.Out o = refl
by_mode c n s k mode.InOut o = refl

pub argument_by_read : (c : Scope) (n : ℕ) (f : Formal) (o : Option Operand) → argument_read c n f (read_maybe c (actual_want f.mode f.subtype) o) ≡ argument_by c n (Some f) o
argument_by_read c n f (Some o) = by_mode c n f.name f.subtype f.mode o
argument_by_read c n f None = refl

pub value_for_of_read : (c : Scope) (cs : List Component) (g : Gives) (k : ℕ) (o : Option Operand) → value_for_read c cs g k (read_maybe c (want.Subtype k) o) ≡ value_for c cs g k o
value_for_of_read c cs g k (Some o) = refl
value_for_of_read c cs g k None = refl
