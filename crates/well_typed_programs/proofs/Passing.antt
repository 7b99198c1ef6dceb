-- What is passed for `out` and `in out` parameters.
use Rattle.std.proofs.Common.{◌≡◌, ap₂, subst, ◌∙◌, refl, ℕ, true, false, Option, Some}
use Rattle.typed_units.specs.declared.expressions.Actual.TheVariants as actual
use Rattle.typed_units.specs.declared.operators.Bounds.{Bounds}
use Rattle.typed_units.specs.declared.programs.Mode.TheVariants as mode
use Rattle.typed_units.specs.declared.programs.Param.{Param}
use Rattle.typed_units.specs.declared.programs.Program.{Program}
use Rattle.type_base.specs.Scope.{Scope}
use Rattle.type_base.specs.declared.world.World.{World}
use Rattle.type_base.specs.Demands.{bounds_at}
use Rattle.type_base.specs.Lookups.{form_at, type_at}
use Rattle.typing_rules.specs.declared.prefix.Part.{Part}
use Rattle.typing_rules.specs.Calls.{check_between, passed}
use Rattle.typing_rules.specs.Fits.{takes}
use Rattle.program_typing.specs.Checks.{subtype_check, unless_known}
use Rattle.program_typing.specs.Expressions as rule
use Rattle.program_typing.specs.Expressions.{Frame, HasTarget, IsVariable, Passes, Takes}
use Rattle.program_typing.specs.Subtypes.{OfOneType}
use Rattle.well_typed_programs.specs.Fits.{PartFits, WorldFits}
use Rattle.well_typed_programs.proofs.Fitting.{bounds_there, check_same, takes_by}
use Rattle.well_typed_programs.proofs.Objects.{path_steps}
use Rattle.well_typed_programs.proofs.Worlds.{type_in_program}

between_same : (f : Frame) (c : Scope) (k j t u : ℕ) → WorldFits f.program c.world → type_at c.world k ≡ Some t → type_at c.world j ≡ Some u → subtype_check f.program k j ≡ check_between c k j
between_same f c k j t u h e g =
    ap₂ (λ (a b : Option Bounds). unless_known a b) (bounds_there f.program c.world k t h e) (bounds_there f.program c.world j u h g) ∙ check_same (bounds_at c.world k) (bounds_at c.world j)

-- a part that may be written
pub target_is : (f : Frame) (w : World) (g : Part) → WorldFits f.program w → PartFits f w g → IsVariable f g.target.object → HasTarget f g.target g.subtype
target_is f w g h z v = rule.target f g.target.place g.target.object g.whole g.subtype g.target.path z.object v (path_steps f w g.whole g.subtype g.target.path h z.path)

of_one : (p : Program) (w : World) (j k t : ℕ) → WorldFits p w → type_at w j ≡ Some t → type_at w k ≡ Some t → OfOneType p j k
of_one p w j k t h e g = record { type = t; first = type_in_program p w j t h e; second = type_in_program p w k t h g }

pub out_is : (f : Frame) (c : Scope) (x : Param) (g : Part) (t : ℕ) → WorldFits f.program c.world → PartFits f c.world g → IsVariable f g.target.object → x.mode ≡ mode.Out
    → type_at c.world x.subtype ≡ Some t → type_at c.world g.subtype ≡ Some t → takes c.world false x.subtype g.subtype ≡ true → Passes f x (passed c mode.Out x.subtype g)
out_is f c x g t h z v m e i a =
    subst (λ (b : Option Bounds). Passes f x (actual.Out g.target b)) (between_same f c g.subtype x.subtype t t h i e)
    (rule.pass_out f x g.target g.subtype m (target_is f c.world g h z v) (of_one f.program c.world g.subtype x.subtype t h i e)
    (takes_by f.program c.world false x.subtype g.subtype t (form_at c.world x.subtype) (form_at c.world g.subtype) h e i refl refl a))

pub in_out_is : (f : Frame) (c : Scope) (x : Param) (g : Part) (t : ℕ) → WorldFits f.program c.world → PartFits f c.world g → IsVariable f g.target.object → x.mode ≡ mode.InOut
    → type_at c.world x.subtype ≡ Some t → type_at c.world g.subtype ≡ Some t → takes c.world false x.subtype g.subtype ≡ true → Passes f x (passed c mode.InOut x.subtype g)
in_out_is f c x g t h z v m e i a =
    subst (λ (b : Option Bounds). Passes f x (actual.InOut g.target (check_between c x.subtype g.subtype) b)) (between_same f c g.subtype x.subtype t t h i e)
    (subst (λ (b : Option Bounds). Passes f x (actual.InOut g.target b (subtype_check f.program g.subtype x.subtype))) (between_same f c x.subtype g.subtype t t h e i)
    (rule.pass_in_out f x g.target g.subtype m (target_is f c.world g h z v) (of_one f.program c.world g.subtype x.subtype t h i e)
    (takes_by f.program c.world false x.subtype g.subtype t (form_at c.world x.subtype) (form_at c.world g.subtype) h e i refl refl a)))
