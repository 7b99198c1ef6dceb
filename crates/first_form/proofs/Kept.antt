-- The form of a tree is one that keeps its limits.
use Rattle.std.proofs.Common.{◌≡◌, ℕ, Bool, true, false, Option, Some, None, List, refl}
use Rattle.std.specs.Prelude.{if◌then◌else◌}
use Rattle.std.specs.Option.{option_and_then}
use Rattle.ada_syntax.specs.declared.units.SourceUnit.{SourceUnit}
use Rattle.first_form.specs.declared.form.FirstForm.{FirstForm}
use Rattle.first_form.specs.Form.{IsForm, is_form}
use Rattle.first_form.specs.Tree.{form_of, kept, shape_of}

by_test : (g f : FirstForm) (b : Bool) → is_form g ≡ b → (if b then Some g else None) ≡ Some f → IsForm f
by_test g f true e h = let same : g ≡ f = cc in sym_test same
  where
    sym_test : g ≡ f → IsForm f
    sym_test s = cc
by_test g f false e h = cc

kept_form : (o : Option FirstForm) (f : FirstForm) → option_and_then kept o ≡ Some f → IsForm f
kept_form None f h = cc
kept_form (Some g) f h = by_test g f (is_form g) refl h

pub forms_are_forms : (text : List ℕ) (unit : SourceUnit) (f : FirstForm) → form_of text unit ≡ Some f → IsForm f
forms_are_forms text unit f h = kept_form (shape_of text unit) f h
