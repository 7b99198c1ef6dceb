-- Which profile a subprogram's heading has, a constructor a rule. -- L27, Ada RM 6.1
use Rattle.std.specs.Prelude.{◌≡◌, ℕ, Option, Some, None, List, [], ◌∷◌}
use Rattle.syntax_view.specs.Trees as tree
use Rattle.typed_units.specs.declared.programs.Mode.{Mode}
use Rattle.typed_units.specs.declared.programs.Mode.TheVariants as mode
use Rattle.type_base.specs.Scope.{Scope}
use Rattle.type_base.specs.declared.world.Form.{Form}
use Rattle.type_base.specs.Lookups.{form_at}
use Rattle.statement_typing.specs.declared.parts.Formals.{Formals}
use Rattle.statement_typing.specs.declared.parts.Noted.TheVariants.{Known}
use Rattle.statement_typing.specs.declared.parts.Profile.{Profile}
use Rattle.statement_typing.specs.Routines.{mode_of, result_mark}
use Rattle.declaration_relations.specs.Indicates.{Indicates, IsDefinite}

-- no parameter of mode `out` is an array without bounds
abbrev pub SuitsMode : Mode → Form → Type 0
SuitsMode mode.Out f = IsDefinite f
SuitsMode mode.In f = Unit {0}
SuitsMode mode.InOut f = Unit {0}

-- parameters of one mode and one subtype, which is given by its name
pub data HasFormals (c : Scope) (q : tree.Param) : Formals → Type 0 where
  has_formals : (k : ℕ) (f : Form) → Indicates c q.subtype (Known k) → form_at c.world k ≡ Some f → SuitsMode (mode_of q.mode) f
      → HasFormals c q (record { names = q.names; mode = mode_of q.mode; subtype = k })

pub data AllFormals (c : Scope) : List tree.Param → List Formals → Type 0 where
  no_more : AllFormals c [] []
  one_more : (q : tree.Param) (qs : List tree.Param) (x : Formals) (xs : List Formals) → HasFormals c q x → AllFormals c qs xs → AllFormals c (q ∷ qs) (x ∷ xs)

-- a function has a result of a subtype that is given by its name
pub data HasResult (c : Scope) : Option tree.Name → Option ℕ → Type 0 where
  procedure : HasResult c None None
  function : (n : tree.Name) (k : ℕ) → Indicates c (result_mark c n) (Known k) → HasResult c (Some n) (Some k)

pub record HasProfile (c : Scope) (h : tree.Heading) (p : Profile) : Type 0 where
  pub formals : AllFormals c h.params p.formals
  pub result : HasResult c h.result p.result
