-- Profiles of subprograms. -- L27, Ada RM 6.1
use Rattle.std.specs.Prelude.{ℕ, suc, ◌+◌, ◌-◌, Bool, true, false, Option, Some, None, List, [], ◌∷◌, ◌++◌, map, length, ◌||◌, not}
use Rattle.ada_values.specs.declared.place.Place.{Place}
use Rattle.ada_text.specs.declared.token.Span.{Span}
use Rattle.ada_syntax.specs.declared.declarations.Mode.{Mode}
use Rattle.ada_syntax.specs.declared.declarations.Mode.TheVariants as mode'
use Rattle.front_codes.specs.declared.codes.Code.TheVariants.{L27}
use Rattle.front_codes.specs.declared.codes.Refusal.{Refusal}
use Rattle.typed_units.specs.declared.operators.Object.TheVariants as object
use Rattle.typed_units.specs.declared.programs.Mode as typed
use Rattle.typed_units.specs.declared.programs.Mode.TheVariants as mode
use Rattle.type_base.specs.declared.entities.Access.{Access}
use Rattle.type_base.specs.declared.entities.Access.TheVariants as access
use Rattle.type_base.specs.declared.entities.Entity.TheVariants as entity
use Rattle.type_base.specs.declared.world.World.{World}
use Rattle.type_base.specs.Lookups.{form_at}
use Rattle.type_base.specs.Scope.{Scope}
use Rattle.syntax_view.specs.Trees as tree
use Rattle.typing_rules.specs.declared.prefix.Found.{Found}
use Rattle.typing_rules.specs.declared.prefix.Found.TheVariants.{Refused, Unknown, Is}
use Rattle.typing_rules.specs.Fits.{both, found_then, with_found}
use Rattle.statement_typing.specs.declared.draft.Draft.{Draft}
use Rattle.statement_typing.specs.declared.parts.Formals.{Formals}
use Rattle.statement_typing.specs.declared.parts.Noted.{Noted}
use Rattle.statement_typing.specs.declared.parts.Noted.TheVariants.{Known, New}
use Rattle.statement_typing.specs.declared.parts.Profile.{Profile}
use Rattle.statement_typing.specs.Checks.{all_of, fault_after, refuse, unless}
use Rattle.statement_typing.specs.Subtypes.{indicated, indicated_faults, is_constrained, name_place}
use Rattle.statement_typing.specs.Files.{Home}
use Rattle.statement_typing.specs.Drafts.{declare, in_world}
use Rattle.statement_typing.specs.Objects.{changed_at}

abbrev pub mode_of : Mode → typed.Mode
mode_of mode'.Unstated = mode.In
mode_of mode'.In = mode.In
mode_of mode'.Out = mode.Out
mode_of mode'.InOut = mode.InOut

abbrev pub is_out : typed.Mode → Bool
is_out mode.Out = true
is_out mode.In = false
is_out mode.InOut = false

-- ---- what a profile gives

-- a subtype that has a name
abbrev pub named_subtype : Place → Noted → Found ℕ
named_subtype p (Known k) = Is k
named_subtype p (New s) = refuse L27 p

abbrev pub marked_subtype : Scope → tree.SubInd → Found ℕ
marked_subtype c s = found_then (indicated c L27 s) (named_subtype (name_place c s.name))

-- no `out` parameter is of an unconstrained array type
abbrev pub formals_of : World → Place → List Span → typed.Mode → ℕ → Found Formals
formals_of w p ss m k = unless (not (is_out m) || is_constrained (form_at w k)) L27 p (record { names = ss; mode = m; subtype = k })

abbrev pub formals : Scope → tree.Param → Found Formals
formals c q = found_then (marked_subtype c q.subtype) (formals_of c.world (c.place q.span.from) q.names (mode_of q.mode))

abbrev pub formals_faults : Scope → tree.Param → List Refusal
formals_faults c q =
    indicated_faults c L27 q.subtype
    ++ fault_after (indicated c L27 q.subtype) (marked_subtype c q.subtype)
    ++ fault_after (marked_subtype c q.subtype) (formals c q)

abbrev pub result_mark : Scope → tree.Name → tree.SubInd
result_mark c (tree.named s first rest) = record { span = s; name = tree.named s first rest; bounds = None }

abbrev pub result_subtype : Scope → Option tree.Name → Found (Option ℕ)
result_subtype c None = Is None
result_subtype c (Some n) = with_found Some (marked_subtype c (result_mark c n))

abbrev pub result_faults : Scope → Option tree.Name → List Refusal
result_faults c None = []
result_faults c (Some n) = indicated_faults c L27 (result_mark c n) ++ fault_after (indicated c L27 (result_mark c n)) (marked_subtype c (result_mark c n))

abbrev pub profile : Scope → tree.Heading → Found Profile
profile c h = both (λ fs r. record { formals = fs; result = r }) (all_of (map (formals c) h.params)) (result_subtype c h.result)

abbrev pub params_faults : Scope → List tree.Param → List Refusal
params_faults c [] = []
params_faults c (q ∷ qs) = formals_faults c q ++ params_faults c qs

abbrev pub profile_faults : Scope → tree.Heading → List Refusal
profile_faults c h = params_faults c h.params ++ result_faults c h.result

-- ---- a subprogram with a profile

abbrev pub access_of : typed.Mode → Access
access_of mode.In = access.InParameter
access_of mode.Out = access.Variable
access_of mode.InOut = access.Variable

abbrev pub with_param : Home → ℕ → typed.Mode → ℕ → Span → ℕ → Draft → Draft
with_param h q m k s i d =
    declare h.file.number s (entity.Object k (object.Param i) (access_of m))
    (in_world (λ w. record w { formals = w.formals ++ record { name = h.file.name s.from; mode = m; subtype = k } ∷ [] })
    (record d { subs = changed_at q (λ x. record x { params = x.params ++ record { name = h.file.spelled s.from; mode = m; subtype = k } ∷ [] }) d.subs }))

-- the parameters of a group, of which i come before
abbrev pub with_params : Home → ℕ → typed.Mode → ℕ → List Span → ℕ → Draft → Draft
with_params h q m k [] i d = d
with_params h q m k (s ∷ ss) i d = with_params h q m k ss (suc i) (with_param h q m k s i d)

abbrev pub with_formals : Home → ℕ → List Formals → ℕ → Draft → Draft
with_formals h q [] i d = d
with_formals h q (f ∷ fs) i d = with_formals h q fs (i + length f.names) (with_params h q f.mode f.subtype f.names i d)

-- first: how many formals the world had before
abbrev pub with_routine : Home → ℕ → Span → ℕ → Option ℕ → Draft → Draft
with_routine h q s first r d =
    declare h.file.number s (entity.Routine q)
    (in_world (λ w. record w { routines = changed_at q (λ x. record { first = first; count = length w.formals - first; result = r }) w.routines })
    (record d { subs = changed_at q (λ x. record x { result = r }) d.subs }))

abbrev pub with_profile : Home → ℕ → Span → Found Profile → Draft → Draft
with_profile h q s (Is p) d = with_routine h q s (length d.world.formals) p.result (with_formals h q p.formals 0 d)
with_profile h q s Unknown d = d
with_profile h q s (Refused f) d = d
