-- What is found of the parts of declarations whose names are declared.
use Rattle.std.proofs.Common.{ℕ, Bool, true, false, List, Option, Some, None}
use Rattle.ada_values.specs.declared.place.Place.{Place}
use Rattle.front_codes.specs.declared.codes.Code.{Code}
use Rattle.front_codes.specs.declared.codes.Code.TheVariants.{L8, L27}
use Rattle.syntax_view.specs.Trees as tree
use Rattle.typed_units.specs.declared.expressions.Expr.{Expr}
use Rattle.typed_units.specs.declared.expressions.Fitted.{Fitted}
use Rattle.type_base.specs.Lookups.{form_at}
use Rattle.type_base.specs.Scope.{Scope}
use Rattle.type_base.specs.declared.seen.Seen.{Seen}
use Rattle.type_base.specs.declared.seen.Seen.TheVariants as seen'
use Rattle.type_base.specs.declared.seen.Want.TheVariants as want
use Rattle.type_base.specs.declared.world.World.{World}
use Rattle.expression_rules.specs.Known.{IsKnown}
use Rattle.typing_rules.specs.Reading.{seen}
use Rattle.typing_laws.specs.Declared.{IsDeclared, IsSound, IsThere}
use Rattle.typing_laws.proofs.KnownArguments.{fit_found}
use Rattle.typing_laws.proofs.Standing.{IsFound, found_if, with_found_found}
use Rattle.statement_typing.specs.Aspects.{aspects_found}
use Rattle.statement_typing.specs.Asked.{place_of}
use Rattle.statement_typing.specs.Checks.{all_of, refuse}
use Rattle.statement_typing.specs.Files.{Home}
use Rattle.statement_typing.specs.Objects.{given, initial, named_number, object_subtype, settled_value}
use Rattle.statement_typing.specs.Routines.{profile}
use Rattle.statement_typing.specs.Subtypes.{indicated, is_of_integers, part, static_in}
use Rattle.statement_typing.specs.Types.{definition}
use Rattle.statement_typing.specs.Values.{settled}
use Rattle.known_statements.specs.Declared as told
use Rattle.known_statements.proofs.Acted.{told}
use Rattle.known_statements.proofs.Asked.{all_found, seen_known}
use Rattle.known_statements.proofs.Chosen.{static_found}
use Rattle.known_declarations.specs.Declared.{AspectsDeclared, DefinitionDeclared, IndicationDeclared, IsReady, ProfileDeclared, ValueDeclared}
use Rattle.known_declarations.proofs.Aspected.{aspects_all_found}
use Rattle.known_declarations.proofs.Defined.{definition_found, profile_found}
use Rattle.known_declarations.proofs.Indicated.{NotedFound, indicated_there, noted_found, whole_there}
use Rattle.known_declarations.proofs.Valued.{settled_found}

-- ---- named numbers

named_found : (w : World) (p : Place) (s : Seen) → IsKnown w s → IsFound (named_number w p s)
named_found w p (seen'.Refused f) h = tt
named_found w p seen'.Unknown h = absurd h
named_found w p (seen'.Number n) h = tt
named_found w p (seen'.Typed t x) h = found_if (is_of_integers (form_at w t)) (static_in L27 p x) (refuse L8 p) (static_found L27 p x) tt

pub number_found : (c : Scope) (e : tree.Expr) → IsSound c.world → IsDeclared c e → IsFound (part c want.Free e (named_number c.world (place_of c e)))
number_found c e sound h = named_found c.world (place_of c e) (seen c want.Free e) (seen_known c want.Free e sound tt h)

-- ---- objects

pub object_subtype_there : (c : Scope) (p : Place) (s : tree.SubInd) → IsReady c.world → IndicationDeclared c s → NotedFound c.world (object_subtype c p s)
object_subtype_there c p s ready h = whole_there c.world L27 p (indicated c L27 s) (indicated_there c L27 s ready h)

pub initial_found : (c : Scope) (p : Place) (b : Bool) (k : ℕ) (e : Option tree.Expr) → IsSound c.world → IsThere c.world k → ValueDeclared c e → IsFound (initial c p b (want.Subtype k) k e)
initial_found c p b k (Some e) sound h i =
    let s = seen c (want.Subtype k) e in
    with_found_found Some (given c (want.Subtype k) k e) (fit_found c.world L8 true k (place_of c e) s sound h (seen_known c (want.Subtype k) e sound h i))
initial_found c p true k None sound h i = tt
initial_found c p false k None sound h i = tt

pub settled_value_found : (c : Scope) (e : Option tree.Expr) (f : Option (Fitted Expr)) → IsFound (settled_value c e f)
settled_value_found c (Some e) (Some f) = with_found_found Some (settled (place_of c e) f) (settled_found (place_of c e) f)
settled_value_found c (Some e) None = tt
settled_value_found c None (Some f) = tt
settled_value_found c None None = tt

-- ---- in the words of the law

pub indication_known : (c : Scope) (r : Code) (s : tree.SubInd) → IsReady c.world → IndicationDeclared c s → told.IsFound (indicated c r s)
indication_known c r s ready h = told (indicated c r s) (noted_found c.world (indicated c r s) (indicated_there c r s ready h))

pub definition_known : (c : Scope) (t : tree.TypeForm) → IsReady c.world → DefinitionDeclared c t → told.IsFound (definition c t)
definition_known c t ready h = told (definition c t) (definition_found c t ready h)

pub number_known : (c : Scope) (e : tree.Expr) → IsSound c.world → IsDeclared c e → told.IsFound (part c want.Free e (named_number c.world (place_of c e)))
number_known c e sound h = told (part c want.Free e (named_number c.world (place_of c e))) (number_found c e sound h)

pub subtype_known : (c : Scope) (p : Place) (s : tree.SubInd) → IsReady c.world → IndicationDeclared c s → told.IsFound (object_subtype c p s)
subtype_known c p s ready h = told (object_subtype c p s) (noted_found c.world (object_subtype c p s) (object_subtype_there c p s ready h))

pub initial_known : (c : Scope) (p : Place) (b : Bool) (k : ℕ) (e : Option tree.Expr) → IsSound c.world → IsThere c.world k → ValueDeclared c e → told.IsFound (initial c p b (want.Subtype k) k e)
initial_known c p b k e sound h i = told (initial c p b (want.Subtype k) k e) (initial_found c p b k e sound h i)

pub profile_known : (c : Scope) (h : tree.Heading) → IsReady c.world → ProfileDeclared c h → told.IsFound (profile c h)
profile_known c h ready i = told (profile c h) (profile_found c h ready i)

pub aspects_known : (h : Home) (w : World) (first : Bool) (ns : List ℕ) (as' : List tree.Aspect) → IsSound w → AspectsDeclared h w as' → told.IsFound (all_of (aspects_found h w first ns as'))
aspects_known h w first ns as' sound i = told (all_of (aspects_found h w first ns as')) (all_found (aspects_found h w first ns as') (aspects_all_found h w first ns as' sound i))
