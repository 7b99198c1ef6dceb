-- Parts of declarations that are accepted obey their rules.
use Rattle.std.proofs.Common.{◌≡◌, ℕ, ℤ, Bool, Option, List}
use Rattle.ada_values.specs.declared.place.Place.{Place}
use Rattle.front_codes.specs.declared.codes.Code.{Code}
use Rattle.front_codes.specs.declared.codes.Code.TheVariants as code
use Rattle.syntax_view.specs.Trees as tree
use Rattle.typed_units.specs.declared.expressions.Expr.{Expr}
use Rattle.typed_units.specs.declared.expressions.Fitted.{Fitted}
use Rattle.type_base.specs.Scope.{Scope}
use Rattle.type_base.specs.declared.seen.Want.TheVariants as want
use Rattle.type_base.specs.declared.world.World.{World}
use Rattle.typing_rules.specs.declared.prefix.Found.TheVariants.{Is}
use Rattle.statement_typing.specs.declared.parts.Definition.{Definition}
use Rattle.statement_typing.specs.declared.parts.Noted.{Noted}
use Rattle.statement_typing.specs.declared.parts.Profile.{Profile}
use Rattle.statement_typing.specs.declared.parts.Stated.{Stated}
use Rattle.statement_typing.specs.Aspects.{aspects_found}
use Rattle.statement_typing.specs.Checks.{all_of}
use Rattle.statement_typing.specs.Files.{Home}
use Rattle.statement_typing.specs.Objects.{initial, named_number, object_subtype}
use Rattle.statement_typing.specs.Routines.{profile}
use Rattle.statement_typing.specs.Subtypes.{indicated, part}
use Rattle.statement_typing.specs.Types.{definition}
use Rattle.typing_relations.proofs.Accepting.{found_as}
use Rattle.declaration_relations.specs.Defines.{Defines}
use Rattle.declaration_relations.specs.Indicates.{Indicates, IsInteger, IsWhole}
use Rattle.declaration_relations.specs.Profiles.{HasProfile}
use Rattle.declaration_relations.specs.States.{AllState}
use Rattle.declaration_relations.specs.Values.{Starts}
use Rattle.declaration_relations.proofs.Defining.{defines_finds}
use Rattle.declaration_relations.proofs.Indicating.{indicates_finds, whole_finds}
use Rattle.declaration_relations.proofs.Profiling.{profile_finds}
use Rattle.declaration_relations.proofs.Ranging.{named_finds}
use Rattle.declaration_relations.proofs.Stating.{aspects_finds}
use Rattle.declaration_relations.proofs.Valuing.{starts_finds}

pub indication_obeys : (c : Scope) (r : Code) (s : tree.SubInd) (n : Noted) → indicated c r s ≡ Is n → Indicates c s n
indication_obeys c r s n e = found_as (Indicates c s) (indicated c r s) n e (indicates_finds c r s)

pub definition_obeys : (c : Scope) (t : tree.TypeForm) (d : Definition) → definition c t ≡ Is d → Defines c t d
definition_obeys c t d e = found_as (Defines c t) (definition c t) d e (defines_finds c t)

pub number_obeys : (c : Scope) (p : Place) (e : tree.Expr) (n : ℤ) → part c want.Free e (named_number c.world p) ≡ Is n → IsInteger c e n
number_obeys c p e n i = found_as (IsInteger c e) (part c want.Free e (named_number c.world p)) n i (named_finds c p e)

pub subtype_obeys : (c : Scope) (p : Place) (s : tree.SubInd) (n : Noted) → object_subtype c p s ≡ Is n → IsWhole c s n
subtype_obeys c p s n e = found_as (IsWhole c s) (object_subtype c p s) n e (whole_finds c code.L27 p s)

pub value_obeys : (c : Scope) (p : Place) (b : Bool) (k : ℕ) (v : Option tree.Expr) (f : Option (Fitted Expr)) → initial c p b (want.Subtype k) k v ≡ Is f → Starts c b k v f
value_obeys c p b k v f e = found_as (Starts c b k v) (initial c p b (want.Subtype k) k v) f e (starts_finds c p b k v)

pub profile_obeys : (c : Scope) (h : tree.Heading) (p : Profile) → profile c h ≡ Is p → HasProfile c h p
profile_obeys c h p e = found_as (HasProfile c h) (profile c h) p e (profile_finds c h)

pub aspects_obey : (h : Home) (w : World) (first : Bool) (ns : List ℕ) (as' : List tree.Aspect) (xs : List Stated) → all_of (aspects_found h w first ns as') ≡ Is xs → AllState h w first ns as' xs
aspects_obey h w first ns as' xs e = found_as (AllState h w first ns as') (all_of (aspects_found h w first ns as')) xs e (aspects_finds h w first ns as')
