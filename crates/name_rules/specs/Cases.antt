-- Sample programs as events. Names: 30 P, 31 Q, 32 R, 40 A, 41 B, 42 C, 43 T, 44 F, 45 X; 3 is Integer and 7 is Float.
use Rattle.std.specs.Prelude.{ℕ, Bool, true, false, List, [], ◌∷◌, ◌++◌, ◌+◌}
use Rattle.name_library.specs.declared.events.Event.{Event}
use Rattle.name_library.specs.declared.events.Event.TheVariants as event
use Rattle.name_library.specs.declared.events.Ident.{Ident}
use Rattle.name_library.specs.declared.events.Kind.TheVariants as kind
use Rattle.name_library.specs.declared.events.Manner.TheVariants as manner
use Rattle.name_library.specs.declared.events.Mode.TheVariants as mode
use Rattle.name_library.specs.declared.events.Scope.TheVariants as scope
use Rattle.name_library.specs.declared.links.Link.TheVariants.{Declared, Predefined}
use Rattle.name_library.specs.declared.links.NameFault.{NameFault}
use Rattle.name_library.specs.declared.links.Usage.{Usage}
use Rattle.name_rules.specs.declared.program.Answer.{Answer}
use Rattle.name_rules.specs.declared.program.Answer.TheVariants as verdict

abbrev pub id : ℕ → ℕ → Ident
id n at = record { name = n; at = at }

-- the first fault of a program
abbrev pub refuses : NameFault → ℕ → ℕ → Answer
refuses r file at = verdict.Refused (record { rule = r; spot = record { file = file; at = at } })

-- an identifier stands for a declaration
abbrev pub leads : ℕ → ℕ → ℕ → ℕ → Usage
leads file at other place = record { spot = record { file = file; at = at }; link = Declared (record { file = other; at = place }) }

-- an identifier stands for a name of Standard
abbrev pub leads_to_standard : ℕ → ℕ → ℕ → Usage
leads_to_standard file at n = record { spot = record { file = file; at = at }; link = Predefined n }

abbrev pub uses : ℕ → ℕ → List Event
uses n at = event.Name (id n at) manner.Plain ∷ []

-- Integer
abbrev pub integer : ℕ → List Event
integer at = uses 3 at

-- a declaration of an object, its subtype and its value
abbrev pub object : ℕ → ℕ → List Event → List Event
object n at es = event.Declares kind.Object (id n at) ∷ es ++ event.DeclarationEnds ∷ []

-- a procedure with its parameters; a body or a declaration alone
abbrev pub procedure : Bool → ℕ → ℕ → List Event → List Event → List Event
procedure b n at ps es = event.Opens (scope.Subprogram (id n at) b) ∷ ps ++ event.ProfileEnds ∷ es ++ event.Closes ∷ []

abbrev pub by_in : ℕ → ℕ → List Event → List Event
by_in n at es = event.Declares kind.Parameter (id n at) ∷ es ++ event.ParametersEnd mode.In ∷ []

abbrev pub by_out : ℕ → ℕ → List Event → List Event
by_out n at es = event.Declares kind.Parameter (id n at) ∷ es ++ event.ParametersEnd mode.Out ∷ []

abbrev pub package_of : ℕ → ℕ → List Event → List Event
package_of n at es = event.Opens (scope.Package (id n at)) ∷ es ++ event.ListEnds ∷ []

abbrev pub body : ℕ → ℕ → List Event → List Event
body n at es = event.Opens (scope.PackageBody (id n at)) ∷ es ++ event.ListEnds ∷ []

abbrev pub with_use : ℕ → ℕ → List Event
with_use n at = event.With (id n at) ∷ event.ContextUse (id n (at + 5)) ∷ []

abbrev pub withs : ℕ → ℕ → List Event
withs n at = event.With (id n at) ∷ []

abbrev pub context_uses : ℕ → ℕ → List Event
context_uses n at = event.ContextUse (id n at) ∷ []

-- a loop with its parameter, its range and its statements
abbrev pub loop_over : ℕ → ℕ → List Event → List Event → List Event
loop_over n at r es = event.Opens scope.Loop ∷ event.Declares kind.LoopParameter (id n at) ∷ r ++ event.DeclarationEnds ∷ es ++ event.Closes ∷ []

-- the components of a record are hidden in it
abbrev hidden : List Event → List Event
hidden [] = []
hidden (event.DeclarationEnds ∷ es) = hidden es
hidden (event.Declares k i ∷ es) = event.Declares kind.Component i ∷ hidden es
hidden (e ∷ es) = e ∷ hidden es

abbrev pub record_of : ℕ → ℕ → List Event → List Event
record_of n at es = event.Declares kind.Type (id n at) ∷ event.Opens scope.Record ∷ hidden es ++ event.Closes ∷ event.DeclarationEnds ∷ []

abbrev pub type_of : ℕ → ℕ → List Event
type_of n at = event.Declares kind.Type (id n at) ∷ event.DeclarationEnds ∷ []

-- a type with one literal
abbrev pub literals : ℕ → ℕ → ℕ → ℕ → List Event
literals n at m place = event.Declares kind.Type (id n at) ∷ event.Declares kind.Literal (id m place) ∷ event.DeclarationEnds ∷ []

abbrev pub in_aspect : ℕ → ℕ → List Event
in_aspect n at = event.Name (id n at) manner.Aspect ∷ []

-- the first identifier, a point and the second
abbrev pub selects : ℕ → ℕ → ℕ → ℕ → List Event
selects n at m place = event.Name (id n at) manner.Plain ∷ event.Selects (id m place) ∷ []

abbrev pub end_name : ℕ → ℕ → List Event
end_name n at = event.EndName (id n at) ∷ []

abbrev pub left_out : ℕ → List Event
left_out at = event.LeftOut at ∷ []

-- package P is A : Integer; end;
abbrev pub p_with_a : List Event
p_with_a = package_of 30 10 (object 40 20 (integer 24))

-- package R is A : Integer; end;
abbrev pub r_with_a : List Event
r_with_a = package_of 32 10 (object 40 20 (integer 24))

-- package Q is procedure B; end;
abbrev pub q_declared : List Event
q_declared = package_of 31 10 (procedure false 41 20 [] [])

-- package body Q is procedure B is begin null; end; end;
abbrev pub q_in_body : List Event
q_in_body = body 31 10 (procedure true 41 20 [] [])

abbrev pub in_choice : ℕ → ℕ → List Event
in_choice n at = event.Name (id n at) manner.Choice ∷ []

abbrev pub list_ends : List Event
list_ends = event.ListEnds ∷ []

abbrev pub result_ends : List Event
result_ends = event.ResultEnds ∷ []

abbrev pub clause_uses : ℕ → ℕ → List Event
clause_uses n at = event.Use (id n at) ∷ []
