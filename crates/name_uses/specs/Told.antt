-- Events that are added to those before.
use Rattle.std.specs.Prelude.{ℕ, Bool, true, false, ◌++◌, List, [], ◌∷◌}
use Rattle.ada_text.specs.declared.token.Span.{Span}
use Rattle.name_library.specs.declared.events.Event.{Event}
use Rattle.name_library.specs.declared.events.Event.TheVariants as event
use Rattle.name_library.specs.declared.events.Ident.{Ident}
use Rattle.name_library.specs.declared.events.Kind.{Kind}
use Rattle.name_library.specs.declared.events.Scope.{Scope}
use Rattle.name_uses.specs.declared.places.Listed.{Listed}
use Rattle.name_uses.specs.declared.places.Listed.TheVariants as listed

-- `n` gives the number of the name of the identifier that begins at a byte
abbrev pub ident : (ℕ → ℕ) → Span → Ident
ident n s = record { name = n s.from; at = s.from }

abbrev pub told : List Event → Event → List Event
told xs e = xs ++ e ∷ []

-- a construct that begins at a byte is left out where the test holds
abbrev pub left_out : Bool → ℕ → List Event → List Event
left_out true at xs = told xs (event.LeftOut at)
left_out false at xs = xs

-- a scope opens with a declaration
abbrev pub opened : Scope → Kind → Ident → List Event → List Event
opened s k i xs = told (told xs (event.Opens s)) (event.Declares k i)

abbrev pub mention : Listed → Ident → Event
mention listed.With i = event.With i
mention listed.ContextUse i = event.ContextUse i
mention listed.Use i = event.Use i
mention (listed.Declared k) i = event.Declares k i

abbrev pub listed_onto : (ℕ → ℕ) → Listed → List Event → List Span → List Event
listed_onto n l xs [] = xs
listed_onto n l xs (s ∷ ss) = listed_onto n l (told xs (mention l (ident n s))) ss
