-- The expressions and the statements that stand in a statement, and in a subprogram.
use Rattle.std.specs.Prelude.{List, [], ◌∷◌, ◌++◌, Contains, option_to_list}
use Rattle.ada_values.specs.declared.place.Place.{Place}
use Rattle.typed_units.specs.Syntax as text
use Rattle.typed_units.specs.Syntax.{Ex, St}
use Rattle.unit_nodes.specs.Parts.{actuals_parts, target_parts}

-- ---- a statement's own expressions, without those of the statements in it

abbrev pub ways_parts : List text.Way → List Ex
ways_parts [] = []
ways_parts (w ∷ ws) = w.value ∷ ways_parts ws

abbrev pub demand_parts : text.Demand → List Ex
demand_parts (text.invariant e) = e ∷ []
demand_parts (text.variant ws) = ways_parts ws

abbrev pub demands_parts : List text.Demand → List Ex
demands_parts [] = []
demands_parts (d ∷ ds) = demand_parts d ++ demands_parts ds

abbrev pub head_parts : text.Head → List Ex
head_parts text.forever = []
head_parts (text.while e) = e ∷ []
head_parts (text.for r k l h) = l ∷ h ∷ []

abbrev pub branches_parts : text.Branches → List Ex
branches_parts (text.otherwise ss) = []
branches_parts (text.when c ss rest) = c ∷ branches_parts rest

abbrev pub own_parts : text.Ac → List Ex
own_parts text.skip = []
own_parts (text.assign t f e) = target_parts t ++ e ∷ []
own_parts (text.invoke q as') = actuals_parts as'
own_parts (text.branch bs) = branches_parts bs
own_parts (text.case_of e as') = e ∷ []
own_parts (text.loop k h before group after) = head_parts h ++ demands_parts group
own_parts text.exit = []
own_parts (text.exit_when e) = e ∷ []
own_parts text.return = []
own_parts (text.give f e) = e ∷ []
own_parts (text.assert e) = e ∷ []
own_parts (text.assume e) = e ∷ []

-- ---- the statements that stand directly in a statement

abbrev pub listed : text.Sts → List St
listed text.done = []
listed (text.then s rest) = s ∷ listed rest

abbrev pub branches_bodies : text.Branches → List St
branches_bodies (text.otherwise ss) = listed ss
branches_bodies (text.when c ss rest) = listed ss ++ branches_bodies rest

abbrev pub alternatives_bodies : text.Alternatives → List St
alternatives_bodies text.no_alternatives = []
alternatives_bodies (text.alternative cs o ss rest) = listed ss ++ alternatives_bodies rest

abbrev pub bodies : text.Ac → List St
bodies text.skip = []
bodies (text.assign t f e) = []
bodies (text.invoke q as') = []
bodies (text.branch bs) = branches_bodies bs
bodies (text.case_of e as') = alternatives_bodies as'
bodies (text.loop k h before group after) = listed before ++ listed after
bodies text.exit = []
bodies (text.exit_when e) = []
bodies text.return = []
bodies (text.give f e) = []
bodies (text.assert e) = []
bodies (text.assume e) = []

abbrev pub action_of : St → text.Ac
action_of (text.st p a) = a

-- a statement stands inside itself, and inside each statement of which it is inside a part
pub data Under (x : St) : St → Type 0 where
  itself : Under x x
  deeper : (d : St) (p : Place) (a : text.Ac) → Contains (bodies a) d → Under x d → Under x (text.st p a)

-- the statements of a subprogram, without those that stand in them: of its declarative part, then of its body
abbrev pub statements_of : text.Routine → List St
statements_of r = listed r.opening ++ listed r.body

-- the conditions of a subprogram's contracts
abbrev pub conditions_of : text.Routine → List Ex
conditions_of r = option_to_list r.pre ++ option_to_list r.post
