-- The tree of a subprogram, by the rules for what is built so far: scalar inputs, and assertions that compare numbers.
use Rattle.std.specs.Prelude.{ℕ, suc, Bool, true, false, Option, Some, None, ◌&&◌, if◌then◌else◌, is_none, slice_get, List, [], ◌∷◌, pos}
use Rattle.ada_values.specs.Value as ada
use Rattle.ada_values.specs.declared.scalars.Scalar.{Scalar}
use Rattle.ada_values.specs.declared.shapes.Shape.{Shape}
use Rattle.ada_values.specs.declared.shapes.Shape.TheVariants as shape
use Rattle.typed_units.specs.declared.operators.Relation.{Relation}
use Rattle.typed_units.specs.declared.operators.Relation.TheVariants as relation
use Rattle.typed_units.specs.declared.checks.CheckKind.TheVariants as kind
use Rattle.typed_units.specs.declared.programs.Mode.{Mode}
use Rattle.typed_units.specs.declared.programs.Mode.TheVariants as mode
use Rattle.typed_units.specs.Syntax.{Var, param, present, compare, Ex, at, static, read, op2, st, assert, Sts, done, Formal, Routine, Text}
use Rattle.typed_units.specs.Syntax as text
use Rattle.ada_semantics.specs.Outcome.{site}
use Rattle.logic_terms.specs.Node as node
use Rattle.logic_terms.specs.Node.{Node}
use Rattle.logic_terms.specs.Value.{numbers}
use Rattle.vc_tree.specs.declared.AnyRole.TheVariants as any_role
use Rattle.vc_tree.specs.Tree as tree
use Rattle.vc_tree.specs.Tree.{Tree}

abbrev pub and_then : {A B : Type 0} → Option A → (A → Option B) → Option B
and_then None go = None
and_then (Some a) go = go a

-- ---- terms and formulas

abbrev pub at_most : Node → Node → Node
at_most a b = node.op2 node.le a b

abbrev pub plus_one : Node → Node
plus_one a = node.op2 (node.arith node.add) a (node.num (pos 1))

-- a comparison of numbers; only `=` and `<=` stand in formulas
abbrev pub related : Relation → Node → Node → Node
related relation.Equal a b = node.op2 node.eq a b
related relation.Differs a b = node.op1 node.neg (node.op2 node.eq a b)
related relation.Less a b = at_most (plus_one a) b
related relation.AtMost a b = at_most a b
related relation.Greater a b = at_most (plus_one b) a
related relation.AtLeast a b = at_most b a

-- the term of an expression, where the objects that are built have one
abbrev pub term_of : (Var → Option Node) → Ex → Option Node
term_of t (at p z (static (ada.number x))) = Some (node.num x)
term_of t (at p z (read b present x)) = t x
term_of t _ = None

abbrev pub formula_of : (Var → Option Node) → Ex → Option Node
formula_of t (at p z (static (ada.truth b))) = Some (node.flag b)
formula_of t (at p z (op2 (compare r) a b)) = and_then (term_of t a) (λ x. and_then (term_of t b) (λ y. Some (related r x y)))
formula_of t _ = None

-- ---- statements

abbrev pub is_done : Sts → Bool
is_done done = true
is_done _ = false

-- an assertion is its check, before what follows it
abbrev pub statements : (Var → Option Node) → Sts → Option Tree
statements t done = Some tree.done
statements t (text.then (st q (assert (at p z x))) rest) =
    and_then (formula_of t (at p z x)) (λ f. and_then (statements t rest) (λ u. Some (tree.check (site p kind.Assert) f u)))
statements t _ = None

-- ---- subprograms

-- the value lies within the bounds of its subtype
abbrev pub bounds_of : Scalar → Node → Node
bounds_of s a = node.op2 node.conj (at_most (node.num s.lo) a) (at_most a (node.num s.hi))

abbrev pub scalar_of : Option Shape → Option Scalar
scalar_of (Some (shape.Number s)) = Some s
scalar_of _ = None

abbrev pub is_in : Mode → Bool
is_in mode.In = true
is_in _ = false

-- an input of the number k, and the assumption that it lies in its subtype
abbrev pub input : List Shape → Formal → ℕ → Tree → Option Tree
input shapes p k rest =
    if is_in p.mode
    then and_then (scalar_of (slice_get shapes p.subtype)) (λ s. Some (tree.any k numbers (any_role.Input k) (tree.assume (bounds_of s (node.sym k)) rest)))
    else None

abbrev pub inputs : List Shape → List Formal → ℕ → Tree → Option Tree
inputs shapes [] k rest = Some rest
inputs shapes (p ∷ ps) k rest = and_then (inputs shapes ps (suc k) rest) (input shapes p k)

-- the symbol of a parameter; no other object is built yet
abbrev pub symbol_of : Var → Option Node
symbol_of (param k) = Some (node.sym k)
symbol_of _ = None

-- the inputs, and then the body, of a subprogram without contracts and local objects
abbrev pub tree_of : Text → Routine → Option Tree
tree_of p r =
    if is_none r.pre && is_none r.post && is_none r.result && is_done r.opening
    then and_then (statements symbol_of r.body) (inputs p.shapes r.formals 0)
    else None
