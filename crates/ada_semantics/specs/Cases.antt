-- The words in which the sample programs are written, with the places that things have in their source.
use Rattle.std.specs.Prelude.{ℕ, Bool, true, false, List, [], ◌∷◌, map, Option, Some, None, ℤ, pos, negsuc}
use Rattle.ada_values.specs.Scalars.{integer, integer_last}
use Rattle.ada_values.specs.Value.{Val, number, truth}
use Rattle.ada_values.specs.declared.place.Place.{Place}
use Rattle.ada_values.specs.declared.scalars.Op.{Op}
use Rattle.ada_values.specs.declared.scalars.Op.TheVariants as op
use Rattle.ada_values.specs.declared.scalars.Scalar.{Scalar}
use Rattle.typed_units.specs.declared.operators.Bounds.{Bounds}
use Rattle.typed_units.specs.declared.operators.Connective.{Connective}
use Rattle.typed_units.specs.declared.operators.Relation.{Relation}
use Rattle.typed_units.specs.declared.operators.Relation.TheVariants as relation
use Rattle.typed_units.specs.declared.checks.CheckKind.{CheckKind}
use Rattle.typed_units.specs.declared.checks.SiteKey.{SiteKey}
use Rattle.typed_units.specs.declared.programs.Mode.{Mode}
use Rattle.typed_units.specs.declared.programs.Mode.TheVariants as mode
use Rattle.typed_units.specs.Syntax.{Var, param, Fit, present, same, negation, unary, convert, binary, compare, Op1, Ex, at, Nd, static, read, op1, op2, connect, Path, here, Target, target, St, st, assign, invoke, branch, Branches, otherwise, when, give, assert, return, Actual, Actuals, no_actuals, actual, Sts, done, then, Formal, Routine, Text}
use Rattle.ada_semantics.specs.Values.{place_of}
use Rattle.ada_semantics.specs.Plain.{Plain, ends}
pub mod Expressions
pub mod Statements
pub mod Loops
pub mod Calls
pub mod Parts
pub mod Search
pub mod Contracts
pub mod Operations
pub mod Turns
pub mod Pieces
pub mod Starts

-- ---- places

abbrev pub place : ℕ → ℕ → Place
place l c = record { file = 0; line = l; column = c }

abbrev pub key : ℕ → ℕ → CheckKind → SiteKey
key l c k = record { place = place l c; kind = k }

-- ---- types

-- the type from lo to hi that has its own bounds as base range
abbrev pub signed : ℤ → ℤ → Scalar
signed lo hi = record { lo = lo; hi = hi; base_lo = lo; base_hi = hi; modulus = None }

-- the base type of a range that fits 8 bits
abbrev pub short : Scalar
short = signed (negsuc 127) (pos 127)

-- `type B is mod 256`
abbrev pub byte : Scalar
byte = record { lo = pos 0; hi = pos 255; base_lo = pos 0; base_hi = pos 255; modulus = Some (pos 256) }

abbrev pub to : ℤ → ℤ → Bounds
to lo hi = record { first = lo; last = hi }

-- the range check of `Natural`
abbrev pub natural : Fit
natural = Some (to (pos 0) (pos integer_last))

-- ---- expressions, by the line and the column of their first token, or of their operator

-- an expression that begins there; the samples don't tell subtypes, which change no run
abbrev pub ex : Place → Nd → Ex
ex p x = at p 0 x

abbrev pub num : ℕ → ℕ → ℕ → Ex
num l c n = ex (place l c) (static (number (pos n)))

abbrev pub name : ℕ → ℕ → Var → Ex
name l c x = ex (place l c) (read (place l c) present x)

-- a static truth value
abbrev pub flag : ℕ → ℕ → Bool → Ex
flag l c b = ex (place l c) (static (truth b))

-- an operator of one operand, which stands before it
abbrev pub prefix : Op1 → ℕ → ℕ → Ex → Ex
prefix o l c a = ex (place l c) (op1 o a)

-- an expression in parentheses, the first of which stands there
abbrev pub parens : ℕ → ℕ → Ex → Ex
parens l c (at p t x) = at (place l c) t x

abbrev pub calc : Op → Scalar → ℕ → ℕ → Ex → Ex → Ex
calc o s l c a b = ex (place_of a) (op2 (binary o s (place l c)) a b)

abbrev pub plus : ℕ → ℕ → Ex → Ex → Ex
plus = calc op.Add integer

abbrev pub minus : ℕ → ℕ → Ex → Ex → Ex
minus = calc op.Sub integer

abbrev pub times : ℕ → ℕ → Ex → Ex → Ex
times = calc op.Mul integer

abbrev pub over : ℕ → ℕ → Ex → Ex → Ex
over = calc op.Quo integer

abbrev pub related : Relation → Ex → Ex → Ex
related r a b = ex (place_of a) (op2 (compare r) a b)

abbrev pub equal : Ex → Ex → Ex
equal = related relation.Equal

abbrev pub less : Ex → Ex → Ex
less = related relation.Less

abbrev pub greater : Ex → Ex → Ex
greater = related relation.Greater

abbrev pub both : Connective → Ex → Ex → Ex
both c a b = ex (place_of a) (connect c a b)

-- ---- statements

abbrev pub seq : List St → Sts
seq [] = done
seq (a ∷ rest) = then a (seq rest)

abbrev pub whole_of : ℕ → ℕ → Var → Target
whole_of l c x = target (place l c) x here

-- a step from an object to a part of it
abbrev pub Step : Type 0
Step = Path → Path

abbrev pub path_through : List Step → Path
path_through [] = here
path_through (s ∷ ss) = s (path_through ss)

abbrev pub part_of : ℕ → ℕ → Var → List Step → Target
part_of l c x path = target (place l c) x (path_through path)

-- an assignment to a whole object
abbrev pub set_to : ℕ → ℕ → Var → Fit → Ex → St
set_to l c x fit e = st (place l c) (assign (whole_of l c x) fit e)

abbrev pub put_in : ℕ → ℕ → Var → List Step → Fit → Ex → St
put_in l c x path fit e = st (place l c) (assign (part_of l c x path) fit e)

abbrev pub claim : ℕ → ℕ → Ex → St
claim l c e = st (place l c) (assert e)

abbrev pub give_back : ℕ → ℕ → Fit → Ex → St
give_back l c fit e = st (place l c) (give fit e)

abbrev pub actuals : List Actual → Actuals
actuals [] = no_actuals
actuals (a ∷ as') = actual a (actuals as')

abbrev pub call_of : ℕ → ℕ → ℕ → List Actual → St
call_of l c q as' = st (place l c) (invoke q (actuals as'))

-- `if` with one branch, and what stands after `else`
abbrev pub if_so : ℕ → ℕ → Ex → List St → List St → St
if_so l c e ss els = st (place l c) (branch (when e (seq ss) (otherwise (seq els))))

-- ---- subprograms

abbrev pub formal : Mode → Formal
formal m = record { mode = m; subtype = 0 }

abbrev pub by_in : Formal
by_in = formal mode.In

abbrev pub by_out : Formal
by_out = formal mode.Out

abbrev pub by_in_out : Formal
by_in_out = formal mode.InOut

abbrev pub procedure_of : List Formal → List St → Routine
procedure_of ps body = record { formals = ps; result = None; pre = None; post = None; locals = []; opening = done; body = seq body }

abbrev pub function_of : List Formal → List St → Routine
function_of ps body = record (procedure_of ps body) { result = Some 0 }

-- the initial values of its locals
abbrev pub with_opening : List St → Routine → Routine
with_opening ss r = record r { opening = seq ss }

abbrev pub with_pre : Ex → Routine → Routine
with_pre e r = record r { pre = Some e }

abbrev pub with_post : Ex → Routine → Routine
with_post e r = record r { post = Some e }

abbrev pub program : List Routine → Text
program rs = record { shapes = []; kinds = []; globals = []; routines = rs }

abbrev pub one : Routine → Text
one r = program (r ∷ [])

-- ---- what runs come to

abbrev pub int : ℕ → Val
int n = number (pos n)

-- a procedure's end, in a program without globals
abbrev pub ends_with : List Val → Plain
ends_with vs = ends (record { params = map Some vs; globals = []; returned = None })

-- a function's end, in a program without globals
abbrev pub gives_back : List Val → Val → Plain
gives_back vs v = ends (record { params = map Some vs; globals = []; returned = Some v })
