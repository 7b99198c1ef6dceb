-- Which checks a typed program has, and where each stands. A check that never fails by what is known before a run, the value
-- of a static expression or the subtype of another, doesn't exist; the typed program tells it at most places: it has no bounds
-- where there is no range check.
use Rattle.std.specs.Prelude.{ℕ, zero, suc, Bool, true, false, cond, ℤ, pos, negsuc, List, [], ◌∷◌, ◌++◌, map, Option, None, is_some, not}
use Rattle.ada_values.specs.declared.place.Place.{Place}
use Rattle.ada_values.specs.declared.scalars.Op.{Op}
use Rattle.ada_values.specs.declared.scalars.Op.TheVariants as op
use Rattle.ada_values.specs.declared.scalars.Scalar.{Scalar}
use Rattle.ada_values.specs.declared.shapes.Shape.{Shape}
use Rattle.typed_units.specs.declared.checks.CheckKind.{CheckKind}
use Rattle.typed_units.specs.declared.checks.CheckKind.TheVariants as kind
use Rattle.typed_units.specs.declared.checks.SiteKey.{SiteKey}
use Rattle.typed_units.specs.declared.operators.Bounds.{Bounds}
use Rattle.typed_units.specs.Syntax as text
use Rattle.typed_units.specs.Syntax.{Ex, Nd, St, Ac, Fit, Op1, Op2, Routine, Text}
use Rattle.unit_nodes.specs.Nodes as node
use Rattle.unit_nodes.specs.Nodes.{Node, routine_onto}
use Rattle.check_sites.specs.declared.site.Site.{Site}
use Rattle.check_sites.specs.Known.{is_known_exponent, is_other, static_number}

abbrev pub site : Place → CheckKind → SiteKey
site p k = record { place = p; kind = k }

-- a check that stands there where it exists
abbrev pub site_if : Bool → Place → CheckKind → List SiteKey
site_if exists p k = cond exists (site p k ∷ []) []

-- the place of the first token
abbrev pub place_of : Ex → Place
place_of (text.at p s n) = p

-- ---- operators

-- an integer type without a modulus (Ada RM 3.5.4)
abbrev pub is_signed : Scalar → Bool
is_signed s = not (is_some s.modulus)

-- the result may lie outside the base range; a quotient does where the divisor is -1 (Ada RM 4.5.3 to 4.5.6)
abbrev pub may_overflow : Op → Option ℤ → Bool
may_overflow op.Add b = true
may_overflow op.Sub b = true
may_overflow op.Mul b = true
may_overflow op.Quo b = not (is_other b (negsuc 0))
may_overflow op.Rem b = false
may_overflow op.Mod b = false
may_overflow op.Pow b = true
may_overflow op.Neg b = true
may_overflow op.Abs b = true

abbrev pub overflow_check : Op → Scalar → Option ℤ → Place → List SiteKey
overflow_check o s b p = cond (is_signed s) (site_if (may_overflow o b) p kind.Overflow) []

-- the check of the right operand: a divisor isn't 0, at the operator (Ada RM 4.5.5); an exponent is a number of Natural, at the
-- exponent (Ada RM 4.5.6)
abbrev pub right_check : List Shape → Op → Place → Ex → List SiteKey
right_check shapes op.Quo p b = site_if (not (is_other (static_number b) (pos 0))) p kind.Division
right_check shapes op.Rem p b = site_if (not (is_other (static_number b) (pos 0))) p kind.Division
right_check shapes op.Mod p b = site_if (not (is_other (static_number b) (pos 0))) p kind.Division
right_check shapes op.Pow p b = site_if (not (is_known_exponent shapes b)) (place_of b) kind.Range
right_check shapes _ p b = []

-- ---- expressions

abbrev pub fit_check : Fit → Place → List SiteKey
fit_check fit p = site_if (is_some fit) p kind.Range

-- `'Length`, `'Succ` and `'Pred` are checked at the tick (Ada RM 3.5, 3.6.2), the operand of a conversion, a qualification or
-- `'Val` at its first token (Ada RM 3.5.5, 4.6, 4.7)
abbrev pub op1_checks : Op1 → Ex → List SiteKey
op1_checks (text.length_at p s) a = site p kind.Range ∷ []
op1_checks (text.succ_at p s) a = site p kind.Range ∷ []
op1_checks (text.pred_at p s) a = site p kind.Range ∷ []
op1_checks (text.unary o s p) a = overflow_check o s None p
op1_checks (text.convert fit) a = fit_check fit (place_of a)
op1_checks _ a = []

-- an index is checked at its first token (Ada RM 4.1.1)
abbrev pub op2_checks : List Shape → Op2 → Ex → Ex → List SiteKey
op2_checks shapes (text.binary o s p) a b = overflow_check o s (static_number b) p ++ right_check shapes o p b
op2_checks shapes (text.item is_checked) a i = site_if is_checked (place_of i) kind.Index
op2_checks shapes (text.compare r) a b = []

-- the subprogram of that number has a `Pre`
abbrev pub has_pre : List Routine → ℕ → Bool
has_pre [] q = false
has_pre (r ∷ rs) zero = is_some r.pre
has_pre (r ∷ rs) (suc q) = has_pre rs q

-- a call is checked against its precondition (Ada RM 6.1.1)
abbrev pub form_checks : Text → Nd → List SiteKey
form_checks t (text.op1 o a) = op1_checks o a
form_checks t (text.op2 o a b) = op2_checks t.shapes o a b
form_checks t (text.call p q as') = site_if (has_pre t.routines q) p kind.Pre
form_checks t _ = []

abbrev pub expression_checks : Text → Ex → List SiteKey
expression_checks t (text.at p s n) = form_checks t n

-- ---- statements, actuals, pragmas

-- a value that is assigned or returned is checked at its first token (Ada RM 5.2, 6.5), and pragmas at their conditions (Ada
-- RM 11.4.2, SPARK RM 5.9)
abbrev pub action_checks : Text → Place → Ac → List SiteKey
action_checks t p (text.assign to fit e) = fit_check fit (place_of e)
action_checks t p (text.give fit e) = fit_check fit (place_of e)
action_checks t p (text.invoke q as') = site_if (has_pre t.routines q) p kind.Pre
action_checks t p (text.assert e) = site (place_of e) kind.Assert ∷ []
action_checks t p (text.assume e) = site (place_of e) kind.Assume ∷ []
action_checks t p _ = []

abbrev pub statement_checks : Text → St → List SiteKey
statement_checks t (text.st p a) = action_checks t p a

abbrev pub target_place : text.Target → Place
target_place (text.target p v path) = p

-- a value that is passed is checked at the actual's first token, in both directions (Ada RM 6.4.1)
abbrev pub actual_checks : text.Actual → List SiteKey
actual_checks (text.pass_in k fit e) = fit_check fit (place_of e)
actual_checks (text.pass_out k to back) = fit_check back (target_place to)
actual_checks (text.pass_in_out k to fit back) = fit_check fit (target_place to) ++ fit_check back (target_place to)

-- a loop variant is checked at its first expression (SPARK RM 5.5.3)
abbrev pub variant_checks : List text.Way → List SiteKey
variant_checks [] = []
variant_checks (w ∷ ws) = site (place_of w.value) kind.Variant ∷ []

-- a loop invariant is checked in the first turn, and kept from then on (SPARK RM 5.5.3)
abbrev pub demand_checks : text.Demand → List SiteKey
demand_checks (text.invariant e) = site (place_of e) kind.InvFirst ∷ site (place_of e) kind.InvKept ∷ []
demand_checks (text.variant ws) = variant_checks ws

-- the value of an association is checked for each component, which is one check (Ada RM 4.3)
abbrev pub each_checks : List Bounds → Place → List SiteKey
each_checks [] p = []
each_checks (b ∷ bs) p = site p kind.Range ∷ []

-- ---- nodes

-- a postcondition is checked at its first token (Ada RM 6.1.1); a precondition is checked where it is called
abbrev pub node_checks : Text → Node → List SiteKey
node_checks t (node.subprogram k) = []
node_checks t (node.pre e) = []
node_checks t (node.post e) = site (place_of e) kind.Post ∷ []
node_checks t (node.statement s) = statement_checks t s
node_checks t (node.demand d) = demand_checks d
node_checks t (node.passed q a) = actual_checks a
node_checks t (node.item_index is_checked i) = site_if is_checked (place_of i) kind.Index
node_checks t (node.association ranges others checks e) = each_checks checks (place_of e)
node_checks t (node.expression asked e) = expression_checks t e

-- the checks of nodes of the subprogram k
abbrev pub checks_of : Text → ℕ → List Node → List Site
checks_of t k [] = []
checks_of t k (n ∷ ns) = map (λ c. record { key = c; owner = k }) (node_checks t n) ++ checks_of t k ns

-- the checks of the subprograms, which are numbered from k, in the order of the text
abbrev pub checks_from : Text → ℕ → List Routine → List Site
checks_from t k [] = []
checks_from t k (r ∷ rs) = checks_of t k (routine_onto [] r) ++ checks_from t (suc k) rs
