-- If-expressions whose parts have been read once.
use Rattle.std.specs.Prelude.{ℕ, ℤ, true, ◌++◌, List, [], ◌∷◌, map, Option, Some, None}
use Rattle.std.specs.Option.{option_map}
use Rattle.ada_values.specs.declared.place.Place.{Place}
use Rattle.ada_values.specs.declared.values.Value.TheVariants as value
use Rattle.front_codes.specs.declared.codes.Code.TheVariants as code
use Rattle.typed_units.specs.declared.expressions.Arm.{Arm}
use Rattle.typed_units.specs.declared.expressions.Expr.{Expr}
use Rattle.typed_units.specs.declared.expressions.ExprNode.TheVariants as node
use Rattle.type_base.specs.Demands.{made, subtype_of, wanted_integer}
use Rattle.type_base.specs.Scope.{Scope}
use Rattle.type_base.specs.Standard.{boolean}
use Rattle.type_base.specs.declared.seen.Seen.{Seen}
use Rattle.type_base.specs.declared.seen.Seen.TheVariants as seen
use Rattle.type_base.specs.declared.seen.Want.{Want}
use Rattle.typing_rules.specs.declared.prefix.Found.{Found}
use Rattle.typing_rules.specs.declared.prefix.Found.TheVariants.{Is}
use Rattle.typing_rules.specs.Conditions.{Common, branch_by, common_by, condition, first_typed, if_found, number_seen, pick, truth_found}
use Rattle.typing_rules.specs.Fits.{both}
use Rattle.typing_rules.specs.Lookups.{type_of}
use Rattle.typing_rules.specs.Parts.{Operand}
use Rattle.typing_rules.specs.Parts as parts
use Rattle.typing_rules.specs.Values.{place_of, seen_of}
use Rattle.condition_rules.specs.declared.branches.ReadArm.{ReadArm}
use Rattle.condition_rules.specs.declared.branches.ReadBranch.{ReadBranch}
use Rattle.condition_rules.specs.declared.common.Common.{Common as KeptCommon}

-- ---- what is read of the parts, where the context gives the branches this

abbrev pub read_branch : Scope → Want → Operand → ReadBranch
read_branch c w o = record { place = place_of c o; seen = seen_of c o w }

abbrev pub read_arm : Scope → Want → parts.Arm → ReadArm
read_arm c w a = record { condition = condition c code.L9 a.condition; gives = read_branch c w a.gives }

abbrev pub read_arms : Scope → Want → List parts.Arm → List ReadArm
read_arms c w as' = map (read_arm c w) as'

abbrev pub read_else : Scope → Want → Option Operand → Option ReadBranch
read_else c w e = option_map (read_branch c w) e

-- ---- the rules of Conditions over them

abbrev pub seens_read : List ReadArm → List Seen
seens_read [] = []
seens_read (a ∷ as') = a.gives.seen ∷ seens_read as'

abbrev pub typed_read : List ReadArm → Option ReadBranch → Option (Option Expr)
typed_read as' (Some b) = Some (first_typed (seens_read as' ++ (b.seen ∷ [])))
typed_read as' None = None

abbrev pub branch_read : Scope → Common → ReadBranch → Found Expr
branch_read c k b = branch_by c k b.place b.seen

abbrev pub arm_read : Scope → Common → ReadArm → Found (Arm Expr)
arm_read c k a = both (λ x y. record { condition = x; gives = y }) a.condition (branch_read c k a.gives)

abbrev pub arms_read : Scope → Common → Found (List (Arm Expr)) → List ReadArm → Found (List (Arm Expr))
arms_read c k done [] = done
arms_read c k done (a ∷ as') = arms_read c k (both (λ xs x. xs ++ (x ∷ [])) done (arm_read c k a)) as'

abbrev pub else_read : Scope → Place → Common → Option ReadBranch → Found Expr
else_read c p k (Some b) = branch_read c k b
else_read c p k None = Is (made p boolean (node.Static (value.Bool true)))

abbrev pub number_read : List ReadArm → Seen → Option ℤ
number_read [] s = number_seen s
number_read (a ∷ as') s = pick (truth_found a.condition) (number_seen a.gives.seen) (number_read as' s)

abbrev pub number_else : List ReadArm → Option ReadBranch → Option ℤ
number_else as' (Some b) = number_read as' b.seen
number_else as' None = None

abbrev pub typed_if : Scope → Place → Common → List ReadArm → Option ReadBranch → Seen
typed_if c p k as' e = if_found c p k (arms_read c k (Is []) as') (else_read c p k e)

abbrev pub if_read_by : Scope → Place → Want → List ReadArm → Option ReadBranch → Option ℤ → Seen
if_read_by c p w as' e (Some n) = seen.Number n
if_read_by c p w as' e None = typed_if c p (common_by c w (typed_read as' e)) as' e

-- an if-expression whose branches were read for this
abbrev pub if_read : Scope → Place → Want → List ReadArm → Option ReadBranch → Seen
if_read c p w as' e = if_read_by c p w as' e (number_else as' e)

-- ---- as the code keeps and computes them

abbrev pub common : KeptCommon → Common
common k = record { type = k.ty; subtype = k.subtype }

abbrev pub seen_subtype : Seen → Option ℕ
seen_subtype (seen.Typed t x) = Some (subtype_of x)
seen_subtype _ = None

abbrev pub subtype_or : Option ℕ → Option ℕ → Option ℕ
subtype_or (Some k) o = Some k
subtype_or None o = o

-- the subtype of the first branch that has a type
abbrev pub subtype_read : List ReadArm → Seen → Option ℕ
subtype_read [] s = seen_subtype s
subtype_read (a ∷ as') s = subtype_or (seen_subtype a.gives.seen) (subtype_read as' s)

abbrev pub common_from : Scope → Want → Option ℕ → Common
common_from c w (Some k) = record { type = type_of c.world k; subtype = k }
common_from c w None = record { type = wanted_integer c.world w; subtype = wanted_integer c.world w }
