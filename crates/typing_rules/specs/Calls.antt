-- Calls: which argument is for which formal, and what is passed. -- Ada RM 6.4
use Rattle.std.specs.Prelude.{ℕ, suc, nat_lt, Bool, true, false, ◌==◌, ◌&&◌, ◌||◌, ◌++◌, List, [], ◌∷◌, length, slice_get, Option, Some, None, if◌then◌else◌}
use Rattle.ada_values.specs.declared.place.Place.{Place}
use Rattle.front_codes.specs.declared.codes.Code.{Code}
use Rattle.front_codes.specs.declared.codes.Code.TheVariants as code
use Rattle.typed_units.specs.declared.expressions.Actual.{Actual}
use Rattle.typed_units.specs.declared.expressions.Actual.TheVariants as actual
use Rattle.typed_units.specs.declared.expressions.Argument.{Argument}
use Rattle.typed_units.specs.declared.expressions.Expr.{Expr}
use Rattle.typed_units.specs.declared.operators.Bounds.{Bounds}
use Rattle.typed_units.specs.declared.programs.Mode.{Mode}
use Rattle.typed_units.specs.declared.programs.Mode.TheVariants as mode
use Rattle.type_base.specs.Scope.{Scope}
use Rattle.type_base.specs.declared.entities.Access.{Access}
use Rattle.type_base.specs.declared.entities.Access.TheVariants as access
use Rattle.type_base.specs.declared.seen.Seen.{Seen}
use Rattle.type_base.specs.declared.seen.Seen.TheVariants as seen
use Rattle.type_base.specs.declared.seen.Want.TheVariants as want
use Rattle.type_base.specs.declared.world.Formal.{Formal}
use Rattle.type_base.specs.Demands.{bounds_at, broken, check_in}
use Rattle.type_base.specs.Lookups.{type_at}
use Rattle.typing_rules.specs.declared.prefix.Found.{Found}
use Rattle.typing_rules.specs.declared.prefix.Found.TheVariants.{Refused, Unknown, Is}
use Rattle.typing_rules.specs.declared.prefix.Part.{Part}
use Rattle.typing_rules.specs.declared.prefix.Prefix.{Prefix}
use Rattle.typing_rules.specs.declared.prefix.Prefix.TheVariants as prefix
use Rattle.typing_rules.specs.Fits.{both, spoiled, fit, found_then, takes, with_found}
use Rattle.typing_rules.specs.Parts.{Arg, Choice, Operand, between, others, single}
use Rattle.typing_rules.specs.Values.{place_of, seen_of, value_of}

-- ---- which formal an argument is for

-- the place of a name among formals, counted from n on
abbrev pub formal_named : List Formal → ℕ → ℕ → Option ℕ
formal_named [] m n = None
formal_named (f ∷ fs) m n = if f.name == m then Some n else formal_named fs m (suc n)

abbrev pub is_among : ℕ → List ℕ → Bool
is_among n [] = false
is_among n (m ∷ ms) = (n == m) || is_among n ms

-- the number of a formal that isn't given yet
abbrev pub still_open : List ℕ → Option ℕ → Option ℕ
still_open given (Some n) = if is_among n given then None else Some n
still_open given None = None

abbrev pub next_formal : List Formal → List ℕ → Bool → Option ℕ
next_formal fs given true = None
next_formal fs given false = if nat_lt (length given) (length fs) then Some (length given) else None

abbrev pub formal_by : Scope → List Formal → List ℕ → Bool → Choice → Option Operand → Option ℕ
formal_by c fs given named (single o) None = next_formal fs given named
formal_by c fs given named (single o) (Some v) = if o.alone then still_open given (formal_named fs (c.name o.from) 0) else None
formal_by c fs given named others v = None
formal_by c fs given named (between a b) v = None

-- L10: the number of the formal that an argument is for, after arguments that give these formals, of which some may be named:
-- the next one for a positional argument, which has no named one before it, and for a named one that of the name, each once
abbrev pub formal_for : Scope → List Formal → List ℕ → Bool → Arg → Option ℕ
formal_for c fs given named a = formal_by c fs given named a.choice a.value

abbrev pub is_named : Option Operand → Bool
is_named (Some v) = true
is_named None = false

-- ---- what is passed

abbrev pub writable : Access → Bool
writable access.Variable = true
writable _ = false

abbrev pub not_a_variable : Code → Place → Seen → Found Part
not_a_variable r q (seen.Refused f) = Refused f
not_a_variable r q seen.Unknown = Unknown
not_a_variable r q _ = Refused (broken r q)

-- L8, L11: what is assigned to, or passed to an `out` or `in out` formal, is a variable
abbrev pub variable : Scope → Code → Place → Prefix → Found Part
variable c r q (prefix.Part g) = if writable g.access then Is g else Refused (broken r q)
variable c r q f = not_a_variable r q (value_of c q f)

-- the bounds of the check of a value of subtype j that is to be of subtype k
abbrev pub check_between : Scope → ℕ → ℕ → Option Bounds
check_between c k j = check_in (bounds_at c.world k) (bounds_at c.world j)

abbrev pub passed : Scope → Mode → ℕ → Part → Actual Expr
passed c mode.Out k g = actual.Out g.target (check_between c g.subtype k)
passed c _ k g = actual.InOut g.target (check_between c k g.subtype) (check_between c g.subtype k)

abbrev pub same_type : Option ℕ → Option ℕ → Bool
same_type (Some t) (Some u) = t == u
same_type _ _ = false

-- L11: a variable of the formal's type, and of its subtype where that is a constrained array
abbrev pub passed_as : Scope → Place → Mode → ℕ → Option ℕ → Part → Found (Actual Expr)
passed_as c q m k None g = Unknown
passed_as c q m k (Some t) g =
    if same_type (Some t) (type_at c.world g.subtype) && takes c.world false k g.subtype then Is (passed c m k g) else Refused (broken code.L11 q)

-- what is passed for a formal of this mode and subtype
abbrev pub actual_of : Scope → Mode → ℕ → Operand → Found (Actual Expr)
actual_of c mode.In k o = with_found actual.In (fit c.world code.L11 false k (place_of c o) (seen_of c o (want.Subtype k)))
actual_of c m k o = found_then (variable c code.L11 (place_of c o) (o.prefix want.Free)) (passed_as c (place_of c o) m k (type_at c.world k))

abbrev pub given_by : Choice → Option Operand → Option Operand
given_by c (Some v) = Some v
given_by (single o) None = Some o
given_by c None = None

-- the expression of an argument
abbrev pub operand_of : Arg → Option Operand
operand_of a = given_by a.choice a.value

abbrev pub argument_by : Scope → ℕ → Option Formal → Option Operand → Found (Argument Expr)
argument_by c n (Some f) (Some o) = with_found (λ v. record { formal = n; value = v }) (actual_of c f.mode f.subtype o)
argument_by c n _ o = Unknown

-- the argument for formal n
abbrev pub argument_for : Scope → List Formal → ℕ → Arg → Found (Argument Expr)
argument_for c fs n a = argument_by c n (slice_get fs n) (operand_of a)

abbrev pub added : Found (List (Argument Expr)) → Found (Argument Expr) → Found (List (Argument Expr))
added = both (λ as' a. as' ++ (a ∷ []))

abbrev pub option_else : {A : Type 0} → Option ℕ → A → (ℕ → A) → A
option_else None a f = a
option_else (Some n) a f = f n

-- The arguments of a call at p, after those done already, which give these formals. What follows one that is for no formal
-- isn't looked at. A formal that nothing is given for is a fault of the whole call. -- L10
abbrev pub arguments : Scope → Place → List Formal → List ℕ → Bool → Found (List (Argument Expr)) → List Arg → Found (List (Argument Expr))
arguments c p fs given named done [] =
    if length given == length fs then done else spoiled done (broken code.L10 p)
arguments c p fs given named done (a ∷ as') =
    option_else (formal_for c fs given named a) (spoiled done (broken code.L10 (c.place a.from)))
    (λ n. arguments c p fs (n ∷ given) (named || is_named a.value) (added done (argument_for c fs n a)) as')
