-- How values are chosen: the last variable eliminated first, the integer nearest zero between the bounds of its forms.
use Rattle.std.specs.Prelude.{Bool, true, ℤ, pos, ◌+ℤ◌, ◌*ℤ◌, neg_ℤ, int_lt, int_le, unsigned_abs, List, [], ◌∷◌, ◌++◌, map, Option, Some, None, if◌then◌else◌}
use Rattle.logic_terms.specs.Node.{Node}
use Rattle.logic_terms.specs.Same.{same_node}
use Rattle.linear_forms.specs.Form.{Monomial, Form, floor}
use Rattle.linear_forms.specs.Fits.{fits}
use Rattle.linear_prover.specs.Forms.{coefficient}
use Rattle.linear_prover.specs.Machine.{Aside, Answer, point, gap, wide}

pub record Known : Type 0 where
  pub variable : Node
  pub value : ℤ

abbrev pub known : Node → ℤ → Known
known v x = record { variable = v; value = x }

-- 0 where the variable has no value yet
abbrev pub value_in : List Known → Node → ℤ
value_in [] v = pos 0
value_in (k ∷ ks) v = if same_node v k.variable then k.value else value_in ks v

-- ---- numbers that may leave 128 bits: None

abbrev pub narrow : ℤ → Option ℤ
narrow z = if fits z then Some z else None

abbrev pub with_some : {A B : Type 0} → Option A → (A → Option B) → Option B
with_some None f = None
with_some (Some x) f = f x

-- z plus a monomial of another variable than v
abbrev pub with_others : Node → List Known → ℤ → Monomial → Option ℤ
with_others v ks z m =
    if same_node v m.variable then Some z else with_some (narrow (m.coefficient *ℤ value_in ks m.variable)) (λ x. narrow (z +ℤ x))

-- z plus the monomials of other variables than v, from left to right
abbrev pub sum_without : Node → List Known → ℤ → List Monomial → Option ℤ
sum_without v ks z [] = Some z
sum_without v ks z (m ∷ ms) = with_some (with_others v ks z m) (λ x. sum_without v ks x ms)

-- ---- bounds

-- what a variable may be; None where it has no such bound
pub record Range : Type 0 where
  pub lower : Option ℤ
  pub upper : Option ℤ

abbrev pub range : Option ℤ → Option ℤ → Range
range l u = record { lower = l; upper = u }

abbrev pub greater : ℤ → Option ℤ → ℤ
greater x None = x
greater x (Some y) = if int_lt x y then y else x

abbrev pub lesser : ℤ → Option ℤ → ℤ
lesser x None = x
lesser x (Some y) = if int_lt y x then y else x

-- c times the variable plus z is at least 0
abbrev pub bounded : ℤ → ℤ → Range → Option Range
bounded c z r =
    if int_lt (pos 0) c then with_some (narrow (neg_ℤ (floor z (unsigned_abs c)))) (λ x. Some (range (Some (greater x r.lower)) r.upper))
    else if int_lt c (pos 0) then Some (range r.lower (Some (lesser (floor z (unsigned_abs c)) r.upper)))
    else Some r

abbrev pub bounded_by : Node → List Known → Form → Range → Option Range
bounded_by v ks f r = with_some (sum_without v ks f.constant f.monomials) (λ z. bounded (coefficient v f.monomials) z r)

abbrev pub bounded_by_all : Node → List Known → List Form → Range → Option Range
bounded_by_all v ks [] r = Some r
bounded_by_all v ks (f ∷ fs) r = with_some (bounded_by v ks f r) (bounded_by_all v ks fs)

abbrev pub is_at_least : ℤ → Option ℤ → Bool
is_at_least x None = true
is_at_least x (Some l) = int_le l x

-- 0, or the bound nearest to it, where that is between the bounds
abbrev pub nearest : Range → Option ℤ
nearest r = let x = lesser (greater (pos 0) r.lower) r.upper in if is_at_least x r.lower then Some x else None

-- ---- all variables

abbrev pub with_nearest : Option ℤ → (ℤ → Answer) → Answer
with_nearest None f = gap
with_nearest (Some x) f = f x

abbrev pub with_range : Option Range → (Range → Answer) → Answer
with_range None f = wide
with_range (Some r) f = f r

abbrev pub chosen : List Node → List Aside → List Known → Answer
chosen vs [] ks = point (map (value_in ks) vs)
chosen vs (a ∷ more) ks =
    with_range (bounded_by_all a.variable ks a.forms (range None None))
    (λ r. with_nearest (nearest r) (λ x. chosen vs more (ks ++ known a.variable x ∷ [])))
