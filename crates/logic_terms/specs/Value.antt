-- The values of terms, with their kinds.
use Rattle.std.specs.Prelude.{ℕ, zero, suc, Bool, true, false, not, ◌&&◌, ◌==◌, ℤ, pos, negsuc, ◌-ℤ◌}

-- What a value is: a number, a truth value, an array of one kind, or a record.
mutual
  pub data Kind : Type 0 where
    numbers : Kind
    truths : Kind
    arrays : Kind → Kind
    records : Kinds → Kind

  pub data Kinds : Type 0 where
    no_kinds : Kinds
    kind : Kind → Kinds → Kinds

-- An array has the kind of its items, its bounds and its items.
mutual
  pub data Value : Type 0 where
    number : ℤ → Value
    truth : Bool → Value
    array : Kind → ℤ → ℤ → Values → Value
    record_of : Values → Value

  pub data Values : Type 0 where
    no_values : Values
    value : Value → Values → Values

abbrev pub as_number : Value → ℤ
as_number (number n) = n
as_number _ = pos 0

abbrev pub as_truth : Value → Bool
as_truth (truth b) = b
as_truth _ = false

-- the kind that a value tells
abbrev mutual
  pub kind_of : Value → Kind
  kind_of (number n) = numbers
  kind_of (truth b) = truths
  kind_of (array k f l vs) = arrays k
  kind_of (record_of vs) = records (kinds_of vs)

  pub kinds_of : Values → Kinds
  kinds_of no_values = no_kinds
  kinds_of (value v vs) = kind (kind_of v) (kinds_of vs)

-- 0, False, a null array, a record of defaults
abbrev mutual
  pub default : Kind → Value
  default numbers = number (pos 0)
  default truths = truth false
  default (arrays k) = array k (pos 1) (pos 0) no_values
  default (records ks) = record_of (defaults ks)

  pub defaults : Kinds → Values
  defaults no_kinds = no_values
  defaults (kind k ks) = value (default k) (defaults ks)

abbrev pub value_at : Values → ℕ → Value → Value
value_at no_values n otherwise = otherwise
value_at (value v vs) zero otherwise = v
value_at (value v vs) (suc n) otherwise = value_at vs n otherwise

abbrev pub with_value : Values → ℕ → Value → Values
with_value no_values n new = no_values
with_value (value v vs) zero new = value new vs
with_value (value v vs) (suc n) new = value v (with_value vs n new)

abbrev pub copies : ℕ → Value → Values
copies zero v = no_values
copies (suc n) v = value v (copies n v)

-- as many numbers as there are from 0 up to z, with z
abbrev pub up_to : ℤ → ℕ
up_to (pos n) = suc n
up_to (negsuc n) = zero

-- as many numbers as there are from l to h
abbrev pub count : ℤ → ℤ → ℕ
count l h = up_to (h -ℤ l)

abbrev pub steps : ℤ → ℕ
steps (pos n) = n
steps (negsuc n) = zero

-- ---- operators on values

abbrev mutual
  pub same_kind : Kind → Kind → Bool
  same_kind numbers numbers = true
  same_kind truths truths = true
  same_kind (arrays a) (arrays b) = same_kind a b
  same_kind (records a) (records b) = same_kinds a b
  same_kind _ _ = false

  pub same_kinds : Kinds → Kinds → Bool
  same_kinds no_kinds no_kinds = true
  same_kinds (kind a as') (kind b bs) = same_kind a b && same_kinds as' bs
  same_kinds _ _ = false

abbrev pub same_int : ℤ → ℤ → Bool
same_int (pos a) (pos b) = a == b
same_int (negsuc a) (negsuc b) = a == b
same_int _ _ = false

abbrev pub same_bool : Bool → Bool → Bool
same_bool true b = b
same_bool false b = not b

abbrev mutual
  pub same_value : Value → Value → Bool
  same_value (number a) (number b) = same_int a b
  same_value (truth a) (truth b) = same_bool a b
  same_value (array k f l vs) (array m g h ws) = same_kind k m && same_int f g && same_int l h && same_values vs ws
  same_value (record_of vs) (record_of ws) = same_values vs ws
  same_value _ _ = false

  pub same_values : Values → Values → Bool
  same_values no_values no_values = true
  same_values (value v vs) (value w ws) = same_value v w && same_values vs ws
  same_values _ _ = false
