-- Which refusal is the first is settled.
use Rattle.std.proofs.Common.{◌≡◌, refl, sym, ◌∙◌, ap, ℕ, arith, Bool, true, false, nat_lt, List, [], ◌∷◌, Option, Some, None}
use Rattle.std.specs.Prelude.{slice_get}
use Rattle.front_codes.specs.declared.codes.Code.{Code}
use Rattle.front_codes.specs.declared.codes.Code.TheVariants as code
use Rattle.front_codes.specs.declared.codes.Refusal.{Refusal}
use Rattle.front_codes.specs.Codes.{first_then, is_before, number_of}

before_itself_then : (x : ℕ) (rest : Bool) → rest ≡ false → first_then x x rest ≡ false
before_itself_then x rest h = grind arith

chain_then : (x y z : ℕ) (a b c : Bool) → (a ≡ true → b ≡ true → c ≡ true) → first_then x y a ≡ true → first_then y z b ≡ true → first_then x z c ≡ true
chain_then x y z true true c h v w = let e = h refl refl in grind arith
chain_then x y z true false c h v w = grind arith
chain_then x y z false b c h v w = grind arith

record One (x y : ℕ) (a b : Bool) : Type 0 where
  pub one : x ≡ y
  pub left : a ≡ false
  pub right : b ≡ false

neither_then : (x y : ℕ) (a b : Bool) → first_then x y a ≡ false → first_then y x b ≡ false → One x y a b
neither_then x y true b v w = absurd (grind arith)
neither_then x y false true v w = absurd (grind arith)
neither_then x y false false v w = record { one = grind arith; left = refl; right = refl }

chain_last : (x y z : ℕ) → nat_lt x y ≡ true → nat_lt y z ≡ true → nat_lt x z ≡ true
chain_last x y z v w = grind arith

neither_last : (x y : ℕ) → nat_lt x y ≡ false → nat_lt y x ≡ false → x ≡ y
neither_last x y v w = grind arith

-- ---- codes of one number are one

abbrev all_codes : List Code
all_codes = code.BadByte ∷ code.BadNumber ∷ code.TooWide ∷ code.Unexpected ∷ code.TooDeep ∷ code.UnknownName ∷ code.AmbiguousName ∷ code.Duplicate ∷ code.Overloaded ∷ code.WithCycle ∷ code.MissingBody ∷ code.SpecMismatch ∷ code.LeftOut ∷ code.L1 ∷ code.L2 ∷ code.L3 ∷ code.L4 ∷ code.L5 ∷ code.L6 ∷ code.L7 ∷ code.L8 ∷ code.L9 ∷ code.L10 ∷ code.L11 ∷ code.L12 ∷ code.L13 ∷ code.L14 ∷ code.L15 ∷ code.L16 ∷ code.L17 ∷ code.L18 ∷ code.L19 ∷ code.L20 ∷ code.L21 ∷ code.L22 ∷ code.L23 ∷ code.L24 ∷ code.L25 ∷ code.L26 ∷ code.L27 ∷ code.L28 ∷ code.L29 ∷ code.L30 ∷ code.F1 ∷ code.F2 ∷ code.F3 ∷ code.F4 ∷ code.F5 ∷ code.F6 ∷ []

numbered : (c : Code) → slice_get all_codes (number_of c) ≡ Some c
numbered code.BadByte = refl
numbered code.BadNumber = refl
numbered code.TooWide = refl
numbered code.Unexpected = refl
numbered code.TooDeep = refl
numbered code.UnknownName = refl
numbered code.AmbiguousName = refl
numbered code.Duplicate = refl
numbered code.Overloaded = refl
numbered code.WithCycle = refl
numbered code.MissingBody = refl
numbered code.SpecMismatch = refl
numbered code.LeftOut = refl
numbered code.L1 = refl
numbered code.L2 = refl
numbered code.L3 = refl
numbered code.L4 = refl
numbered code.L5 = refl
numbered code.L6 = refl
numbered code.L7 = refl
numbered code.L8 = refl
numbered code.L9 = refl
numbered code.L10 = refl
numbered code.L11 = refl
numbered code.L12 = refl
numbered code.L13 = refl
numbered code.L14 = refl
numbered code.L15 = refl
numbered code.L16 = refl
numbered code.L17 = refl
numbered code.L18 = refl
numbered code.L19 = refl
numbered code.L20 = refl
numbered code.L21 = refl
numbered code.L22 = refl
numbered code.L23 = refl
numbered code.L24 = refl
numbered code.L25 = refl
numbered code.L26 = refl
numbered code.L27 = refl
numbered code.L28 = refl
numbered code.L29 = refl
numbered code.L30 = refl
numbered code.F1 = refl
numbered code.F2 = refl
numbered code.F3 = refl
numbered code.F4 = refl
numbered code.F5 = refl
numbered code.F6 = refl

abbrev code_in : Option Code → Code
code_in (Some c) = c
code_in None = code.LeftOut

same_code : (c d : Code) → number_of c ≡ number_of d → c ≡ d
same_code c d e = ap code_in (sym (numbered c) ∙ ap (λ (n : ℕ). slice_get all_codes n) e ∙ numbered d)

-- ---- refusals

same_parts : (c d : Refusal) → c.place.file ≡ d.place.file → c.place.line ≡ d.place.line → c.place.column ≡ d.place.column → number_of c.code ≡ number_of d.code → c ≡ d
same_parts c d f l m k =
    ap (λ (x : ℕ). record { code = c.code; place = record { file = x; line = c.place.line; column = c.place.column } }) f
    ∙ ap (λ (x : ℕ). record { code = c.code; place = record { file = d.place.file; line = x; column = c.place.column } }) l
    ∙ ap (λ (x : ℕ). record { code = c.code; place = record { file = d.place.file; line = d.place.line; column = x } }) m
    ∙ ap (λ (x : Code). record { code = x; place = d.place }) (same_code c.code d.code k)

pub before_itself : (c : Refusal) → is_before c c ≡ false
before_itself c = grind arith

pub before_chain : (a b c : Refusal) → is_before a b ≡ true → is_before b c ≡ true → is_before a c ≡ true
before_chain a b c =
    chain_then a.place.file b.place.file c.place.file _ _ _ (chain_then a.place.line b.place.line c.place.line _ _ _
    (chain_then a.place.column b.place.column c.place.column _ _ _ (chain_last (number_of a.code) (number_of b.code) (number_of c.code))))

pub before_neither : (c d : Refusal) → is_before c d ≡ false → is_before d c ≡ false → c ≡ d
before_neither c d v w =
    let f = neither_then c.place.file d.place.file _ _ v w in
    let l = neither_then c.place.line d.place.line _ _ f.left f.right in
    let m = neither_then c.place.column d.place.column _ _ l.left l.right in
    same_parts c d f.one l.one m.one (neither_last (number_of c.code) (number_of d.code) m.left m.right)
