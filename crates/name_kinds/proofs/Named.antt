-- Hints of components and of calls, and parts of lists.
use Rattle.std.proofs.Common.{◌≡◌, refl, sym, ap, ◌∙◌, ℕ, suc, ◌-◌, Bool, true, false, ◌==◌, List, [], ◌∷◌, length, take, drop, Option, Some, None}
use Rattle.std.specs.Prelude.{if◌then◌else◌, min}
use Rattle.std.proofs.lemmas.List.{drop_min, take_min, take_rest}
use Rattle.type_base.specs.declared.world.Component.{Component}
use Rattle.type_base.specs.declared.world.Formal.{Formal}
use Rattle.type_base.specs.declared.world.World.{World}
use Rattle.typing_rules.specs.declared.hint.Hint.{Hint}
use Rattle.typing_rules.specs.declared.hint.Hint.TheVariants.{Value}
use Rattle.typing_rules.specs.Kinds.{call_hint, component_at_hint, item_hint}
use Rattle.typing_rules.specs.Lookups.{array_at, place_among}
use Rattle.name_kinds.specs.Parts.{has_some, hint_among}

abbrev up : Option ℕ → Option ℕ
up (Some n) = Some (suc n)
up None = None

up_if : (b : Bool) (n : ℕ) (o : Option ℕ) → (if b then Some (suc n) else up o) ≡ up (if b then Some n else o)
up_if true n o = refl
up_if false n o = refl

moved : (cs : List Component) (m n : ℕ) → place_among cs m (suc n) ≡ up (place_among cs m n)
moved [] m n = refl
moved (c ∷ cs) m n = ap (λ (o : Option ℕ). if c.name == m then Some (suc n) else o) (moved cs m (suc n)) ∙ up_if (c.name == m) n (place_among cs m (suc n))

past : (c : Component) (cs : List Component) (o : Option ℕ) → component_at_hint (c ∷ cs) (up o) ≡ component_at_hint cs o
past c cs (Some n) = refl
past c cs None = refl

first_if : (b : Bool) (c : Component) (cs : List Component) (o : Option ℕ) (h : Hint) → h ≡ component_at_hint cs o → (if b then Value c.subtype else h) ≡ component_at_hint (c ∷ cs) (if b then Some 0 else up o)
first_if true c cs o h e = refl
first_if false c cs o h e = e ∙ sym (past c cs o)

pub named : (cs : List Component) (m : ℕ) → hint_among cs m ≡ component_at_hint cs (place_among cs m 0)
named [] m = refl
named (c ∷ cs) m =
    first_if (c.name == m) c cs (place_among cs m 0) (hint_among cs m) (named cs m)
    ∙ ap (λ (o : Option ℕ). component_at_hint (c ∷ cs) (if c.name == m then Some 0 else o)) (sym (moved cs m 0))

pub called : (w : World) (k : ℕ) (fs : List Formal) → (if has_some fs then Value k else item_hint (array_at w k)) ≡ call_hint w (Some k) fs
called w k [] = refl
called w k (f ∷ fs) = refl

-- a part of a list, as the code cuts it
pub cut : {T : Type 0} (xs : List T) (f c : ℕ) (r : List T) → r ≡ take (length xs - min f (length xs)) (drop (min f (length xs)) xs) → take (min c (length r)) r ≡ take c (drop f xs)
cut {T} xs f c r e = take_min c r ∙ ap (λ (ys : List T). take c ys) (e ∙ take_rest xs (min f (length xs)) ∙ drop_min f xs)
