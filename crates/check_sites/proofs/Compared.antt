-- The code's order of keys is that of sites.
use Rattle.std.proofs.Common.{◌≡◌, ℕ, refl, ap, ◌∙◌, Bool, true, false, is_lt}
use Rattle.std.specs.Prelude.{cond, ◌&&◌, ◌||◌, ◌==◌, nat_lt}
use Rattle.std.specs.declared.cmp.Ordering.{Ordering}
use Rattle.std.specs.declared.cmp.Ordering.TheVariants.{Less, Equal, Greater}
use Rattle.std.specs.Ordering.{nat_cmp, ordering_then}
use Rattle.typed_units.specs.contracts.checks.CheckKindOrd.TheImpl as kind_order
use Rattle.typed_units.specs.contracts.checks.SiteKeyOrd.TheImpl as key_order
use Rattle.typed_units.specs.declared.checks.CheckKind.{CheckKind}
use Rattle.typed_units.specs.declared.checks.CheckKind.TheVariants as kind
use Rattle.typed_units.specs.declared.checks.SiteKey.{SiteKey}
use Rattle.typed_units.specs.Sites.{first_then, kind_number, site_before}

by_kind : (P : CheckKind → Type 0) → P kind.Overflow → P kind.Range → P kind.Index → P kind.Division → P kind.Pre → P kind.Post → P kind.Assert → P kind.Assume → P kind.InvFirst → P kind.InvKept → P kind.Variant → (k : CheckKind) → P k
by_kind P a b c d e f g h i j l kind.Overflow = a
by_kind P a b c d e f g h i j l kind.Range = b
by_kind P a b c d e f g h i j l kind.Index = c
by_kind P a b c d e f g h i j l kind.Division = d
by_kind P a b c d e f g h i j l kind.Pre = e
by_kind P a b c d e f g h i j l kind.Post = f
by_kind P a b c d e f g h i j l kind.Assert = g
by_kind P a b c d e f g h i j l kind.Assume = h
by_kind P a b c d e f g h i j l kind.InvFirst = i
by_kind P a b c d e f g h i j l kind.InvKept = j
by_kind P a b c d e f g h i j l kind.Variant = l

abbrev Alike : CheckKind → CheckKind → Type 0
Alike a b = is_lt (kind_order.ghosts.cmp a b) ≡ nat_lt (kind_number a) (kind_number b)

kinds_alike : (a b : CheckKind) → Alike a b
kinds_alike kind.Overflow = by_kind (Alike kind.Overflow) refl refl refl refl refl refl refl refl refl refl refl
kinds_alike kind.Range = by_kind (Alike kind.Range) refl refl refl refl refl refl refl refl refl refl refl
kinds_alike kind.Index = by_kind (Alike kind.Index) refl refl refl refl refl refl refl refl refl refl refl
kinds_alike kind.Division = by_kind (Alike kind.Division) refl refl refl refl refl refl refl refl refl refl refl
kinds_alike kind.Pre = by_kind (Alike kind.Pre) refl refl refl refl refl refl refl refl refl refl refl
kinds_alike kind.Post = by_kind (Alike kind.Post) refl refl refl refl refl refl refl refl refl refl refl
kinds_alike kind.Assert = by_kind (Alike kind.Assert) refl refl refl refl refl refl refl refl refl refl refl
kinds_alike kind.Assume = by_kind (Alike kind.Assume) refl refl refl refl refl refl refl refl refl refl refl
kinds_alike kind.InvFirst = by_kind (Alike kind.InvFirst) refl refl refl refl refl refl refl refl refl refl refl
kinds_alike kind.InvKept = by_kind (Alike kind.InvKept) refl refl refl refl refl refl refl refl refl refl refl
kinds_alike kind.Variant = by_kind (Alike kind.Variant) refl refl refl refl refl refl refl refl refl refl refl

tests_alike : (p q : Bool) (o : Ordering) → is_lt (ordering_then (cond p Less (cond q Equal Greater)) o) ≡ (p || (q && is_lt o))
tests_alike true q o = refl
tests_alike false true o = refl
tests_alike false false o = refl

then_alike : (x y : ℕ) (o : Ordering) → is_lt (ordering_then (nat_cmp x y) o) ≡ first_then x y (is_lt o)
then_alike x y o = tests_alike (nat_lt x y) (x == y) o

then_assoc : (p q r : Ordering) → ordering_then (ordering_then p q) r ≡ ordering_then p (ordering_then q r)
then_assoc Less q r = refl
then_assoc Equal q r = refl
then_assoc Greater q r = refl

-- by four orders, of which three are of numbers
four_alike : (f g l m c d : ℕ) (o : Ordering) → is_lt (ordering_then (ordering_then (nat_cmp f g) (ordering_then (nat_cmp l m) (nat_cmp c d))) o) ≡ first_then f g (first_then l m (first_then c d (is_lt o)))
four_alike f g l m c d o =
    ap is_lt (then_assoc (nat_cmp f g) (ordering_then (nat_cmp l m) (nat_cmp c d)) o ∙ ap (ordering_then (nat_cmp f g)) (then_assoc (nat_cmp l m) (nat_cmp c d) o))
    ∙ then_alike f g (ordering_then (nat_cmp l m) (ordering_then (nat_cmp c d) o))
    ∙ ap (first_then f g) (then_alike l m (ordering_then (nat_cmp c d) o))
    ∙ ap (λ (b : Bool). first_then f g (first_then l m b)) (then_alike c d o)

pub compared_as : (a b : SiteKey) → is_lt (key_order.ghosts.cmp a b) ≡ site_before a b
compared_as a b =
    four_alike a.place.file b.place.file a.place.line b.place.line a.place.column b.place.column (kind_order.ghosts.cmp a.kind b.kind)
    ∙ ap (λ (x : Bool). first_then a.place.file b.place.file (first_then a.place.line b.place.line (first_then a.place.column b.place.column x))) (kinds_alike a.kind b.kind)
