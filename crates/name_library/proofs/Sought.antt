-- A map that keeps the first of each name, as a list is walked from its end.
use Rattle.std.proofs.Common.{◌≡◌, ℕ, ◌+◌, ◌<◌, refl, sym, ap, ◌∙◌, Bool, true, false, cond, List, ◌∷◌, length, get_or, drop, Option, Some, arith}
use Rattle.std.specs.Prelude.{◌==◌, ◌&&◌, slice_get}
use Rattle.std.proofs.lemmas.Option.{slice_get_read}
use Rattle.std.specs.Ordering.{is_eq, nat_cmp}
use Rattle.std.specs.BTreeMap.{is_at}
use Rattle.std.proofs.lemmas.Bool.Decides.{nat_tests}
use Rattle.std.proofs.lemmas.List.{drop_more}
use Rattle.name_library.specs.declared.library.Export.{Export}
use Rattle.name_library.specs.declared.library.LibraryUnit.{LibraryUnit}
use Rattle.name_library.specs.declared.library.Part.{Part}
use Rattle.name_library.specs.Library.{else_unit, export_named, is_part, unit_as, unit_at}

-- two names are one for the map exactly where they are for the list
pub same_name : (m n : ℕ) → is_eq (nat_cmp m n) ≡ (m == n)
same_name m n = grind (arith, nat_tests)

pub one_more : (xs : List Export) (k n : ℕ) (d : Export) → k < length xs → cond (is_at (nat_cmp (get_or xs k d).name) n) (Some (get_or xs k d)) (export_named n (drop (k + 1) xs)) ≡ export_named n (drop k xs)
one_more xs k n d h =
    ap (λ b. cond b (Some (get_or xs k d)) (export_named n (drop (k + 1) xs))) (same_name (get_or xs k d).name n)
    ∙ ap (export_named n) (sym (drop_more xs k d h))

by_test : (us : List LibraryUnit) (p : Part) (k n : ℕ) (u : LibraryUnit) (old : Option LibraryUnit) (now : Option ℕ) (b : Bool) → slice_get us k ≡ Some u → unit_at us now ≡ else_unit (unit_as p n (drop (k + 1) us)) old → unit_at us (cond b (Some k) now) ≡ else_unit (cond b (Some u) (unit_as p n (drop (k + 1) us))) old
by_test us p k n u old now true s h = s
by_test us p k n u old now false s h = h

split : (us : List LibraryUnit) (p : Part) (k n : ℕ) (u : LibraryUnit) → k < length us → u ≡ get_or us k u → unit_as p n (drop k us) ≡ cond (is_part p u.part && (u.name == n)) (Some u) (unit_as p n (drop (k + 1) us))
split us p k n u h e = ap (unit_as p n) (drop_more us k u h ∙ ap (λ x. x ∷ drop (k + 1) us) (sym e))

-- the unit at k is of the part, and goes before those after it
pub found_more : (us : List LibraryUnit) (p : Part) (k n : ℕ) (u : LibraryUnit) (old : Option LibraryUnit) (now new : Option ℕ) → k < length us → u ≡ get_or us k u → is_part p u.part ≡ true → unit_at us now ≡ else_unit (unit_as p n (drop (k + 1) us)) old → new ≡ cond (is_at (nat_cmp u.name) n) (Some k) now → unit_at us new ≡ else_unit (unit_as p n (drop k us)) old
found_more us p k n u old now new h e q i s =
    ap (unit_at us) s
    ∙ by_test us p k n u old now (is_eq (nat_cmp u.name n)) (slice_get_read us (length us) k u refl h e) i
    ∙ ap (λ o. else_unit o old) (ap (λ b. cond b (Some u) (unit_as p n (drop (k + 1) us))) (same_name u.name n)
    ∙ ap (λ b. cond (b && (u.name == n)) (Some u) (unit_as p n (drop (k + 1) us))) (sym q) ∙ sym (split us p k n u h e))

-- the unit at k is of another part
pub passed_more : (us : List LibraryUnit) (p : Part) (k n : ℕ) (u : LibraryUnit) → k < length us → u ≡ get_or us k u → is_part p u.part ≡ false → unit_as p n (drop k us) ≡ unit_as p n (drop (k + 1) us)
passed_more us p k n u h e q = split us p k n u h e ∙ ap (λ b. cond (b && (u.name == n)) (Some u) (unit_as p n (drop (k + 1) us))) q
