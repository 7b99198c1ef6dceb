-- `SharedItems` as a type that may hold the type that holds it.
use mathlib.Core.Path.{◌≡◌, refl, sym, ap, ◌∙◌}
use mathlib.Core.HLevel.{×_prop}
use mathlib.Core.List.{List, [], ◌∷◌, ◌++◌, map, map-append}
use mathlib.Core.Former.{Former, none_left, one_more, this, const, pair, list, via, children, list_count, list_put}
use native.Mathlib.Nat.{ℕ_set}
use lib.ListN.{length, length-map}
use base.Stored.{code_map, Coded-set, coded_bool}
use denote.RattleType.{RattleType}
use denote.HoleLaws.{Alike}
use denote.HolePlaces.{Recodes, struct_places, laid}
use denote.Hole.Carrier.{listed, list-listed}
use denote.Hole.Fix.{over}
use denote.Param.Weighed.{Weighed, w_list}
use denote.Model.Placed.{view_places, Held}
use Rattle.std.specs.Prelude.{ℕ, ◌&&◌, ◌==◌, ◌+◌, ◌*◌}
use Rattle.shared_items.specs.Chunks.{chained, are_full}
use Rattle.shared_items.specs.formers.shared.Shared as shared
use Rattle.shared_items.specs.contracts.shared.Shared as rows
use Rattle.shared_items.specs.declared.items.SharedItems.TheInside.{Inside}
use Rattle.shared_items.specs.declared.items.SharedItems.TheView.{view, invariant}
use Rattle.shared_items.specs.contracts.items.SharedItems as C
use Rattle.shared_items.specs.contracts.items.SharedItems.TheInside as I

abbrev pub the_former : Former {0} → Former {0}
the_former g = list g

abbrev pub the_weighed : {g : Former {0}} → Weighed g → Weighed (the_former g)
the_weighed w = w_list w

pub the_empty : List ⊥
the_empty = []

abbrev pub the_items : (X : Type 0) → List X → List X
the_items X d = d

pub the_items_listed : (X : Type 0) (d : List X) → listed _ (children (the_former this) X d) ≡ the_items X d
the_items_listed X d = list-listed X d

abbrev parts : Former {0}
parts = pair (list (list this)) (pair (list this) (const ℕ))

abbrev fields : Former {0}
fields = via parts Inside (λ X a. (a.chunks, (a.rest, a.len))) (λ X v. record { chunks = v.0; rest = v.1.0; len = v.1.1 }) (λ X a. refl) (λ X v. refl)

-- ---- the view shows what the fields hold, in their order
chained-map : {X Y : Type 0} (h : X → Y) (cs : List (List X)) (rest : List X) → chained (map (map h) cs) (map h rest) ≡ map h (chained cs rest)
chained-map h [] rest = refl
chained-map h (c ∷ cs) rest = ap (λ ys. map h c ++ ys) (chained-map h cs rest) ∙ sym (map-append h c (chained cs rest))

abbrev kinds : (X : Type 0) → List X → List (Unit {0})
kinds X xs = map (λ _. tt) xs

-- the items before a row
abbrev before : (X : Type 0) → List X → Held X → Held X
before X xs u = (list_count this (kinds X xs) u.0, list_put this X xs u.0 u.1)

abbrev before_all : (X : Type 0) → List (List X) → Held X → Held X
before_all X cs u = (list_count (list this) (map (kinds X) cs) u.0, list_put (list this) X cs u.0 u.1)

before-append : (X : Type 0) (xs ys : List X) (u : Held X) → before X (xs ++ ys) u ≡ before X xs (before X ys u)
before-append X [] ys u = refl
before-append X (x ∷ xs) ys u = ap (λ (w : Held X). (one_more w.0, (x, w.1))) (before-append X xs ys u)

before-chained : (X : Type 0) (cs : List (List X)) (rest : List X) (u : Held X) → before X (chained cs rest) u ≡ before_all X cs (before X rest u)
before-chained X [] rest u = refl
before-chained X (c ∷ cs) rest u = before-append X c (chained cs rest) u ∙ ap (before X c) (before-chained X cs rest u)

-- ---- the invariant reads lengths only
are_full-map : {X Y : Type 0} (h : X → Y) (cs : List (List X)) → are_full (map (map h) cs) ≡ are_full cs
are_full-map h [] = refl
are_full-map h (c ∷ cs) = λ i. (length-map c h i == 32) && are_full-map h cs i

lengths-map : {X Y : Type 0} (h : X → Y) (cs : List (List X)) (rest : List X) → 32 * length (map (map h) cs) + length (map h rest) ≡ 32 * length cs + length rest
lengths-map h cs rest = λ i. 32 * length-map cs (map h) i + length-map rest h i

invariant-prop : (X : Type 0) (a : Inside X) → IsProp (invariant X a)
invariant-prop X a = ×_prop (Coded-set coded_bool _ _) (ℕ_set _ _)

module _ (R S : RattleType) (h : R.Denot → S.Denot) where
  pub the_places : Alike R S h → Alike (C.the_row R) (C.the_row S) ((the_former this).map R.Denot S.Denot h)
  the_places a = view_places fields (list this) view (λ X Y k u. chained-map k u.chunks u.rest) (λ X u. before-chained X u.chunks u.rest (none_left, tt))
      R.Denot S.Denot h (C.the_row R).coded (C.the_row S).coded
      (invariant R.Denot) (invariant S.Denot) (invariant-prop R.Denot) (invariant-prop S.Denot)
      (λ u e. (are_full-map h u.chunks ∙ e.0, e.1 ∙ sym (lengths-map h u.chunks u.rest)))
      (λ u e. (sym (are_full-map h u.chunks) ∙ e.0, e.1 ∙ lengths-map h u.chunks u.rest))
      (over (I.the_row R)) (over (I.the_row S))
      (struct_places (I.the_type R) (I.the_type S) (map (map h), (map h, ((λ n. n), tt))) _ (λ d. refl) refl (
        laid _ _ _ (shared.the_places (rows.the_row R) (rows.the_row S) (map h) (shared.the_places R S h a)),
        (laid _ _ _ (shared.the_places R S h a), ((refl, ((λ y. refl), (λ y. refl))), tt)),
      ))

  pub the_codes_placed : Recodes R S h → Recodes (C.the_row R) (C.the_row S) ((the_former this).map R.Denot S.Denot h)
  the_codes_placed e d = sym (code_map R.coded.code S.coded.code h (λ x. sym (e x)) d)
