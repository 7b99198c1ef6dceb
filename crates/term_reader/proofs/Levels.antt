-- Levels of the brackets that are open.
use Rattle.std.proofs.Common.{◌≡◌, refl, sym, ◌∙◌, ap, subst, ℕ, true, false, List, [], ◌∷◌, ◌++◌, length, map, reverse, append_assoc}
use Rattle.std.specs.Prelude.{Some, None}
use Rattle.std.proofs.lemmas.List.{reverse-append, map-append, length-map, append-nil}
use Rattle.term_reader.specs.Bytes.{is_digit, first, IsFault}
use Rattle.term_reader.specs.Reads.{tree}
use Rattle.term_reader.specs.Trees.{Tree, tree_text, is_of, IsOf, Build, build_text, Level, level, spaced, wants, is_full, made, ends_in_number, IsAt, IsAfter}
use Rattle.term_reader.specs.Words.{IsBuild}
use Rattle.term_reader.specs.declared.part.Part.{Part}
use Rattle.term_reader.specs.declared.part.Side.{Side}
use Rattle.term_reader.proofs.Builds.{filled, made_right}
use Rattle.term_reader.proofs.Digits.{same_tail}
use Rattle.term_reader.proofs.Paths.{branch_at, parts_end, opened, part_placed, part_follows, level_closed, fault_of_level}

pub pushed_level : {A B : Type 0} (f : A → B) (xs : List A) (x : A) → map f (reverse (xs ++ x ∷ [])) ≡ f x ∷ map f (reverse xs)
pushed_level f xs x = ap (map f) (reverse-append xs (x ∷ []))

pub popped_level : {A B : Type 0} (f : A → B) (xs ys : List A) (x : A) → xs ≡ ys ++ x ∷ [] → map f (reverse xs) ≡ f x ∷ map f (reverse ys)
popped_level f xs ys x e = ap (λ l. map f (reverse l)) e ∙ pushed_level f ys x

pub one_part_more : (o : Build) (ps qs : List Part) (p : Part) → qs ≡ ps ++ p ∷ [] → level o (map tree qs) ≡ level o (map tree ps ++ tree p ∷ [])
one_part_more o ps qs p e = ap (level o) (ap (map tree) e ∙ map-append tree ps (p ∷ []))

-- a part that is placed in a level
pub placed_in : (text : List ℕ) (whole : Side) (t : Tree) (o : Build) (ts : List Tree) (old ls new : List Level) (r : List ℕ) → old ≡ level o ts ∷ ls → new ≡ level o (ts ++ t ∷ []) ∷ ls → IsAfter text whole t old r → IsAt text whole None new r
placed_in text whole t o ts old ls new r e g h =
    subst (λ (l : List Level). IsAt text whole None l r) (sym g)
    (part_placed text whole t o ts ls r (subst (λ (l : List Level). IsAfter text whole t l r) e h))

-- a level that is closed
pub closed_as : (text : List ℕ) (whole : Side) (o : Build) (ps : List Part) (t : Tree) (ls : List Level) (r q : List ℕ) → t ≡ made o (map tree ps) → is_full o (length ps) ≡ true → r ≡ 41 ∷ q → IsAt text whole None (level o (map tree ps) ∷ ls) r → IsAfter text whole t ls q
closed_as text whole o ps t ls r q e f g h =
    subst (λ (x : Tree). IsAfter text whole x ls q) (sym e)
    (level_closed text whole o (map tree ps) ls r q h g (ap (is_full o) (length-map ps tree) ∙ f))

-- a part that is to follow in a level
pub follows_in : (text : List ℕ) (whole s : Side) (o : Build) (ps : List Part) (old ls new : List Level) (r q : List ℕ) → old ≡ level o (map tree ps) ∷ ls → new ≡ level o (map tree ps) ∷ ls → wants o (length ps) ≡ Some s → r ≡ 32 ∷ q → IsAt text whole None old r → IsAt text whole (Some s) new q
follows_in text whole s o ps old ls new r q e f w g h =
    subst (λ (l : List Level). IsAt text whole (Some s) l q) (sym f)
    (part_follows text whole s o (map tree ps) ls r q (subst (λ (l : List Level). IsAt text whole None l r) e h) g (ap (wants o) (length-map ps tree) ∙ w))

-- a byte that a level does not go on with
pub stops_in : (text : List ℕ) (whole : Side) (o : Build) (ps : List Part) (old ls : List Level) (r : List ℕ) → old ≡ level o (map tree ps) ∷ ls → (first r ≡ 32 → wants o (length ps) ≡ None) → (first r ≡ 41 → is_full o (length ps) ≡ false) → IsAt text whole None old r → IsFault (IsOf whole) tree_text text r
stops_in text whole o ps old ls r e f g h =
    fault_of_level text whole o (map tree ps) ls r (subst (λ (l : List Level). IsAt text whole None l r) e h)
    (λ x. ap (wants o) (length-map ps tree) ∙ f x) (λ x. ap (is_full o) (length-map ps tree) ∙ g x)

-- a bracket that is opened
pub opened_as : (text : List ℕ) (whole s : Side) (o : Build) (ps : List Part) (old new : List Level) (r q : List ℕ) → ps ≡ [] → new ≡ level o (map tree ps) ∷ old → r ≡ 40 ∷ (build_text o ++ q) → IsBuild s o → (ends_in_number o ≡ true → is_digit (first q) ≡ false) → IsAt text whole (Some s) old r → IsAt text whole None new q
opened_as text whole s o ps old new r q e f g b n h =
    subst (λ (l : List Level). IsAt text whole None l q) (sym (f ∙ ap (λ (xs : List Part). level o (map tree xs) ∷ old) e))
    (opened text whole s old r q o h g b.given b.fit n)

-- what stands after a bracket is not read
pub opening_fault : (s : Side) (t r q : List ℕ) → t ≡ 40 ∷ r → IsFault (IsBuild s) build_text r q → IsFault (IsOf s) tree_text t q
opening_fault s t r q e f =
    let g = f.goes in
    let b = g.2 in
    let i = filled g.0 [] (b.fit, refl) in
    let m = made_right g.0 i.more i.right i.full in record {
      front = 40 ∷ f.front;
      is_front = e ∙ ap (λ (x : List ℕ). 40 ∷ x) f.is_front;
      goes = (
        made g.0 i.more,
        g.1 ++ (spaced i.more ++ (41 ∷ [])),
        ap (λ (x : Side). is_of x (made g.0 i.more)) (sym b.given) ∙ m.right,
        sym (append-nil (tree_text (made g.0 i.more))) ∙ m.is_text []
            ∙ ap (λ (x : List ℕ). 40 ∷ (x ++ (spaced i.more ++ (41 ∷ [])))) g.3
            ∙ ap (λ (x : List ℕ). 40 ∷ x) (append_assoc f.front g.1 (spaced i.more ++ (41 ∷ []))),
      );
      stuck = λ u k rest h d x.
          let v = branch_at s u k h (ap first x) in
          f.stuck v.build (spaced v.parts ++ (41 ∷ k)) rest (record { given = v.given; fit = v.right.0 }) (parts_end v.parts 41 k refl)
          (same_tail 40 40 _ _ (sym (v.is_text k) ∙ x));
    }
