-- What stands inside an expression is among its nodes.
use Rattle.std.proofs.Common.{ℕ, List, [], ◌∷◌, ◌++◌}
use Rattle.std.specs.List.{AllByRecursion, Contains}
use Rattle.std.proofs.lemmas.List.Elements.{All-contains, All-from_recursion, Contains-append_left, Contains-push}
use Rattle.typed_units.specs.Syntax as text
use Rattle.typed_units.specs.Syntax.{Ex, Nd}
use Rattle.unit_nodes.specs.declared.node.Asked.{Asked}
use Rattle.unit_nodes.specs.declared.node.Asked.TheVariants as asked
use Rattle.unit_nodes.specs.Nodes.{Node, passed, item_index, association, expression, asked_of, onto, parts_onto, actuals_onto, actual_onto, target_onto, path_onto, arms_onto, assocs_onto}
use Rattle.unit_nodes.specs.Parts.{Inside, itself, deeper, parts, path_parts, target_parts, actual_parts, actuals_parts, arms_parts, assocs_parts}

-- ---- what holds of a list, and of each list with one more node, holds with further nodes

abbrev pub Grows : (List Node → Type 0) → Type 0
Grows P = (xs : List Node) (y : Node) → P xs → P (xs ++ y ∷ [])

mutual
  pub kept : (P : List Node → Type 0) (w : Grows P) (a : Asked) (xs : List Node) (e : Ex) → P xs → P (onto a xs e)
  kept P w a xs (text.at p s n) h = kept_parts P w (xs ++ expression a (text.at p s n) ∷ []) n (w xs (expression a (text.at p s n)) h)

  kept_parts : (P : List Node → Type 0) (w : Grows P) (xs : List Node) (n : Nd) → P xs → P (parts_onto xs n)
  kept_parts P w xs (text.static v) h = h
  kept_parts P w xs (text.read p m v) h = h
  kept_parts P w xs (text.component k a) h = kept P w asked.Component xs a h
  kept_parts P w xs (text.op1 o a) h = kept P w (asked_of o) xs a h
  kept_parts P w xs (text.op2 o a b) h = kept P w asked.Whole (onto asked.Whole xs a) b (kept P w asked.Whole xs a h)
  kept_parts P w xs (text.connect c a b) h = kept P w asked.Whole (onto asked.Whole xs a) b (kept P w asked.Whole xs a h)
  kept_parts P w xs (text.member is a l u) h = kept P w asked.Whole (onto asked.Whole (onto asked.Whole xs a) l) u (kept P w asked.Whole (onto asked.Whole xs a) l (kept P w asked.Whole xs a h))
  kept_parts P w xs (text.call p q as') h = kept_actuals P w q xs as' h
  kept_parts P w xs (text.aggregate c b as') h = kept_assocs P w xs as' h
  kept_parts P w xs (text.choose as') h = kept_arms P w xs as' h
  kept_parts P w xs (text.quantified q k l u p) h = kept P w asked.Whole (onto asked.Whole (onto asked.Whole xs l) u) p (kept P w asked.Whole (onto asked.Whole xs l) u (kept P w asked.Whole xs l h))

  pub kept_actuals : (P : List Node → Type 0) (w : Grows P) (q : ℕ) (xs : List Node) (as' : text.Actuals) → P xs → P (actuals_onto q xs as')
  kept_actuals P w q xs text.no_actuals h = h
  kept_actuals P w q xs (text.actual a rest) h =
      kept_actuals P w q (actual_onto (xs ++ passed q a ∷ []) a) rest (kept_actual P w (xs ++ passed q a ∷ []) a (w xs (passed q a) h))

  kept_actual : (P : List Node → Type 0) (w : Grows P) (xs : List Node) (a : text.Actual) → P xs → P (actual_onto xs a)
  kept_actual P w xs (text.pass_in k f e) h = kept P w asked.Whole xs e h
  kept_actual P w xs (text.pass_out k t f) h = kept_target P w xs t h
  kept_actual P w xs (text.pass_in_out k t f g) h = kept_target P w xs t h

  pub kept_target : (P : List Node → Type 0) (w : Grows P) (xs : List Node) (t : text.Target) → P xs → P (target_onto xs t)
  kept_target P w xs (text.target p v path) h = kept_path P w xs path h

  kept_path : (P : List Node → Type 0) (w : Grows P) (xs : List Node) (path : text.Path) → P xs → P (path_onto xs path)
  kept_path P w xs text.here h = h
  kept_path P w xs (text.to_component k n rest) h = kept_path P w xs rest h
  kept_path P w xs (text.to_item b c e rest) h =
      kept_path P w (onto asked.Whole (xs ++ item_index c e ∷ []) e) rest (kept P w asked.Whole (xs ++ item_index c e ∷ []) e (w xs (item_index c e) h))

  kept_arms : (P : List Node → Type 0) (w : Grows P) (xs : List Node) (as' : text.Arms) → P xs → P (arms_onto xs as')
  kept_arms P w xs (text.other e) h = kept P w asked.Whole xs e h
  kept_arms P w xs (text.arm c g rest) h = kept_arms P w (onto asked.Whole (onto asked.Whole xs c) g) rest (kept P w asked.Whole (onto asked.Whole xs c) g (kept P w asked.Whole xs c h))

  kept_assocs : (P : List Node → Type 0) (w : Grows P) (xs : List Node) (as' : text.Assocs) → P xs → P (assocs_onto xs as')
  kept_assocs P w xs text.no_assocs h = h
  kept_assocs P w xs (text.assoc bs o cs e rest) h =
      kept_assocs P w (onto asked.Whole (xs ++ association bs o cs e ∷ []) e) rest (kept P w asked.Whole (xs ++ association bs o cs e ∷ []) e (w xs (association bs o cs e) h))

-- ---- what is shown wherever a part's nodes stand is shown with the whole

abbrev pub Has : Ex → List Node → Type 0
Has x xs = (b : Asked) × Contains xs (expression b x)

abbrev pub Shown : Ex → Ex → Type 0
Shown x d = (a : Asked) (xs : List Node) → Has x (onto a xs d)

abbrev pub Brought : Ex → List Node → Ex → Type 0
Brought x zs d = Shown x d → Has x zs

pub has_grows : (x : Ex) → Grows (Has x)
has_grows x xs y h = (h.0, Contains-append_left xs (y ∷ []) (expression h.0 x) h.1)

still : (x : Ex) (a : Asked) (xs : List Node) (e : Ex) → Has x xs → Has x (onto a xs e)
still x a xs e h = kept (Has x) (has_grows x) a xs e h

both : (P : Ex → Type 0) (xs ys : List Ex) → AllByRecursion P xs → AllByRecursion P ys → AllByRecursion P (xs ++ ys)
both P [] ys h k = k
both P (x ∷ xs) ys h k = (h.0, both P xs ys h.1 k)

weaker : (P Q : Ex → Type 0) → ((x : Ex) → P x → Q x) → (xs : List Ex) → AllByRecursion P xs → AllByRecursion Q xs
weaker P Q f [] h = tt
weaker P Q f (x ∷ xs) h = (f x h.0, weaker P Q f xs h.1)

brings_path : (x : Ex) (xs : List Node) (path : text.Path) → AllByRecursion (Brought x (path_onto xs path)) (path_parts path)
brings_path x xs text.here = tt
brings_path x xs (text.to_component k n rest) = brings_path x xs rest
brings_path x xs (text.to_item b c e rest) =
    let ys = xs ++ item_index c e ∷ [] in (
      (λ s. kept_path (Has x) (has_grows x) (onto asked.Whole ys e) rest (s asked.Whole ys)),
      brings_path x (onto asked.Whole ys e) rest,
    )

pub brings_target : (x : Ex) (xs : List Node) (t : text.Target) → AllByRecursion (Brought x (target_onto xs t)) (target_parts t)
brings_target x xs (text.target p v path) = brings_path x xs path

brings_actual : (x : Ex) (xs : List Node) (a : text.Actual) → AllByRecursion (Brought x (actual_onto xs a)) (actual_parts a)
brings_actual x xs (text.pass_in k f e) = ((λ s. s asked.Whole xs), tt)
brings_actual x xs (text.pass_out k t f) = brings_target x xs t
brings_actual x xs (text.pass_in_out k t f g) = brings_target x xs t

pub brings_actuals : (x : Ex) (q : ℕ) (xs : List Node) (as' : text.Actuals) → AllByRecursion (Brought x (actuals_onto q xs as')) (actuals_parts as')
brings_actuals x q xs text.no_actuals = tt
brings_actuals x q xs (text.actual a rest) =
    let ys = xs ++ passed q a ∷ [] in
    both (Brought x (actuals_onto q (actual_onto ys a) rest)) (actual_parts a) (actuals_parts rest)
    (weaker (Brought x (actual_onto ys a)) (Brought x (actuals_onto q (actual_onto ys a) rest))
    (λ d f s. kept_actuals (Has x) (has_grows x) q (actual_onto ys a) rest (f s))
    (actual_parts a) (brings_actual x ys a))
    (brings_actuals x q (actual_onto ys a) rest)

brings_arms : (x : Ex) (xs : List Node) (as' : text.Arms) → AllByRecursion (Brought x (arms_onto xs as')) (arms_parts as')
brings_arms x xs (text.other e) = ((λ s. s asked.Whole xs), tt)
brings_arms x xs (text.arm c g rest) =
    let ys = onto asked.Whole xs c in (
      (λ s. kept_arms (Has x) (has_grows x) (onto asked.Whole ys g) rest (still x asked.Whole ys g (s asked.Whole xs))),
      (
        (λ s. kept_arms (Has x) (has_grows x) (onto asked.Whole ys g) rest (s asked.Whole ys)),
        brings_arms x (onto asked.Whole ys g) rest,
      ),
    )

brings_assocs : (x : Ex) (xs : List Node) (as' : text.Assocs) → AllByRecursion (Brought x (assocs_onto xs as')) (assocs_parts as')
brings_assocs x xs text.no_assocs = tt
brings_assocs x xs (text.assoc bs o cs e rest) =
    let ys = xs ++ association bs o cs e ∷ [] in (
      (λ s. kept_assocs (Has x) (has_grows x) (onto asked.Whole ys e) rest (s asked.Whole ys)),
      brings_assocs x (onto asked.Whole ys e) rest,
    )

brings_two : (x : Ex) (xs : List Node) (a b : Ex) → AllByRecursion (Brought x (onto asked.Whole (onto asked.Whole xs a) b)) (a ∷ b ∷ [])
brings_two x xs a b = ((λ s. still x asked.Whole (onto asked.Whole xs a) b (s asked.Whole xs)), ((λ s. s asked.Whole (onto asked.Whole xs a)), tt))

brings_three : (x : Ex) (xs : List Node) (a b c : Ex) → AllByRecursion (Brought x (onto asked.Whole (onto asked.Whole (onto asked.Whole xs a) b) c)) (a ∷ b ∷ c ∷ [])
brings_three x xs a b c =
    let ys = onto asked.Whole xs a in (
      (λ s. still x asked.Whole (onto asked.Whole ys b) c (still x asked.Whole ys b (s asked.Whole xs))),
      (
        (λ s. still x asked.Whole (onto asked.Whole ys b) c (s asked.Whole ys)),
        ((λ s. s asked.Whole (onto asked.Whole ys b)), tt),
      ),
    )

brings : (x : Ex) (xs : List Node) (n : Nd) → AllByRecursion (Brought x (parts_onto xs n)) (parts n)
brings x xs (text.static v) = tt
brings x xs (text.read p m v) = tt
brings x xs (text.component k a) = ((λ s. s asked.Component xs), tt)
brings x xs (text.op1 o a) = ((λ s. s (asked_of o) xs), tt)
brings x xs (text.op2 o a b) = brings_two x xs a b
brings x xs (text.connect c a b) = brings_two x xs a b
brings x xs (text.member is a l h) = brings_three x xs a l h
brings x xs (text.call p q as') = brings_actuals x q xs as'
brings x xs (text.aggregate c b as') = brings_assocs x xs as'
brings x xs (text.choose as') = brings_arms x xs as'
brings x xs (text.quantified q k l h p) = brings_three x xs l h p

pub contains_grows : (y : Node) → Grows (λ zs. Contains zs y)
contains_grows y zs z = Contains-append_left zs (z ∷ []) y

shown_itself : (e : Ex) → Shown e e
shown_itself (text.at p s n) a xs =
    let e = text.at p s n in
    (a, kept_parts (λ zs. Contains zs (expression a e)) (contains_grows (expression a e)) (xs ++ expression a e ∷ []) n (Contains-push xs (expression a e)))

pub shown_inside : (x e : Ex) → Inside x e → Shown x e
shown_inside x e itself = shown_itself x
shown_inside x e (deeper d p s n c i) = λ a xs.
    let ys = xs ++ expression a (text.at p s n) ∷ [] in
    All-contains (Brought x (parts_onto ys n)) (parts n) d (All-from_recursion (Brought x (parts_onto ys n)) (parts n) (brings x ys n)) c (shown_inside x d i)

pub inside_is_shown : (x e : Ex) → Inside x e → (a : Asked) (xs : List Node) → (b : Asked) × Contains (onto a xs e) (expression b x)
inside_is_shown x e h a xs = shown_inside x e h a xs

pub stays : (y : Node) (a : Asked) (xs : List Node) (e : Ex) → Contains xs y → Contains (onto a xs e) y
stays y a xs e h = kept (λ zs. Contains zs y) (contains_grows y) a xs e h
