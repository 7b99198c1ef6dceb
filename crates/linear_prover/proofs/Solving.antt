-- The numbers that are chosen make all forms that were set aside at least 0.
use Rattle.std.proofs.Common.{◌≡◌, ◌≢◌, refl, sym, ◌∙◌, ap, subst, Bool, true, false, List, [], ◌∷◌, ◌++◌, map}
use Rattle.std.specs.Prelude.{if◌then◌else◌, ◌||◌, ℤ, pos, Option, Some, None}
use Rattle.std.proofs.lemmas.List.{map-append}
use Rattle.std.proofs.lemmas.Bool.{false≢true}
use Rattle.logic_terms.specs.Node.{Node}
use Rattle.logic_terms.specs.Same.{same_node}
use Rattle.logic_terms.proofs.SameNodes.{same_node-is, same_node-refl}
use Rattle.linear_forms.specs.Form.{Monomial, Form}
use Rattle.linear_forms.specs.Ordered.{IsOrdered}
use Rattle.linear_prover.specs.Forms.{coefficient, stands}
use Rattle.linear_prover.specs.Machine.{Aside, Answer, point}
use Rattle.linear_prover.specs.Values.{Known, known, value_in, Range, range, bounded_by_all, nearest, with_nearest, with_range, chosen}
use Rattle.linear_prover.specs.Points.{AreAll, number_of}
use Rattle.linear_prover.proofs.Bounding.{Agrees, Meets, Fine, Within, forms_hold, nearest_within}

abbrev pub names : List Known → List Node
names ks = map (λ k. k.variable) ks

-- a form with v, whose other variables are in us
abbrev pub Set : List Node → Node → Form → Type 0
Set us v f = IsOrdered f × (coefficient v f.monomials ≢ pos 0) × AreAll (λ m. stands m.variable (us ++ v ∷ []) ≡ true) f.monomials

-- each variable is new, and the forms set aside with it have it, else those in us and those before it
abbrev pub Bound : List Node → List Node → List Aside → Type 0
Bound all us [] = Unit {0}
Bound all us (a ∷ more) = (stands a.variable us ≡ false) × (stands a.variable all ≡ true) × AreAll (Set us a.variable) a.forms × Bound all (us ++ a.variable ∷ []) more

abbrev pub Includes : List Node → List Node → Type 0
Includes all us = (u : Node) → stands u us ≡ true → stands u all ≡ true

-- ---- names

or_by : (b c : Bool) (P : Type 0) → (b ≡ true → P) → (c ≡ true → P) → (b || c) ≡ true → P
or_by true c P f g h = f refl
or_by false c P f g h = g h

or_second : (b c : Bool) → c ≡ true → (b || c) ≡ true
or_second true c e = refl
or_second false c e = e

or_first : (b c : Bool) → b ≡ true → (b || c) ≡ true
or_first b c e = ap (λ (x : Bool). x || c) e

neither : (b c : Bool) → (b || c) ≡ false → (b ≡ false) × (c ≡ false)
neither true c e = absurd (false≢true (sym e))
neither false c e = (refl, e)

pub stands_append : (u : Node) (us vs : List Node) → stands u (us ++ vs) ≡ (stands u us || stands u vs)
stands_append u [] vs = refl
stands_append u (v ∷ us) vs = ap (λ (b : Bool). same_node u v || b) (stands_append u us vs) ∙ grouped (same_node u v) (stands u us) (stands u vs)
  where
    grouped : (a b c : Bool) → (a || (b || c)) ≡ ((a || b) || c)
    grouped true b c = refl
    grouped false b c = refl

pub stands_last : (u v : Node) (us : List Node) → stands u (us ++ v ∷ []) ≡ (stands u us || (same_node u v || false))
stands_last u v us = stands_append u us (v ∷ [])

includes_more : (all us : List Node) (v : Node) → Includes all us → stands v all ≡ true → Includes all (us ++ v ∷ [])
includes_more all us v i e u h =
    or_by (stands u us) (same_node u v || false) _ (i u)
    (λ k. or_by (same_node u v) false _ (λ q. subst (λ (n : Node). stands n all ≡ true) (sym (same_node-is u v q)) e) (λ q. absurd (false≢true q)) k)
    (sym (stands_last u v us) ∙ h)

-- ---- values stay

value_first : (s : Bool) (k : Known) (rest more : ℤ) (b : Bool) → (s || b) ≡ true → (b ≡ true → rest ≡ more) → (if s then k.value else rest) ≡ (if s then k.value else more)
value_first true k rest more b h f = refl
value_first false k rest more b h f = f h

pub value_stays : (u : Node) (ks ls : List Known) → stands u (names ks) ≡ true → value_in (ks ++ ls) u ≡ value_in ks u
value_stays u [] ls h = absurd (false≢true h)
value_stays u (k ∷ ks) ls h = value_first (same_node u k.variable) k _ _ (stands u (names ks)) h (value_stays u ks ls)

value_new : (v : Node) (x : ℤ) (ks : List Known) → stands v (names ks) ≡ false → value_in (ks ++ known v x ∷ []) v ≡ x
value_new v x [] h = ap (λ (b : Bool). if b then x else pos 0) (same_node-refl v)
value_new v x (k ∷ ks) h =
    let p = neither (same_node v k.variable) (stands v (names ks)) h in
    ap (λ (b : Bool). if b then k.value else value_in (ks ++ known v x ∷ []) v) p.0 ∙ value_new v x ks p.1

names_more : (ks : List Known) (v : Node) (x : ℤ) → names (ks ++ known v x ∷ []) ≡ names ks ++ v ∷ []
names_more ks v x = map-append (λ (k : Known). k.variable) ks (known v x ∷ [])

-- ---- choices

-- what comes of choices, begun with the values ks
pub record Chosen (all vs : List Node) (g : Node → ℤ) (es : List Aside) (ks : List Known) (ns : List ℤ) : Type 0 where
  pub final : List Known
  pub numbers : ns ≡ map (value_in final) vs
  pub keeps : (u : Node) → stands u (names ks) ≡ true → value_in final u ≡ value_in ks u
  pub holds : ((u : Node) → stands u all ≡ true → g u ≡ value_in final u) → AreAll (λ a. AreAll (Meets g) a.forms) es

same_points : (ms ns : List ℤ) → point ms ≡ point ns → ms ≡ ns
same_points ms ns e = cc

range_some : (o : Option Range) (f : Range → Answer) (ns : List ℤ) → with_range o f ≡ point ns → (r : Range) × (o ≡ Some r) × (f r ≡ point ns)
range_some None f ns e = cc
range_some (Some r) f ns e = (r, refl, e)

nearest_some : (o : Option ℤ) (f : ℤ → Answer) (ns : List ℤ) → with_nearest o f ≡ point ns → (x : ℤ) × (o ≡ Some x) × (f x ≡ point ns)
nearest_some None f ns e = cc
nearest_some (Some x) f ns e = (x, refl, e)

agrees : (all : List Node) (g : Node → ℤ) (v : Node) (ks final : List Known) → Includes all (names ks) → ((u : Node) → stands u (names ks) ≡ true → value_in final u ≡ value_in ks u) → ((u : Node) → stands u all ≡ true → g u ≡ value_in final u) → (ms : List Monomial) → AreAll (λ m. stands m.variable (names ks ++ v ∷ []) ≡ true) ms → Agrees g v ks ms
agrees all g v ks final i keep e [] a = tt
agrees all g v ks final i keep e (m ∷ ms) a = (one, agrees all g v ks final i keep e ms a.1)
  where
    turned : (b : Bool) → same_node v m.variable ≡ b → b ≡ false → same_node m.variable v ≡ true → ⊥
    turned true h f k = false≢true (sym f)
    turned false h f k = false≢true (sym h ∙ ap (same_node v) (same_node-is m.variable v k) ∙ same_node-refl v)

    one : same_node v m.variable ≡ false → g m.variable ≡ value_in ks m.variable
    one n =
        or_by (stands m.variable (names ks)) (same_node m.variable v || false) _
        (λ h. e m.variable (i m.variable h) ∙ keep m.variable h)
        (λ h. or_by (same_node m.variable v) false _ (λ k. absurd (turned false n refl k)) (λ k. absurd (false≢true k)) h)
        (sym (stands_last m.variable v (names ks)) ∙ a.0)

all_fine : (all : List Node) (g : Node → ℤ) (v : Node) (ks final : List Known) → Includes all (names ks) → ((u : Node) → stands u (names ks) ≡ true → value_in final u ≡ value_in ks u) → ((u : Node) → stands u all ≡ true → g u ≡ value_in final u) → (fs : List Form) → AreAll (Set (names ks) v) fs → AreAll (Fine g v ks) fs
all_fine all g v ks final i keep e [] a = tt
all_fine all g v ks final i keep e (f ∷ fs) a =
    ((a.0.0, a.0.1, agrees all g v ks final i keep e f.monomials a.0.2), all_fine all g v ks final i keep e fs a.1)

pub chosen_holds : (all vs : List Node) (g : Node → ℤ) (es : List Aside) (ks : List Known) (ns : List ℤ) → Includes all (names ks) → Bound all (names ks) es → chosen vs es ks ≡ point ns → Chosen all vs g es ks ns
chosen_holds all vs g [] ks ns i b e = record { final = ks; numbers = sym (same_points _ ns e); keeps = λ u h. refl; holds = λ h. tt }
chosen_holds all vs g (a ∷ es) ks ns i b e =
    let v = a.variable in
    let p = range_some (bounded_by_all v ks a.forms (range None None)) (λ r. with_nearest (nearest r) (λ x. chosen vs es (ks ++ known v x ∷ []))) ns e in
    let q = nearest_some (nearest p.0) (λ x. chosen vs es (ks ++ known v x ∷ [])) ns p.2 in
    let more = ks ++ known v q.0 ∷ [] in
    let named = names_more ks v q.0 in
    let w = chosen_holds all vs g es more ns
    (subst (Includes all) (sym named) (includes_more all (names ks) v i b.1))
    (subst (λ (us : List Node). Bound all us es) (sym named) b.3)
    q.2 in
    let keep : (u : Node) → stands u (names ks) ≡ true → value_in w.final u ≡ value_in ks u =
    λ u h. w.keeps u (ap (stands u) named ∙ stands_last u v (names ks) ∙ or_first _ _ h) ∙ value_stays u ks (known v q.0 ∷ []) h in
    let here : stands v (names more) ≡ true =
    ap (stands v) named ∙ stands_last v v (names ks) ∙ or_second (stands v (names ks)) _ (or_first _ false (same_node-refl v)) in
    record {
      final = w.final;
      numbers = w.numbers;
      keeps = keep;
      holds = λ h.
          let x = h v b.1 ∙ w.keeps v here ∙ value_new v q.0 ks b.0 in
          let fine = all_fine all g v ks w.final i keep h a.forms b.2 in
          ((forms_hold g v ks a.forms (range None None) p.0 fine p.1 (subst (λ (z : ℤ). Within z p.0) (sym x) (nearest_within p.0 q.0 q.1))).0, w.holds h);
    }

-- ---- the numbers of a point

number_by : (b : Bool) (u v : Node) (f : Node → ℤ) (rest : ℤ) (s : Bool) → same_node u v ≡ b → (b || s) ≡ true → (s ≡ true → rest ≡ f u) → (if b then f v else rest) ≡ f u
number_by true u v f rest s e h k = ap f (sym (same_node-is u v e))
number_by false u v f rest s e h k = k h

pub number_is : (f : Node → ℤ) (us : List Node) (u : Node) → stands u us ≡ true → number_of us (map f us) u ≡ f u
number_is f [] u h = absurd (false≢true h)
number_is f (v ∷ us) u h = number_by (same_node u v) u v f (number_of us (map f us) u) (stands u us) refl h (number_is f us u)
