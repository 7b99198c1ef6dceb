-- Monomials that are added one by one.
use Rattle.std.proofs.Common.{◌≡◌, refl, sym, ◌∙◌, ap, ℕ, ◌+◌, ◌<◌, ◌≤◌, Bool, true, false, List, [], ◌∷◌, ◌++◌, length, drop, get_or}
use Rattle.std.specs.Prelude.{◌&&◌, ℤ, pos, ◌*ℤ◌}
use Rattle.std.proofs.lemmas.List.{drop_more, get_or-map, length-map}
use Rattle.std.proofs.Math.ListN.{drop_of_length-le}
use Rattle.linear_forms.specs.Form.{Monomial, monomial, with_monomial, gathered, scaled, product_variable, multiples, products}
use Rattle.linear_forms.specs.Fits.{fits, raised, gathering_fits}
use Rattle.linear_forms.specs.View.{IsFault, part, parts}
use Rattle.linear_forms.specs.declared.form.Part.{Part}
use Rattle.logic_terms.specs.View.{term}
use Rattle.linear_forms.proofs.Placing.{at_part, as_many}
use Rattle.linear_forms.specs.Places.{at, nothing}
use Rattle.linear_forms.specs.declared.fault.FormFault.{FormFault}
use Rattle.linear_forms.specs.declared.fault.FormFault.TheVariants.{Wide, Starved}

-- the monomials before the i-th are added to `old`, which gives `now`
pub record Gathering (more old : List Monomial) (i : ℕ) (now : List Monomial) : Type 0 where
  pub sums : gathered more old ≡ gathered (drop i more) now
  pub fit : gathering_fits more old ≡ gathering_fits (drop i more) now

pub gathering_start : (more old : List Monomial) → Gathering more old 0 old
gathering_start more old = record { sums = refl; fit = refl }

next : (more : List Monomial) (i : ℕ) (c : ℤ) (m : Monomial) → i < length more → at more i ≡ m → drop i more ≡ m ∷ drop (i + 1) more
next more i c m h e = drop_more more i nothing h ∙ ap (λ (x : Monomial). x ∷ drop (i + 1) more) e

fits_on : (a b r : Bool) → a ≡ true → b ≡ true → (a && (b && r)) ≡ r
fits_on a b r e f = rw (e, f)

pub gathering_more : (more old now new : List Monomial) (i : ℕ) (m : Monomial) → i < length more → at more i ≡ m → fits m.coefficient ≡ true → new ≡ with_monomial m.coefficient m.variable now → fits (raised m.coefficient m.variable now) ≡ true → Gathering more old i now → Gathering more old (i + 1) new
gathering_more more old now new i m h e f g k w =
    let d = next more i m.coefficient m h e in
    record {
      sums = w.sums ∙ ap (λ (x : List Monomial). gathered x now) d ∙ ap (λ (x : List Monomial). gathered (drop (i + 1) more) x) (sym g);
      fit = w.fit ∙ ap (λ (x : List Monomial). gathering_fits x now) d
          ∙ fits_on (fits m.coefficient) (fits (raised m.coefficient m.variable now)) _ f k
          ∙ ap (λ (x : List Monomial). gathering_fits (drop (i + 1) more) x) (sym g);
    }

pub gathering_wide : (more old now : List Monomial) (i : ℕ) (m : Monomial) → i < length more → at more i ≡ m → fits m.coefficient ≡ false → Gathering more old i now → gathering_fits more old ≡ false
gathering_wide more old now i m h e f w =
    let d = next more i m.coefficient m h e in
    w.fit ∙ ap (λ (x : List Monomial). gathering_fits x now) d
    ∙ ap (λ (b : Bool). b && (fits (raised m.coefficient m.variable now) && gathering_fits (drop (i + 1) more) (with_monomial m.coefficient m.variable now))) f

pub first_fails : (a b r : Bool) → b ≡ false → (a && (b && r)) ≡ false
first_fails true b r e = ap (λ (x : Bool). x && r) e
first_fails false b r e = refl

pub gathering_raised_wide : (more old now : List Monomial) (i : ℕ) (m : Monomial) → i < length more → at more i ≡ m → fits (raised m.coefficient m.variable now) ≡ false → Gathering more old i now → gathering_fits more old ≡ false
gathering_raised_wide more old now i m h e f w =
    let d = next more i m.coefficient m h e in
    w.fit ∙ ap (λ (x : List Monomial). gathering_fits x now) d
    ∙ first_fails (fits m.coefficient) (fits (raised m.coefficient m.variable now)) _ f

pub fault_along : (a b : Bool) (e : FormFault) → (a ≡ false → b ≡ false) → IsFault a e → IsFault b e
fault_along a b Wide h f = h f
fault_along a b Starved h f = f

pub gathering_fault : (more old now : List Monomial) (i : ℕ) (m : Monomial) (x : FormFault) → i < length more → at more i ≡ m → IsFault (fits m.coefficient) x → Gathering more old i now → IsFault (gathering_fits more old) x
gathering_fault more old now i m x h e f w =
    fault_along (fits m.coefficient) (gathering_fits more old) x (λ z. gathering_wide more old now i m h e z w) f

pub gathering_raised_fault : (more old now : List Monomial) (i : ℕ) (m : Monomial) (x : FormFault) → i < length more → at more i ≡ m → IsFault (fits (raised m.coefficient m.variable now)) x → Gathering more old i now → IsFault (gathering_fits more old) x
gathering_raised_fault more old now i m x h e f w =
    fault_along (fits (raised m.coefficient m.variable now)) (gathering_fits more old) x (λ z. gathering_raised_wide more old now i m h e z w) f

pub gathering_end : (more old now : List Monomial) (i : ℕ) → length more ≤ i → Gathering more old i now → (now ≡ gathered more old) × (gathering_fits more old ≡ true)
gathering_end more old now i h w =
    let d : drop i more ≡ [] = drop_of_length-le more h in
    (sym (w.sums ∙ ap (λ (x : List Monomial). gathered x now) d), w.fit ∙ ap (λ (x : List Monomial). gathering_fits x now) d)

-- ---- multiples of parts

pub at_scaled : (by : ℤ) (ps : List Part) (i : ℕ) (p : Part) → i < length ps → p ≡ get_or ps i p → at (scaled by (parts ps)) i ≡ monomial (by *ℤ p.coefficient) (term p.variable)
at_scaled by ps i p h e =
    get_or-map (λ (m : Monomial). monomial (by *ℤ m.coefficient) m.variable) (parts ps) i nothing nothing (rw (as_many ps) h)
    ∙ ap (λ (m : Monomial). monomial (by *ℤ m.coefficient) m.variable) (at_part ps i p h e)

pub at_multiples : (u : Monomial) (ps : List Part) (i : ℕ) (p : Part) → i < length ps → p ≡ get_or ps i p → at (multiples u (parts ps)) i ≡ monomial (u.coefficient *ℤ p.coefficient) (product_variable u.variable (term p.variable))
at_multiples u ps i p h e =
    get_or-map (λ (m : Monomial). monomial (u.coefficient *ℤ m.coefficient) (product_variable u.variable m.variable)) (parts ps) i nothing nothing (rw (as_many ps) h)
    ∙ ap (λ (m : Monomial). monomial (u.coefficient *ℤ m.coefficient) (product_variable u.variable m.variable)) (at_part ps i p h e)

pub as_many_scaled : (by : ℤ) (ps : List Part) → length (scaled by (parts ps)) ≡ length ps
as_many_scaled by ps = length-map (parts ps) (λ (m : Monomial). monomial (by *ℤ m.coefficient) m.variable) ∙ as_many ps

pub as_many_multiples : (u : Monomial) (ps : List Part) → length (multiples u (parts ps)) ≡ length ps
as_many_multiples u ps = length-map (parts ps) (λ (m : Monomial). monomial (u.coefficient *ℤ m.coefficient) (product_variable u.variable m.variable)) ∙ as_many ps

-- ---- products

pub gathered-append : (xs ys ms : List Monomial) → gathered (xs ++ ys) ms ≡ gathered ys (gathered xs ms)
gathered-append [] ys ms = refl
gathered-append (x ∷ xs) ys ms = gathered-append xs ys (with_monomial x.coefficient x.variable ms)

and_over : (a b r s : Bool) → (a && (b && (r && s))) ≡ ((a && (b && r)) && s)
and_over true true r s = refl
and_over true false r s = refl
and_over false b r s = refl

pub gathering_fits-append : (xs ys ms : List Monomial) → gathering_fits (xs ++ ys) ms ≡ (gathering_fits xs ms && gathering_fits ys (gathered xs ms))
gathering_fits-append [] ys ms = refl
gathering_fits-append (x ∷ xs) ys ms =
    ap (λ (b : Bool). fits x.coefficient && (fits (raised x.coefficient x.variable ms) && b)) (gathering_fits-append xs ys (with_monomial x.coefficient x.variable ms))
    ∙ and_over (fits x.coefficient) (fits (raised x.coefficient x.variable ms)) _ _

-- the products of the factors before the i-th are added to `old`, which gives `now`
pub record Multiplying (us ns old : List Monomial) (i : ℕ) (now : List Monomial) : Type 0 where
  pub sums : gathered (products us ns) old ≡ gathered (products (drop i us) ns) now
  pub fit : gathering_fits (products us ns) old ≡ gathering_fits (products (drop i us) ns) now

pub multiplying_start : (us ns old : List Monomial) → Multiplying us ns old 0 old
multiplying_start us ns old = record { sums = refl; fit = refl }

next_products : (ns : List Monomial) (ps : List Part) (i : ℕ) (p : Part) → i < length ps → p ≡ get_or ps i p → products (drop i (parts ps)) ns ≡ multiples (part p) ns ++ products (drop (i + 1) (parts ps)) ns
next_products ns ps i p h e = ap (λ (us : List Monomial). products us ns) (next (parts ps) i (pos 0) (part p) (rw (as_many ps) h) (at_part ps i p h e))

pub multiplying_more : (ps : List Part) (ns old now new : List Monomial) (i : ℕ) (p : Part) → i < length ps → p ≡ get_or ps i p → new ≡ gathered (multiples (part p) ns) now → gathering_fits (multiples (part p) ns) now ≡ true → Multiplying (parts ps) ns old i now → Multiplying (parts ps) ns old (i + 1) new
multiplying_more ps ns old now new i p h e f g w =
    let d = next_products ns ps i p h e in
    record {
      sums = w.sums ∙ ap (λ (x : List Monomial). gathered x now) d
          ∙ gathered-append (multiples (part p) ns) (products (drop (i + 1) (parts ps)) ns) now
          ∙ ap (λ (x : List Monomial). gathered (products (drop (i + 1) (parts ps)) ns) x) (sym f);
      fit = w.fit ∙ ap (λ (x : List Monomial). gathering_fits x now) d
          ∙ gathering_fits-append (multiples (part p) ns) (products (drop (i + 1) (parts ps)) ns) now
          ∙ ap (λ (b : Bool). b && gathering_fits (products (drop (i + 1) (parts ps)) ns) (gathered (multiples (part p) ns) now)) g
          ∙ ap (λ (x : List Monomial). gathering_fits (products (drop (i + 1) (parts ps)) ns) x) (sym f);
    }

pub multiplying_fault : (ps : List Part) (ns old now : List Monomial) (i : ℕ) (p : Part) (x : FormFault) → i < length ps → p ≡ get_or ps i p → IsFault (gathering_fits (multiples (part p) ns) now) x → Multiplying (parts ps) ns old i now → IsFault (gathering_fits (products (parts ps) ns) old) x
multiplying_fault ps ns old now i p x h e f w =
    fault_along (gathering_fits (multiples (part p) ns) now) (gathering_fits (products (parts ps) ns) old) x
    (λ z. w.fit ∙ ap (λ (y : List Monomial). gathering_fits y now) (next_products ns ps i p h e)
    ∙ gathering_fits-append (multiples (part p) ns) (products (drop (i + 1) (parts ps)) ns) now
    ∙ ap (λ (b : Bool). b && gathering_fits (products (drop (i + 1) (parts ps)) ns) (gathered (multiples (part p) ns) now)) z)
    f

pub multiplying_end : (ps : List Part) (ns old now : List Monomial) (i : ℕ) → length ps ≤ i → Multiplying (parts ps) ns old i now → (now ≡ gathered (products (parts ps) ns) old) × (gathering_fits (products (parts ps) ns) old ≡ true)
multiplying_end ps ns old now i h w =
    let d : drop i (parts ps) ≡ [] = drop_of_length-le (parts ps) (rw (as_many ps) h) in (
      sym (w.sums ∙ ap (λ (x : List Monomial). gathered (products x ns) now) d),
      w.fit ∙ ap (λ (x : List Monomial). gathering_fits (products x ns) now) d,
    )
