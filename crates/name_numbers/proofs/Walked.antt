-- The tokens of a text, one after another.
use Rattle.std.proofs.Common.{◌≡◌, ℕ, zero, suc, ◌+◌, ◌<◌, ◌≤◌, Bool, true, false, List, [], ◌∷◌, ◌++◌, length, map, take, get_or, Option, Some, None, refl, sym, ap, ◌∙◌, subst, append_assoc, append-nil, length-append, arith, Bor}
use Rattle.std.specs.Prelude.{option_map, if◌then◌else◌}
use Rattle.std.specs.Str.{bytes_eq}
use Rattle.std.specs.BTreeMap.{BTreeMap}
use Rattle.std.proofs.lemmas.List.{length-map, map-append, take_more}
use Rattle.ada_text.specs.declared.token.Span.{Span}
use Rattle.ada_text.specs.declared.token.Token.{Token}
use Rattle.ada_text.specs.declared.token.TokenKind.{TokenKind}
use Rattle.ada_text.specs.declared.token.TokenKind.TheVariants as kind
use Rattle.ada_text.specs.Tokens.{AreInOrder}
use Rattle.name_library.specs.declared.events.Ident.{Ident}
use Rattle.name_numbers.specs.Numbers.{identifier_of, identifiers_among, text_at}
use Rattle.name_numbers.specs.Places.{ArePlaced, IsPlaceIn, Knows, KnowsName, Reads, first_place, place, placed}

-- ---- tokens in order

pub order_count : (from to : ℕ) (ts : List Token) → AreInOrder from ts to → from + length ts ≤ to
order_count from to [] h = omega arith
order_count from to (t ∷ ts) h = let more : t.span.to + length ts ≤ to = order_count t.span.to to ts h.2 in omega arith

pub order_at : (from to : ℕ) (ts : List Token) (k : ℕ) (d : Token) → AreInOrder from ts to → k < length ts → ((get_or ts k d).span.from ≤ (get_or ts k d).span.to) × ((get_or ts k d).span.to ≤ to)
order_at from to [] k d h l = absurd (omega arith)
order_at from to (t ∷ ts) zero d h l = let more : t.span.to + length ts ≤ to = order_count t.span.to to ts h.2 in (omega arith, omega arith)
order_at from to (t ∷ ts) (suc k) d h l = order_at t.span.to to ts k d h.2 (omega arith)

among_append : (ts us : List Token) → identifiers_among (ts ++ us) ≡ identifiers_among ts ++ identifiers_among us
among_append [] us = refl
among_append (t ∷ ts) us = ap (λ ss. identifier_of t t.kind ++ ss) (among_append ts us) ∙ sym (append_assoc (identifier_of t t.kind) (identifiers_among ts) (identifiers_among us))

among_more : (ts : List Token) (k : ℕ) (d : Token) → k < length ts → identifiers_among (take (k + 1) ts) ≡ identifiers_among (take k ts) ++ identifier_of (get_or ts k d) (get_or ts k d).kind
among_more ts k d h =
    ap identifiers_among (take_more ts k d h) ∙ among_append (take k ts) (get_or ts k d ∷ [])
    ∙ ap (λ ss. identifiers_among (take k ts) ++ ss) (append-nil (identifier_of (get_or ts k d) (get_or ts k d).kind))

-- a token that is an identifier
pub among_one : (ts : List Token) (k : ℕ) (d : Token) → k < length ts → (get_or ts k d).kind ≡ kind.Id → identifiers_among (take (k + 1) ts) ≡ identifiers_among (take k ts) ++ (get_or ts k d).span ∷ []
among_one ts k d h e = among_more ts k d h ∙ ap (λ w. identifiers_among (take k ts) ++ identifier_of (get_or ts k d) w) e

no_span : (t : Token) (w : TokenKind) → (w ≡ kind.Id → ⊥) → identifier_of t w ≡ []
no_span t kind.Id h = absurd (h refl)
no_span t (kind.Word x) h = refl
no_span t (kind.Number x) h = refl
no_span t (kind.Mark x) h = refl

-- another token
pub among_same : (ts : List Token) (k : ℕ) (d : Token) → k < length ts → ((get_or ts k d).kind ≡ kind.Id → ⊥) → identifiers_among (take (k + 1) ts) ≡ identifiers_among (take k ts)
among_same ts k d h e =
    among_more ts k d h ∙ ap (λ ss. identifiers_among (take k ts) ++ ss) (no_span (get_or ts k d) (get_or ts k d).kind e)
    ∙ append-nil (identifiers_among (take k ts))

-- ---- places

place_next : (b : Bool) (o : Option ℕ) (p q : ℕ) → ((r : ℕ) → o ≡ Some r → q ≡ r) → (if b then Some 0 else option_map suc o) ≡ Some p → (if b then 0 else 1 + q) ≡ p
place_next true o p q h e = cc
place_next false None p q h e = absurd (let f : ⊥ = cc in f)
place_next false (Some r) p q h e =
    let same : q ≡ r = h r refl in
    let more : suc r ≡ p = cc in
    omega arith

-- the first place, where there is one
pub place_is : (names : List (List ℕ)) (text : List ℕ) (p : ℕ) → first_place names text ≡ Some p → place names text ≡ p
place_is [] text p e = absurd (let f : ⊥ = cc in f)
place_is (n ∷ names) text p e = place_next (bytes_eq text n) (first_place names text) p (place names text) (λ r. place_is names text r) e

-- one more identifier
pub placed_more : (names : List (List ℕ)) (folded : List ℕ) (spans : List Span) (s : Span) (idents : List Ident) (i : Ident) → ArePlaced names folded spans idents → IsPlaceIn (names ++ text_at folded s ∷ []) (text_at folded s) i.name → i.at ≡ s.from → ArePlaced (names ++ text_at folded s ∷ []) folded (spans ++ s ∷ []) (idents ++ i ∷ [])
placed_more names folded spans s idents i are is at more =
    let name = text_at folded s in
    let all = (names ++ name ∷ []) ++ more in
    let same : all ≡ names ++ (name ∷ more) = append_assoc names (name ∷ []) more in
    let before : idents ≡ map (placed all folded) spans = are (name ∷ more) ∙ ap (λ ns. map (placed ns folded) spans) (sym same) in
    let here : i.name ≡ place all name = sym (place_is all name i.name (is more)) in
    let one : i ≡ placed all folded s = (λ j. record { name = here j; at = at j }) in
    (λ j. before j ++ one j ∷ []) ∙ sym (map-append (placed all folded) spans (s ∷ []))

-- one more identifier of a text
pub reads_more : (names : List (List ℕ)) (folded : List ℕ) (spans : List Span) (s : Span) (m n : BTreeMap (Bor (List ℕ)) ℕ) (idents : List Ident) (i : Ident) → Reads names folded spans m idents → KnowsName n (names ++ map (text_at folded) spans) (text_at folded s) i.name → i.at ≡ s.from → Reads names folded (spans ++ s ∷ []) n (idents ++ i ∷ [])
reads_more names folded spans s m n idents i reads knows at =
    let before = names ++ map (text_at folded) spans in
    let same : before ++ text_at folded s ∷ [] ≡ names ++ map (text_at folded) (spans ++ s ∷ []) = append_assoc names (map (text_at folded) spans) (text_at folded s ∷ []) ∙ ap (λ ts. names ++ ts) (sym (map-append (text_at folded) spans (s ∷ []))) in
    subst (λ (all : List (List ℕ)). Knows n all × ArePlaced all folded (spans ++ s ∷ []) (idents ++ i ∷ [])) same (knows.0, placed_more before folded spans s idents i reads.1 knows.1 at)

-- no identifier yet
pub reads_none : (names : List (List ℕ)) (folded : List ℕ) (m : BTreeMap (Bor (List ℕ)) ℕ) → Knows m names → Reads names folded [] m []
reads_none names folded m knows = (subst (λ (all : List (List ℕ)). Knows m all) (sym (append-nil names)) knows, λ more. refl)

-- ---- the places of identifiers

pub starts_more : (spans : List Span) (s : Span) (idents : List Ident) (i : Ident) → map (λ i. i.at) idents ≡ map (λ s. s.from) spans → i.at ≡ s.from → map (λ i. i.at) (idents ++ i ∷ []) ≡ map (λ s. s.from) (spans ++ s ∷ [])
starts_more spans s idents i before at = map-append (λ (i : Ident). i.at) idents (i ∷ []) ∙ (λ j. before j ++ at j ∷ []) ∙ sym (map-append (λ (s : Span). s.from) spans (s ∷ []))

pub same_count : (idents : List Ident) (spans : List Span) → map (λ i. i.at) idents ≡ map (λ s. s.from) spans → length idents ≡ length spans
same_count idents spans e = sym (length-map idents (λ i. i.at)) ∙ ap (length {A = ℕ}) e ∙ length-map spans (λ s. s.from)

pub count_more : (names : List (List ℕ)) (folded : List ℕ) (spans : List Span) (idents : List Ident) (count : ℕ) → map (λ i. i.at) idents ≡ map (λ s. s.from) spans → length names ≡ count → length (names ++ map (text_at folded) spans) ≡ count + length idents
count_more names folded spans idents count starts counted =
    let same : length idents ≡ length spans = same_count idents spans starts in
    omega (arith, length-append names (map (text_at folded) spans), length-map spans (text_at folded))
