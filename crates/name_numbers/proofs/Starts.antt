-- Identifiers that begin where those of tokens in order do.
use Rattle.std.proofs.Common.{◌≡◌, ℕ, suc, ◌<◌, ◌≤◌, List, [], ◌∷◌, ◌++◌, length, map, Result, Ok, Err, sym, subst, arith}
use Rattle.std.specs.Prelude.{IfOk}
use Rattle.ada_text.specs.declared.token.Span.{Span}
use Rattle.ada_text.specs.declared.token.Token.{Token}
use Rattle.ada_text.specs.declared.token.TokenKind.{TokenKind}
use Rattle.ada_text.specs.declared.token.TokenKind.TheVariants as kind
use Rattle.ada_text.specs.Tokens.{AreInOrder}
use Rattle.name_library.specs.declared.events.Ident.{Ident}
use Rattle.name_numbers.specs.Numbers.{AreRising, identifier_of, identifiers_among}
use Rattle.name_numbers.proofs.Walked.{order_count, same_count}

abbrev Rises : ℕ → List ℕ → Type 0
Rises from [] = Unit {0}
Rises from (n ∷ ns) = (from ≤ n) × Rises (suc n) ns

rises_lower : (from to : ℕ) (ns : List ℕ) → to ≤ from → Rises from ns → Rises to ns
rises_lower from to [] h r = tt
rises_lower from to (n ∷ ns) h r = (omega arith, r.1)

idents_rise : (from : ℕ) (idents : List Ident) → Rises from (map (λ i. i.at) idents) → AreRising from idents
idents_rise from [] r = tt
idents_rise from (i ∷ idents) r = (r.0, idents_rise (suc i.at) idents r.1)

one_rises : (from : ℕ) (t : Token) (w : TokenKind) (spans : List Span) → from ≤ t.span.from → t.span.from < t.span.to → Rises t.span.to (map (λ s. s.from) spans) → Rises from (map (λ s. s.from) (identifier_of t w ++ spans))
one_rises from t kind.Id spans h k r = (h, rises_lower t.span.to (suc t.span.from) (map (λ s. s.from) spans) (omega arith) r)
one_rises from t (kind.Word x) spans h k r = rises_lower t.span.to from (map (λ s. s.from) spans) (omega arith) r
one_rises from t (kind.Number x) spans h k r = rises_lower t.span.to from (map (λ s. s.from) spans) (omega arith) r
one_rises from t (kind.Mark x) spans h k r = rises_lower t.span.to from (map (λ s. s.from) spans) (omega arith) r

tokens_rise : (from to : ℕ) (ts : List Token) → AreInOrder from ts to → Rises from (map (λ s. s.from) (identifiers_among ts))
tokens_rise from to [] h = tt
tokens_rise from to (t ∷ ts) h = one_rises from t t.kind (identifiers_among ts) h.0 h.1 (tokens_rise t.span.to to ts h.2)

one_counts : (t : Token) (w : TokenKind) (spans : List Span) (n : ℕ) → length spans ≤ n → length (identifier_of t w ++ spans) ≤ suc n
one_counts t kind.Id spans n h = omega arith
one_counts t (kind.Word x) spans n h = omega arith
one_counts t (kind.Number x) spans n h = omega arith
one_counts t (kind.Mark x) spans n h = omega arith

identifiers_count : (ts : List Token) → length (identifiers_among ts) ≤ length ts
identifiers_count [] = omega arith
identifiers_count (t ∷ ts) = one_counts t t.kind (identifiers_among ts) (length ts) (identifiers_count ts)

pub rising : {E : Type 0} (to : ℕ) (ts : List Token) (r : Result (List Ident) E) → AreInOrder 0 ts to → IfOk r (λ idents. map (λ i. i.at) idents ≡ map (λ s. s.from) (identifiers_among ts)) → IfOk r (λ idents. AreRising 0 idents)
rising to ts (Ok idents) h e = idents_rise 0 idents (subst (λ (ns : List ℕ). Rises 0 ns) (sym e) (tokens_rise 0 to ts h))
rising to ts (Err f) h e = tt

pub few : {E : Type 0} (to : ℕ) (ts : List Token) (r : Result (List Ident) E) → AreInOrder 0 ts to → IfOk r (λ idents. map (λ i. i.at) idents ≡ map (λ s. s.from) (identifiers_among ts)) → IfOk r (λ idents. length idents ≤ to)
few to ts (Ok idents) h e = omega (arith, same_count idents (identifiers_among ts) e, identifiers_count ts, order_count 0 to ts h)
few to ts (Err f) h e = tt
