-- A value after a space, and what may follow it.
use Rattle.std.proofs.Common.{◌≡◌, refl, sym, ◌∙◌, ap, subst, ℕ, List, [], ◌∷◌, ◌++◌, append_assoc}
use Rattle.term_reader.specs.Bytes.{first, Ends, IsFault}
use Rattle.term_reader.specs.Words.{IsWordFault}
use Rattle.term_reader.proofs.Digits.{same_tail}
use Rattle.term_reader.specs.Phases.{IsBad, IsUpTo}
use Rattle.term_reader.proofs.WordMarks.{word_bad}
use Rattle.cert_reader.specs.Phases.{Then}

-- texts that begin with a space
abbrev pub Spaced : (List ℕ → Type 0) → Type 0
Spaced P = (x : List ℕ) → P x → (y : List ℕ) × (x ≡ 32 ∷ y)

-- the space is another byte
pub space_bad : (P : List ℕ → Type 0) (s r k : List ℕ) → Spaced P → P k → IsWordFault (32 ∷ []) s r → IsBad P s r
space_bad P s r k v p f =
    let Q : List ℕ → Type 0 = λ y. P (32 ∷ y) in
    let j = v k p in
    let b = word_bad (32 ∷ []) s r j.0 Q (subst P j.1 p) f in record {
      front = b.front;
      is_front = b.is_front;
      goes = let g = b.goes in let h = g.1 in (g.0, subst P (sym h.2) h.1);
      stuck = λ rest h. let y = v (b.front ++ (first r ∷ rest)) h in b.stuck rest (y.0, subst P y.1 h, y.1);
    }

-- the value after the space is not read
pub value_bad : {A : Type 0} (Fits : A → Type 0) (bare text : A → List ℕ) (P : A → List ℕ → Type 0) (s m r : List ℕ) → ((a : A) (y : List ℕ) → text a ++ y ≡ 32 ∷ (bare a ++ y)) → ((a : A) (y : List ℕ) → P a y → Ends y) → ((a : A) → (k : List ℕ) × P a k) → s ≡ 32 ∷ m → IsFault Fits bare m r → IsBad (Then Fits text P) s r
value_bad Fits bare text P s m r t n some e f = record {
  front = 32 ∷ f.front;
  is_front = e ∙ ap (λ (x : List ℕ). 32 ∷ x) f.is_front;
  goes =
      let g = f.goes in
      let k = some g.0 in (
        g.1 ++ k.0,
        (
          g.0,
          k.0,
          g.2,
          k.1,
          ap (λ (x : List ℕ). 32 ∷ x) (sym (append_assoc f.front g.1 k.0) ∙ ap (λ (x : List ℕ). x ++ k.0) (sym g.3)) ∙ sym (t g.0 k.0),
        ),
      );
  stuck = λ rest h. f.stuck h.0 h.1 rest h.2 (n h.0 h.1 h.3) (sym (same_tail 32 32 _ _ (h.4 ∙ t h.0 h.1)));
}

-- the value is read
pub value_on : {A : Type 0} (Fits : A → Type 0) (text : A → List ℕ) (P : A → List ℕ → Type 0) (s r : List ℕ) (a : A) → Fits a → s ≡ text a ++ r → ((b : A) (x y : List ℕ) → (x ≡ [] → ⊥) → first x ≡ first r → P b y → text a ++ x ≡ text b ++ y → P a x) → IsUpTo (Then Fits text P) s (P a) r
value_on Fits text P s r a f e only = record {
  front = text a;
  is_front = e;
  into = λ x h. (a, x, f, h, refl);
  out = λ x n d h. only h.0 x h.1 n d h.3 h.4;
}

-- a fault of the same values under another name
pub fault_as : {A : Type 0} (P Q : A → Type 0) (text : A → List ℕ) (s r : List ℕ) → ((a : A) → P a → Q a) → ((a : A) → Q a → P a) → IsFault P text s r → IsFault Q text s r
fault_as P Q text s r i o f = record {
  front = f.front;
  is_front = f.is_front;
  goes = let g = f.goes in (g.0, g.1, i g.0 g.2, g.3);
  stuck = λ a k rest h d x. f.stuck a k rest (o a h) d x;
}
