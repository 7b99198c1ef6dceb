-- Whole numbers, and where none goes on.
use Rattle.std.proofs.Common.{◌≡◌, refl, sym, ◌∙◌, ap, subst, ℕ, zero, suc, ◌-◌, ◌<◌, ◌≤◌, true, List, [], ◌∷◌, ◌++◌, arith}
use Rattle.std.specs.Prelude.{◌^◌, ℤ, pos, negsuc}
use Rattle.std.proofs.lemmas.Bool.{true≢false, lt-ltb, ltb-true}
use Rattle.logic_terms.specs.Text.{number_text, whole_text}
use Rattle.term_reader.specs.Bytes.{is_digit, first, IsFault}
use Rattle.term_reader.specs.Reads.{Between}
use Rattle.term_reader.specs.Values.{IsNumber}
use Rattle.term_reader.proofs.Digits.{same_tail, digit_first}
use Rattle.term_reader.proofs.Fronts.{front_first}

negative_goes : (u : List ℕ) (n : ℕ) (rest : List ℕ) → Between 1 (2 ^ 127) n → number_text n ≡ u ++ rest → (z : ℤ) × (q : List ℕ) × IsNumber z × (whole_text z ≡ (45 ∷ u) ++ q)
negative_goes u zero rest b e = absurd (let a = b.0 in omega arith)
negative_goes u (suc n) rest b e = let a = b.1 in (negsuc n, rest, lt-ltb n (2 ^ 127) (omega arith), ap (λ (x : List ℕ). 45 ∷ x) e)

negative_stuck : (u : List ℕ) (c : ℕ) (z : ℤ) (k rest : List ℕ) → IsNumber z → whole_text z ++ k ≡ (45 ∷ u) ++ (c ∷ rest) → (n : ℕ) × Between 1 (2 ^ 127) n × (number_text n ++ k ≡ u ++ (c ∷ rest))
negative_stuck u c (pos n) k rest h e = absurd (true≢false (sym (digit_first n k) ∙ ap (λ (x : List ℕ). is_digit (first x)) e))
negative_stuck u c (negsuc n) k rest h e = let l : n < 2 ^ 127 = ltb-true n (2 ^ 127) h in (suc n, (omega arith, omega arith), same_tail 45 45 _ _ e)

pub negative_fault : (s m r : List ℕ) → s ≡ 45 ∷ m → IsFault (Between 1 (2 ^ 127)) number_text m r → IsFault IsNumber whole_text s r
negative_fault s m r e f = record {
  front = 45 ∷ f.front;
  is_front = e ∙ ap (λ (x : List ℕ). 45 ∷ x) f.is_front;
  goes = let g = f.goes in negative_goes f.front g.0 g.1 g.2 g.3;
  stuck = λ z k rest h d x. let o = negative_stuck f.front (first r) z k rest h x in f.stuck o.0 k rest o.1 d o.2;
}

natural_stuck : (u r : List ℕ) (z : ℤ) (k rest : List ℕ) → (first (u ++ r) ≡ 45 → ⊥) → IsNumber z → whole_text z ++ k ≡ u ++ (first r ∷ rest) → (n : ℕ) × Between 0 170141183460469231731687303715884105727 n × (number_text n ++ k ≡ u ++ (first r ∷ rest))
natural_stuck u r (pos n) k rest m h e = let l : n < 2 ^ 127 = ltb-true n (2 ^ 127) h in (n, (omega arith, omega arith), e)
natural_stuck u r (negsuc n) k rest m h e = absurd (m (sym (front_first u r rest) ∙ sym (ap first e)))

pub natural_fault : (s r : List ℕ) → (first s ≡ 45 → ⊥) → IsFault (Between 0 170141183460469231731687303715884105727) number_text s r → IsFault IsNumber whole_text s r
natural_fault s r m f = record {
  front = f.front;
  is_front = f.is_front;
  goes = let g = f.goes in (pos g.0, g.1, let b = g.2.1 in lt-ltb g.0 (2 ^ 127) (omega arith), g.3);
  stuck = λ z k rest h d x.
      let o = natural_stuck f.front r z k rest (λ e. m (ap first f.is_front ∙ e)) h x in
      f.stuck o.0 k rest o.1 d o.2;
}

-- what is read
pub natural_fits : (n : ℕ) (z : ℤ) → z ≡ pos n → Between 0 170141183460469231731687303715884105727 n → IsNumber z
natural_fits n z e h = let b = h.1 in subst IsNumber (sym e) (lt-ltb n (2 ^ 127) (omega arith))

pub natural_text : (n : ℕ) (z : ℤ) (s r : List ℕ) → z ≡ pos n → s ≡ number_text n ++ r → s ≡ whole_text z ++ r
natural_text n z s r e f = f ∙ ap (λ (y : ℤ). whole_text y ++ r) (sym e)

pub negative_fits : (n : ℕ) (z : ℤ) → z ≡ negsuc (n - 1) → Between 1 (2 ^ 127) n → IsNumber z
negative_fits n z e h = let a = h.0 in let b = h.1 in subst IsNumber (sym e) (lt-ltb (n - 1) (2 ^ 127) (omega arith))

successor : (n : ℕ) → 1 ≤ n → suc (n - 1) ≡ n
successor n h = omega arith

pub negative_text : (n : ℕ) (z : ℤ) (s m r : List ℕ) → z ≡ negsuc (n - 1) → 1 ≤ n → s ≡ 45 ∷ m → m ≡ number_text n ++ r → s ≡ whole_text z ++ r
negative_text n z s m r e l f g =
    f ∙ ap (λ (x : List ℕ). 45 ∷ x) (g ∙ ap (λ (k : ℕ). number_text k ++ r) (sym (successor n l)))
    ∙ ap (λ (y : ℤ). whole_text y ++ r) (sym e)
