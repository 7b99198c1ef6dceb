-- From the fault of a phase to that of the whole.
use Rattle.std.proofs.Common.{◌≡◌, refl, sym, ◌∙◌, ap, subst, ℕ, List, [], ◌∷◌, ◌++◌, append_assoc}
use Rattle.std.proofs.lemmas.List.{append_cancel_left}
use Rattle.term_reader.specs.Bytes.{first, Ends, IsWhole, IsFault}
use Rattle.term_reader.specs.Trees.{Tree, tree_text, IsOf}
use Rattle.term_reader.specs.declared.part.Side.{Side}
use Rattle.term_reader.proofs.Fronts.{front_first}
use Rattle.term_reader.specs.Phases.{After, OfPart, IsBad, IsUpTo}

first_same : (p x y : List ℕ) → first x ≡ first y → first (p ++ x) ≡ first (p ++ y)
first_same [] x y e = e
first_same (c ∷ p) x y e = refl

not_empty : (u : List ℕ) (c : ℕ) (rest : List ℕ) → u ++ (c ∷ rest) ≡ [] → ⊥
not_empty [] c rest e = cc
not_empty (x ∷ u) c rest e = cc

still_some : (p x : List ℕ) → (x ≡ [] → ⊥) → p ++ x ≡ [] → ⊥
still_some [] x n e = n e
still_some (c ∷ p) x n e = cc

-- ---- the whole

pub upto_start : (P : List ℕ → Type 0) (s : List ℕ) → IsUpTo P s P s
upto_start P s = record { front = []; is_front = refl; into = λ x h. h; out = λ x n e h. h }

pub bad_whole : (P Q : List ℕ → Type 0) (s r q : List ℕ) → IsUpTo P s Q r → IsBad Q r q → IsBad P s q
bad_whole P Q s r q u b = record {
  front = u.front ++ b.front;
  is_front = u.is_front ∙ ap (λ (x : List ℕ). u.front ++ x) b.is_front ∙ sym (append_assoc u.front b.front q);
  goes = let g = b.goes in (g.0, subst P (sym (append_assoc u.front b.front g.0)) (u.into (b.front ++ g.0) g.1));
  stuck = λ rest h.
      b.stuck rest (u.out (b.front ++ (first q ∷ rest)) (not_empty b.front (first q) rest) (front_first b.front q rest ∙ sym (ap first b.is_front))
      (subst P (append_assoc u.front b.front (first q ∷ rest)) h));
}

pub upto_whole : (P Q R : List ℕ → Type 0) (s r q : List ℕ) → IsUpTo P s Q r → IsUpTo Q r R q → IsUpTo P s R q
upto_whole P Q R s r q u v = record {
  front = u.front ++ v.front;
  is_front = u.is_front ∙ ap (λ (x : List ℕ). u.front ++ x) v.is_front ∙ sym (append_assoc u.front v.front q);
  into = λ x h. subst P (sym (append_assoc u.front v.front x)) (u.into (v.front ++ x) (v.into x h));
  out = λ x n e h.
      v.out x n e
      (u.out (v.front ++ x) (still_some v.front x n) (first_same v.front x q e ∙ sym (ap first v.is_front)) (subst P (append_assoc u.front v.front x) h));
}

-- another name of a phase
pub upto_same : (P Q : List ℕ → Type 0) (s : List ℕ) → ((x : List ℕ) → Q x → P x) → ((x : List ℕ) → first x ≡ first s → P x → Q x) → IsUpTo P s Q s
upto_same P Q s f g = record { front = []; is_front = refl; into = f; out = λ x n e h. g x e h }

-- ---- words

pub word_upto : (w : List ℕ) (P : List ℕ → Type 0) (s r : List ℕ) → s ≡ w ++ r → IsUpTo (After w P) s P r
word_upto w P s r e = record {
  front = w;
  is_front = e;
  into = λ x h. (x, h, refl);
  out = λ x n f h. subst P (sym (append_cancel_left w x h.0 h.2)) h.1;
}

-- ---- parts

after_whole : (side : Side) (t : Tree) (P : List ℕ → Type 0) (c : ℕ) (x rest : List ℕ) → ((y : List ℕ) → P y → Ends y) → IsWhole tree_text t c → x ≡ c ∷ rest → OfPart side P (tree_text t ++ x) → P x
after_whole side t P c x rest n w e p =
    let k : p.1 ≡ c ∷ rest = w p.0 p.1 rest (n p.1 p.3) (sym p.4 ∙ ap (λ (y : List ℕ). tree_text t ++ y) e) in
    subst P (k ∙ sym e) p.3

after_by : (side : Side) (t : Tree) (P : List ℕ → Type 0) (x r : List ℕ) → ((y : List ℕ) → P y → Ends y) → IsWhole tree_text t (first r) → (x ≡ [] → ⊥) → first x ≡ first r → OfPart side P (tree_text t ++ x) → P x
after_by side t P [] r n w h e p = absurd (h refl)
after_by side t P (c ∷ x) r n w h e p =
    after_whole side t P (first r) (c ∷ x) x n w (ap (λ (d : ℕ). d ∷ x) e) p

pub part_upto : (side : Side) (t : Tree) (P : List ℕ → Type 0) (s r : List ℕ) → ((y : List ℕ) → P y → Ends y) → IsOf side t → IsWhole tree_text t (first r) → s ≡ tree_text t ++ r → IsUpTo (OfPart side P) s P r
part_upto side t P s r n h w e = record {
  front = tree_text t;
  is_front = e;
  into = λ x p. (t, x, h, p, refl);
  out = λ x m f p. after_by side t P x r n w m f p;
}

-- a part that is not read, where something may follow
pub part_bad : (side : Side) (P : List ℕ → Type 0) (s r k : List ℕ) → ((y : List ℕ) → P y → Ends y) → P k → IsFault (IsOf side) tree_text s r → IsBad (OfPart side P) s r
part_bad side P s r k n p f = record {
  front = f.front;
  is_front = f.is_front;
  goes = let g = f.goes in (g.1 ++ k, (g.0, k, g.2, p, sym (append_assoc f.front g.1 k) ∙ ap (λ (y : List ℕ). y ++ k) (sym g.3)));
  stuck = λ rest q. f.stuck q.0 q.1 rest q.2 (n q.1 q.3) (sym q.4);
}

-- ---- a byte that nothing goes on with

pub nothing_bad : (P : List ℕ → Type 0) (s k : List ℕ) → P k → ((rest : List ℕ) → P (first s ∷ rest) → ⊥) → IsBad P s s
nothing_bad P s k p n = record { front = []; is_front = refl; goes = (k, p); stuck = n }
