-- Words that are not read, where something may follow.
use Rattle.std.proofs.Common.{sym, ◌∙◌, ap, ℕ, List, ◌∷◌, ◌++◌, append_assoc}
use Rattle.std.proofs.lemmas.List.{append_cancel_left}
use Rattle.term_reader.specs.Bytes.{first}
use Rattle.term_reader.specs.Words.{IsWordFault}
use Rattle.term_reader.proofs.Digits.{same_head}
use Rattle.term_reader.specs.Phases.{After, IsBad}

pub word_bad : (w s r k : List ℕ) (P : List ℕ → Type 0) → P k → IsWordFault w s r → IsBad (After w P) s r
word_bad w s r k P p f = record {
  front = f.front;
  is_front = f.is_front;
  goes = ((f.next ∷ f.rest) ++ k, (k, p, sym (append_assoc f.front (f.next ∷ f.rest) k) ∙ ap (λ (x : List ℕ). x ++ k) (sym f.is_word)));
  stuck = λ rest h.
      f.differs (same_head (first r) f.next rest (f.rest ++ h.0)
      (append_cancel_left f.front _ _ (h.2 ∙ ap (λ (x : List ℕ). x ++ h.0) f.is_word ∙ append_assoc f.front (f.next ∷ f.rest) h.0)));
}
