-- Numbers, terms and formulas after a space.
use Rattle.std.proofs.Common.{◌≡◌, refl, sym, ◌∙◌, ap, subst, ℕ, zero, suc, ◌-◌, ◌<◌, ◌≤◌, true, false, List, [], ◌∷◌, ◌++◌, length, drop, codes, arith}
use Rattle.std.specs.Prelude.{ℤ, pos}
use Rattle.std.proofs.lemmas.Bool.{false≢true}
use Rattle.logic_terms.specs.Node.{Node, num, flag}
use Rattle.cert_lines.specs.Line.{sum_of, tighten}
use Rattle.logic_terms.specs.Text.{number_text, whole_text, node_text}
use Rattle.term_reader.specs.Bytes.{is_digit, first, Ends, IsWhole, IsFault}
use Rattle.term_reader.specs.Words.{IsWordFault}
use Rattle.term_reader.specs.Reads.{Between, IsRead, IsReadFault}
use Rattle.term_reader.specs.Trees.{Tree, of_node, of_kind, tree_text, IsOf}
use Rattle.term_reader.specs.Values.{is_node, IsIndex, IsCount, IsNumber, IsTerm, IsFormula}
use Rattle.term_reader.specs.declared.fault.ReadFault.{ReadFault}
use Rattle.term_reader.specs.declared.fault.ReadFault.TheVariants as fault
use Rattle.term_reader.specs.declared.part.Side.{Side}
use Rattle.term_reader.specs.declared.part.Side.TheVariants as side
use Rattle.term_reader.proofs.Digits.{same_tail}
use Rattle.logic_text.specs.Certs.{spaced_number, spaced_whole, spaced_node}
use Rattle.term_reader.specs.Phases.{IsUpTo, IsBadAt}
use Rattle.logic_text.proofs.CertTexts.{number_apart, whole_apart}
use Rattle.cert_reader.specs.Phases.{InLines, Then, Formulas, Phase, ended, finish, hints, steps, index, whole, term, formula, times, counted, Has}
use Rattle.cert_reader.proofs.Following.{Spaced, space_bad, value_bad, value_on, fault_as}

-- ---- some text of each phase

abbrev pub last_line : List ℕ
last_line = codes "end" ++ (10 ∷ (256 ∷ []))

pub some_lines : InLines last_line
some_lines = ([], tt, refl)

pub some_formulas : (n : ℕ) (P : List ℕ → Type 0) → ((k : List ℕ) × P k) → (k : List ℕ) × Formulas n P k
some_formulas zero P r = r
some_formulas (suc n) P r = let s = some_formulas n P r in (spaced_node (flag true) ++ s.0, (flag true, s.0, refl, s.1, refl))

pub some : (p : Phase) → (k : List ℕ) × Has p k
some ended = (10 ∷ last_line, (last_line, some_lines, refl))
some finish = (10 ∷ (256 ∷ []), refl)
some hints = (10 ∷ last_line, ([], last_line, tt, some_lines, refl))
some steps = (10 ∷ last_line, ([], last_line, tt, some_lines, refl))
some (index p) = let r = some p in (spaced_number 0 ++ r.0, (0, r.0, omega arith, r.1, refl))
some (whole p) = let r = some p in (spaced_whole (pos 0) ++ r.0, (pos 0, r.0, refl, r.1, refl))
some (term p) = let r = some p in (spaced_node (num (pos 0)) ++ r.0, (num (pos 0), r.0, refl, r.1, refl))
some (formula p) = let r = some p in (spaced_node (flag true) ++ r.0, (flag true, r.0, refl, r.1, refl))
some (times n p) = some_formulas n (Has p) (some p)
some (counted p) = let r = some p in (spaced_number 0 ++ r.0, (0, r.0, omega arith, r.1, refl))

by_first : (x y : List ℕ) → is_digit (first y) ≡ false → x ≡ y → Ends x
by_first x y d e = ap (λ (z : List ℕ). is_digit (first z)) e ∙ d

pub formulas_end : (n : ℕ) (P : List ℕ → Type 0) → ((y : List ℕ) → P y → Ends y) → (y : List ℕ) → Formulas n P y → Ends y
formulas_end zero P n y h = n y h
formulas_end (suc m) P n y (a, z, f, h, e) = by_first y (spaced_node a ++ z) refl e

pub ends : (p : Phase) (y : List ℕ) → Has p y → Ends y
ends ended y (z, h, e) = by_first y (10 ∷ z) refl e
ends finish y e = by_first y (10 ∷ (256 ∷ [])) refl e
ends hints y ([], z, f, h, e) = by_first y (10 ∷ z) refl e
ends hints y (k ∷ ks, z, f, h, e) = ap (λ (x : List ℕ). is_digit (first x)) e
ends steps y ([], z, f, h, e) = by_first y (10 ∷ z) refl e
ends steps y (sum_of i m j k ∷ ss, z, f, h, e) = ap (λ (x : List ℕ). is_digit (first x)) e
ends steps y (tighten i ∷ ss, z, f, h, e) = ap (λ (x : List ℕ). is_digit (first x)) e
ends (index p) y (a, z, f, h, e) = by_first y (spaced_number a ++ z) refl e
ends (whole p) y (a, z, f, h, e) = by_first y (spaced_whole a ++ z) refl e
ends (term p) y (a, z, f, h, e) = by_first y (spaced_node a ++ z) refl e
ends (formula p) y (a, z, f, h, e) = by_first y (spaced_node a ++ z) refl e
ends (times n p) y h = formulas_end n (Has p) (ends p) y h
ends (counted p) y (a, z, f, h, e) = by_first y (spaced_number a ++ z) refl e

pub spaced_is : (s m t r : List ℕ) → s ≡ 32 ∷ m → m ≡ t ++ r → s ≡ 32 ∷ (t ++ r)
spaced_is s m t r e f = e ∙ ap (λ (x : List ℕ). 32 ∷ x) f

-- ---- numbers

index_in : (n : ℕ) → Between 0 4294967295 n → IsIndex n
index_in n h = let a = h.1 in omega arith

index_out : (n : ℕ) → IsIndex n → Between 0 4294967295 n
index_out n h = (omega arith, omega arith)

count_in : (n : ℕ) → Between 0 18446744073709551615 n → IsCount n
count_in n h = let a = h.1 in omega arith

count_out : (n : ℕ) → IsCount n → Between 0 18446744073709551615 n
count_out n h = (omega arith, omega arith)

number_only : (P : ℕ → List ℕ → Type 0) (r : List ℕ) (a : ℕ) → ((b : ℕ) (y : List ℕ) → P b y → Ends y) → Ends r → (b : ℕ) (x y : List ℕ) → (x ≡ [] → ⊥) → first x ≡ first r → P b y → spaced_number a ++ x ≡ spaced_number b ++ y → P a x
number_only P r a n d b x y m f p e =
    let q = number_apart a b x y (ap is_digit f ∙ d) (n b y p) e in
    subst (λ (k : ℕ). P k x) (sym q.0) (subst (P b) (sym q.1) p)

number_spaced : (P : ℕ → List ℕ → Type 0) (F : ℕ → Type 0) → Spaced (Then F spaced_number P)
number_spaced P F x (a, y, f, h, e) = (number_text a ++ y, e)

pub index_space : (p : Phase) (bytes : List ℕ) (at to : ℕ) → to ≤ length bytes → IsWordFault (32 ∷ []) (drop at bytes) (drop to bytes) → IsBadAt (Has (index p)) bytes at (fault.BadText to)
index_space p bytes at to i f =
    let r = some (index p) in (i, space_bad (Has (index p)) (drop at bytes) (drop to bytes) r.0 (number_spaced (λ k. Has p) IsIndex) r.1 f)

pub index_bad : (p : Phase) (bytes : List ℕ) (at m to : ℕ) → drop at bytes ≡ 32 ∷ drop m bytes → to ≤ length bytes → IsFault (Between 0 4294967295) number_text (drop m bytes) (drop to bytes) → IsBadAt (Has (index p)) bytes at (fault.BadText to)
index_bad p bytes at m to e i f = (
  i,
  value_bad IsIndex number_text spaced_number (λ k. Has p) (drop at bytes) (drop m bytes) (drop to bytes) (λ a y. refl) (λ a. ends p) (λ a. some p) e
      (fault_as (Between 0 4294967295) IsIndex number_text (drop m bytes) (drop to bytes) index_in index_out f),
)

pub index_on : (p : Phase) (n : ℕ) (bytes : List ℕ) (at m to : ℕ) → drop at bytes ≡ 32 ∷ drop m bytes → Between 0 4294967295 n → drop m bytes ≡ number_text n ++ drop to bytes → Ends (drop to bytes) → IsUpTo (Has (index p)) (drop at bytes) (Has p) (drop to bytes)
index_on p n bytes at m to e b f d =
    value_on IsIndex spaced_number (λ k. Has p) (drop at bytes) (drop to bytes) n (index_in n b) (e ∙ ap (λ (x : List ℕ). 32 ∷ x) f)
    (number_only (λ k. Has p) (drop to bytes) n (λ k. ends p) d)

count_ends : (p : Phase) (n : ℕ) (y : List ℕ) → Formulas n (Has p) y → Ends y
count_ends p n y h = formulas_end n (Has p) (ends p) y h

pub count_space : (p : Phase) (bytes : List ℕ) (at to : ℕ) → to ≤ length bytes → IsWordFault (32 ∷ []) (drop at bytes) (drop to bytes) → IsBadAt (Has (counted p)) bytes at (fault.BadText to)
count_space p bytes at to i f =
    let r = some (counted p) in
    (i, space_bad (Has (counted p)) (drop at bytes) (drop to bytes) r.0 (number_spaced (λ n. Formulas n (Has p)) IsCount) r.1 f)

pub count_bad : (p : Phase) (bytes : List ℕ) (at m to : ℕ) → drop at bytes ≡ 32 ∷ drop m bytes → to ≤ length bytes → IsFault (Between 0 18446744073709551615) number_text (drop m bytes) (drop to bytes) → IsBadAt (Has (counted p)) bytes at (fault.BadText to)
count_bad p bytes at m to e i f = (
  i,
  value_bad IsCount number_text spaced_number (λ n. Formulas n (Has p)) (drop at bytes) (drop m bytes) (drop to bytes) (λ a y. refl) (count_ends p)
      (λ n. some_formulas n (Has p) (some p)) e
      (fault_as (Between 0 18446744073709551615) IsCount number_text (drop m bytes) (drop to bytes) count_in count_out f),
)

pub count_on : (p : Phase) (n : ℕ) (bytes : List ℕ) (at m to : ℕ) → drop at bytes ≡ 32 ∷ drop m bytes → Between 0 18446744073709551615 n → drop m bytes ≡ number_text n ++ drop to bytes → Ends (drop to bytes) → IsUpTo (Has (counted p)) (drop at bytes) (Has (times n p)) (drop to bytes)
count_on p n bytes at m to e b f d =
    value_on IsCount spaced_number (λ k. Formulas k (Has p)) (drop at bytes) (drop to bytes) n (count_in n b) (e ∙ ap (λ (x : List ℕ). 32 ∷ x) f)
    (number_only (λ k. Formulas k (Has p)) (drop to bytes) n (count_ends p) d)

-- ---- whole numbers

whole_only : (P : List ℕ → Type 0) (r : List ℕ) (a : ℤ) → ((y : List ℕ) → P y → Ends y) → Ends r → (b : ℤ) (x y : List ℕ) → (x ≡ [] → ⊥) → first x ≡ first r → P y → spaced_whole a ++ x ≡ spaced_whole b ++ y → P x
whole_only P r a n d b x y m f p e =
    let q = whole_apart a b x y (ap is_digit f ∙ d) (n y p) e in subst P (sym q.1) p

whole_spaced : (P : List ℕ → Type 0) → Spaced (Then IsNumber spaced_whole (λ z. P))
whole_spaced P x (a, y, f, h, e) = (whole_text a ++ y, e)

pub whole_space : (p : Phase) (bytes : List ℕ) (at to : ℕ) → to ≤ length bytes → IsWordFault (32 ∷ []) (drop at bytes) (drop to bytes) → IsBadAt (Has (whole p)) bytes at (fault.BadText to)
whole_space p bytes at to i f =
    let r = some (whole p) in (i, space_bad (Has (whole p)) (drop at bytes) (drop to bytes) r.0 (whole_spaced (Has p)) r.1 f)

pub whole_bad : (p : Phase) (bytes : List ℕ) (at m to : ℕ) → drop at bytes ≡ 32 ∷ drop m bytes → to ≤ length bytes → IsFault IsNumber whole_text (drop m bytes) (drop to bytes) → IsBadAt (Has (whole p)) bytes at (fault.BadText to)
whole_bad p bytes at m to e i f = (
  i,
  value_bad IsNumber whole_text spaced_whole (λ z. Has p) (drop at bytes) (drop m bytes) (drop to bytes) (λ a y. refl) (λ a. ends p) (λ a. some p) e f,
)

pub whole_on : (p : Phase) (z : ℤ) (bytes : List ℕ) (at m to : ℕ) → drop at bytes ≡ 32 ∷ drop m bytes → IsNumber z → drop m bytes ≡ whole_text z ++ drop to bytes → Ends (drop to bytes) → IsUpTo (Has (whole p)) (drop at bytes) (Has p) (drop to bytes)
whole_on p z bytes at m to e b f d =
    value_on IsNumber spaced_whole (λ k. Has p) (drop at bytes) (drop to bytes) z b (e ∙ ap (λ (x : List ℕ). 32 ∷ x) f)
    (whole_only (Has p) (drop to bytes) z (ends p) d)

-- ---- terms and formulas

node_only : (P : List ℕ → Type 0) (r : List ℕ) (a : Node) → ((y : List ℕ) → P y → Ends y) → IsWhole tree_text (of_node a) (first r) → (b : Node) (x y : List ℕ) → (x ≡ [] → ⊥) → first x ≡ first r → P y → spaced_node a ++ x ≡ spaced_node b ++ y → P x
node_only P r a n w b [] y m f p e = absurd (m refl)
node_only P r a n w b (c ∷ x) y m f p e =
    let k : y ≡ first r ∷ x = w (of_node b) y x (n y p) (sym (same_tail 32 32 _ _ e) ∙ ap (λ (d : ℕ). node_text a ++ (d ∷ x)) f) in
    subst P (k ∙ ap (λ (d : ℕ). d ∷ x) (sym f)) p

node_spaced : (s : Side) (P : List ℕ → Type 0) → Spaced (Then (λ n. is_node s n ≡ true) spaced_node (λ n. P))
node_spaced s P x (a, y, f, h, e) = (node_text a ++ y, e)

term_of_tree : (t : Tree) → IsOf side.Term t → (n : Node) × IsTerm n × (tree_text t ≡ node_text n)
term_of_tree (of_node n) h = (n, h, refl)
term_of_tree (of_kind k) h = absurd (false≢true h)

formula_of_tree : (t : Tree) → IsOf side.Formula t → (n : Node) × IsFormula n × (tree_text t ≡ node_text n)
formula_of_tree (of_node n) h = (n, h, refl)
formula_of_tree (of_kind k) h = absurd (false≢true h)

node_fault : (s : Side) (m r : List ℕ) → ((t : Tree) → IsOf s t → (n : Node) × (is_node s n ≡ true) × (tree_text t ≡ node_text n)) → IsFault (IsOf s) tree_text m r → IsFault (λ n. is_node s n ≡ true) node_text m r
node_fault s m r v f = record {
  front = f.front;
  is_front = f.is_front;
  goes = let g = f.goes in let o = v g.0 g.2 in (o.0, g.1, o.1, sym o.2 ∙ g.3);
  stuck = λ n k rest h d x. f.stuck (of_node n) k rest h d x;
}

pub term_space : (p : Phase) (bytes : List ℕ) (at to : ℕ) → to ≤ length bytes → IsWordFault (32 ∷ []) (drop at bytes) (drop to bytes) → IsBadAt (Has (term p)) bytes at (fault.BadText to)
term_space p bytes at to i f =
    let r = some (term p) in (i, space_bad (Has (term p)) (drop at bytes) (drop to bytes) r.0 (node_spaced side.Term (Has p)) r.1 f)

pub term_bad : (p : Phase) (bytes : List ℕ) (at m : ℕ) (f : ReadFault) → drop at bytes ≡ 32 ∷ drop m bytes → IsReadFault side.Term bytes m f → IsBadAt (Has (term p)) bytes at f
term_bad p bytes at m (fault.BadText to) e u = (
  u.inside,
  value_bad IsTerm node_text spaced_node (λ n. Has p) (drop at bytes) (drop m bytes) (drop to bytes) (λ a y. refl) (λ a. ends p) (λ a. some p) e
      (node_fault side.Term (drop m bytes) (drop to bytes) term_of_tree u.fault),
)
term_bad p bytes at m fault.Starved e u = tt

pub term_on : (p : Phase) (n : Node) (bytes : List ℕ) (at m to : ℕ) → drop at bytes ≡ 32 ∷ drop m bytes → IsRead side.Term (of_node n) bytes m to → IsUpTo (Has (term p)) (drop at bytes) (Has p) (drop to bytes)
term_on p n bytes at m to e r =
    value_on IsTerm spaced_node (λ k. Has p) (drop at bytes) (drop to bytes) n r.right (e ∙ ap (λ (x : List ℕ). 32 ∷ x) r.text)
    (node_only (Has p) (drop to bytes) n (ends p) r.whole)

pub formula_space : (p : Phase) (bytes : List ℕ) (at to : ℕ) → to ≤ length bytes → IsWordFault (32 ∷ []) (drop at bytes) (drop to bytes) → IsBadAt (Has (formula p)) bytes at (fault.BadText to)
formula_space p bytes at to i f =
    let r = some (formula p) in (i, space_bad (Has (formula p)) (drop at bytes) (drop to bytes) r.0 (node_spaced side.Formula (Has p)) r.1 f)

pub formula_bad : (p : Phase) (bytes : List ℕ) (at m : ℕ) (f : ReadFault) → drop at bytes ≡ 32 ∷ drop m bytes → IsReadFault side.Formula bytes m f → IsBadAt (Has (formula p)) bytes at f
formula_bad p bytes at m (fault.BadText to) e u = (
  u.inside,
  value_bad IsFormula node_text spaced_node (λ n. Has p) (drop at bytes) (drop m bytes) (drop to bytes) (λ a y. refl) (λ a. ends p) (λ a. some p) e
      (node_fault side.Formula (drop m bytes) (drop to bytes) formula_of_tree u.fault),
)
formula_bad p bytes at m fault.Starved e u = tt

pub formula_on : (p : Phase) (n : Node) (bytes : List ℕ) (at m to : ℕ) → drop at bytes ≡ 32 ∷ drop m bytes → IsRead side.Formula (of_node n) bytes m to → IsUpTo (Has (formula p)) (drop at bytes) (Has p) (drop to bytes)
formula_on p n bytes at m to e r =
    value_on IsFormula spaced_node (λ k. Has p) (drop at bytes) (drop to bytes) n r.right (e ∙ ap (λ (x : List ℕ). 32 ∷ x) r.text)
    (node_only (Has p) (drop to bytes) n (ends p) r.whole)
