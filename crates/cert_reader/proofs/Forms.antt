-- The forms of lines and what follows their words.
use Rattle.std.proofs.Common.{◌≡◌, refl, sym, ◌∙◌, ap, subst, ℕ, zero, suc, ◌<◌, List, [], ◌∷◌, ◌++◌, length, get_or, codes, append_assoc, lit<, map, arith}
use Rattle.std.specs.Prelude.{ℤ}
use Rattle.std.proofs.lemmas.List.{append_cancel_left}
use Rattle.logic_terms.specs.Node.{Node}
use Rattle.cert_lines.specs.Line.{Line, given, opening, choice, propagation, linear, trichotomy, instance, witness, replacing, array_fact, extensionality, field_fact, division, product, computing}
use Rattle.term_reader.specs.Bytes.{first}
use Rattle.term_reader.specs.Words.{IsNoWord}
use Rattle.term_reader.proofs.Spelling.{same_place}
use Rattle.term_reader.proofs.Choosing.{some_at}
use Rattle.logic_text.specs.Certs.{spaced_number, spaced_whole, spaced_node, nodes_text, numbers_text, literals_text, steps_text, line_text, lines_text}
use Rattle.term_reader.specs.Phases.{IsBad, IsUpTo}
use Rattle.term_reader.specs.Values.{IsCount, IsFormula}
use Rattle.logic_text.specs.Fits.{IsLine, Every}
use Rattle.cert_reader.specs.Phases.{InLines, Formulas, hints, steps, Has, fields}
use Rattle.cert_reader.specs.Words.{word_of, line_words, words}
use Rattle.cert_reader.specs.declared.line_word.LineWord.{LineWord}
use Rattle.cert_reader.specs.declared.line_word.LineWord.TheVariants as line
use Rattle.cert_reader.proofs.Leaves.{last_line, some}

-- ---- words

abbrev pub place : LineWord → ℕ
place line.Given = 0
place line.Open = 1
place line.Case = 2
place line.Rup = 3
place line.Lin = 4
place line.Tri = 5
place line.Ins = 6
place line.New = 7
place line.Same = 8
place line.Arr = 9
place line.Ext = 10
place line.Fld = 11
place line.Div = 12
place line.Mul = 13
place line.Calc = 14
place line.End = 15

pub placed : (w : LineWord) → (place w < length words) × (get_or words (place w) [] ≡ word_of w) × (get_or line_words (place w) line.End ≡ w)
placed line.Given = (lit< tt, refl, refl)
placed line.Open = (lit< tt, refl, refl)
placed line.Case = (lit< tt, refl, refl)
placed line.Rup = (lit< tt, refl, refl)
placed line.Lin = (lit< tt, refl, refl)
placed line.Tri = (lit< tt, refl, refl)
placed line.Ins = (lit< tt, refl, refl)
placed line.New = (lit< tt, refl, refl)
placed line.Same = (lit< tt, refl, refl)
placed line.Arr = (lit< tt, refl, refl)
placed line.Ext = (lit< tt, refl, refl)
placed line.Fld = (lit< tt, refl, refl)
placed line.Div = (lit< tt, refl, refl)
placed line.Mul = (lit< tt, refl, refl)
placed line.Calc = (lit< tt, refl, refl)
placed line.End = (lit< tt, refl, refl)

-- a text begins with one word at most
pub word_same : (v w : LineWord) (xs ys : List ℕ) → word_of v ++ xs ≡ word_of w ++ ys → v ≡ w
word_same v w xs ys e =
    let a = placed v in
    let b = placed w in
    let k = same_place words (place v) (place w) xs ys refl a.0 b.0 (ap (λ (x : List ℕ). x ++ xs) a.1 ∙ e ∙ ap (λ (x : List ℕ). x ++ ys) (sym b.1)) in
    sym a.2 ∙ ap (λ (i : ℕ). get_or line_words i line.End) k ∙ b.2

abbrev pub line_word : Line → LineWord
line_word (given k) = line.Given
line_word (opening p a) = line.Open
line_word (choice p t) = line.Case
line_word (propagation ls ks) = line.Rup
line_word (linear ls ss) = line.Lin
line_word (trichotomy a b) = line.Tri
line_word (instance t q) = line.Ins
line_word (witness k q) = line.New
line_word (replacing d k e l) = line.Same
line_word (array_fact p t) = line.Arr
line_word (extensionality a b) = line.Ext
line_word (field_fact p t) = line.Fld
line_word (division p a d) = line.Div
line_word (product f g) = line.Mul
line_word (computing a) = line.Calc

-- what follows the word
abbrev pub tail : Line → List ℕ → List ℕ
tail (given k) r = spaced_number k ++ r
tail (opening p a) r = spaced_number p ++ (spaced_node a ++ r)
tail (choice p t) r = spaced_number p ++ (spaced_node t ++ r)
tail (propagation ls ks) r = spaced_number (length ls) ++ (nodes_text ls ++ (numbers_text ks ++ r))
tail (linear ls ss) r = spaced_number (length ls) ++ (nodes_text ls ++ (steps_text ss ++ r))
tail (trichotomy a b) r = spaced_node a ++ (spaced_node b ++ r)
tail (instance t q) r = spaced_node t ++ (spaced_node q ++ r)
tail (witness k q) r = spaced_number k ++ (spaced_node q ++ r)
tail (replacing d k e l) r = spaced_number d ++ (spaced_number k ++ (spaced_node e ++ (spaced_node l ++ r)))
tail (array_fact p t) r = spaced_number p ++ (spaced_node t ++ r)
tail (extensionality a b) r = spaced_node a ++ (spaced_node b ++ r)
tail (field_fact p t) r = spaced_number p ++ (spaced_node t ++ r)
tail (division p a d) r = spaced_number p ++ (spaced_node a ++ (spaced_whole d ++ r))
tail (product f g) r = spaced_node f ++ (spaced_node g ++ r)
tail (computing a) r = spaced_node a ++ r

two : (w s x r : List ℕ) → (w ++ (s ++ x)) ++ r ≡ w ++ (s ++ (x ++ r))
two w s x r = append_assoc w (s ++ x) r ∙ ap (λ (z : List ℕ). w ++ z) (append_assoc s x r)

three : (w s x y r : List ℕ) → (w ++ ((s ++ x) ++ y)) ++ r ≡ w ++ (s ++ (x ++ (y ++ r)))
three w s x y r = two w (s ++ x) y r ∙ ap (λ (z : List ℕ). w ++ z) (append_assoc s x (y ++ r))

four : (w s x y v r : List ℕ) → (w ++ (((s ++ x) ++ y) ++ v)) ++ r ≡ w ++ (s ++ (x ++ (y ++ (v ++ r))))
four w s x y v r = three w (s ++ x) y v r ∙ ap (λ (z : List ℕ). w ++ z) (append_assoc s x (y ++ (v ++ r)))

pub split : (l : Line) (r : List ℕ) → line_text l ++ r ≡ word_of (line_word l) ++ tail l r
split (given k) r = append_assoc (codes "given") (spaced_number k) r
split (opening p a) r = two (codes "open") (spaced_number p) (spaced_node a) r
split (choice p t) r = two (codes "case") (spaced_number p) (spaced_node t) r
split (propagation ls ks) r = three (codes "rup") (spaced_number (length ls)) (nodes_text ls) (numbers_text ks) r
split (linear ls ss) r = three (codes "lin") (spaced_number (length ls)) (nodes_text ls) (steps_text ss) r
split (trichotomy a b) r = two (codes "tri") (spaced_node a) (spaced_node b) r
split (instance t q) r = two (codes "ins") (spaced_node t) (spaced_node q) r
split (witness k q) r = two (codes "new") (spaced_number k) (spaced_node q) r
split (replacing d k e l) r = four (codes "same") (spaced_number d) (spaced_number k) (spaced_node e) (spaced_node l) r
split (array_fact p t) r = two (codes "arr") (spaced_number p) (spaced_node t) r
split (extensionality a b) r = two (codes "ext") (spaced_node a) (spaced_node b) r
split (field_fact p t) r = two (codes "fld") (spaced_number p) (spaced_node t) r
split (division p a d) r = three (codes "div") (spaced_number p) (spaced_node a) (spaced_whole d) r
split (product f g) r = two (codes "mul") (spaced_node f) (spaced_node g) r
split (computing a) r = append_assoc (codes "calc") (spaced_node a) r

-- a line by the text after its word
pub text_is : (l : Line) (s r : List ℕ) → s ≡ tail l r → word_of (line_word l) ++ s ≡ line_text l ++ r
text_is l s r e = ap (λ (x : List ℕ). word_of (line_word l) ++ x) e ∙ sym (split l r)

pub put : (s x y : List ℕ) → x ≡ y → s ++ x ≡ s ++ y
put s x y e = ap (λ (z : List ℕ). s ++ z) e

pub literals_then : (ls : List Node) (t s m r : List ℕ) → s ≡ literals_text ls ++ m → m ≡ t ++ r → s ≡ spaced_number (length ls) ++ (nodes_text ls ++ (t ++ r))
literals_then ls t s m r e f = e ∙ put (literals_text ls) _ _ f ∙ append_assoc (spaced_number (length ls)) (nodes_text ls) (t ++ r)

pub whole_as : (a b : ℤ) (s r : List ℕ) → a ≡ b → s ≡ spaced_whole b ++ r → s ≡ spaced_whole a ++ r
whole_as a b s r e f = f ∙ ap (λ (z : ℤ). spaced_whole z ++ r) (sym e)

-- ---- lists of formulas

pub formulas_in : (ns : List Node) (P : List ℕ → Type 0) (z : List ℕ) → Every IsFormula ns → P z → Formulas (length ns) P (nodes_text ns ++ z)
formulas_in [] P z f h = h
formulas_in (n ∷ ns) P z f h = (n, nodes_text ns ++ z, f.0, formulas_in ns P z f.1 h, append_assoc (spaced_node n) (nodes_text ns) z)

pub formulas_out : (n : ℕ) (P : List ℕ → Type 0) (x : List ℕ) → Formulas n P x → (ns : List Node) × (z : List ℕ) × (length ns ≡ n) × Every IsFormula ns × P z × (x ≡ nodes_text ns ++ z)
formulas_out zero P x h = ([], x, refl, tt, h, refl)
formulas_out (suc n) P x (a, y, f, h, e) =
    let r = formulas_out n P y h in (
      a ∷ r.0,
      r.1,
      ap suc r.2,
      (f, r.3),
      r.4,
      e ∙ ap (λ (z : List ℕ). spaced_node a ++ z) r.5 ∙ sym (append_assoc (spaced_node a) (nodes_text r.0) r.1),
    )

-- ---- from a line to what its word is followed by

pub fields_of : (l : Line) (y : List ℕ) → IsLine l → InLines y → Has (fields (line_word l)) (tail l (10 ∷ y))
fields_of (given k) y f h = (k, 10 ∷ y, f, (y, h, refl), refl)
fields_of (opening p a) y f h = (p, spaced_node a ++ (10 ∷ y), f.0, (a, 10 ∷ y, f.1, (y, h, refl), refl), refl)
fields_of (choice p t) y f h = (p, spaced_node t ++ (10 ∷ y), f.0, (t, 10 ∷ y, f.1, (y, h, refl), refl), refl)
fields_of (propagation ls ks) y f h = (
  length ls,
  nodes_text ls ++ (numbers_text ks ++ (10 ∷ y)),
  f.0.0,
  formulas_in ls _ (numbers_text ks ++ (10 ∷ y)) f.0.1 (ks, y, f.1, h, refl),
  refl,
)
fields_of (linear ls ss) y f h = (
  length ls,
  nodes_text ls ++ (steps_text ss ++ (10 ∷ y)),
  f.0.0,
  formulas_in ls _ (steps_text ss ++ (10 ∷ y)) f.0.1 (ss, y, f.1, h, refl),
  refl,
)
fields_of (trichotomy a b) y f h = (a, spaced_node b ++ (10 ∷ y), f.0, (b, 10 ∷ y, f.1, (y, h, refl), refl), refl)
fields_of (instance t q) y f h = (t, spaced_node q ++ (10 ∷ y), f.0, (q, 10 ∷ y, f.1, (y, h, refl), refl), refl)
fields_of (witness k q) y f h = (k, spaced_node q ++ (10 ∷ y), f.0, (q, 10 ∷ y, f.1, (y, h, refl), refl), refl)
fields_of (replacing d k e l) y f h = (
  d,
  spaced_number k ++ (spaced_node e ++ (spaced_node l ++ (10 ∷ y))),
  f.0,
  (
    k,
    spaced_node e ++ (spaced_node l ++ (10 ∷ y)),
    f.1,
    (e, spaced_node l ++ (10 ∷ y), f.2, (l, 10 ∷ y, f.3, (y, h, refl), refl), refl),
    refl,
  ),
  refl,
)
fields_of (array_fact p t) y f h = (p, spaced_node t ++ (10 ∷ y), f.0, (t, 10 ∷ y, f.1, (y, h, refl), refl), refl)
fields_of (extensionality a b) y f h = (a, spaced_node b ++ (10 ∷ y), f.0, (b, 10 ∷ y, f.1, (y, h, refl), refl), refl)
fields_of (field_fact p t) y f h = (p, spaced_node t ++ (10 ∷ y), f.0, (t, 10 ∷ y, f.1, (y, h, refl), refl), refl)
fields_of (division p a d) y f h = (
  p,
  spaced_node a ++ (spaced_whole d ++ (10 ∷ y)),
  f.0,
  (a, spaced_whole d ++ (10 ∷ y), f.1, (d, 10 ∷ y, f.2, (y, h, refl), refl), refl),
  refl,
)
fields_of (product f g) y d h = (f, spaced_node g ++ (10 ∷ y), d.0, (g, 10 ∷ y, d.1, (y, h, refl), refl), refl)
fields_of (computing a) y f h = (a, 10 ∷ y, f, (y, h, refl), refl)

-- ---- and back

pub next_line : (l : Line) (ls : List Line) (xs : List ℕ) → lines_text (l ∷ ls) ++ xs ≡ line_text l ++ (10 ∷ (lines_text ls ++ xs))
next_line l ls xs = append_assoc (line_text l ++ (10 ∷ [])) (lines_text ls) xs ∙ append_assoc (line_text l) (10 ∷ []) (lines_text ls ++ xs)

line_more : (l : Line) (x y : List ℕ) → IsLine l → InLines y → x ≡ tail l (10 ∷ y) → InLines (word_of (line_word l) ++ x)
line_more l x y f (ls, g, e) d = (
  l ∷ ls,
  (f, g),
  ap (λ (z : List ℕ). word_of (line_word l) ++ z) d ∙ sym (split l (10 ∷ y)) ∙ ap (λ (z : List ℕ). line_text l ++ (10 ∷ z)) e
      ∙ sym (next_line l ls last_line),
)

counted_as : (n : ℕ) (ls : List Node) (x y : List ℕ) → length ls ≡ n → x ≡ y → spaced_number n ++ x ≡ spaced_number (length ls) ++ y
counted_as n ls x y e f = ap (λ (k : ℕ). spaced_number k ++ x) (sym e) ∙ put (spaced_number (length ls)) x y f

pub line_back : (w : LineWord) (x : List ℕ) → Has (fields w) x → InLines (word_of w ++ x)
line_back line.Given x (k, u, f, (y, h, e), d) = line_more (given k) x y f h (d ∙ put (spaced_number k) _ _ e)
line_back line.Open x (p, u, f, (a, v, g, (y, h, e), d), c) =
    line_more (opening p a) x y (f, g) h (c ∙ put (spaced_number p) _ _ (d ∙ put (spaced_node a) _ _ e))
line_back line.Case x (p, u, f, (a, v, g, (y, h, e), d), c) =
    line_more (choice p a) x y (f, g) h (c ∙ put (spaced_number p) _ _ (d ∙ put (spaced_node a) _ _ e))
line_back line.Rup x (n, u, f, m, c) =
    let r = formulas_out n (Has hints) u m in
    let t = r.4 in
    line_more (propagation r.0 t.0) x t.1 ((subst IsCount (sym r.2) f, r.3), t.2) t.3
    (c ∙ counted_as n r.0 _ _ r.2 (r.5 ∙ put (nodes_text r.0) _ _ t.4))
line_back line.Lin x (n, u, f, m, c) =
    let r = formulas_out n (Has steps) u m in
    let t = r.4 in
    line_more (linear r.0 t.0) x t.1 ((subst IsCount (sym r.2) f, r.3), t.2) t.3
    (c ∙ counted_as n r.0 _ _ r.2 (r.5 ∙ put (nodes_text r.0) _ _ t.4))
line_back line.Tri x (a, u, f, (b, v, g, (y, h, e), d), c) =
    line_more (trichotomy a b) x y (f, g) h (c ∙ put (spaced_node a) _ _ (d ∙ put (spaced_node b) _ _ e))
line_back line.Ins x (a, u, f, (b, v, g, (y, h, e), d), c) =
    line_more (instance a b) x y (f, g) h (c ∙ put (spaced_node a) _ _ (d ∙ put (spaced_node b) _ _ e))
line_back line.New x (p, u, f, (a, v, g, (y, h, e), d), c) =
    line_more (witness p a) x y (f, g) h (c ∙ put (spaced_number p) _ _ (d ∙ put (spaced_node a) _ _ e))
line_back line.Same x (i, u, f, (k, v, g, (a, w, o, (b, z, q, (y, h, e), m), n), d), c) =
    line_more (replacing i k a b) x y (f, g, o, q) h
    (c ∙ put (spaced_number i) _ _ (d ∙ put (spaced_number k) _ _ (n ∙ put (spaced_node a) _ _ (m ∙ put (spaced_node b) _ _ e))))
line_back line.Arr x (p, u, f, (a, v, g, (y, h, e), d), c) =
    line_more (array_fact p a) x y (f, g) h (c ∙ put (spaced_number p) _ _ (d ∙ put (spaced_node a) _ _ e))
line_back line.Ext x (a, u, f, (b, v, g, (y, h, e), d), c) =
    line_more (extensionality a b) x y (f, g) h (c ∙ put (spaced_node a) _ _ (d ∙ put (spaced_node b) _ _ e))
line_back line.Fld x (p, u, f, (a, v, g, (y, h, e), d), c) =
    line_more (field_fact p a) x y (f, g) h (c ∙ put (spaced_number p) _ _ (d ∙ put (spaced_node a) _ _ e))
line_back line.Div x (p, u, f, (a, v, g, (z, w, o, (y, h, e), n), d), c) =
    line_more (division p a z) x y (f, g, o) h
    (c ∙ put (spaced_number p) _ _ (d ∙ put (spaced_node a) _ _ (n ∙ put (spaced_whole z) _ _ e)))
line_back line.Mul x (a, u, f, (b, v, g, (y, h, e), d), c) =
    line_more (product a b) x y (f, g) h (c ∙ put (spaced_node a) _ _ (d ∙ put (spaced_node b) _ _ e))
line_back line.Calc x (a, u, f, (y, h, e), d) = line_more (computing a) x y f h (d ∙ put (spaced_node a) _ _ e)
line_back line.End x e = ([], tt, put (codes "end") _ _ e)

fields_as : (w v : LineWord) (x t : List ℕ) → Has (fields v) t → word_of w ++ x ≡ word_of v ++ t → Has (fields w) x
fields_as w v x t h e =
    let s : w ≡ v = word_same w v x t e in
    let d : x ≡ t = append_cancel_left (word_of v) x t (ap (λ (u : LineWord). word_of u ++ x) (sym s) ∙ e) in
    subst (λ (u : LineWord). Has (fields u) x) (sym s) (subst (Has (fields v)) (sym d) h)

pub line_out : (w : LineWord) (x : List ℕ) → InLines (word_of w ++ x) → Has (fields w) x
line_out w x ([], f, e) = fields_as w line.End x (10 ∷ (256 ∷ [])) refl e
line_out w x (l ∷ ls, f, e) =
    let y = lines_text ls ++ last_line in
    fields_as w (line_word l) x (tail l (10 ∷ y)) (fields_of l y f.0 (ls, f.1, refl)) (e ∙ next_line l ls last_line ∙ split l (10 ∷ y))

pub line_on : (w : LineWord) (s r : List ℕ) → s ≡ word_of w ++ r → IsUpTo InLines s (Has (fields w)) r
line_on w s r e = record {
  front = word_of w;
  is_front = e;
  into = λ x h. line_back w x h;
  out = λ x n d h. line_out w x h;
}

-- ---- no word

begins : (x : List ℕ) → InLines x → (w : LineWord) × (t : List ℕ) × (x ≡ word_of w ++ t)
begins x ([], f, e) = (line.End, 10 ∷ (256 ∷ []), e)
begins x (l ∷ ls, f, e) =
    let y = lines_text ls ++ last_line in (line_word l, tail l (10 ∷ y), e ∙ next_line l ls last_line ∙ split l (10 ∷ y))

mapped : (ws : List LineWord) (i : ℕ) → i < length ws → get_or (map word_of ws) i [] ≡ word_of (get_or ws i line.End)
mapped [] i h = absurd (omega arith)
mapped (w ∷ ws) zero h = refl
mapped (w ∷ ws) (suc i) h = mapped ws i (omega arith)

pub word_is : (i : ℕ) → i < length words → get_or words i [] ≡ word_of (get_or line_words i line.End)
word_is i h = mapped line_words i h

-- ---- a row of a table of them

pub row_some : (ws : List (List ℕ)) (i : ℕ) → ws ≡ words → i < length ws → 0 < length (get_or ws i [])
row_some ws i e h =
    subst (λ (l : List (List ℕ)). 0 < length (get_or l i [])) (sym e)
    (some_at words i refl (subst (λ (l : List (List ℕ)). i < length l) e h))

pub row_word : (ws : List (List ℕ)) (ls : List LineWord) (i : ℕ) (w : LineWord) → ws ≡ words → ls ≡ line_words → i < length ws → w ≡ get_or ls i line.End → get_or ws i [] ≡ word_of w
row_word ws ls i w e f h g =
    ap (λ (l : List (List ℕ)). get_or l i []) e
    ∙ word_is i (subst (λ (l : List (List ℕ)). i < length l) e h)
    ∙ ap word_of (sym (g ∙ ap (λ (l : List LineWord). get_or l i line.End) f))

pub no_word_bad : (s r : List ℕ) → IsNoWord words s r → IsBad InLines s r
no_word_bad s r f = record {
  front = f.front;
  is_front = f.is_front;
  goes =
      let g = f.goes in
      let w = get_or line_words g.0 line.End in
      let k = some (fields w) in (
        g.1 ++ k.0,
        subst InLines
            (ap (λ (x : List ℕ). x ++ k.0) (sym (word_is g.0 g.2) ∙ g.3) ∙ append_assoc f.front g.1 k.0)
            (line_back w k.0 k.1),
      );
  stuck = λ rest h.
      let b = begins (f.front ++ (first r ∷ rest)) h in
      let p = placed b.0 in
      f.stuck (place b.0) b.1 rest p.0 (ap (λ (x : List ℕ). x ++ b.1) p.1 ∙ sym b.2);
}
