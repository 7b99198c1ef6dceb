-- From one phase of the text of a goal to the next.
use Rattle.std.proofs.Common.{◌≡◌, refl, sym, ◌∙◌, ap, ap₂, ℕ, true, List, [], ◌∷◌, ◌++◌, append_assoc, codes}
use Rattle.std.proofs.lemmas.Bool.{eqb-false, false≢true, and_parts, and_from}
use Rattle.logic_terms.specs.Node.{Node, flag}
use Rattle.logic_terms.specs.Value.{Kind, numbers, Kinds, no_kinds, kind}
use Rattle.logic_terms.specs.Sorting.{Called}
use Rattle.logic_terms.specs.Text.{node_text}
use Rattle.term_reader.specs.Bytes.{first, is_digit, Ends}
use Rattle.term_reader.specs.Sorts.{kind_text}
use Rattle.term_reader.specs.Trees.{Tree, of_node, of_kind, tree_text, IsOf}
use Rattle.term_reader.specs.Values.{is_node}
use Rattle.term_reader.specs.declared.part.Side.TheVariants.{Formula, Sort}
use Rattle.term_reader.proofs.Builds.{no_sort_node}
use Rattle.term_reader.proofs.Digits.{same_head}
use Rattle.logic_text.specs.Goals.{sorts_text, taken_text, call_text, calls_text, hypotheses_text, conclusion_text}
use Rattle.term_reader.specs.Phases.{After, OfPart}
use Rattle.logic_text.specs.Phases.{AtEnd, InLines, InCalls, InCall, InSorts, Rest, more_lines, nothing, Has, Line}
use Rattle.logic_text.proofs.GoalTexts.{part_then, taken_then, call_then, called, line_then}

-- ---- some text of each phase

pub some_lines : InLines (conclusion_text (flag true) ++ (256 ∷ []))
some_lines = ([], flag true, refl, refl, refl)

pub some_has : (n : Rest) → (k : List ℕ) × Has n k
some_has more_lines = (conclusion_text (flag true) ++ (256 ∷ []), some_lines)
some_has nothing = (256 ∷ [], refl)

pub some_calls : InCalls (10 ∷ (conclusion_text (flag true) ++ (256 ∷ [])))
some_calls = ([], conclusion_text (flag true) ++ (256 ∷ []), some_lines, refl)

pub some_call : InCall (78 ∷ (41 ∷ (10 ∷ (conclusion_text (flag true) ++ (256 ∷ [])))))
some_call = (no_kinds, numbers, 10 ∷ (conclusion_text (flag true) ++ (256 ∷ [])), some_calls, refl)

pub some_calls_line : After (codes "calls") InCalls (codes "calls" ++ (10 ∷ (conclusion_text (flag true) ++ (256 ∷ []))))
some_calls_line = (10 ∷ (conclusion_text (flag true) ++ (256 ∷ [])), some_calls, refl)

pub some_sorts : InSorts (10 ∷ (codes "calls" ++ (10 ∷ (conclusion_text (flag true) ++ (256 ∷ [])))))
some_sorts = ([], codes "calls" ++ (10 ∷ (conclusion_text (flag true) ++ (256 ∷ []))), some_calls_line, refl)

-- ---- kinds

-- the kind of a part that is a sort
pub kind_of_part : (t : Tree) → IsOf Sort t → (k : Kind) × (t ≡ of_kind k)
kind_of_part (of_node n) h = absurd (false≢true (sym (no_sort_node n) ∙ h))
kind_of_part (of_kind k) h = (k, refl)

pub part_of_kind : (P : List ℕ → Type 0) (x : List ℕ) → OfPart Sort P x → (k : Kind) × (y : List ℕ) × P y × (x ≡ kind_text k ++ y)
part_of_kind P x h =
    let r = kind_of_part h.0 h.2 in
    (r.0, h.1, h.3, h.4 ∙ ap (λ (t : Tree). tree_text t ++ h.1) r.1)

pub kind_of_phase : (P : List ℕ → Type 0) (k : Kind) (x y : List ℕ) → P y → x ≡ kind_text k ++ y → OfPart Sort P x
kind_of_phase P k x y p e = (of_kind k, y, refl, p, e)

-- ---- sorts

pub sorts_ends : (y : List ℕ) → InSorts y → Ends y
sorts_ends y ([], z, p, e) = ap (λ (x : List ℕ). is_digit (first x)) e
sorts_ends y (k ∷ ks, z, p, e) = ap (λ (x : List ℕ). is_digit (first x)) e

pub sorts_in : (x : List ℕ) → After (32 ∷ []) (OfPart Sort InSorts) x → InSorts x
sorts_in x h =
    let r = part_of_kind InSorts h.0 h.1 in
    let s = r.2 in (
      r.0 ∷ s.0,
      s.1,
      s.2,
      h.2 ∙ ap (λ (y : List ℕ). 32 ∷ y) (r.3 ∙ ap (λ (y : List ℕ). kind_text r.0 ++ y) s.3)
          ∙ sym (part_then (32 ∷ []) (kind_text r.0) (sorts_text s.0) (10 ∷ s.1)),
    )

pub sorts_out : (x : List ℕ) → first x ≡ 32 → InSorts x → After (32 ∷ []) (OfPart Sort InSorts) x
sorts_out x f ([], z, p, e) = absurd (eqb-false 10 32 refl (sym (ap first e) ∙ f))
sorts_out x f (k ∷ ks, z, p, e) = (
  kind_text k ++ (sorts_text ks ++ (10 ∷ z)),
  kind_of_phase InSorts k _ (sorts_text ks ++ (10 ∷ z)) (ks, z, p, refl) refl,
  e ∙ part_then (32 ∷ []) (kind_text k) (sorts_text ks) (10 ∷ z),
)

pub sorts_over_in : (x : List ℕ) → After (10 ∷ []) (After (codes "calls") InCalls) x → InSorts x
sorts_over_in x h = ([], h.0, h.1, h.2)

pub sorts_over_out : (x : List ℕ) → (first x ≡ 32 → ⊥) → InSorts x → After (10 ∷ []) (After (codes "calls") InCalls) x
sorts_over_out x n ([], z, p, e) = (z, p, e)
sorts_over_out x n (k ∷ ks, z, p, e) = absurd (n (ap first e))

-- ---- calls

pub calls_ends : (y : List ℕ) → InCalls y → Ends y
calls_ends y ([], z, p, e) = ap (λ (x : List ℕ). is_digit (first x)) e
calls_ends y (c ∷ cs, z, p, e) = ap (λ (x : List ℕ). is_digit (first x)) e

calls_then : (c : Called) (cs : List Called) (z : List ℕ) → calls_text (c ∷ cs) ++ (10 ∷ z) ≡ (32 ∷ (40 ∷ [])) ++ ((taken_text c.takes ++ kind_text c.gives) ++ (41 ∷ (calls_text cs ++ (10 ∷ z))))
calls_then c cs z =
    part_then (32 ∷ []) (call_text c) (calls_text cs) (10 ∷ z)
    ∙ ap (λ (x : List ℕ). 32 ∷ x) (call_then c (calls_text cs ++ (10 ∷ z)))

pub calls_in : (x : List ℕ) → After (32 ∷ (40 ∷ [])) InCall x → InCalls x
calls_in x (w, (ks, k, y, (cs, z, p, f), e), d) = (
  called ks k ∷ cs,
  z,
  p,
  d ∙ ap (λ (v : List ℕ). 32 ∷ (40 ∷ v)) (e ∙ ap (λ (v : List ℕ). (taken_text ks ++ kind_text k) ++ (41 ∷ v)) f)
      ∙ sym (calls_then (called ks k) cs z),
)

pub calls_out : (x : List ℕ) → first x ≡ 32 → InCalls x → After (32 ∷ (40 ∷ [])) InCall x
calls_out x f ([], z, p, e) = absurd (eqb-false 10 32 refl (sym (ap first e) ∙ f))
calls_out x f (c ∷ cs, z, p, e) = (
  (taken_text c.takes ++ kind_text c.gives) ++ (41 ∷ (calls_text cs ++ (10 ∷ z))),
  (c.takes, c.gives, calls_text cs ++ (10 ∷ z), (cs, z, p, refl), refl),
  e ∙ calls_then c cs z,
)

pub calls_over_in : (x : List ℕ) → After (10 ∷ []) InLines x → InCalls x
calls_over_in x h = ([], h.0, h.1, h.2)

pub calls_over_out : (x : List ℕ) → (first x ≡ 32 → ⊥) → InCalls x → After (10 ∷ []) InLines x
calls_over_out x n ([], z, p, e) = (z, p, e)
calls_over_out x n (c ∷ cs, z, p, e) = absurd (n (ap first e))

-- ---- inside the brackets of a call

-- after a sort: another, or the end
pub data InMark (x : List ℕ) : Type 0 where
  space : (y : List ℕ) → InCall y → x ≡ 32 ∷ y → InMark x
  bracket : (y : List ℕ) → InCalls y → x ≡ 41 ∷ y → InMark x

pub mark_ends : (y : List ℕ) → InMark y → Ends y
mark_ends y (space z p e) = ap (λ (x : List ℕ). is_digit (first x)) e
mark_ends y (bracket z p e) = ap (λ (x : List ℕ). is_digit (first x)) e

pub some_mark : InMark (41 ∷ (10 ∷ (conclusion_text (flag true) ++ (256 ∷ []))))
some_mark = bracket _ some_calls refl

taken_joined : (k : Kind) (ks : Kinds) (g : Kind) (z : List ℕ) → kind_text k ++ (32 ∷ ((taken_text ks ++ kind_text g) ++ z)) ≡ (taken_text (kind k ks) ++ kind_text g) ++ z
taken_joined k ks g z = sym (taken_then k (taken_text ks) (kind_text g) z)

call_marked : (k : Kind) (x y : List ℕ) → InMark y → x ≡ kind_text k ++ y → InCall x
call_marked k x y (space z (ks, g, w, p, d) f) e = (
  kind k ks,
  g,
  w,
  p,
  e ∙ ap (λ (v : List ℕ). kind_text k ++ v) (f ∙ ap (λ (v : List ℕ). 32 ∷ v) d) ∙ taken_joined k ks g (41 ∷ w),
)
call_marked k x y (bracket z p f) e = (no_kinds, k, z, p, e ∙ ap (λ (v : List ℕ). kind_text k ++ v) f)

pub call_in : (x : List ℕ) → OfPart Sort InMark x → InCall x
call_in x h = let r = part_of_kind InMark x h in call_marked r.0 x r.1 r.2 r.3

pub call_out : (x : List ℕ) → InCall x → OfPart Sort InMark x
call_out x (no_kinds, g, w, p, e) = kind_of_phase InMark g x (41 ∷ w) (bracket w p refl) e
call_out x (kind k ks, g, w, p, e) =
    kind_of_phase InMark k x (32 ∷ ((taken_text ks ++ kind_text g) ++ (41 ∷ w)))
    (space _ (ks, g, w, p, refl) refl)
    (e ∙ taken_then k (taken_text ks) (kind_text g) (41 ∷ w))

pub mark_space : (x : List ℕ) → first x ≡ 32 → InMark x → After (32 ∷ []) InCall x
mark_space x f (space y p e) = (y, p, e)
mark_space x f (bracket y p e) = absurd (eqb-false 41 32 refl (sym (ap first e) ∙ f))

pub mark_bracket : (x : List ℕ) → first x ≡ 41 → InMark x → After (41 ∷ []) InCalls x
mark_bracket x f (space y p e) = absurd (eqb-false 32 41 refl (sym (ap first e) ∙ f))
mark_bracket x f (bracket y p e) = (y, p, e)

pub no_mark : (c : ℕ) (rest : List ℕ) → (c ≡ 32 → ⊥) → (c ≡ 41 → ⊥) → InMark (c ∷ rest) → ⊥
no_mark c rest n m (space y p e) = n (same_head c 32 rest y e)
no_mark c rest n m (bracket y p e) = m (same_head c 41 rest y e)

-- ---- lines

formula_node : (t : Tree) → IsOf Formula t → (n : Node) × (is_node Formula n ≡ true) × (t ≡ of_node n)
formula_node (of_node n) h = (n, h, refl)
formula_node (of_kind k) h = absurd (false≢true h)

line_part : (w : List ℕ) (P : List ℕ → Type 0) (x : List ℕ) → After w (OfPart Formula (After (10 ∷ []) P)) x → (n : Node) × (y : List ℕ) × (is_node Formula n ≡ true) × P y × (x ≡ w ++ (node_text n ++ (10 ∷ y)))
line_part w P x (v, (t, u, h, (y, p, a), b), d) =
    let r = formula_node t h in (
      r.0,
      y,
      r.1,
      p,
      d ∙ ap (λ (z : List ℕ). w ++ z) (b ∙ ap₂ (λ (s : Tree) (z : List ℕ). tree_text s ++ z) r.2 a),
    )

part_line : (w : List ℕ) (P : List ℕ → Type 0) (n : Node) (x y : List ℕ) → is_node Formula n ≡ true → P y → x ≡ w ++ (node_text n ++ (10 ∷ y)) → After w (OfPart Formula (After (10 ∷ []) P)) x
part_line w P n x y h p e = (node_text n ++ (10 ∷ y), (of_node n, 10 ∷ y, h, (y, p, refl), refl), e)

hypothesis_then : (p : Node) (ps : List Node) (z : List ℕ) → hypotheses_text (p ∷ ps) ++ z ≡ codes "hyp " ++ (node_text p ++ (10 ∷ (hypotheses_text ps ++ z)))
hypothesis_then p ps z =
    append_assoc ((codes "hyp " ++ node_text p) ++ (10 ∷ [])) (hypotheses_text ps) z
    ∙ line_then (codes "hyp ") (node_text p) (hypotheses_text ps ++ z)

pub lines_in : (x : List ℕ) → Line (codes "hyp ") more_lines x → InLines x
lines_in x h =
    let r = line_part (codes "hyp ") InLines x h in
    let s = r.3 in (
      r.0 ∷ s.0,
      s.1,
      and_from _ _ r.2 s.2,
      s.3,
      r.4 ∙ ap (λ (y : List ℕ). codes "hyp " ++ (node_text r.0 ++ (10 ∷ y))) s.4 ∙ sym (hypothesis_then r.0 s.0 (conclusion_text s.1 ++ (256 ∷ []))),
    )

pub lines_out : (x : List ℕ) → first x ≡ 104 → InLines x → Line (codes "hyp ") more_lines x
lines_out x f ([], p, a, b, e) = absurd (eqb-false 103 104 refl (sym (ap first e) ∙ f))
lines_out x f (p ∷ ps, c, a, b, e) =
    let h = and_parts _ _ a in
    part_line (codes "hyp ") InLines p x (hypotheses_text ps ++ (conclusion_text c ++ (256 ∷ []))) h.0 (ps, c, h.1, b, refl)
    (e ∙ hypothesis_then p ps (conclusion_text c ++ (256 ∷ [])))

pub last_in : (x : List ℕ) → Line (codes "goal ") nothing x → InLines x
last_in x h =
    let r = line_part (codes "goal ") AtEnd x h in (
      [],
      r.0,
      refl,
      r.2,
      r.4 ∙ ap (λ (y : List ℕ). codes "goal " ++ (node_text r.0 ++ (10 ∷ y))) r.3 ∙ sym (line_then (codes "goal ") (node_text r.0) (256 ∷ [])),
    )

pub last_out : (x : List ℕ) → (first x ≡ 104 → ⊥) → InLines x → Line (codes "goal ") nothing x
last_out x n ([], p, a, b, e) =
    part_line (codes "goal ") AtEnd p x (256 ∷ []) b refl (e ∙ line_then (codes "goal ") (node_text p) (256 ∷ []))
last_out x n (p ∷ ps, c, a, b, e) = absurd (n (ap first e))
