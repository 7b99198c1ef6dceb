-- Goals are known by their texts.
use Rattle.std.proofs.Common.{◌≡◌, refl, sym, ◌∙◌, ap, ap₂, ℕ, List, [], ◌∷◌, ◌++◌, append_assoc, codes}
use Rattle.std.proofs.lemmas.Bool.{eqb-false}
use Rattle.std.proofs.lemmas.List.{append_cancel_left}
use Rattle.logic_terms.specs.Node.{Node}
use Rattle.logic_terms.specs.Value.{Kind, Kinds, no_kinds, kind}
use Rattle.logic_terms.specs.Sorting.{Called, Signature, Problem}
use Rattle.logic_terms.specs.Text.{node_text}
use Rattle.term_reader.specs.Sorts.{kind_text}
use Rattle.term_reader.proofs.Digits.{same_head, same_tail}
use Rattle.term_reader.proofs.SortTexts.{kinds_apart}
use Rattle.term_reader.proofs.Skipping.{nodes_same}
use Rattle.logic_text.specs.Goals.{sorts_text, taken_text, call_text, calls_text, signature_text, hypotheses_text, conclusion_text, goal_bytes}

pub part_then : (s t u xs : List ℕ) → ((s ++ t) ++ u) ++ xs ≡ s ++ (t ++ (u ++ xs))
part_then s t u xs = append_assoc (s ++ t) u xs ∙ append_assoc s t (u ++ xs)

pub sorts_apart : (ks js : List Kind) (xs ys : List ℕ) → sorts_text ks ++ (10 ∷ xs) ≡ sorts_text js ++ (10 ∷ ys) → (ks ≡ js) × (xs ≡ ys)
sorts_apart [] [] xs ys e = (refl, same_tail 10 10 xs ys e)
sorts_apart [] (j ∷ js) xs ys e = absurd (eqb-false 10 32 refl (same_head 10 32 _ _ (e ∙ part_then (32 ∷ []) (kind_text j) (sorts_text js) (10 ∷ ys))))
sorts_apart (k ∷ ks) [] xs ys e = absurd (eqb-false 32 10 refl (same_head 32 10 _ _ (sym (part_then (32 ∷ []) (kind_text k) (sorts_text ks) (10 ∷ xs)) ∙ e)))
sorts_apart (k ∷ ks) (j ∷ js) xs ys e =
    let r = kinds_apart k j (sorts_text ks ++ (10 ∷ xs)) (sorts_text js ++ (10 ∷ ys))
    (same_tail 32 32 _ _ (sym (part_then (32 ∷ []) (kind_text k) (sorts_text ks) (10 ∷ xs)) ∙ e ∙ part_then (32 ∷ []) (kind_text j) (sorts_text js) (10 ∷ ys))) in
    let s = sorts_apart ks js xs ys r.1 in
    (ap₂ (λ (x : Kind) (l : List Kind). x ∷ l) r.0 s.0, s.1)

pub taken_then : (k : Kind) (t g xs : List ℕ) → (((kind_text k ++ (32 ∷ [])) ++ t) ++ g) ++ xs ≡ kind_text k ++ (32 ∷ ((t ++ g) ++ xs))
taken_then k t g xs =
    ap (λ (x : List ℕ). x ++ xs) (append_assoc (kind_text k ++ (32 ∷ [])) t g)
    ∙ append_assoc (kind_text k ++ (32 ∷ [])) (t ++ g) xs
    ∙ append_assoc (kind_text k) (32 ∷ []) ((t ++ g) ++ xs)

pub taken_apart : (ks js : Kinds) (g h : Kind) (xs ys : List ℕ) → (taken_text ks ++ kind_text g) ++ (41 ∷ xs) ≡ (taken_text js ++ kind_text h) ++ (41 ∷ ys) → (ks ≡ js) × (g ≡ h) × (xs ≡ ys)
taken_apart no_kinds no_kinds g h xs ys e =
    let r = kinds_apart g h (41 ∷ xs) (41 ∷ ys) e in (refl, r.0, same_tail 41 41 xs ys r.1)
taken_apart no_kinds (kind j js) g h xs ys e =
    absurd (eqb-false 41 32 refl (same_head 41 32 _ _ (kinds_apart g j _ _ (e ∙ taken_then j (taken_text js) (kind_text h) (41 ∷ ys))).1))
taken_apart (kind k ks) no_kinds g h xs ys e =
    absurd (eqb-false 32 41 refl (same_head 32 41 _ _ (kinds_apart k h _ _ (sym (taken_then k (taken_text ks) (kind_text g) (41 ∷ xs)) ∙ e)).1))
taken_apart (kind k ks) (kind j js) g h xs ys e =
    let r = kinds_apart k j _ _ (sym (taken_then k (taken_text ks) (kind_text g) (41 ∷ xs)) ∙ e ∙ taken_then j (taken_text js) (kind_text h) (41 ∷ ys)) in
    let s = taken_apart ks js g h xs ys (same_tail 32 32 _ _ r.1) in
    (ap₂ kind r.0 s.0, s.1, s.2)

pub call_then : (c : Called) (xs : List ℕ) → call_text c ++ xs ≡ 40 ∷ ((taken_text c.takes ++ kind_text c.gives) ++ (41 ∷ xs))
call_then c xs = ap (λ (x : List ℕ). 40 ∷ x) (append_assoc (taken_text c.takes ++ kind_text c.gives) (41 ∷ []) xs)

abbrev pub called : Kinds → Kind → Called
called ks g = record { takes = ks; gives = g }

pub call_apart : (c d : Called) (xs ys : List ℕ) → call_text c ++ xs ≡ call_text d ++ ys → (c ≡ d) × (xs ≡ ys)
call_apart c d xs ys e =
    let r = taken_apart c.takes d.takes c.gives d.gives xs ys (same_tail 40 40 _ _ (sym (call_then c xs) ∙ e ∙ call_then d ys)) in
    (ap₂ called r.0 r.1, r.2)

pub calls_apart : (cs ds : List Called) (xs ys : List ℕ) → calls_text cs ++ (10 ∷ xs) ≡ calls_text ds ++ (10 ∷ ys) → (cs ≡ ds) × (xs ≡ ys)
calls_apart [] [] xs ys e = (refl, same_tail 10 10 xs ys e)
calls_apart [] (d ∷ ds) xs ys e = absurd (eqb-false 10 32 refl (same_head 10 32 _ _ (e ∙ part_then (32 ∷ []) (call_text d) (calls_text ds) (10 ∷ ys))))
calls_apart (c ∷ cs) [] xs ys e = absurd (eqb-false 32 10 refl (same_head 32 10 _ _ (sym (part_then (32 ∷ []) (call_text c) (calls_text cs) (10 ∷ xs)) ∙ e)))
calls_apart (c ∷ cs) (d ∷ ds) xs ys e =
    let r = call_apart c d (calls_text cs ++ (10 ∷ xs)) (calls_text ds ++ (10 ∷ ys))
    (same_tail 32 32 _ _ (sym (part_then (32 ∷ []) (call_text c) (calls_text cs) (10 ∷ xs)) ∙ e ∙ part_then (32 ∷ []) (call_text d) (calls_text ds) (10 ∷ ys))) in
    let s = calls_apart cs ds xs ys r.1 in
    (ap₂ (λ (x : Called) (l : List Called). x ∷ l) r.0 s.0, s.1)

pub line_then : (w n xs : List ℕ) → ((w ++ n) ++ (10 ∷ [])) ++ xs ≡ w ++ (n ++ (10 ∷ xs))
line_then w n xs = append_assoc (w ++ n) (10 ∷ []) xs ∙ append_assoc w n (10 ∷ xs)

formula_apart : (w : List ℕ) (p q : Node) (xs ys : List ℕ) → ((w ++ node_text p) ++ (10 ∷ [])) ++ xs ≡ ((w ++ node_text q) ++ (10 ∷ [])) ++ ys → (p ≡ q) × (xs ≡ ys)
formula_apart w p q xs ys e =
    let r = nodes_same p q (10 ∷ xs) (10 ∷ ys) refl refl (append_cancel_left w _ _ (sym (line_then w (node_text p) xs) ∙ e ∙ line_then w (node_text q) ys)) in
    (r.0, same_tail 10 10 xs ys r.1)

lines_first : (p : Node) (ps : List Node) (xs : List ℕ) → hypotheses_text (p ∷ ps) ++ xs ≡ ((codes "hyp " ++ node_text p) ++ (10 ∷ [])) ++ (hypotheses_text ps ++ xs)
lines_first p ps xs = append_assoc ((codes "hyp " ++ node_text p) ++ (10 ∷ [])) (hypotheses_text ps) xs

-- the last line, and the hypotheses before it
pub formulas_apart : (ps qs : List Node) (c d : Node) (xs ys : List ℕ) → hypotheses_text ps ++ (conclusion_text c ++ xs) ≡ hypotheses_text qs ++ (conclusion_text d ++ ys) → (ps ≡ qs) × (c ≡ d) × (xs ≡ ys)
formulas_apart [] [] c d xs ys e = let r = formula_apart (codes "goal ") c d xs ys e in (refl, r.0, r.1)
formulas_apart [] (q ∷ qs) c d xs ys e = absurd (eqb-false 103 104 refl (same_head 103 104 _ _ e))
formulas_apart (p ∷ ps) [] c d xs ys e = absurd (eqb-false 104 103 refl (same_head 104 103 _ _ e))
formulas_apart (p ∷ ps) (q ∷ qs) c d xs ys e =
    let r = formula_apart (codes "hyp ") p q _ _ (sym (lines_first p ps (conclusion_text c ++ xs)) ∙ e ∙ lines_first q qs (conclusion_text d ++ ys)) in
    let s = formulas_apart ps qs c d xs ys r.1 in
    (ap₂ (λ (x : Node) (l : List Node). x ∷ l) r.0 s.0, s.1, s.2)

pub signature_then : (s : Signature) (xs : List ℕ) → signature_text s ++ xs ≡ codes "sorts" ++ (sorts_text s.symbols ++ (10 ∷ (codes "calls" ++ (calls_text s.calls ++ (10 ∷ xs)))))
signature_then s xs =
    append_assoc ((codes "sorts" ++ sorts_text s.symbols) ++ (10 ∷ [])) ((codes "calls" ++ calls_text s.calls) ++ (10 ∷ [])) xs
    ∙ line_then (codes "sorts") (sorts_text s.symbols) (((codes "calls" ++ calls_text s.calls) ++ (10 ∷ [])) ++ xs)
    ∙ ap (λ (x : List ℕ). codes "sorts" ++ (sorts_text s.symbols ++ (10 ∷ x))) (line_then (codes "calls") (calls_text s.calls) xs)

abbrev pub signed : List Kind → List Called → Signature
signed ks cs = record { symbols = ks; calls = cs }

pub signature_apart : (s t : Signature) (xs ys : List ℕ) → signature_text s ++ xs ≡ signature_text t ++ ys → (s ≡ t) × (xs ≡ ys)
signature_apart s t xs ys e =
    let r = sorts_apart s.symbols t.symbols _ _ (append_cancel_left (codes "sorts") _ _ (sym (signature_then s xs) ∙ e ∙ signature_then t ys)) in
    let q = calls_apart s.calls t.calls xs ys (append_cancel_left (codes "calls") _ _ r.1) in
    (ap₂ signed r.0 q.0, q.1)

abbrev pub stated : Signature → List Node → Node → Problem
stated s ps c = record { signature = s; hypotheses = ps; conclusion = c }

pub goal_then : (p : Problem) (xs : List ℕ) → goal_bytes p ++ xs ≡ signature_text p.signature ++ (hypotheses_text p.hypotheses ++ (conclusion_text p.conclusion ++ xs))
goal_then p xs =
    append_assoc (signature_text p.signature ++ hypotheses_text p.hypotheses) (conclusion_text p.conclusion) xs
    ∙ append_assoc (signature_text p.signature) (hypotheses_text p.hypotheses) (conclusion_text p.conclusion ++ xs)

pub goals_apart : (p q : Problem) (xs ys : List ℕ) → goal_bytes p ++ xs ≡ goal_bytes q ++ ys → (p ≡ q) × (xs ≡ ys)
goals_apart p q xs ys e =
    let r = signature_apart p.signature q.signature _ _ (sym (goal_then p xs) ∙ e ∙ goal_then q ys) in
    let s = formulas_apart p.hypotheses q.hypotheses p.conclusion q.conclusion xs ys r.1 in
    (ap (λ (t : Signature). stated t p.hypotheses p.conclusion) r.0 ∙ ap₂ (λ (hs : List Node) (c : Node). stated q.signature hs c) s.0 s.1, s.2)

pub goals_same : (p q : Problem) → goal_bytes p ≡ goal_bytes q → p ≡ q
goals_same p q e = (goals_apart p q [] [] (ap (λ (x : List ℕ). x ++ []) e)).0
