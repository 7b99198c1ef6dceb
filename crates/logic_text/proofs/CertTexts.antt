-- Certificates are known by their texts.
use Rattle.std.proofs.Common.{◌≡◌, refl, sym, ◌∙◌, ap, ap₂, ℕ, suc, ◌<◌, List, [], ◌∷◌, ◌++◌, length, get_or, arith, append_assoc, codes, lit<}
use Rattle.std.specs.Prelude.{ℤ}
use Rattle.std.proofs.lemmas.Bool.{eqb-false}
use Rattle.std.proofs.lemmas.List.{append_cancel_left}
use Rattle.logic_terms.specs.Node.{Node, num}
use Rattle.cert_lines.specs.Line.{Step, sum_of, tighten, Line, given, opening, choice, propagation, linear, trichotomy, instance, witness, replacing, array_fact, extensionality, field_fact, division, product, computing}
use Rattle.logic_terms.specs.Text.{number_text, node_text}
use Rattle.term_reader.specs.Bytes.{Ends}
use Rattle.term_reader.proofs.Digits.{same_head, same_tail, value, value_is}
use Rattle.term_reader.proofs.Skipping.{nodes_same}
use Rattle.term_reader.proofs.Spelling.{same_place}
use Rattle.logic_text.specs.Certs.{spaced_number, spaced_whole, spaced_node, nodes_text, numbers_text, literals_text, scaled_text, step_text, steps_text, line_text, lines_text, cert_bytes}

-- ---- parts

pub number_apart : (j k : ℕ) (xs ys : List ℕ) → Ends xs → Ends ys → spaced_number j ++ xs ≡ spaced_number k ++ ys → (j ≡ k) × (xs ≡ ys)
number_apart j k xs ys f g e =
    let t : number_text j ++ xs ≡ number_text k ++ ys = same_tail 32 32 _ _ e in
    let n : j ≡ k = sym (value_is j xs f) ∙ ap (value 0) t ∙ value_is k ys g in
    (n, append_cancel_left (number_text k) xs ys (ap (λ (x : ℕ). number_text x ++ xs) (sym n) ∙ t))

pub node_apart : (m n : Node) (xs ys : List ℕ) → Ends xs → Ends ys → spaced_node m ++ xs ≡ spaced_node n ++ ys → (m ≡ n) × (xs ≡ ys)
node_apart m n xs ys f g e = nodes_same m n xs ys f g (same_tail 32 32 _ _ e)

num_same : (y z : ℤ) → num y ≡ num z → y ≡ z
num_same y z e = cc

pub whole_apart : (y z : ℤ) (xs ys : List ℕ) → Ends xs → Ends ys → spaced_whole y ++ xs ≡ spaced_whole z ++ ys → (y ≡ z) × (xs ≡ ys)
whole_apart y z xs ys f g e = let r = nodes_same (num y) (num z) xs ys f g (same_tail 32 32 _ _ e) in (num_same y z r.0, r.1)

-- ---- lists of parts

end_line : (xs : List ℕ) → Ends (10 ∷ xs)
end_line xs = refl

pub numbers_end : (ks : List ℕ) (xs : List ℕ) → Ends (numbers_text ks ++ (10 ∷ xs))
numbers_end [] xs = refl
numbers_end (k ∷ ks) xs = refl

pub numbers_apart : (js ks : List ℕ) (xs ys : List ℕ) → numbers_text js ++ (10 ∷ xs) ≡ numbers_text ks ++ (10 ∷ ys) → (js ≡ ks) × (xs ≡ ys)
numbers_apart [] [] xs ys e = (refl, same_tail 10 10 xs ys e)
numbers_apart [] (k ∷ ks) xs ys e = absurd (eqb-false 10 32 refl (same_head 10 32 _ _ e))
numbers_apart (j ∷ js) [] xs ys e = absurd (eqb-false 32 10 refl (same_head 32 10 _ _ e))
numbers_apart (j ∷ js) (k ∷ ks) xs ys e =
    let r = number_apart j k (numbers_text js ++ (10 ∷ xs)) (numbers_text ks ++ (10 ∷ ys)) (numbers_end js xs) (numbers_end ks ys)
    (sym (append_assoc (spaced_number j) (numbers_text js) (10 ∷ xs)) ∙ e ∙ append_assoc (spaced_number k) (numbers_text ks) (10 ∷ ys)) in
    let s = numbers_apart js ks xs ys r.1 in
    (ap₂ (λ (x : ℕ) (l : List ℕ). x ∷ l) r.0 s.0, s.1)

pub nodes_end : (ns : List Node) (xs : List ℕ) → Ends xs → Ends (nodes_text ns ++ xs)
nodes_end [] xs h = h
nodes_end (n ∷ ns) xs h = refl

none_more : (n : ℕ) → 0 ≡ suc n → ⊥
none_more n e = omega arith

less_one : (m n : ℕ) → suc m ≡ suc n → m ≡ n
less_one m n e = omega arith

-- lists of as many nodes
pub nodes_apart : (ms ns : List Node) (xs ys : List ℕ) → length ms ≡ length ns → Ends xs → Ends ys → nodes_text ms ++ xs ≡ nodes_text ns ++ ys → (ms ≡ ns) × (xs ≡ ys)
nodes_apart [] [] xs ys l f g e = (refl, e)
nodes_apart [] (n ∷ ns) xs ys l f g e = absurd (none_more _ l)
nodes_apart (m ∷ ms) [] xs ys l f g e = absurd (none_more _ (sym l))
nodes_apart (m ∷ ms) (n ∷ ns) xs ys l f g e =
    let r = node_apart m n (nodes_text ms ++ xs) (nodes_text ns ++ ys) (nodes_end ms xs f) (nodes_end ns ys g)
    (sym (append_assoc (spaced_node m) (nodes_text ms) xs) ∙ e ∙ append_assoc (spaced_node n) (nodes_text ns) ys) in
    let s = nodes_apart ms ns xs ys (less_one _ _ l) f g r.1 in
    (ap₂ (λ (x : Node) (k : List Node). x ∷ k) r.0 s.0, s.1)

pub literals_apart : (ms ns : List Node) (xs ys : List ℕ) → Ends xs → Ends ys → literals_text ms ++ xs ≡ literals_text ns ++ ys → (ms ≡ ns) × (xs ≡ ys)
literals_apart ms ns xs ys f g e =
    let r = number_apart (length ms) (length ns) (nodes_text ms ++ xs) (nodes_text ns ++ ys) (nodes_end ms xs f) (nodes_end ns ys g)
    (sym (append_assoc (spaced_number (length ms)) (nodes_text ms) xs) ∙ e ∙ append_assoc (spaced_number (length ns)) (nodes_text ns) ys) in
    nodes_apart ms ns xs ys r.0 f g r.1

pub steps_end : (ss : List Step) (xs : List ℕ) → Ends (steps_text ss ++ (10 ∷ xs))
steps_end [] xs = refl
steps_end (sum_of i m j k ∷ ss) xs = refl
steps_end (tighten i ∷ ss) xs = refl

scaled_apart : (i j : ℕ) (y z : ℤ) (xs ys : List ℕ) → Ends xs → Ends ys → scaled_text i y ++ xs ≡ scaled_text j z ++ ys → (i ≡ j) × (y ≡ z) × (xs ≡ ys)
scaled_apart i j y z xs ys f g e =
    let r = number_apart i j (spaced_whole y ++ xs) (spaced_whole z ++ ys) refl refl
    (sym (append_assoc (spaced_number i) (spaced_whole y) xs) ∙ e ∙ append_assoc (spaced_number j) (spaced_whole z) ys) in
    let s = whole_apart y z xs ys f g r.1 in
    (r.0, s.0, s.1)

sum_then : (i : ℕ) (m : ℤ) (j : ℕ) (k : ℤ) (xs : List ℕ) → step_text (sum_of i m j k) ++ xs ≡ codes " +" ++ (scaled_text i m ++ (scaled_text j k ++ xs))
sum_then i m j k xs =
    append_assoc (codes " +") (scaled_text i m ++ scaled_text j k) xs
    ∙ ap (λ (x : List ℕ). codes " +" ++ x) (append_assoc (scaled_text i m) (scaled_text j k) xs)

sums : (i : ℕ) (m : ℤ) (j : ℕ) (k : ℤ) (a : ℕ) (b : ℤ) (c : ℕ) (d : ℤ) → i ≡ a → m ≡ b → j ≡ c → k ≡ d → sum_of i m j k ≡ sum_of a b c d
sums i m j k a b c d e f g h = cc

step_apart : (s t : Step) (xs ys : List ℕ) → Ends xs → Ends ys → step_text s ++ xs ≡ step_text t ++ ys → (s ≡ t) × (xs ≡ ys)
step_apart (sum_of i m j k) (sum_of a b c d) xs ys f g e =
    let r = scaled_apart i a m b (scaled_text j k ++ xs) (scaled_text c d ++ ys) refl refl
    (append_cancel_left (codes " +") _ _ (sym (sum_then i m j k xs) ∙ e ∙ sum_then a b c d ys)) in
    let s = scaled_apart j c k d xs ys f g r.2 in
    (sums i m j k a b c d r.0 r.1 s.0 s.1, s.2)
step_apart (tighten i) (tighten j) xs ys f g e =
    let r = number_apart i j xs ys f g (append_cancel_left (codes " t") _ _ e) in (ap tighten r.0, r.1)
step_apart (sum_of i m j k) (tighten a) xs ys f g e = absurd (eqb-false 43 116 refl (same_head 43 116 _ _ (same_tail 32 32 _ _ e)))
step_apart (tighten a) (sum_of i m j k) xs ys f g e = absurd (eqb-false 116 43 refl (same_head 116 43 _ _ (same_tail 32 32 _ _ e)))

pub steps_apart : (ss ts : List Step) (xs ys : List ℕ) → steps_text ss ++ (10 ∷ xs) ≡ steps_text ts ++ (10 ∷ ys) → (ss ≡ ts) × (xs ≡ ys)
steps_apart [] [] xs ys e = (refl, same_tail 10 10 xs ys e)
steps_apart [] (sum_of i m j k ∷ ts) xs ys e = absurd (eqb-false 10 32 refl (same_head 10 32 _ _ e))
steps_apart [] (tighten i ∷ ts) xs ys e = absurd (eqb-false 10 32 refl (same_head 10 32 _ _ e))
steps_apart (sum_of i m j k ∷ ss) [] xs ys e = absurd (eqb-false 32 10 refl (same_head 32 10 _ _ e))
steps_apart (tighten i ∷ ss) [] xs ys e = absurd (eqb-false 32 10 refl (same_head 32 10 _ _ e))
steps_apart (s ∷ ss) (t ∷ ts) xs ys e =
    let r = step_apart s t (steps_text ss ++ (10 ∷ xs)) (steps_text ts ++ (10 ∷ ys)) (steps_end ss xs) (steps_end ts ys)
    (sym (append_assoc (step_text s) (steps_text ss) (10 ∷ xs)) ∙ e ∙ append_assoc (step_text t) (steps_text ts) (10 ∷ ys)) in
    let u = steps_apart ss ts xs ys r.1 in
    (ap₂ (λ (x : Step) (l : List Step). x ∷ l) r.0 u.0, u.1)

-- ---- lines

-- the words of lines, in the order of their tags, and the word of the end
abbrev pub keywords : List (List ℕ)
keywords =
    codes "given " ∷ codes "open " ∷ codes "case " ∷ codes "rup " ∷ codes "lin " ∷ codes "tri " ∷ codes "ins " ∷ codes "new " ∷ codes "same " ∷ codes "arr " ∷ codes "ext " ∷ codes "fld " ∷ codes "div " ∷ codes "mul " ∷ codes "calc " ∷ []

abbrev pub tag : Line → ℕ
tag (given k) = 0
tag (opening p a) = 1
tag (choice p t) = 2
tag (propagation ls ks) = 3
tag (linear ls ss) = 4
tag (trichotomy a b) = 5
tag (instance t q) = 6
tag (witness k q) = 7
tag (replacing d k e l) = 8
tag (array_fact p t) = 9
tag (extensionality a b) = 10
tag (field_fact p t) = 11
tag (division p a d) = 12
tag (product f g) = 13
tag (computing a) = 14

-- what follows the word and its space
abbrev pub tail_of : Line → List ℕ → List ℕ
tail_of (given k) r = number_text k ++ r
tail_of (opening p a) r = number_text p ++ (spaced_node a ++ r)
tail_of (choice p t) r = number_text p ++ (spaced_node t ++ r)
tail_of (propagation ls ks) r = number_text (length ls) ++ (nodes_text ls ++ (numbers_text ks ++ r))
tail_of (linear ls ss) r = number_text (length ls) ++ (nodes_text ls ++ (steps_text ss ++ r))
tail_of (trichotomy a b) r = node_text a ++ (spaced_node b ++ r)
tail_of (instance t q) r = node_text t ++ (spaced_node q ++ r)
tail_of (witness k q) r = number_text k ++ (spaced_node q ++ r)
tail_of (replacing d k e l) r = number_text d ++ (spaced_number k ++ (spaced_node e ++ (spaced_node l ++ r)))
tail_of (array_fact p t) r = number_text p ++ (spaced_node t ++ r)
tail_of (extensionality a b) r = node_text a ++ (spaced_node b ++ r)
tail_of (field_fact p t) r = number_text p ++ (spaced_node t ++ r)
tail_of (division p a d) r = number_text p ++ (spaced_node a ++ (spaced_whole d ++ r))
tail_of (product f g) r = node_text f ++ (spaced_node g ++ r)
tail_of (computing a) r = node_text a ++ r

one_part : (w s x r : List ℕ) → (w ++ (s ++ x)) ++ r ≡ (w ++ s) ++ (x ++ r)
one_part w s x r = simp append_assoc

two_parts : (w s x y r : List ℕ) → (w ++ ((s ++ x) ++ y)) ++ r ≡ (w ++ s) ++ (x ++ (y ++ r))
two_parts w s x y r = simp append_assoc

three_parts : (w s x y z r : List ℕ) → (w ++ (((s ++ x) ++ y) ++ z)) ++ r ≡ (w ++ s) ++ (x ++ (y ++ (z ++ r)))
three_parts w s x y z r = simp append_assoc

four_parts : (w s x y z v r : List ℕ) → (w ++ ((((s ++ x) ++ y) ++ z) ++ v)) ++ r ≡ (w ++ s) ++ (x ++ (y ++ (z ++ (v ++ r))))
four_parts w s x y z v r = simp append_assoc

literal_parts : (w s x y z r : List ℕ) → (w ++ (((s ++ x) ++ y) ++ z)) ++ r ≡ (w ++ s) ++ (x ++ (y ++ (z ++ r)))
literal_parts w s x y z r = simp append_assoc

pub line_is : (l : Line) (r : List ℕ) → line_text l ++ r ≡ get_or keywords (tag l) [] ++ tail_of l r
line_is (given k) r = one_part (codes "given") (32 ∷ []) (number_text k) r
line_is (opening p a) r = two_parts (codes "open") (32 ∷ []) (number_text p) (spaced_node a) r
line_is (choice p t) r = two_parts (codes "case") (32 ∷ []) (number_text p) (spaced_node t) r
line_is (propagation ls ks) r = literal_parts (codes "rup") (32 ∷ []) (number_text (length ls)) (nodes_text ls) (numbers_text ks) r
line_is (linear ls ss) r = literal_parts (codes "lin") (32 ∷ []) (number_text (length ls)) (nodes_text ls) (steps_text ss) r
line_is (trichotomy a b) r = two_parts (codes "tri") (32 ∷ []) (node_text a) (spaced_node b) r
line_is (instance t q) r = two_parts (codes "ins") (32 ∷ []) (node_text t) (spaced_node q) r
line_is (witness k q) r = two_parts (codes "new") (32 ∷ []) (number_text k) (spaced_node q) r
line_is (replacing d k e l) r = four_parts (codes "same") (32 ∷ []) (number_text d) (spaced_number k) (spaced_node e) (spaced_node l) r
line_is (array_fact p t) r = two_parts (codes "arr") (32 ∷ []) (number_text p) (spaced_node t) r
line_is (extensionality a b) r = two_parts (codes "ext") (32 ∷ []) (node_text a) (spaced_node b) r
line_is (field_fact p t) r = two_parts (codes "fld") (32 ∷ []) (number_text p) (spaced_node t) r
line_is (division p a d) r = three_parts (codes "div") (32 ∷ []) (number_text p) (spaced_node a) (spaced_whole d) r
line_is (product f g) r = two_parts (codes "mul") (32 ∷ []) (node_text f) (spaced_node g) r
line_is (computing a) r = one_part (codes "calc") (32 ∷ []) (node_text a) r

tag_inside : (l : Line) → tag l < length keywords
tag_inside (given k) = lit< tt
tag_inside (opening p a) = lit< tt
tag_inside (choice p t) = lit< tt
tag_inside (propagation ls ks) = lit< tt
tag_inside (linear ls ss) = lit< tt
tag_inside (trichotomy a b) = lit< tt
tag_inside (instance t q) = lit< tt
tag_inside (witness k q) = lit< tt
tag_inside (replacing d k e l) = lit< tt
tag_inside (array_fact p t) = lit< tt
tag_inside (extensionality a b) = lit< tt
tag_inside (field_fact p t) = lit< tt
tag_inside (division p a d) = lit< tt
tag_inside (product f g) = lit< tt
tag_inside (computing a) = lit< tt

pub tags_same : (l m : Line) (xs ys : List ℕ) → line_text l ++ xs ≡ line_text m ++ ys → tag l ≡ tag m
tags_same l m xs ys e =
    same_place keywords (tag l) (tag m) (tail_of l xs) (tail_of m ys) refl (tag_inside l) (tag_inside m) (sym (line_is l xs) ∙ e ∙ line_is m ys)

tails_same : (l m : Line) (xs ys : List ℕ) → tag l ≡ tag m → line_text l ++ xs ≡ line_text m ++ ys → tail_of l xs ≡ tail_of m ys
tails_same l m xs ys t e =
    append_cancel_left (get_or keywords (tag m) []) _ _ (ap (λ (k : ℕ). get_or keywords k [] ++ tail_of l xs) (sym t) ∙ sym (line_is l xs) ∙ e ∙ line_is m ys)

spaced : (xs ys : List ℕ) → xs ≡ ys → 32 ∷ xs ≡ 32 ∷ ys
spaced xs ys e = ap (λ (t : List ℕ). 32 ∷ t) e

given-from : (k k' : ℕ) → k ≡ k' → given k ≡ given k'
given-from k k' h0 = cc

opening-from : (p p' : ℕ) (a a' : Node) → p ≡ p' → a ≡ a' → opening p a ≡ opening p' a'
opening-from p p' a a' h0 h1 = cc

choice-from : (p p' : ℕ) (t t' : Node) → p ≡ p' → t ≡ t' → choice p t ≡ choice p' t'
choice-from p p' t t' h0 h1 = cc

propagation-from : (ls ls' : List Node) (ks ks' : List ℕ) → ls ≡ ls' → ks ≡ ks' → propagation ls ks ≡ propagation ls' ks'
propagation-from ls ls' ks ks' h0 h1 = cc

linear-from : (ls ls' : List Node) (ss ss' : List Step) → ls ≡ ls' → ss ≡ ss' → linear ls ss ≡ linear ls' ss'
linear-from ls ls' ss ss' h0 h1 = cc

trichotomy-from : (a a' : Node) (b b' : Node) → a ≡ a' → b ≡ b' → trichotomy a b ≡ trichotomy a' b'
trichotomy-from a a' b b' h0 h1 = cc

instance-from : (t t' : Node) (q q' : Node) → t ≡ t' → q ≡ q' → instance t q ≡ instance t' q'
instance-from t t' q q' h0 h1 = cc

witness-from : (k k' : ℕ) (q q' : Node) → k ≡ k' → q ≡ q' → witness k q ≡ witness k' q'
witness-from k k' q q' h0 h1 = cc

replacing-from : (d d' : ℕ) (k k' : ℕ) (e e' : Node) (l l' : Node) → d ≡ d' → k ≡ k' → e ≡ e' → l ≡ l' → replacing d k e l ≡ replacing d' k' e' l'
replacing-from d d' k k' e e' l l' h0 h1 h2 h3 = cc

array_fact-from : (p p' : ℕ) (t t' : Node) → p ≡ p' → t ≡ t' → array_fact p t ≡ array_fact p' t'
array_fact-from p p' t t' h0 h1 = cc

extensionality-from : (a a' : Node) (b b' : Node) → a ≡ a' → b ≡ b' → extensionality a b ≡ extensionality a' b'
extensionality-from a a' b b' h0 h1 = cc

field_fact-from : (p p' : ℕ) (t t' : Node) → p ≡ p' → t ≡ t' → field_fact p t ≡ field_fact p' t'
field_fact-from p p' t t' h0 h1 = cc

division-from : (p p' : ℕ) (a a' : Node) (d d' : ℤ) → p ≡ p' → a ≡ a' → d ≡ d' → division p a d ≡ division p' a' d'
division-from p p' a a' d d' h0 h1 h2 = cc

product-from : (f f' : Node) (g g' : Node) → f ≡ f' → g ≡ g' → product f g ≡ product f' g'
product-from f f' g g' h0 h1 = cc

computing-from : (a a' : Node) → a ≡ a' → computing a ≡ computing a'
computing-from a a' h0 = cc

pub lines_apart : (l m : Line) (xs ys : List ℕ) → line_text l ++ (10 ∷ xs) ≡ line_text m ++ (10 ∷ ys) → (l ≡ m) × (xs ≡ ys)
lines_apart (given k) (given k') xs ys e =
    let u = tails_same (given k) (given k') (10 ∷ xs) (10 ∷ ys) refl e in
    let r0 = number_apart k k' (10 ∷ xs) (10 ∷ ys) refl refl (spaced _ _ u) in
    (given-from k k' r0.0, same_tail 10 10 xs ys r0.1)
lines_apart (opening p a) (opening p' a') xs ys e =
    let u = tails_same (opening p a) (opening p' a') (10 ∷ xs) (10 ∷ ys) refl e in
    let r0 = number_apart p p' (spaced_node a ++ (10 ∷ xs)) (spaced_node a' ++ (10 ∷ ys)) refl refl (spaced _ _ u) in
    let r1 = node_apart a a' (10 ∷ xs) (10 ∷ ys) refl refl r0.1 in
    (opening-from p p' a a' r0.0 r1.0, same_tail 10 10 xs ys r1.1)
lines_apart (choice p t) (choice p' t') xs ys e =
    let u = tails_same (choice p t) (choice p' t') (10 ∷ xs) (10 ∷ ys) refl e in
    let r0 = number_apart p p' (spaced_node t ++ (10 ∷ xs)) (spaced_node t' ++ (10 ∷ ys)) refl refl (spaced _ _ u) in
    let r1 = node_apart t t' (10 ∷ xs) (10 ∷ ys) refl refl r0.1 in
    (choice-from p p' t t' r0.0 r1.0, same_tail 10 10 xs ys r1.1)
lines_apart (propagation ls ks) (propagation ls' ks') xs ys e =
    let u = tails_same (propagation ls ks) (propagation ls' ks') (10 ∷ xs) (10 ∷ ys) refl e in
    let r = literals_apart ls ls' (numbers_text ks ++ (10 ∷ xs)) (numbers_text ks' ++ (10 ∷ ys)) (numbers_end ks xs) (numbers_end ks' ys)
    (append_assoc (spaced_number (length ls)) (nodes_text ls) (numbers_text ks ++ (10 ∷ xs)) ∙ spaced _ _ u ∙ sym (append_assoc (spaced_number (length ls')) (nodes_text ls') (numbers_text ks' ++ (10 ∷ ys)))) in
    let q = numbers_apart ks ks' xs ys r.1 in
    (propagation-from ls ls' ks ks' r.0 q.0, q.1)
lines_apart (linear ls ss) (linear ls' ss') xs ys e =
    let u = tails_same (linear ls ss) (linear ls' ss') (10 ∷ xs) (10 ∷ ys) refl e in
    let r = literals_apart ls ls' (steps_text ss ++ (10 ∷ xs)) (steps_text ss' ++ (10 ∷ ys)) (steps_end ss xs) (steps_end ss' ys)
    (append_assoc (spaced_number (length ls)) (nodes_text ls) (steps_text ss ++ (10 ∷ xs)) ∙ spaced _ _ u ∙ sym (append_assoc (spaced_number (length ls')) (nodes_text ls') (steps_text ss' ++ (10 ∷ ys)))) in
    let q = steps_apart ss ss' xs ys r.1 in
    (linear-from ls ls' ss ss' r.0 q.0, q.1)
lines_apart (trichotomy a b) (trichotomy a' b') xs ys e =
    let u = tails_same (trichotomy a b) (trichotomy a' b') (10 ∷ xs) (10 ∷ ys) refl e in
    let r0 = node_apart a a' (spaced_node b ++ (10 ∷ xs)) (spaced_node b' ++ (10 ∷ ys)) refl refl (spaced _ _ u) in
    let r1 = node_apart b b' (10 ∷ xs) (10 ∷ ys) refl refl r0.1 in
    (trichotomy-from a a' b b' r0.0 r1.0, same_tail 10 10 xs ys r1.1)
lines_apart (instance t q) (instance t' q') xs ys e =
    let u = tails_same (instance t q) (instance t' q') (10 ∷ xs) (10 ∷ ys) refl e in
    let r0 = node_apart t t' (spaced_node q ++ (10 ∷ xs)) (spaced_node q' ++ (10 ∷ ys)) refl refl (spaced _ _ u) in
    let r1 = node_apart q q' (10 ∷ xs) (10 ∷ ys) refl refl r0.1 in
    (instance-from t t' q q' r0.0 r1.0, same_tail 10 10 xs ys r1.1)
lines_apart (witness k q) (witness k' q') xs ys e =
    let u = tails_same (witness k q) (witness k' q') (10 ∷ xs) (10 ∷ ys) refl e in
    let r0 = number_apart k k' (spaced_node q ++ (10 ∷ xs)) (spaced_node q' ++ (10 ∷ ys)) refl refl (spaced _ _ u) in
    let r1 = node_apart q q' (10 ∷ xs) (10 ∷ ys) refl refl r0.1 in
    (witness-from k k' q q' r0.0 r1.0, same_tail 10 10 xs ys r1.1)
lines_apart (replacing d k x l) (replacing d' k' x' l') xs ys e =
    let u = tails_same (replacing d k x l) (replacing d' k' x' l') (10 ∷ xs) (10 ∷ ys) refl e in
    let r0 = number_apart d d' (spaced_number k ++ (spaced_node x ++ (spaced_node l ++ (10 ∷ xs)))) (spaced_number k' ++ (spaced_node x' ++ (spaced_node l' ++ (10 ∷ ys)))) refl refl (spaced _ _ u) in
    let r1 = number_apart k k' (spaced_node x ++ (spaced_node l ++ (10 ∷ xs))) (spaced_node x' ++ (spaced_node l' ++ (10 ∷ ys))) refl refl r0.1 in
    let r2 = node_apart x x' (spaced_node l ++ (10 ∷ xs)) (spaced_node l' ++ (10 ∷ ys)) refl refl r1.1 in
    let r3 = node_apart l l' (10 ∷ xs) (10 ∷ ys) refl refl r2.1 in
    (replacing-from d d' k k' x x' l l' r0.0 r1.0 r2.0 r3.0, same_tail 10 10 xs ys r3.1)
lines_apart (array_fact p t) (array_fact p' t') xs ys e =
    let u = tails_same (array_fact p t) (array_fact p' t') (10 ∷ xs) (10 ∷ ys) refl e in
    let r0 = number_apart p p' (spaced_node t ++ (10 ∷ xs)) (spaced_node t' ++ (10 ∷ ys)) refl refl (spaced _ _ u) in
    let r1 = node_apart t t' (10 ∷ xs) (10 ∷ ys) refl refl r0.1 in
    (array_fact-from p p' t t' r0.0 r1.0, same_tail 10 10 xs ys r1.1)
lines_apart (extensionality a b) (extensionality a' b') xs ys e =
    let u = tails_same (extensionality a b) (extensionality a' b') (10 ∷ xs) (10 ∷ ys) refl e in
    let r0 = node_apart a a' (spaced_node b ++ (10 ∷ xs)) (spaced_node b' ++ (10 ∷ ys)) refl refl (spaced _ _ u) in
    let r1 = node_apart b b' (10 ∷ xs) (10 ∷ ys) refl refl r0.1 in
    (extensionality-from a a' b b' r0.0 r1.0, same_tail 10 10 xs ys r1.1)
lines_apart (field_fact p t) (field_fact p' t') xs ys e =
    let u = tails_same (field_fact p t) (field_fact p' t') (10 ∷ xs) (10 ∷ ys) refl e in
    let r0 = number_apart p p' (spaced_node t ++ (10 ∷ xs)) (spaced_node t' ++ (10 ∷ ys)) refl refl (spaced _ _ u) in
    let r1 = node_apart t t' (10 ∷ xs) (10 ∷ ys) refl refl r0.1 in
    (field_fact-from p p' t t' r0.0 r1.0, same_tail 10 10 xs ys r1.1)
lines_apart (division p a d) (division p' a' d') xs ys e =
    let u = tails_same (division p a d) (division p' a' d') (10 ∷ xs) (10 ∷ ys) refl e in
    let r0 = number_apart p p' (spaced_node a ++ (spaced_whole d ++ (10 ∷ xs))) (spaced_node a' ++ (spaced_whole d' ++ (10 ∷ ys))) refl refl (spaced _ _ u) in
    let r1 = node_apart a a' (spaced_whole d ++ (10 ∷ xs)) (spaced_whole d' ++ (10 ∷ ys)) refl refl r0.1 in
    let r2 = whole_apart d d' (10 ∷ xs) (10 ∷ ys) refl refl r1.1 in
    (division-from p p' a a' d d' r0.0 r1.0 r2.0, same_tail 10 10 xs ys r2.1)
lines_apart (product f g) (product f' g') xs ys e =
    let u = tails_same (product f g) (product f' g') (10 ∷ xs) (10 ∷ ys) refl e in
    let r0 = node_apart f f' (spaced_node g ++ (10 ∷ xs)) (spaced_node g' ++ (10 ∷ ys)) refl refl (spaced _ _ u) in
    let r1 = node_apart g g' (10 ∷ xs) (10 ∷ ys) refl refl r0.1 in
    (product-from f f' g g' r0.0 r1.0, same_tail 10 10 xs ys r1.1)
lines_apart (computing a) (computing a') xs ys e =
    let u = tails_same (computing a) (computing a') (10 ∷ xs) (10 ∷ ys) refl e in
    let r0 = node_apart a a' (10 ∷ xs) (10 ∷ ys) refl refl (spaced _ _ u) in
    (computing-from a a' r0.0, same_tail 10 10 xs ys r0.1)
lines_apart (given k) m xs ys e = let k = tags_same (given k) m (10 ∷ xs) (10 ∷ ys) e in absurd (omega (arith, k))
lines_apart (opening p a) m xs ys e = let k = tags_same (opening p a) m (10 ∷ xs) (10 ∷ ys) e in absurd (omega (arith, k))
lines_apart (choice p t) m xs ys e = let k = tags_same (choice p t) m (10 ∷ xs) (10 ∷ ys) e in absurd (omega (arith, k))
lines_apart (propagation ls ks) m xs ys e = let k = tags_same (propagation ls ks) m (10 ∷ xs) (10 ∷ ys) e in absurd (omega (arith, k))
lines_apart (linear ls ss) m xs ys e = let k = tags_same (linear ls ss) m (10 ∷ xs) (10 ∷ ys) e in absurd (omega (arith, k))
lines_apart (trichotomy a b) m xs ys e = let k = tags_same (trichotomy a b) m (10 ∷ xs) (10 ∷ ys) e in absurd (omega (arith, k))
lines_apart (instance t q) m xs ys e = let k = tags_same (instance t q) m (10 ∷ xs) (10 ∷ ys) e in absurd (omega (arith, k))
lines_apart (witness k q) m xs ys e = let k = tags_same (witness k q) m (10 ∷ xs) (10 ∷ ys) e in absurd (omega (arith, k))
lines_apart (replacing d k x l) m xs ys e = let k = tags_same (replacing d k x l) m (10 ∷ xs) (10 ∷ ys) e in absurd (omega (arith, k))
lines_apart (array_fact p t) m xs ys e = let k = tags_same (array_fact p t) m (10 ∷ xs) (10 ∷ ys) e in absurd (omega (arith, k))
lines_apart (extensionality a b) m xs ys e = let k = tags_same (extensionality a b) m (10 ∷ xs) (10 ∷ ys) e in absurd (omega (arith, k))
lines_apart (field_fact p t) m xs ys e = let k = tags_same (field_fact p t) m (10 ∷ xs) (10 ∷ ys) e in absurd (omega (arith, k))
lines_apart (division p a d) m xs ys e = let k = tags_same (division p a d) m (10 ∷ xs) (10 ∷ ys) e in absurd (omega (arith, k))
lines_apart (product f g) m xs ys e = let k = tags_same (product f g) m (10 ∷ xs) (10 ∷ ys) e in absurd (omega (arith, k))
lines_apart (computing a) m xs ys e = let k = tags_same (computing a) m (10 ∷ xs) (10 ∷ ys) e in absurd (omega (arith, k))

next_line : (l : Line) (ls : List Line) (xs : List ℕ) → lines_text (l ∷ ls) ++ xs ≡ line_text l ++ (10 ∷ (lines_text ls ++ xs))
next_line l ls xs = append_assoc (line_text l ++ (10 ∷ [])) (lines_text ls) xs ∙ append_assoc (line_text l) (10 ∷ []) (lines_text ls ++ xs)

-- no line begins as the end does
pub no_end : (l : Line) (xs ys : List ℕ) → line_text l ++ xs ≡ codes "end" ++ (10 ∷ ys) → ⊥
no_end (given k) xs ys e = eqb-false 103 101 refl (same_head 103 101 _ _ e)
no_end (opening p a) xs ys e = eqb-false 111 101 refl (same_head 111 101 _ _ e)
no_end (choice p t) xs ys e = eqb-false 99 101 refl (same_head 99 101 _ _ e)
no_end (propagation ls ks) xs ys e = eqb-false 114 101 refl (same_head 114 101 _ _ e)
no_end (linear ls ss) xs ys e = eqb-false 108 101 refl (same_head 108 101 _ _ e)
no_end (trichotomy a b) xs ys e = eqb-false 116 101 refl (same_head 116 101 _ _ e)
no_end (instance t q) xs ys e = eqb-false 105 101 refl (same_head 105 101 _ _ e)
no_end (witness k q) xs ys e = eqb-false 110 101 refl (same_head 110 101 _ _ e)
no_end (replacing d k x l) xs ys e = eqb-false 115 101 refl (same_head 115 101 _ _ e)
no_end (array_fact p t) xs ys e = eqb-false 97 101 refl (same_head 97 101 _ _ e)
no_end (extensionality a b) xs ys e = eqb-false 120 110 refl (same_head 120 110 _ _ (same_tail 101 101 _ _ e))
no_end (field_fact p t) xs ys e = eqb-false 102 101 refl (same_head 102 101 _ _ e)
no_end (division p a d) xs ys e = eqb-false 100 101 refl (same_head 100 101 _ _ e)
no_end (product f g) xs ys e = eqb-false 109 101 refl (same_head 109 101 _ _ e)
no_end (computing a) xs ys e = eqb-false 99 101 refl (same_head 99 101 _ _ e)

pub all_lines_apart : (ls ms : List Line) (xs ys : List ℕ) → lines_text ls ++ (codes "end" ++ (10 ∷ xs)) ≡ lines_text ms ++ (codes "end" ++ (10 ∷ ys)) → (ls ≡ ms) × (xs ≡ ys)
all_lines_apart [] [] xs ys e = (refl, same_tail 10 10 xs ys (append_cancel_left (codes "end") (10 ∷ xs) (10 ∷ ys) e))
all_lines_apart [] (m ∷ ms) xs ys e = absurd (no_end m (10 ∷ (lines_text ms ++ (codes "end" ++ (10 ∷ ys)))) xs (sym (next_line m ms (codes "end" ++ (10 ∷ ys))) ∙ sym e))
all_lines_apart (l ∷ ls) [] xs ys e = absurd (no_end l (10 ∷ (lines_text ls ++ (codes "end" ++ (10 ∷ xs)))) ys (sym (next_line l ls (codes "end" ++ (10 ∷ xs))) ∙ e))
all_lines_apart (l ∷ ls) (m ∷ ms) xs ys e =
    let r = lines_apart l m (lines_text ls ++ (codes "end" ++ (10 ∷ xs))) (lines_text ms ++ (codes "end" ++ (10 ∷ ys)))
    (sym (next_line l ls (codes "end" ++ (10 ∷ xs))) ∙ e ∙ next_line m ms (codes "end" ++ (10 ∷ ys))) in
    let s = all_lines_apart ls ms xs ys r.1 in
    (ap₂ (λ (x : Line) (k : List Line). x ∷ k) r.0 s.0, s.1)

cert_then : (ls : List Line) → cert_bytes ls ≡ (codes "cert 1" ++ (10 ∷ [])) ++ (lines_text ls ++ (codes "end" ++ (10 ∷ [])))
cert_then ls = append_assoc (codes "cert 1" ++ (10 ∷ [])) (lines_text ls) (codes "end" ++ (10 ∷ []))

pub certs_same : (ls ms : List Line) → cert_bytes ls ≡ cert_bytes ms → ls ≡ ms
certs_same ls ms e =
    (all_lines_apart ls ms [] [] (append_cancel_left (codes "cert 1" ++ (10 ∷ [])) _ _ (sym (cert_then ls) ∙ e ∙ cert_then ms))).0
