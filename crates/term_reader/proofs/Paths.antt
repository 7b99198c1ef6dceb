-- Where a text stands inside the brackets that are open.
use Rattle.std.proofs.Common.{◌≡◌, refl, sym, ◌∙◌, ap, subst, ℕ, suc, ◌+◌, Bool, true, false, List, [], ◌∷◌, ◌++◌, length, arith, append_assoc}
use Rattle.std.specs.Prelude.{Option, Some, None}
use Rattle.std.proofs.lemmas.Bool.{false≢true, true≢false, eqb-false}
use Rattle.std.proofs.lemmas.List.{append-nil}
use Rattle.logic_terms.specs.Node.{flag}
use Rattle.logic_terms.specs.Text.{number_text}
use Rattle.term_reader.specs.Bytes.{is_digit, first, Ends, IsWhole, IsFault}
use Rattle.term_reader.specs.Trees.{Tree, of_node, tree_text, is_of, IsOf, Build, build_text, gives, fits, wants, is_full, made, spaced, Level, level, level_text, path, is_wanted, all_wanted, IsRight, Wanted, ends_in_number, IsCut, IsAt, IsAfter}
use Rattle.term_reader.specs.declared.part.Side.{Side}
use Rattle.term_reader.proofs.Digits.{same_head, same_tail, digit_first}
use Rattle.term_reader.proofs.Skipping.{same_rest, ended_whole, bracket_whole}
use Rattle.term_reader.proofs.Spelling.{builds_same}
use Rattle.term_reader.proofs.Builds.{Branch, a_number, a_negative, a_symbol, a_bound, a_flag, of_numbers, of_truths, a_branch, view, made_right, pushed, part_wanted, filled}

-- ---- a bracket tells a branch

first_number : (n : ℕ) (xs : List ℕ) → first (number_text n ++ xs) ≡ 40 → ⊥
first_number n xs e = true≢false (sym (digit_first n xs) ∙ ap is_digit e)

first_flag : (b : Bool) (xs : List ℕ) → first (tree_text (of_node (flag b)) ++ xs) ≡ 40 → ⊥
first_flag true xs e = eqb-false 84 40 refl e
first_flag false xs e = eqb-false 70 40 refl e

text_is : (t u : Tree) (xs : List ℕ) → t ≡ u → first (tree_text t ++ xs) ≡ 40 → first (tree_text u ++ xs) ≡ 40
text_is t u xs e h = ap (λ (x : Tree). first (tree_text x ++ xs)) (sym e) ∙ h

pub branch_at : (s : Side) (t : Tree) (xs : List ℕ) → IsOf s t → first (tree_text t ++ xs) ≡ 40 → Branch s t
branch_at s t xs h f = elim (view s t h) [
  | a_number n e i g ↦ absurd (first_number n xs (text_is _ _ xs g f))
  | a_negative n e i g ↦ absurd (eqb-false 45 40 refl (text_is _ _ xs g f))
  | a_symbol n e i g ↦ absurd (eqb-false 115 40 refl (text_is _ _ xs g f))
  | a_bound n e i g ↦ absurd (eqb-false 98 40 refl (text_is _ _ xs g f))
  | a_flag b e g ↦ absurd (first_flag b xs (text_is _ _ xs g f))
  | of_numbers e g ↦ absurd (eqb-false 78 40 refl (text_is _ _ xs g f))
  | of_truths e g ↦ absurd (eqb-false 66 40 refl (text_is _ _ xs g f))
  | a_branch b ↦ b
]

-- ---- lists of parts

pub parts_end : (ts : List Tree) (c : ℕ) (xs : List ℕ) → is_digit c ≡ false → Ends (spaced ts ++ (c ∷ xs))
parts_end [] c xs h = h
parts_end (t ∷ ts) c xs h = refl

-- where a list of parts that ends with a bracket goes on after others with byte `c`
data Cut (us ts : List Tree) (c : ℕ) (xs rest : List ℕ) : Type 0 where
  goes_on : (vs : List Tree) (x : Tree) (more : List Tree) → length vs ≡ length ts → us ≡ vs ++ x ∷ more → c ≡ 32 → tree_text x ++ (spaced more ++ (41 ∷ xs)) ≡ rest → Cut us ts c xs rest
  ends_there : length us ≡ length ts → c ≡ 41 → Cut us ts c xs rest

assoc_part : (t s xs : List ℕ) → (t ++ s) ++ xs ≡ t ++ (s ++ xs)
assoc_part t s xs = append_assoc t s xs

one_more : (u t : Tree) (us ts : List Tree) (c : ℕ) (xs rest : List ℕ) → Cut us ts c xs rest → Cut (u ∷ us) (t ∷ ts) c xs rest
one_more u t us ts c xs rest k = elim k [
  | goes_on vs x more l e d f ↦ goes_on (u ∷ vs) x more (ap suc l) (ap (λ (ws : List Tree). u ∷ ws) e) d f
  | ends_there l d ↦ ends_there (ap suc l) d
]

cut_none : (us : List Tree) (c : ℕ) (xs rest : List ℕ) → spaced us ++ (41 ∷ xs) ≡ c ∷ rest → Cut us [] c xs rest
cut_none [] c xs rest e = ends_there refl (sym (same_head 41 c xs rest e))
cut_none (u ∷ us) c xs rest e =
    goes_on [] u us refl refl (sym (same_head 32 c _ rest e)) (sym (assoc_part (tree_text u) (spaced us) (41 ∷ xs)) ∙ same_tail 32 c _ rest e)

not_space : (xs ys : List ℕ) → 41 ∷ xs ≡ 32 ∷ ys → ⊥
not_space xs ys e = eqb-false 41 32 refl (same_head 41 32 xs ys e)

cut_at : (o : Build) (us ts : List Tree) (c : ℕ) (xs rest : List ℕ) → IsCut o ts c → spaced us ++ (41 ∷ xs) ≡ spaced ts ++ (c ∷ rest) → Cut us ts c xs rest
cut_at o us [] c xs rest h e = cut_none us c xs rest e
cut_at o [] (t ∷ []) c xs rest h e = absurd (not_space _ _ e)
cut_at o (u ∷ us) (t ∷ []) c xs rest h e =
    one_more u t us [] c xs rest
    (cut_none us c xs rest
    (h u (spaced us ++ (41 ∷ xs)) rest (parts_end us 41 xs refl)
    (sym (assoc_part (tree_text u) (spaced us) (41 ∷ xs)) ∙ same_tail 32 32 _ _ e ∙ assoc_part (tree_text t) [] (c ∷ rest))))
cut_at o [] (t ∷ v ∷ ts) c xs rest h e = absurd (not_space _ _ e)
cut_at o (u ∷ us) (t ∷ v ∷ ts) c xs rest h e =
    one_more u t us (v ∷ ts) c xs rest
    (cut_at o us (v ∷ ts) c xs rest h
    (same_rest u t (spaced us ++ (41 ∷ xs)) (spaced (v ∷ ts) ++ (c ∷ rest)) (parts_end us 41 xs refl) refl
    (sym (assoc_part (tree_text u) (spaced us) (41 ∷ xs)) ∙ same_tail 32 32 _ _ e ∙ assoc_part (tree_text t) (spaced (v ∷ ts)) (c ∷ rest))))

cut_space : (o : Build) (ts : List Tree) → IsCut o ts 32
cut_space o [] = λ h. refl
cut_space o (t ∷ []) = ended_whole t 32 refl
cut_space o (t ∷ u ∷ ts) = cut_space o (u ∷ ts)

cut_pushed : (o : Build) (ts : List Tree) (t : Tree) (c : ℕ) → IsWhole tree_text t c → IsCut o (ts ++ t ∷ []) c
cut_pushed o [] t c h = h
cut_pushed o (u ∷ []) t c h = h
cut_pushed o (u ∷ v ∷ ts) t c h = cut_pushed o (v ∷ ts) t c h

cut_ends : (o : Build) (ts : List Tree) (c : ℕ) (rest : List ℕ) → IsCut o ts c → ends_in_number o ≡ true → Ends (spaced ts ++ (c ∷ rest))
cut_ends o [] c rest h e = h e
cut_ends o (t ∷ ts) c rest h e = refl

-- ---- from a whole tree to the part that is to follow

pub record Inner (s : Side) (r : List ℕ) : Type 0 where
  pub tree : Tree
  pub rest : List ℕ
  pub is_right : IsOf s tree
  pub ends : Ends rest
  pub is_text : tree_text tree ++ rest ≡ r

-- a branch that goes on from a level with byte `c`
record Branched (o : Build) (ts : List Tree) (c : ℕ) (r : List ℕ) : Type 0 where
  parts : List Tree
  rest : List ℕ
  right : IsRight o parts
  full : is_full o (length parts) ≡ true
  cut : Cut parts ts c rest r

branched : (o : Build) (ts : List Tree) (c : ℕ) (r : List ℕ) → IsCut o ts c → Inner (gives o) (level_text (level o ts) ++ (c ∷ r)) → Branched o ts c r
branched o ts c r h i =
    let b : Branch (gives o) i.tree = branch_at (gives o) i.tree i.rest i.is_right (ap first i.is_text) in
    let e : build_text b.build ++ (spaced b.parts ++ (41 ∷ i.rest)) ≡ build_text o ++ (spaced ts ++ (c ∷ r)) =
    same_tail 40 40 _ _ (sym (b.is_text i.rest) ∙ i.is_text) ∙ append_assoc (build_text o) (spaced ts) (c ∷ r) in
    let k = builds_same b.build o (spaced b.parts ++ (41 ∷ i.rest)) (spaced ts ++ (c ∷ r)) b.given (parts_end b.parts 41 i.rest refl) (cut_ends o ts c r h) e in
    record {
      parts = b.parts;
      rest = i.rest;
      right = subst (λ (p : Build). IsRight p b.parts) k.0 b.right;
      full = ap (λ (p : Build). is_full p (length b.parts)) (sym k.0) ∙ b.full;
      cut = cut_at o b.parts ts c i.rest r h k.1;
    }

wanted_at : (o : Build) (ts parts vs : List Tree) (x : Tree) (more : List Tree) → IsRight o parts → length vs ≡ length ts → parts ≡ vs ++ x ∷ more → is_wanted (wants o (length ts)) x ≡ true
wanted_at o ts parts vs x more h l e =
    let k : length ts ≡ 0 + length vs = omega arith in
    part_wanted o 0 (length ts) vs x more k (ap (all_wanted o 0) (sym e) ∙ h.1)

within : (o : Build) (ts : List Tree) (s : Side) (r : List ℕ) → wants o (length ts) ≡ Some s → Inner (gives o) (level_text (level o ts) ++ (32 ∷ r)) → Inner s r
within o ts s r w i =
    let b = branched o ts 32 r (cut_space o ts) i in
    elim b.cut [
      | goes_on vs x more l e d f ↦ record {
        tree = x;
        rest = spaced more ++ (41 ∷ b.rest);
        is_right = ap (λ (z : Option Side). is_wanted z x) (sym w) ∙ wanted_at o ts b.parts vs x more b.right l e;
        ends = parts_end more 41 b.rest refl;
        is_text = f;
      }
      | ends_there l d ↦ absurd (omega arith)
    ]

path_more : (p l r : List ℕ) → (p ++ (l ++ (32 ∷ []))) ++ r ≡ p ++ (l ++ (32 ∷ r))
path_more p l r = simp append_assoc

pub inside : (ls : List Level) (whole s : Side) (t : Tree) (k r : List ℕ) → Wanted ls whole s → IsOf whole t → Ends k → tree_text t ++ k ≡ path ls ++ r → Inner s r
inside [] whole s t k r w h f e = record {
  tree = t;
  rest = k;
  is_right = ap (λ (z : Side). is_of z t) w ∙ h;
  ends = f;
  is_text = e;
}
inside (level o ts ∷ ls) whole s t k r w h f e =
    within o ts s r w.1
    (inside ls whole (gives o) t k (level_text (level o ts) ++ (32 ∷ r)) w.2 h f (e ∙ path_more (path ls) (level_text (level o ts)) r))

-- ---- from a part to a whole tree

pub record Outer (whole : Side) (front : List ℕ) : Type 0 where
  pub tree : Tree
  pub rest : List ℕ
  pub is_right : IsOf whole tree
  pub is_text : tree_text tree ≡ front ++ rest

spaced-append : (ts us : List Tree) → spaced (ts ++ us) ≡ spaced ts ++ spaced us
spaced-append [] us = refl
spaced-append (t ∷ ts) us =
    ap (λ (xs : List ℕ). 32 ∷ (tree_text t ++ xs)) (spaced-append ts us) ∙ ap (λ (xs : List ℕ). 32 ∷ xs) (sym (append_assoc (tree_text t) (spaced ts) (spaced us)))

spaced_pushed : (ts : List Tree) (t : Tree) → spaced (ts ++ t ∷ []) ≡ spaced ts ++ (32 ∷ tree_text t)
spaced_pushed ts t =
    spaced-append ts (t ∷ []) ∙ ap (λ (xs : List ℕ). spaced ts ++ (32 ∷ xs)) (append-nil (tree_text t))

regroup_level : (p b s m r : List ℕ) → p ++ (40 ∷ (b ++ ((s ++ m) ++ (41 ∷ r)))) ≡ (p ++ (40 ∷ (b ++ s))) ++ (m ++ (41 ∷ r))
regroup_level p b s m r = simp append_assoc

regroup_part : (p b s v r : List ℕ) → (p ++ (40 ∷ (b ++ (s ++ (32 ∷ v))))) ++ r ≡ (p ++ ((40 ∷ (b ++ s)) ++ (32 ∷ []))) ++ (v ++ r)
regroup_part p b s v r = simp append_assoc

level_outer : (o : Build) (ts : List Tree) (ls : List Level) (whole : Side) → IsRight o ts → ((t : Tree) → IsOf (gives o) t → Outer whole (path ls ++ tree_text t)) → Outer whole (path ls ++ level_text (level o ts))
level_outer o ts ls whole p around =
    let f = filled o ts p in
    let m = made_right o (ts ++ f.more) f.right f.full in
    let i = around (made o (ts ++ f.more)) m.right in record {
      tree = i.tree;
      rest = spaced f.more ++ (41 ∷ i.rest);
      is_right = i.is_right;
      is_text = i.is_text
          ∙ append_assoc (path ls) (tree_text (made o (ts ++ f.more))) i.rest
          ∙ ap (λ (xs : List ℕ). path ls ++ xs) (m.is_text i.rest)
          ∙ ap (λ (xs : List ℕ). path ls ++ (40 ∷ (build_text o ++ (xs ++ (41 ∷ i.rest))))) (spaced-append ts f.more)
          ∙ regroup_level (path ls) (build_text o) (spaced ts) (spaced f.more) i.rest;
    }

part_outer : (o : Build) (ts : List Tree) (ls : List Level) (v : Tree) (whole : Side) → Outer whole (path ls ++ level_text (level o (ts ++ v ∷ []))) → Outer whole (path (level o ts ∷ ls) ++ tree_text v)
part_outer o ts ls v whole i = record {
  tree = i.tree;
  rest = i.rest;
  is_right = i.is_right;
  is_text = i.is_text
      ∙ ap (λ (xs : List ℕ). (path ls ++ (40 ∷ (build_text o ++ xs))) ++ i.rest) (spaced_pushed ts v)
      ∙ regroup_part (path ls) (build_text o) (spaced ts) (tree_text v) i.rest
      ∙ sym (append_assoc (path (level o ts ∷ ls)) (tree_text v) i.rest);
}

-- a part that is to follow
pub outer : (ls : List Level) (whole s : Side) (v : Tree) → Wanted ls whole s → IsOf s v → Outer whole (path ls ++ tree_text v)
outer [] whole s v w h = record {
  tree = v;
  rest = [];
  is_right = ap (λ (z : Side). is_of z v) (sym w) ∙ h;
  is_text = sym (append-nil (tree_text v));
}
outer (level o ts ∷ ls) whole s v w h =
    part_outer o ts ls v whole (level_outer o (ts ++ v ∷ []) ls whole (pushed o ts s v w.0 w.1 h) (λ t k. outer ls whole (gives o) t w.2 k))

-- a level that is open
pub outer_level : (o : Build) (ts : List Tree) (ls : List Level) (whole : Side) → IsRight o ts → Wanted ls whole (gives o) → Outer whole (path ls ++ level_text (level o ts))
outer_level o ts ls whole p w = level_outer o ts ls whole p (λ t k. outer ls whole (gives o) t w k)

-- ---- faults

regroup_rest : (p u g r : List ℕ) → (p ++ (u ++ g)) ++ r ≡ (p ++ u) ++ (g ++ r)
regroup_rest p u g r = simp append_assoc

-- the fault of the part that is to follow is that of the whole
pub fault_of_part : (text : List ℕ) (whole s : Side) (ls : List Level) (r q : List ℕ) → IsAt text whole (Some s) ls r → IsFault (IsOf s) tree_text r q → IsFault (IsOf whole) tree_text text q
fault_of_part text whole s ls r q h f =
    let u = f.front in
    let g = f.goes in
    let i = outer ls whole s g.0 h.0 g.2 in record {
      front = path ls ++ u;
      is_front = h.1 ∙ ap (λ (xs : List ℕ). path ls ++ xs) f.is_front ∙ sym (append_assoc (path ls) u q);
      goes = (
        i.tree,
        g.1 ++ i.rest,
        i.is_right,
        i.is_text ∙ ap (λ (xs : List ℕ). (path ls ++ xs) ++ i.rest) g.3 ∙ regroup_rest (path ls) u g.1 i.rest,
      );
      stuck = λ t k rest p e x.
          let n = inside ls whole s t k (u ++ (first q ∷ rest)) h.0 p e (x ∙ append_assoc (path ls) u (first q ∷ rest)) in
          f.stuck n.tree n.rest rest n.is_right n.ends n.is_text;
    }

-- a byte that no part and no bracket goes on with
pub fault_of_level : (text : List ℕ) (whole : Side) (o : Build) (ts : List Tree) (ls : List Level) (r : List ℕ) → IsAt text whole None (level o ts ∷ ls) r → (first r ≡ 32 → wants o (length ts) ≡ None) → (first r ≡ 41 → is_full o (length ts) ≡ false) → IsFault (IsOf whole) tree_text text r
fault_of_level text whole o ts ls r h f g =
    let i = outer_level o ts ls whole h.0 h.1 in record {
      front = path ls ++ level_text (level o ts);
      is_front = h.3 ∙ sym (append_assoc (path ls) (level_text (level o ts)) r);
      goes = (i.tree, i.rest, i.is_right, i.is_text);
      stuck = λ t k rest p e x.
          let n = inside ls whole (gives o) t k (level_text (level o ts) ++ (first r ∷ rest)) h.1 p e (x ∙ append_assoc (path ls) (level_text (level o ts)) (first r ∷ rest)) in
          let b = branched o ts (first r) rest h.2 n in
          elim b.cut [
            | goes_on vs v more l d c y ↦
                false≢true (ap (λ (z : Option Side). is_wanted z v) (sym (f c)) ∙ wanted_at o ts b.parts vs v more b.right l d)
            | ends_there l c ↦ false≢true (sym (g c) ∙ ap (is_full o) (sym l) ∙ b.full)
          ];
    }

-- ---- steps

pub at_start : (text : List ℕ) (whole : Side) → IsAt text whole (Some whole) [] text
at_start text whole = (refl, refl)

-- a bracket is opened
pub opened : (text : List ℕ) (whole s : Side) (ls : List Level) (r q : List ℕ) (o : Build) → IsAt text whole (Some s) ls r → r ≡ 40 ∷ (build_text o ++ q) → gives o ≡ s → fits o ≡ true → (ends_in_number o ≡ true → is_digit (first q) ≡ false) → IsAt text whole None (level o [] ∷ ls) q
opened text whole s ls r q o h e g f n = (
  (f, refl),
  subst (λ (z : Side). Wanted ls whole z) (sym g) h.0,
  n,
  h.1 ∙ ap (λ (xs : List ℕ). path ls ++ xs) (e ∙ ap (λ (xs : List ℕ). 40 ∷ (xs ++ q)) (sym (append-nil (build_text o)))),
)

-- a part is read
pub part_read : (text : List ℕ) (whole s : Side) (ls : List Level) (r q : List ℕ) (t : Tree) → IsAt text whole (Some s) ls r → r ≡ tree_text t ++ q → IsOf s t → IsWhole tree_text t (first q) → IsAfter text whole t ls q
part_read text whole s ls r q t h e f g = (s, h.0, f, g, h.1 ∙ ap (λ (xs : List ℕ). path ls ++ xs) e)

-- a bracket is closed
pub level_closed : (text : List ℕ) (whole : Side) (o : Build) (ts : List Tree) (ls : List Level) (r q : List ℕ) → IsAt text whole None (level o ts ∷ ls) r → r ≡ 41 ∷ q → is_full o (length ts) ≡ true → IsAfter text whole (made o ts) ls q
level_closed text whole o ts ls r q h e f =
    let m = made_right o ts h.0 f in (
      gives o,
      h.1,
      m.right,
      bracket_whole (made o ts) (first q) (λ k. ap first (m.is_text k)),
      h.3 ∙ ap (λ (xs : List ℕ). path ls ++ (level_text (level o ts) ++ xs)) e
          ∙ ap (λ (xs : List ℕ). path ls ++ xs) (append_assoc (40 ∷ build_text o) (spaced ts) (41 ∷ q) ∙ sym (m.is_text q)),
    )

-- the part is one more of the level
pub part_placed : (text : List ℕ) (whole : Side) (t : Tree) (o : Build) (ts : List Tree) (ls : List Level) (r : List ℕ) → IsAfter text whole t (level o ts ∷ ls) r → IsAt text whole None (level o (ts ++ t ∷ []) ∷ ls) r
part_placed text whole t o ts ls r h =
    let w = h.1 in (
      pushed o ts h.0 t w.0 w.1 h.2,
      w.2,
      cut_pushed o ts t (first r) h.3,
      h.4 ∙ sym (regroup_part (path ls) (build_text o) (spaced ts) (tree_text t) r)
          ∙ ap (λ (xs : List ℕ). (path ls ++ (40 ∷ (build_text o ++ xs))) ++ r) (sym (spaced_pushed ts t))
          ∙ append_assoc (path ls) (level_text (level o (ts ++ t ∷ []))) r,
    )

-- the part is the whole
pub part_whole : (text : List ℕ) (whole : Side) (t : Tree) (r : List ℕ) → IsAfter text whole t [] r → IsOf whole t × IsWhole tree_text t (first r) × (text ≡ tree_text t ++ r)
part_whole text whole t r h = (ap (λ (z : Side). is_of z t) (sym h.1) ∙ h.2, h.3, h.4)

-- a part is to follow
pub part_follows : (text : List ℕ) (whole s : Side) (o : Build) (ts : List Tree) (ls : List Level) (r q : List ℕ) → IsAt text whole None (level o ts ∷ ls) r → r ≡ 32 ∷ q → wants o (length ts) ≡ Some s → IsAt text whole (Some s) (level o ts ∷ ls) q
part_follows text whole s o ts ls r q h e w = (
  (h.0, w, h.1),
  h.3 ∙ ap (λ (xs : List ℕ). path ls ++ (level_text (level o ts) ++ xs)) e ∙ sym (path_more (path ls) (level_text (level o ts)) q),
)
