-- One step of a run.
use Rattle.std.proofs.Common.{◌≡◌, ℕ, zero, suc, ◌+◌, ◌<◌, Bool, true, false, List, [], ◌∷◌, ◌++◌, Option, Some, None, drop, refl, sym, ap, ◌∙◌, subst, arith}
use Rattle.std.specs.Prelude.{map, nat_le, if◌then◌else◌, IsTrue, ◌↔◌, nat_eq}
use Rattle.std.specs.List.{slice_get}
use Rattle.std.proofs.lemmas.Bool.Decides.{nat_tests}
use Rattle.std.specs.Borrow.{Bor}
use denote.Enum.Declared.{tag_of, rowss}
use denote.Enum.Bare.{tag_one}
use denote.Enum.Enum.{tag_below}
use Rattle.ada_text.specs.declared.reserved.Reserved.{Reserved}
use Rattle.ada_text.specs.contracts.delimiters.Delimiter as delimiter
use Rattle.ada_text.specs.contracts.reserved.Reserved as reserved
use Rattle.grammar_table.specs.declared.productions.Head.{Head}
use Rattle.grammar_table.specs.declared.symbols.Construct.{Construct}
use Rattle.grammar_table.specs.declared.symbols.Effect.{Effect}
use Rattle.grammar_table.specs.declared.symbols.Nonterminal.{Nonterminal}
use Rattle.grammar_table.specs.declared.symbols.Symbol.{Symbol}
use Rattle.grammar_table.specs.declared.symbols.Symbol.TheVariants.{Token, Phrase}
use Rattle.grammar_table.specs.declared.symbols.Terminal.{Terminal}
use Rattle.grammar_table.specs.declared.symbols.Terminal.TheVariants.{Identifier, Number, Word, Mark}
use Rattle.grammar_table.specs.Answers.{start, GoesOn, Derives}
use Rattle.grammar_table.specs.Choices.{place, predict}
use Rattle.grammar_table.specs.Levels.{rank, closed}
use Rattle.grammar_table.specs.Parses.{right_of}
use Rattle.grammar_table.specs.Productions.{production, productions}
use Rattle.grammar_table.specs.Runs.{Reached, Settles, IsSettled, and_then}
use Rattle.grammar_table.proofs.Laws.{own, lead_falls}
use Rattle.grammar_table.proofs.Reaching.{reached_start, reached_expand, no_production, no_token, no_more, derived}
use Rattle.grammar_table.proofs.Weights.{lead}

-- closing levels
above : (m n : ℕ) → n < m → nat_le m n ≡ false
above m n h = grind (arith, nat_tests)

same_first : (o c : Construct) → Path (Option Construct) (Some c) (Some o) → o ≡ c
same_first o c e = cc

pub closed_stays : (limit : Construct) (os : List Construct) (c : Construct) → Some c ≡ slice_get os 0 → rank limit < rank c → closed limit os ≡ os
closed_stays limit [] c e h = refl
closed_stays limit (o ∷ os) c e h =
    let higher : rank limit < rank o = subst (λ (d : Construct). rank limit < rank d) (sym (same_first o c e)) h in
    ap (λ b. if b then closed limit os else o ∷ os) (above (rank o) (rank limit) higher)

pub closed_none : (limit : Construct) (os : List Construct) → None ≡ slice_get os 0 → closed limit os ≡ os
closed_none limit [] e = refl
closed_none limit (o ∷ os) e = cc

-- places tell tokens apart
apart : (t u : ℕ) → t < 73 → 3 + t ≡ 76 + u → ⊥
apart t u h e = omega arith

low_word : (w : Reserved) → tag_of reserved.the_type w < 73
low_word w = tag_below (rowss reserved.the_type.parts) (reserved.the_type.to w)

more : (k t u : ℕ) → k + t ≡ k + u → t ≡ u
more k t u e = omega arith

not_word : (k t : ℕ) → k < 3 → k ≡ 3 + t → ⊥
not_word k t h e = omega arith

not_mark : (k t : ℕ) → k < 3 → k ≡ 76 + t → ⊥
not_mark k t h e = omega arith

pub place_one : (a b : Terminal) → place (Some a) ≡ place (Some b) → a ≡ b
place_one Identifier Identifier e = refl
place_one Identifier Number e = absurd (omega arith)
place_one Identifier (Word w) e = absurd (not_word 1 (tag_of reserved.the_type w) (omega arith) e)
place_one Identifier (Mark m) e = absurd (not_mark 1 (tag_of delimiter.the_type m) (omega arith) e)
place_one Number Identifier e = absurd (omega arith)
place_one Number Number e = refl
place_one Number (Word w) e = absurd (not_word 2 (tag_of reserved.the_type w) (omega arith) e)
place_one Number (Mark m) e = absurd (not_mark 2 (tag_of delimiter.the_type m) (omega arith) e)
place_one (Word w) Identifier e = absurd (not_word 1 (tag_of reserved.the_type w) (omega arith) (sym e))
place_one (Word w) Number e = absurd (not_word 2 (tag_of reserved.the_type w) (omega arith) (sym e))
place_one (Word w) (Word v) e = ap Word (tag_one reserved.the_type tt w v (more 3 (tag_of reserved.the_type w) (tag_of reserved.the_type v) e))
place_one (Word w) (Mark m) e = absurd (apart (tag_of reserved.the_type w) (tag_of delimiter.the_type m) (low_word w) e)
place_one (Mark m) Identifier e = absurd (not_mark 1 (tag_of delimiter.the_type m) (omega arith) (sym e))
place_one (Mark m) Number e = absurd (not_mark 2 (tag_of delimiter.the_type m) (omega arith) (sym e))
place_one (Mark m) (Word w) e = absurd (apart (tag_of reserved.the_type w) (tag_of delimiter.the_type m) (low_word w) (sym e))
place_one (Mark m) (Mark n) e = ap Mark (tag_one delimiter.the_type tt m n (more 76 (tag_of delimiter.the_type m) (tag_of delimiter.the_type n) e))

tested : (m n : ℕ) → nat_eq m n ≡ true → m ≡ n
tested m n e = grind (arith, nat_tests)

passes : (m n : ℕ) → m ≡ n → nat_eq m n ≡ true
passes m n e = grind (arith, nat_tests)

pub same_place : (a b : Terminal) (m n : ℕ) → m ≡ place (Some a) → n ≡ place (Some b) → IsTrue (nat_eq m n) ↔ (a ≡ b)
same_place a b m n p q = (
  λ h. place_one a b (sym p ∙ tested m n h ∙ q),
  λ e. passes m n (p ∙ ap (λ (x : Terminal). place (Some x)) e ∙ sym q),
)

-- rows of the table
pub right_some : (rs : List (Head × Bor (List Symbol))) (k : ℕ) (r : Head × Bor (List Symbol)) → Some r ≡ slice_get rs k → r.1.now ≡ right_of (map (λ r. production r.0.left r.1.now) rs) k
right_some [] k r e = cc
right_some (q ∷ rs) zero r e = let same : r ≡ q = cc in ap (λ (x : Head × Bor (List Symbol)). x.1.now) same
right_some (q ∷ rs) (suc k) r e = right_some rs k r e

pub right_none : (rs : List (Head × Bor (List Symbol))) (k : ℕ) → None ≡ slice_get rs k → [] ≡ right_of (map (λ r. production r.0.left r.1.now) rs) k
right_none [] k e = refl
right_none (q ∷ rs) zero e = cc
right_none (q ∷ rs) (suc k) e = right_none rs k e

-- a first run
pub first_run : (ns : List ℕ) (os : List Construct) (ss : List Symbol) → ns ≡ [] → os ≡ [] → ss ≡ start → Reached [] [] ns os ss
first_run ns os ss a b c =
    subst (λ (l : List ℕ). Reached [] [] l os ss) (sym a) (subst (λ (l : List Construct). Reached [] [] [] l ss) (sym b) (subst (λ (l : List Symbol). Reached [] [] [] [] l) (sym c) reached_start))

-- replacing a phrase
pub first_split : (ss : List Symbol) (s : Symbol) → Some s ≡ slice_get ss 0 → ss ≡ s ∷ drop 1 ss
first_split [] s e = cc
first_split (x ∷ ss) s e = let same : x ≡ s = cc in ap (λ (y : Symbol). y ∷ ss) same

phrase_split : (ss : List Symbol) (s : Symbol) (n : Nonterminal) → Some s ≡ slice_get ss 0 → s ≡ Phrase n → ss ≡ Phrase n ∷ drop 1 ss
phrase_split ss s n e is = first_split ss s e ∙ ap (λ (x : Symbol). x ∷ drop 1 ss) is

pub settle_falls : (ss new : List Symbol) (s : Symbol) (n : Nonterminal) (a : Option Terminal) (k : ℕ) → Some s ≡ slice_get ss 0 → s ≡ Phrase n → Some k ≡ predict n a → new ≡ right_of productions k ++ drop 1 ss → lead new < lead ss
settle_falls ss new s n a k first is choice e =
    subst (λ (l : List Symbol). lead new < lead l) (sym (phrase_split ss s n first is)) (subst (λ (l : List Symbol). lead l < lead (Phrase n ∷ drop 1 ss)) (sym e) (lead_falls n k (drop 1 ss) (own n (place a) k (sym choice))))

pub settle_more : (ts : List Terminal) (a : Option Terminal) (ns ms : List ℕ) (os ps : List Construct) (ss new : List Symbol) (s : Symbol) (n : Nonterminal) (k : ℕ) → Some s ≡ slice_get ss 0 → s ≡ Phrase n → Some k ≡ predict n a → new ≡ right_of productions k ++ drop 1 ss → ms ≡ ns ++ k ∷ [] → ps ≡ os → Reached (and_then ts a) ts ns os ss → Reached (and_then ts a) ts ms ps new
settle_more ts a ns ms os ps ss new s n k first is choice e numbers levels r =
    let before : Reached (and_then ts a) ts ns os (Phrase n ∷ drop 1 ss) = subst (λ (l : List Symbol). Reached (and_then ts a) ts ns os l) (phrase_split ss s n first is) r in
    subst (λ (l : List ℕ). Reached (and_then ts a) ts l ps new) (sym numbers) (subst (λ (l : List Construct). Reached (and_then ts a) ts (ns ++ k ∷ []) l new) (sym levels) (subst (λ (l : List Symbol). Reached (and_then ts a) ts (ns ++ k ∷ []) os l) (sym e) (reached_expand ts a ns os n (drop 1 ss) k (sym choice) before)))

pub settle_none : (ts : List Terminal) (a : Option Terminal) (ns : List ℕ) (os : List Construct) (ss : List Symbol) (s : Symbol) (n : Nonterminal) → Some s ≡ slice_get ss 0 → s ≡ Phrase n → None ≡ predict n a → Reached (and_then ts a) ts ns os ss → GoesOn productions (and_then ts a) → ⊥
settle_none ts a ns os ss s n first is choice r =
    no_production ts a ns os n (drop 1 ss) (sym choice) (subst (λ (l : List Symbol). Reached (and_then ts a) ts ns os l) (phrase_split ss s n first is) r)

-- what stands first where no phrase does
pub settled_no : (b : Bool) (ts : List Terminal) (a : Option Terminal) (ns : List ℕ) (os : List Construct) (ss : List Symbol) → b ≡ false → Settles b ts a ns os ss → GoesOn productions (and_then ts a) → ⊥
settled_no true ts a ns os ss e h = cc
settled_no false ts a ns os ss e h = h

pub settled_yes : (b : Bool) (ts : List Terminal) (a : Option Terminal) (ns : List ℕ) (os : List Construct) (ss : List Symbol) → b ≡ true → Settles b ts a ns os ss → Reached (and_then ts a) ts ns os ss × IsSettled ss
settled_yes true ts a ns os ss e h = h
settled_yes false ts a ns os ss e h = cc

same_token : (t u : Terminal) → Path (Option Terminal) (Some t) (Some u) → u ≡ t
same_token t u e = cc

end_token : (t : Terminal) → Path (Option Terminal) None (Some t) → ⊥
end_token t e = cc

token_end : (t : Terminal) → Path (Option Terminal) (Some t) None → ⊥
token_end t e = cc

pub not_first : (ts : List Terminal) (t : Terminal) (ns : List ℕ) (os : List Construct) (ss : List Symbol) → Reached (and_then ts (Some t)) ts ns os ss × IsSettled ss → ((e : Effect) → slice_get ss 0 ≡ Some (Token t e) → ⊥) → GoesOn productions (and_then ts (Some t)) → ⊥
not_first ts t ns os [] r f = no_more ts (Some t) ns os (token_end t) r.0
not_first ts t ns os (Token u d ∷ ss) r f = no_token ts (Some t) ns os u d ss (λ e. f d (ap (λ (x : Terminal). Some (Token x d)) (same_token t u e))) r.0
not_first ts t ns os (Phrase n ∷ ss) r f = absurd r.1

pub left_over : (ts : List Terminal) (ns : List ℕ) (os : List Construct) (ss : List Symbol) (s : Symbol) → Reached (and_then ts None) ts ns os ss × IsSettled ss → Some s ≡ slice_get ss 0 → GoesOn productions (and_then ts None) → ⊥
left_over ts ns os [] s r e = cc
left_over ts ns os (Token u d ∷ ss) s r e = no_token ts None ns os u d ss (end_token u) r.0
left_over ts ns os (Phrase n ∷ ss) s r e = absurd r.1

pub nothing_left : (ts : List Terminal) (ns : List ℕ) (os : List Construct) (ss : List Symbol) → Reached (and_then ts None) ts ns os ss → None ≡ slice_get ss 0 → Derives productions ts ns
nothing_left ts ns os [] r e = derived (and_then ts None) ts ns os r
nothing_left ts ns os (s ∷ ss) r e = cc

-- a token that stands first is taken away
pub taken_first : (ts : List Terminal) (t : Terminal) (ns : List ℕ) (os : List Construct) (ss new : List Symbol) (d : Effect) → slice_get ss 0 ≡ Some (Token t d) → new ≡ drop 1 ss → Reached (and_then ts (Some t)) ts ns os ss → Reached (and_then ts (Some t)) ts ns os (Token t d ∷ new)
taken_first ts t ns os ss new d e is r =
    subst (λ (l : List Symbol). Reached (and_then ts (Some t)) ts ns os l) (first_split ss (Token t d) (sym e) ∙ ap (λ (l : List Symbol). Token t d ∷ l) (sym is)) r
