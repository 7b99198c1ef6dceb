-- The tokens of what is left, after an item.
use Rattle.std.proofs.Common.{◌≡◌, ℕ, zero, suc, ◌+◌, ◌-◌, ◌<◌, ◌≤◌, Bool, true, false, List, [], ◌∷◌, ◌++◌, length, drop, Option, Some, None, Result, Ok, Err, refl, sym, ap, ◌∙◌, subst, append_assoc, append-nil, length-drop, All, arith}
use Rattle.std.specs.Prelude.{nat_eq, nat_lt, slice_index, IfSome, ◌&&◌, if◌then◌else◌}
use Rattle.std.specs.List.{starts_with, list_all}
use Rattle.ada_text.specs.declared.delimiters.Delimiter.{Delimiter}
use Rattle.ada_text.specs.declared.item.Item.{Item}
use Rattle.ada_text.specs.declared.token.Token.{Token}
use Rattle.ada_text.specs.declared.token.TokenKind.{TokenKind}
use Rattle.ada_text.specs.declared.token.TokenKind.TheVariants as kind
use Rattle.std.proofs.lemmas.List.{drop-drop}
use Rattle.std.proofs.Math.Nat.{le_refl}
use Rattle.ada_text.specs.declared.token.LexFault.{LexFault}
use Rattle.std.proofs.lemmas.Bool.{false≢true}
use Rattle.std.proofs.lemmas.Bool.Decides.{nat_tests}
use Rattle.ada_text.specs.Delimiters.{mark_among, mark_at, delimiters}
use Rattle.ada_text.specs.Bytes.{is_blank}
use Rattle.ada_text.specs.Tokens.{gap, item_at, StandsIn, AreInOrder, spelled, tokens_of, before, after_item, tokens_from}

-- the bytes that are left of an item are passed over
left-drop : (n at : ℕ) (bs : List ℕ) → n ≤ length bs → tokens_from at n bs ≡ tokens_from (at + n) 0 (drop n bs)
left-drop zero at bs h = let e : at ≡ at + zero = omega arith in ap (λ k. tokens_from k 0 bs) e
left-drop (suc n) at [] h = absurd (omega arith)
left-drop (suc n) at (b ∷ bs) h =
    let e : at + 1 + n ≡ at + suc n = omega arith in
    left-drop n (at + 1) bs (omega arith) ∙ ap (λ k. tokens_from k 0 (drop n bs)) e

suc_is : (n : ℕ) → 1 ≤ n → suc (n - 1) ≡ n
suc_is n h = omega arith

-- an item, and what follows it
pub item_more : (at : ℕ) (i : Item) (bs : List ℕ) → item_at at bs ≡ Ok i → 1 ≤ i.length → i.length ≤ length bs → tokens_from at 0 bs ≡ before (tokens_of at i) (tokens_from (at + i.length) 0 (drop i.length bs))
item_more at i [] e h within = absurd (omega arith)
item_more at i (b ∷ bs) e h within =
    let a : at + 1 + (i.length - 1) ≡ at + i.length = omega arith in
    let d : drop (i.length - 1) bs ≡ drop i.length (b ∷ bs) = ap (λ k. drop k (b ∷ bs)) (suc_is i.length h) in
    ap (λ r. after_item at r (λ left. tokens_from (at + 1) left bs)) e
    ∙ ap (before (tokens_of at i)) (left-drop (i.length - 1) (at + 1) bs (omega arith) ∙ ap (λ k. tokens_from k 0 (drop (i.length - 1) bs)) a ∙ ap (tokens_from (at + i.length) 0) d)

-- a fault ends the tokens
pub fault_ends : (at : ℕ) (f : LexFault) (bs : List ℕ) → item_at at bs ≡ Err f → 0 < length bs → tokens_from at 0 bs ≡ Err f
fault_ends at f [] e h = absurd (omega arith)
fault_ends at f (b ∷ bs) e h = ap (λ r. after_item at r (λ left. tokens_from (at + 1) left bs)) e

pub before-before : (ts us : List Token) (r : Result (List Token) LexFault) → before ts (before us r) ≡ before (ts ++ us) r
before-before ts us (Ok vs) = ap Ok (sym (append_assoc ts us vs))
before-before ts us (Err f) = refl

pub before-nil : (r : Result (List Token) LexFault) → before [] r ≡ r
before-nil (Ok vs) = refl
before-nil (Err f) = refl

pub before-end : (ts : List Token) → before ts (Ok []) ≡ Ok ts
before-end ts = ap Ok (append-nil ts)

-- a turn over an item
pub turn : (ts : List Token) (at : ℕ) (i : Item) (text rest : List ℕ) → rest ≡ drop at text → Ok i ≡ item_at at rest → 1 ≤ i.length → i.length ≤ length rest → before (ts ++ tokens_of at i) (tokens_from (at + i.length) 0 (drop (at + i.length) text)) ≡ before ts (tokens_from at 0 (drop at text))
turn ts at i text rest same e h within =
    let after : drop i.length rest ≡ drop (at + i.length) text = ap (drop i.length) same ∙ drop-drop i.length at text in
    sym (ap (λ l. before ts (tokens_from at 0 l)) (sym same)
    ∙ ap (before ts) (item_more at i rest (sym e) h within ∙ ap (λ l. before (tokens_of at i) (tokens_from (at + i.length) 0 l)) after)
    ∙ before-before ts (tokens_of at i) (tokens_from (at + i.length) 0 (drop (at + i.length) text)))

-- the bytes from a place on begin with the byte there
index_drop : (at : ℕ) (bs : List ℕ) → slice_index (drop at bs) 0 ≡ slice_index bs at
index_drop zero bs = refl
index_drop (suc n) [] = refl
index_drop (suc n) (b ∷ bs) = index_drop n bs

if_true : {A : Type 0} (t : Bool) (x y : A) → t ≡ true → (if t then x else y) ≡ x
if_true true x y e = refl
if_true false x y e = absurd (false≢true e)

blank_item : (at : ℕ) (bs : List ℕ) → is_blank (slice_index bs 0) ≡ true → item_at at bs ≡ Ok (gap 1)
unfolding item_at
blank_item at bs e = if_true (is_blank (slice_index bs 0)) (Ok (gap 1)) _ e

-- a turn over a byte of white space
pub blank_turn : (ts : List Token) (at : ℕ) (text : List ℕ) → at < length text → is_blank (slice_index text at) ≡ true → before ts (tokens_from (at + 1) 0 (drop (at + 1) text)) ≡ before ts (tokens_from at 0 (drop at text))
blank_turn ts at text h b =
    let e : Ok (gap 1) ≡ item_at at (drop at text) = sym (blank_item at (drop at text) (ap is_blank (index_drop at text) ∙ b)) in
    let some : 1 ≤ length (drop at text) = omega (arith, length-drop at text) in
    ap (λ l. before l (tokens_from (at + 1) 0 (drop (at + 1) text))) (sym (append-nil ts)) ∙ turn ts at (gap 1) text (drop at text) refl e (omega arith) some

pub turn_within : (at n : ℕ) (text rest : List ℕ) → rest ≡ drop at text → at < length text → n ≤ length rest → at + n ≤ length text
turn_within at n text rest same more within = omega (arith, ap (length {A = ℕ}) same, length-drop at text)

pub one_token : (at : ℕ) (i : Item) (k : TokenKind) → i.kind ≡ Some k → tokens_of at i ≡ record { kind = k; span = record { from = at; to = at + i.length } } ∷ []
one_token at i k e = ap (spelled (record { from = at; to = at + i.length })) e

pub no_token : (at : ℕ) (i : Item) → i.kind ≡ None → tokens_of at i ≡ []
no_token at i e = ap (spelled (record { from = at; to = at + i.length })) e

pub order_more : (from : ℕ) (ts : List Token) (at to : ℕ) → AreInOrder from ts at → at ≤ to → AreInOrder from ts to
order_more from [] at to h k = omega arith
order_more from (t ∷ ts) at to h k = (h.0, h.1, order_more t.span.to ts at to h.2 k)

-- a token that begins where the others end
pub order_push : (from : ℕ) (ts : List Token) (k : TokenKind) (at n : ℕ) → AreInOrder from ts at → 1 ≤ n → AreInOrder from (ts ++ record { kind = k; span = record { from = at; to = at + n } } ∷ []) (at + n)
order_push from [] k at n h some = (h, omega arith, le_refl (at + n))
order_push from (t ∷ ts) k at n h some = (h.0, h.1, order_push t.span.to ts k at n h.2 some)

-- the token of an item stands where the item does
pub stands : (text rest : List ℕ) (at : ℕ) (i : Item) (k : TokenKind) → rest ≡ drop at text → Ok i ≡ item_at at rest → i.kind ≡ Some k → StandsIn text (record { kind = k; span = record { from = at; to = at + i.length } })
stands text rest at i k same e is =
    let n : i.length ≡ at + i.length - at = omega arith in
    ap (item_at at) (sym same) ∙ sym e ∙ (λ j. Ok (record { kind = is j; length = n j }))

pub none_stand : (text : List ℕ) (ts : List Token) → ts ≡ [] → All (StandsIn text) ts
none_stand text ts e = subst (λ (l : List Token). All (StandsIn text) l) (sym e) (λ k d l. absurd (omega arith))

pub both : (r : Option Item) (n : ℕ) → IfSome r (λ i. 1 ≤ i.length) → IfSome r (λ i. i.length ≤ n) → IfSome r (λ i. (1 ≤ i.length) × (i.length ≤ n))
both None n h k = tt
both (Some i) n h k = (h, k)

pub and_left : (a b : Bool) → (a && b) ≡ true → a ≡ true
and_left true b e = refl
and_left false b e = absurd (false≢true e)

pub and_right : (a b : Bool) → (a && b) ≡ true → b ≡ true
and_right true b e = e
and_right false b e = absurd (false≢true e)

either_moves : (t : Bool) (i : Item) (r : Option Item) → 1 ≤ i.length → IfSome r (λ j. 1 ≤ j.length) → IfSome (if t then Some i else r) (λ j. 1 ≤ j.length)
either_moves true i r h k = h
either_moves false i r h k = k

-- each delimiter has a byte at least
marks_move : (ms : List (List ℕ × Delimiter)) (bytes : List ℕ) → list_all (λ m. nat_lt 0 (length m.0)) ms ≡ true → IfSome (mark_among ms bytes) (λ i. 1 ≤ i.length)
marks_move [] bytes e = tt
marks_move (m ∷ ms) bytes e =
    let first : nat_lt 0 (length m.0) ≡ true = and_left _ _ e in
    let some : 1 ≤ length m.0 = grind (arith, nat_tests) in
    either_moves (starts_with nat_eq bytes m.0) (record { kind = Some (kind.Mark m.1); length = length m.0 }) (mark_among ms bytes) some (marks_move ms bytes (and_right _ _ e))

pub mark_moves : (bytes : List ℕ) → IfSome (mark_at bytes) (λ i. 1 ≤ i.length)
unfolding mark_at delimiters
mark_moves bytes = marks_move delimiters bytes refl
