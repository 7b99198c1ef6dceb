-- A tree reads as its tokens.
use Rattle.std.proofs.Common.{◌≡◌, ◌≤◌, ◌+◌, refl, sym, ◌∙◌, ap, ap₂, subst, ℕ, List, [], ◌∷◌, ◌++◌, length, append_assoc, append-nil, length-append, arith}
use Rattle.ada_text.specs.declared.token.Span.{Span}
use Rattle.ada_text.specs.declared.token.Token.{Token}
use Rattle.ada_text.specs.declared.token.TokenKind.{TokenKind}
use Rattle.ada_text.specs.declared.token.TokenKind.TheVariants as kind
use Rattle.ada_syntax.specs.declared.units.SourceUnit.{SourceUnit}
use Rattle.ada_syntax.specs.Words.{Words, word_of, words}
use Rattle.ada_syntax.specs.Units.{spelled}
use Rattle.grammar_table.specs.Answers.{start, terminal_of, terminals}
use Rattle.grammar_table.specs.Parses.{Parses, Step, take, expand, right_of, taken}
use Rattle.grammar_table.specs.Productions.{productions}
use Rattle.grammar_table.specs.declared.symbols.Nonterminal.{Nonterminal}
use Rattle.grammar_table.specs.declared.symbols.Symbol.{Symbol}
use Rattle.grammar_table.specs.declared.symbols.Symbol.TheVariants.{Token as token, Phrase}
use Rattle.grammar_table.specs.declared.symbols.Terminal.{Terminal}
use Rattle.tree_parts.specs.declared.parts.Part.{Part}
use Rattle.ada_tree.specs.Made.{made, rule_at}
use Rattle.ada_tree.specs.Moves.{moves_of}
use Rattle.tree_parts.specs.Parts.{after, first, rest}
use Rattle.ada_tree.specs.Trees.{Spells, parts_of}
use Rattle.ada_tree.proofs.Arities.{arity, made_one}
use Rattle.ada_tree.proofs.Lawful.{law_at}
use Rattle.ada_tree.proofs.Texts.{Fits, Kind, symbol_text, text, texts, token_text}
use Rattle.ada_tree.proofs.Total.{arity_at, parts_for_symbols}

texts_append : (a b : List Symbol) (ps : List Part) → texts (a ++ b) ps ≡ texts a ps ++ texts b (after (length a) ps)
texts_append [] b ps = refl
texts_append (s ∷ a) b ps = ap (λ (z : Words). symbol_text s (first ps) ++ z) (texts_append a b (rest ps)) ∙ sym (append_assoc (symbol_text s (first ps)) (texts a (rest ps)) (texts b (after (length a) (rest ps))))

fits_append : (a b : List Symbol) (ps : List Part) → Fits (a ++ b) ps → Fits a ps × Fits b (after (length a) ps)
fits_append [] b ps f = (tt, f)
fits_append (s ∷ a) b ps f =
    let both = fits_append a b (rest ps) f.1 in
    ((f.0, both.0), both.1)

word_by_kind : (s : Span) (k : TokenKind) → token_text (terminal_of k) (record { kind = k; span = s }) ≡ word_of (record { kind = k; span = s }) ∷ []
word_by_kind s kind.Id = refl
word_by_kind s (kind.Number n) = refl
word_by_kind s (kind.Word w) = refl
word_by_kind s (kind.Mark m) = refl

token_word : (t : Token) (x : Terminal) → terminal_of t.kind ≡ x → token_text x t ≡ word_of t ∷ []
token_word t x e = subst (λ (y : Terminal). token_text y t ≡ word_of t ∷ []) e (word_by_kind t.span t.kind)

abbrev Reads : List Symbol → List Part → List Token → Type 0
Reads ss ps ts = Fits ss ps × (texts ss ps ≡ words ts)

reads_made : (n : Nonterminal) (k : ℕ) (ss : List Symbol) (ps : List Part) (ts : List Token) → made (rule_at k) ps ≡ first (made (rule_at k) ps) ∷ after (length (right_of productions k)) ps → (text n (first (made (rule_at k) ps)) ≡ texts (right_of productions k) ps) × Kind n (first (made (rule_at k) ps)) → Fits (right_of productions k) ps × Fits ss (after (length (right_of productions k)) ps) → texts (right_of productions k ++ ss) ps ≡ words ts → Reads (Phrase n ∷ ss) (made (rule_at k) ps) ts
reads_made n k ss ps ts one law fits is =
    let left : rest (made (rule_at k) ps) ≡ after (length (right_of productions k)) ps = ap rest one in (
      (law.1, subst (λ (l : List Part). Fits ss l) (sym left) fits.1),
      ap₂ (λ (a b : Words). a ++ b) law.0 (ap (texts ss) left) ∙ sym (texts_append (right_of productions k) ss ps) ∙ is,
    )

reads : (ss : List Symbol) (steps : List Step) (ts : List Token) → Parses productions ss steps → taken steps ≡ terminals ts → Reads ss (parts_of (moves_of steps) ts) ts
reads [] [] [] p h = (tt, refl)
reads [] [] (t ∷ ts) p h = cc
reads [] (s ∷ steps) ts p h = absurd p
reads (token x e ∷ ss) [] ts p h = absurd p
reads (token x e ∷ ss) (take u f ∷ steps) [] p h = cc
reads (token x e ∷ ss) (take u f ∷ steps) (t ∷ ts) p h =
    let is : terminal_of t.kind ≡ x = cc in
    let more : taken steps ≡ terminals ts = cc in
    let later : Reads ss (parts_of (moves_of steps) ts) ts = reads ss steps ts p.2 more in
    ((is, later.0), ap₂ (λ (a b : Words). a ++ b) (token_word t x is) later.1)
reads (token x e ∷ ss) (expand k ∷ steps) ts p h = absurd p
reads (Phrase n ∷ ss) [] ts p h = absurd p
reads (Phrase n ∷ ss) (take u f ∷ steps) ts p h = absurd p
reads (Phrase n ∷ ss) (expand k ∷ steps) ts p h =
    let ps : List Part = parts_of (moves_of steps) ts in
    let later : Reads (right_of productions k ++ ss) ps ts = reads (right_of productions k ++ ss) steps ts p.1 h in
    let all : length ps ≡ length (right_of productions k ++ ss) = parts_for_symbols (right_of productions k ++ ss) steps ts p.1 in
    let both : length (right_of productions k ++ ss) ≡ length (right_of productions k) + length ss = length-append (right_of productions k) ss in
    let same : length (right_of productions k) ≡ arity (rule_at k) = arity_at k n p.0 in
    let enough : arity (rule_at k) ≤ length ps = omega arith in
    let one : made (rule_at k) ps ≡ first (made (rule_at k) ps) ∷ after (arity (rule_at k)) ps = made_one (rule_at k) ps enough in
    let fits = fits_append (right_of productions k) ss ps later.0 in
    reads_made n k ss ps ts (subst (λ (j : ℕ). made (rule_at k) ps ≡ first (made (rule_at k) ps) ∷ after j ps) (sym same) one) (law_at k n p.0 ps fits.0) fits later.1

pub tree_spelled : (u : SourceUnit) (ts : List Token) → Spells u ts → spelled u ≡ words ts
tree_spelled u ts (steps, p, t, is) = sym (append-nil (spelled u)) ∙ subst (λ (l : List Part). texts start l ≡ words ts) is (reads start steps ts p t).1
