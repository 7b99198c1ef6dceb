-- At most one answer is right for a text.
use Rattle.std.proofs.Common.{◌≡◌, ◌∙◌, ap, sym, subst, ℕ, List, length, Ok, Err}
use Rattle.ada_text.specs.declared.token.Token.{Token}
use Rattle.ada_text.specs.declared.token.LexFault.{LexFault}
use Rattle.ada_text.specs.Tokens.{tokens_in}
use Rattle.grammar_table.specs.declared.answers.Derivation.{Derivation}
use Rattle.grammar_table.specs.Answers.{terminals, IsFault}
use Rattle.grammar_table.specs.Productions.{productions}
use Rattle.grammar_table.proofs.Only.{only_answer}
use Rattle.ada_syntax.specs.declared.units.SourceUnit.{SourceUnit}
use Rattle.ada_tree.specs.Trees.{Spells}
use Rattle.ada_tree.proofs.OneTree.{one_tree as one_spelled}
use Rattle.grammar_table.specs.declared.answers.SyntaxFault.{SyntaxFault}
use Rattle.spark_reader.specs.Reads.{Reads, Refuses, token_of, token_place}
use Rattle.spark_reader.specs.declared.refusal.ReadRefusal.{ReadRefusal}
use Rattle.spark_reader.specs.declared.refusal.ReadRefusal.TheVariants.{Lex, Syntax, Starved}

pub one_tree : (text : List ℕ) (u v : SourceUnit) → Reads text u → Reads text v → u ≡ v
one_tree text u v a b =
    let same : b.0 ≡ a.0 = let e : Ok b.0 ≡ Ok a.0 = sym b.2 ∙ a.2 in cc in
    one_spelled u v a.0 a.4 (subst (λ (ts : List Token). Spells v ts) same b.4)

same_tokens : (text : List ℕ) (ts us : List Token) → tokens_in text ≡ Ok ts → tokens_in text ≡ Ok us → us ≡ ts
same_tokens text ts us a b = let e : Ok us ≡ Ok ts = sym b ∙ a in cc

no_tokens : (text : List ℕ) (ts : List Token) (f : LexFault) → tokens_in text ≡ Ok ts → tokens_in text ≡ Err f → ⊥
no_tokens text ts f a b = let e : Ok ts ≡ Err f = sym a ∙ b in cc

abbrev derivation : List ℕ → Derivation
derivation d = record { productions = d }

pub not_both : (text : List ℕ) (u : SourceUnit) (r : ReadRefusal) → Reads text u → Refuses text r → ⊥
not_both text u (Lex f) a b = no_tokens text a.0 f a.2 b
not_both text u (Syntax f at) a b =
    let same = same_tokens text a.0 b.0 a.2 b.1 in
    let e : Ok (derivation a.1) ≡ Err f = only_answer (terminals a.0) (Ok (derivation a.1)) (Err f) a.3 (subst (λ (ts : List Token). IsFault productions (terminals ts) f) same b.2) in cc
not_both text u Starved a b = b

pub one_refusal : (text : List ℕ) (r s : ReadRefusal) → Refuses text r → Refuses text s → r ≡ s
one_refusal text (Lex f) (Lex g) a b = let e : Err f ≡ Err g = sym a ∙ b in cc
one_refusal text (Lex f) (Syntax g at) a b = absurd (no_tokens text b.0 f b.1 a)
one_refusal text (Syntax f at) (Lex g) a b = absurd (no_tokens text a.0 g a.1 b)
one_refusal text (Syntax f at) (Syntax g to) a b =
    let same = same_tokens text a.0 b.0 a.1 b.1 in
    let e : Err f ≡ Err g = only_answer (terminals a.0) (Err f) (Err g) a.2 (subst (λ (ts : List Token). IsFault productions (terminals ts) g) same b.2) in
    let fault : f ≡ g = cc in
    let place : at ≡ to = a.3 ∙ ap (λ (x : SyntaxFault). token_place a.0 (token_of x) (length text)) fault ∙ ap (λ (ts : List Token). token_place ts (token_of g) (length text)) (sym same) ∙ sym b.3 in
    ap (λ (x : SyntaxFault). Syntax x at) fault ∙ ap (λ (k : ℕ). Syntax g k) place
one_refusal text Starved s a b = absurd a
one_refusal text r Starved a b = absurd b
