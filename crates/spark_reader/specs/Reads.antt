-- What it is that a text is read, or refused.
use Rattle.std.specs.Prelude.{◌≡◌, ℕ, List, length, Option, Some, None, Result, Ok, Err}
use Rattle.std.specs.List.{slice_get}
use Rattle.ada_text.specs.declared.token.Token.{Token}
use Rattle.ada_text.specs.declared.token.LexFault.{LexFault}
use Rattle.ada_text.specs.declared.token.LexFault.TheVariants as lex
use Rattle.ada_text.specs.Tokens.{tokens_in}
use Rattle.grammar_table.specs.declared.answers.SyntaxFault.{SyntaxFault}
use Rattle.grammar_table.specs.declared.answers.SyntaxFault.TheVariants as syntax
use Rattle.grammar_table.specs.Answers.{terminals, Derives, IsFault}
use Rattle.grammar_table.specs.Productions.{productions}
use Rattle.ada_syntax.specs.declared.units.SourceUnit.{SourceUnit}
use Rattle.ada_tree.specs.Trees.{Spells}
use Rattle.spark_reader.specs.declared.refusal.ReadRefusal.{ReadRefusal}
use Rattle.spark_reader.specs.declared.refusal.ReadRefusal.TheVariants.{Lex, Syntax, Starved}

-- the text has tokens which this tree spells, and which nest no deeper than 200 levels
abbrev pub Reads : List ℕ → SourceUnit → Type 0
Reads text u = (ts : List Token) × (d : List ℕ) × (tokens_in text ≡ Ok ts) × Derives productions (terminals ts) d × Spells u ts

-- where a token begins, or the end where there is none
abbrev pub begins_at : Option Token → ℕ → ℕ
begins_at (Some t) end = t.span.from
begins_at None end = end

-- where the token of this number begins; after the last one comes the end
abbrev pub token_place : List Token → ℕ → ℕ → ℕ
token_place ts k end = begins_at (slice_get ts k) end

abbrev pub lex_place : LexFault → ℕ
lex_place (lex.BadByte at) = at
lex_place (lex.BadNumber at) = at
lex_place (lex.TooWide at) = at
lex_place lex.Starved = 0

abbrev pub token_of : SyntaxFault → ℕ
token_of (syntax.Unexpected k) = k
token_of (syntax.TooDeep k) = k
token_of syntax.Starved = 0

-- the first fault of the text is this: that of its tokens, or where these have none that of the grammar, with the place
-- where its token begins
abbrev pub Refuses : List ℕ → ReadRefusal → Type 0
Refuses text (Lex f) = tokens_in text ≡ Err f
Refuses text (Syntax f at) = (ts : List Token) × (tokens_in text ≡ Ok ts) × IsFault productions (terminals ts) f × (at ≡ token_place ts (token_of f) (length text))
Refuses text Starved = ⊥

abbrev pub place_among : Result (List Token) LexFault → ℕ → ℕ → ℕ
place_among (Ok ts) k end = token_place ts k end
place_among (Err f) k end = end

-- where the token of a number begins in a text
abbrev pub place_of_token : List ℕ → ℕ → ℕ
place_of_token text k = place_among (tokens_in text) k (length text)

-- the place of a refusal, in bytes from 0
abbrev pub place_of : List ℕ → ReadRefusal → ℕ
place_of text (Lex f) = lex_place f
place_of text (Syntax f at) = place_of_token text (token_of f)
place_of text Starved = 0

-- and that which a refusal tells
abbrev pub told_place : ReadRefusal → ℕ
told_place (Lex f) = lex_place f
told_place (Syntax f at) = at
told_place Starved = 0

-- want of memory is one answer, wherever it came
abbrev pub of_lex : LexFault → ReadRefusal
of_lex lex.Starved = Starved
of_lex f = Lex f

abbrev pub of_syntax : SyntaxFault → ℕ → ReadRefusal
of_syntax syntax.Starved at = Starved
of_syntax f at = Syntax f at
