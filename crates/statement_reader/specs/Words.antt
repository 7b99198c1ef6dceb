-- Words that stand alone.
use Rattle.std.specs.Prelude.{ℕ, Option, None}
use Rattle.name_numbers.specs.declared.words.Word.{Word}
use Rattle.syntax_view.specs.Trees as tree

-- the word of an expression that is an identifier
abbrev pub word_in : (ℕ → Option Word) → tree.Expr → Option Word
word_in word (tree.at t (tree.name (tree.named u n tree.no_suffixes))) = word n.from
word_in word _ = None

abbrev pub item_word : (ℕ → Option Word) → tree.Item → Option Word
item_word word (tree.item s (tree.plain e)) = word_in word e
item_word word _ = None
