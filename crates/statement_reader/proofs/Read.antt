-- What is read of the parts of statements is what the rules say of them.
use Rattle.std.proofs.Common.{◌≡◌, refl, ap, sym, ◌∙◌, ◌≤◌, ℕ, List, [], ◌∷◌, length, Option, None, arith}
use Rattle.ada_syntax.specs.declared.expressions.Expr.{Expr, out-Expr}
use Rattle.ada_syntax.specs.declared.expressions.ExprNode.TheVariants as node
use Rattle.ada_syntax.specs.declared.expressions.Name.{Name}
use Rattle.ada_syntax.specs.declared.expressions.Suffix.{Suffix}
use Rattle.ada_text.specs.declared.token.Span.{Span}
use Rattle.front_codes.specs.declared.codes.Code.{Code}
use Rattle.name_numbers.specs.declared.words.Word.{Word}
use Rattle.syntax_view.specs.Trees as tree
use Rattle.syntax_view.specs.View.{expr, suffixes_of}
use Rattle.syntax_view.proofs.Forms.{expr_has}
use Rattle.type_base.specs.declared.seen.Want.TheVariants as want
use Rattle.type_base.specs.Scope.{Scope}
use Rattle.typing_rules.specs.declared.prefix.Between.{Between}
use Rattle.typing_rules.specs.declared.prefix.Found.{Found}
use Rattle.typing_rules.specs.declared.prefix.Found.TheVariants.{Refused, Unknown, Is}
use Rattle.typing_rules.specs.Fits.{found_then}
use Rattle.typing_rules.specs.Reading as reading
use Rattle.statement_typing.specs.Asked.{of_wanted, place_of, range_seen}
use Rattle.statement_typing.specs.Aspects.{item_condition}
use Rattle.front_codes.specs.declared.codes.Code.TheVariants.{L9}
use Rattle.statement_typing.specs.Pragmas.{checked_arg, choice_word}
use Rattle.statement_rules.specs.Reads.{checked_by}
use Rattle.statement_rules.proofs.ReadParts.{checked_is}
use Rattle.statement_reader.specs.Words.{item_word, word_in}

pub begins : (c : Scope) (e : Expr) → c.place (out-Expr e).span.from ≡ place_of c (expr e)
begins c e = ap (place_of c) (sym (expr_has e (out-Expr e).node refl))

-- a choice that is an identifier is an item that is one
pub choice_is : (w : ℕ → Option Word) (i : tree.Item) → item_word w i ≡ choice_word w (tree.part i)
choice_is w (tree.item s (tree.choose as' e)) = refl
choice_is w (tree.item s (tree.quantified q n r p)) = refl
choice_is w (tree.item s (tree.plain (tree.at t (tree.number n)))) = refl
choice_is w (tree.item s (tree.plain (tree.at t tree.null))) = refl
choice_is w (tree.item s (tree.plain (tree.at t (tree.name (tree.named u n tree.no_suffixes))))) = refl
choice_is w (tree.item s (tree.plain (tree.at t (tree.name (tree.named u n (tree.suffixes x xs)))))) = refl
choice_is w (tree.item s (tree.plain (tree.at t (tree.group as')))) = refl
choice_is w (tree.item s (tree.plain (tree.at t (tree.unary p o x)))) = refl
choice_is w (tree.item s (tree.plain (tree.at t (tree.binary p o x y)))) = refl
choice_is w (tree.item s (tree.plain (tree.at t (tree.member p b x r)))) = refl

named : (w : ℕ → Option Word) (s t f : Span) (ss : List (Suffix Expr)) → 1 ≤ length ss → None ≡ word_in w (tree.at s (tree.name (tree.named t f (suffixes_of expr ss))))
named w s t f [] h = absurd (omega arith)
named w s t f (x ∷ ss) h = refl

-- a name with suffixes is no word
pub suffixed : (w : ℕ → Option Word) (e : Expr) (n : Name Expr) → (out-Expr e).node ≡ node.Name n → 1 ≤ length n.suffixes → None ≡ word_in w (expr e)
suffixed w e n h l = named w (out-Expr e).span n.span n.first n.suffixes l ∙ ap (word_in w) (sym (expr_has e (node.Name n) h))

-- an argument with a value
pub checked_arg_is : (w : ℕ → Option Word) (c : Scope) (s : Span) (k : tree.ArgChoice) (i : tree.Item)
    → checked_arg w c (tree.arg s k (tree.value i)) ≡ checked_by (c.place s.from) (choice_word w k) (item_condition c L9 i)
checked_arg_is w c s tree.other_parts i = checked_is c (c.place s.from) (choice_word w tree.other_parts) i
checked_arg_is w c s (tree.part j) i = checked_is c (c.place s.from) (choice_word w (tree.part j)) i
checked_arg_is w c s (tree.parts l h) i = checked_is c (c.place s.from) (choice_word w (tree.parts l h)) i

-- a range of which the context wants no type is of the wanted one
wanted : (c : Scope) (r : Code) (g : tree.Range) (f : Found Between) → f ≡ found_then f (of_wanted c r want.Free g)
wanted c r g (Refused x) = refl
wanted c r g Unknown = refl
wanted c r g (Is b) = refl

pub free_range : (c : Scope) (r : Code) (g : tree.Range) → reading.range_seen c r g ≡ range_seen c r want.Free g
free_range c r g = wanted c r g (reading.range_seen c r g)
