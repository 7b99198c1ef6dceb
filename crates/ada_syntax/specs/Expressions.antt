-- What expressions read as (Ada RM 4).
use Rattle.std.specs.Prelude.{Bool, true, false, List, [], ◌∷◌, ◌++◌, Option}
use Rattle.ada_text.specs.declared.reserved.Reserved.TheVariants as res
use Rattle.ada_text.specs.declared.delimiters.Delimiter.TheVariants as del
use Rattle.ada_syntax.specs.declared.expressions.Arg.{Arg}
use Rattle.ada_syntax.specs.declared.expressions.ArgChoice.{ArgChoice}
use Rattle.ada_syntax.specs.declared.expressions.ArgChoice.TheVariants as choice'
use Rattle.ada_syntax.specs.declared.expressions.Arm.{Arm}
use Rattle.ada_syntax.specs.declared.expressions.Attribute.{Attribute}
use Rattle.ada_syntax.specs.declared.expressions.Attribute.TheVariants as attribute'
use Rattle.ada_syntax.specs.declared.expressions.BinaryOperator.{BinaryOperator}
use Rattle.ada_syntax.specs.declared.expressions.BinaryOperator.TheVariants as binary'
use Rattle.ada_syntax.specs.declared.expressions.Expr.{Expr, fold-Expr}
use Rattle.ada_syntax.specs.declared.expressions.Expr.TheOpen.{Expr-F}
use Rattle.ada_syntax.specs.declared.expressions.ExprNode.{ExprNode}
use Rattle.ada_syntax.specs.declared.expressions.ExprNode.TheVariants as node'
use Rattle.ada_syntax.specs.declared.expressions.Item.{Item}
use Rattle.ada_syntax.specs.declared.expressions.ItemForm.{ItemForm}
use Rattle.ada_syntax.specs.declared.expressions.ItemForm.TheVariants as item'
use Rattle.ada_syntax.specs.declared.expressions.Name.{Name}
use Rattle.ada_syntax.specs.declared.expressions.Quantifier.{Quantifier}
use Rattle.ada_syntax.specs.declared.expressions.Quantifier.TheVariants as quantifier'
use Rattle.ada_syntax.specs.declared.expressions.Range.{Range}
use Rattle.ada_syntax.specs.declared.expressions.Suffix.{Suffix}
use Rattle.ada_syntax.specs.declared.expressions.Suffix.TheVariants as suffix'
use Rattle.ada_syntax.specs.declared.expressions.UnaryOperator.{UnaryOperator}
use Rattle.ada_syntax.specs.declared.expressions.UnaryOperator.TheVariants as unary'
use Rattle.ada_syntax.specs.Words.{Words, each, id, number, separated, symbol, where_some, word}

abbrev pub unary_operator : UnaryOperator → Words
unary_operator unary'.Plus = symbol del.Plus
unary_operator unary'.Minus = symbol del.Minus
unary_operator unary'.Abs = word res.Abs
unary_operator unary'.Not = word res.Not

abbrev pub binary_operator : BinaryOperator → Words
binary_operator binary'.And = word res.And
binary_operator binary'.AndThen = word res.And ++ word res.Then
binary_operator binary'.Or = word res.Or
binary_operator binary'.OrElse = word res.Or ++ word res.Else
binary_operator binary'.Xor = word res.Xor
binary_operator binary'.Equal = symbol del.Equal
binary_operator binary'.NotEqual = symbol del.NotEqual
binary_operator binary'.Less = symbol del.Less
binary_operator binary'.AtMost = symbol del.AtMost
binary_operator binary'.Greater = symbol del.Greater
binary_operator binary'.AtLeast = symbol del.AtLeast
binary_operator binary'.Add = symbol del.Plus
binary_operator binary'.Subtract = symbol del.Minus
binary_operator binary'.Multiply = symbol del.Star
binary_operator binary'.Divide = symbol del.Slash
binary_operator binary'.Mod = word res.Mod
binary_operator binary'.Rem = word res.Rem
binary_operator binary'.Power = symbol del.DoubleStar

abbrev pub quantifier : Quantifier → Words
quantifier quantifier'.All = word res.All
quantifier quantifier'.Some = word res.Some

-- Below, `f` is what the expressions inside read as.

abbrev pub range : {E : Type 0} → (E → Words) → Range E → Words
range f r = f r.low ++ where_some (λ h. symbol del.DoubleDot ++ f h) r.high

abbrev pub arm : {E : Type 0} → (E → Words) → Arm E → Words
arm f a = f a.condition ++ word res.Then ++ f a.gives

abbrev pub item_form : {E : Type 0} → (E → Words) → ItemForm E → Words
item_form f (item'.Plain e) = f e
item_form f (item'.If as' e) = word res.If ++ separated (word res.Elsif) (arm f) as' ++ where_some (λ x. word res.Else ++ f x) e
item_form f (item'.Quantified q n r p) = word res.For ++ quantifier q ++ id n ++ word res.In ++ range f r ++ symbol del.Arrow ++ f p

abbrev pub item_words : {E : Type 0} → (E → Words) → Item E → Words
item_words f i = item_form f i.form

abbrev pub arg_choice : {E : Type 0} → (E → Words) → ArgChoice E → Words
arg_choice f choice'.Others = word res.Others
arg_choice f (choice'.Item i) = item_words f i
arg_choice f (choice'.Range l h) = f l ++ symbol del.DoubleDot ++ f h

-- a value after `=>`
abbrev pub given_item : {E : Type 0} → (E → Words) → Option (Item E) → Words
given_item f = where_some (λ i. symbol del.Arrow ++ item_words f i)

abbrev pub arg : {E : Type 0} → (E → Words) → Arg E → Words
arg f a = arg_choice f a.choice ++ given_item f a.value

abbrev pub group : {E : Type 0} → (E → Words) → List (Arg E) → Words
group f as' = symbol del.Open ++ separated (symbol del.Comma) (arg f) as' ++ symbol del.Close

abbrev pub attribute : {E : Type 0} → (E → Words) → Attribute E → Words
attribute f (attribute'.Named n) = id n
attribute f attribute'.Range = word res.Range
attribute f (attribute'.Qualified as') = group f as'

abbrev pub suffix : {E : Type 0} → (E → Words) → Suffix E → Words
suffix f (suffix'.Selected n) = symbol del.Dot ++ id n
suffix f (suffix'.Ticked p a) = symbol del.Tick ++ attribute f a
suffix f (suffix'.Applied as') = group f as'

abbrev pub name : {E : Type 0} → (E → Words) → Name E → Words
name f n = id n.first ++ each (suffix f) n.suffixes

-- `in`, or `not in` for true
abbrev pub member : Bool → Words
member false = word res.In
member true = word res.Not ++ word res.In

abbrev pub expr_node : {E : Type 0} → (E → Words) → ExprNode E → Words
expr_node f (node'.Number n) = number n ∷ []
expr_node f node'.Null = word res.Null
expr_node f (node'.Name n) = name f n
expr_node f (node'.Group as') = group f as'
expr_node f (node'.Unary p o a) = unary_operator o ++ f a
expr_node f (node'.Binary p o a b) = f a ++ binary_operator o ++ f b
expr_node f (node'.Member p n a r) = f a ++ member n ++ range f r

abbrev pub expr_step : Expr-F Words → Words
expr_step e = expr_node (λ w. w) e.node

-- an expression
abbrev pub expr : Expr → Words
expr = fold-Expr Words expr_step
