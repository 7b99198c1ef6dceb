-- What an expression reads as, by its form.
use Rattle.std.proofs.Common.{◌≡◌, refl, ◌∙◌, ap, ap₂, List, [], ◌∷◌, ◌++◌, map, Option, Some, None}
use Rattle.ada_text.specs.declared.token.Span.{Span}
use Rattle.ada_text.specs.declared.delimiters.Delimiter.TheVariants as del
use Rattle.ada_syntax.specs.declared.expressions.ArgChoice.{ArgChoice}
use Rattle.ada_syntax.specs.declared.expressions.ArgChoice.TheVariants as cho
use Rattle.ada_syntax.specs.declared.expressions.Item.{Item}
use Rattle.ada_syntax.specs.declared.expressions.ItemForm.{ItemForm}
use Rattle.ada_syntax.specs.declared.expressions.ItemForm.TheVariants as itm
use Rattle.ada_syntax.specs.declared.expressions.Suffix.{Suffix}
use Rattle.ada_syntax.specs.declared.expressions.Suffix.TheVariants as suf
use Rattle.ada_syntax.specs.declared.expressions.Attribute.TheVariants as att
use Rattle.ada_syntax.specs.declared.expressions.ExprNode.{ExprNode}
use Rattle.ada_syntax.specs.declared.expressions.ExprNode.TheVariants as node
use Rattle.ada_syntax.specs.declared.expressions.Expr.{Expr, roll-Expr, map-Expr, fold-roll-Expr}
use Rattle.ada_syntax.specs.declared.expressions.Expr.TheShapes as shapes
use Rattle.ada_text.specs.declared.reserved.Reserved.TheVariants as res
use Rattle.ada_syntax.specs.Words.{Words, each, separated, symbol, word, id}
use Rattle.ada_syntax.specs.Expressions.{expr, expr_node, expr_step, suffix, arg, item_words, item_form}

pub each_map : {A B : Type 0} (m : A → B) (f : B → Words) (g : A → Words) → ((x : A) → f (m x) ≡ g x) → (xs : List A) → each f (map m xs) ≡ each g xs
each_map m f g h [] = refl
each_map m f g h (x ∷ xs) = ap₂ (λ (a b : Words). a ++ b) (h x) (each_map m f g h xs)

pub separated_map : {A B : Type 0} (w : Words) (m : A → B) (f : B → Words) (g : A → Words) → ((x : A) → f (m x) ≡ g x) → (xs : List A) → separated w f (map m xs) ≡ separated w g xs
separated_map w m f g h [] = refl
separated_map w m f g h (x ∷ xs) = ap₂ (λ (a b : Words). a ++ b) (h x) (each_map m (λ y. w ++ f y) (λ y. w ++ g y) (λ y. ap (λ (z : Words). w ++ z) (h y)) xs)

name_map : (i : Span) {A B : Type 0} (m : A → B) (f : B → Words) (g : A → Words) → ((x : A) → f (m x) ≡ g x) → (xs : List A) → id i ++ each f (map m xs) ≡ id i ++ each g xs
name_map i m f g h xs = ap (λ (z : Words). id i ++ z) (each_map m f g h xs)

group_map : {A B : Type 0} (m : A → B) (f : B → Words) (g : A → Words) → ((x : A) → f (m x) ≡ g x) → (xs : List A) → symbol del.Open ++ separated (symbol del.Comma) f (map m xs) ++ symbol del.Close ≡ symbol del.Open ++ separated (symbol del.Comma) g xs ++ symbol del.Close
group_map m f g h xs = ap (λ (z : Words). symbol del.Open ++ z ++ symbol del.Close) (separated_map (symbol del.Comma) m f g h xs)

if_map : {A B : Type 0} (m : A → B) (f : B → Words) (g : A → Words) → ((x : A) → f (m x) ≡ g x) → (xs : List A) (rest : Words) → word res.If ++ separated (word res.Elsif) f (map m xs) ++ rest ≡ word res.If ++ separated (word res.Elsif) g xs ++ rest
if_map m f g h xs rest = ap (λ (z : Words). word res.If ++ z ++ rest) (separated_map (word res.Elsif) m f g h xs)

item_24 : (s : Span) (f : ItemForm Expr) → item_words (λ w. w) ((shapes.former-Expr-node-at-24).map Expr Words expr (record { span = s; form = f })) ≡ item_form expr f
item_24 s (itm.Plain e) = refl
item_24 s (itm.If as' None) = if_map _ _ _ (λ a. refl) as' _
item_24 s (itm.If as' (Some e)) = if_map _ _ _ (λ a. refl) as' _
item_24 s (itm.Quantified q n r p) = elim (r.high) as (λ (h : Option Expr). item_words (λ w. w) ((shapes.former-Expr-node-at-24).map Expr Words expr (record { span = s; form = itm.Quantified q n (record { low = r.low; high = h }) p })) ≡ item_form expr (itm.Quantified q n (record { low = r.low; high = h }) p)) [ None ↦ refl | Some h ↦ refl ]

item_45 : (s : Span) (f : ItemForm Expr) → item_words (λ w. w) ((shapes.former-Expr-node-at-45).map Expr Words expr (record { span = s; form = f })) ≡ item_form expr f
item_45 s (itm.Plain e) = refl
item_45 s (itm.If as' None) = if_map _ _ _ (λ a. refl) as' _
item_45 s (itm.If as' (Some e)) = if_map _ _ _ (λ a. refl) as' _
item_45 s (itm.Quantified q n r p) = elim (r.high) as (λ (h : Option Expr). item_words (λ w. w) ((shapes.former-Expr-node-at-45).map Expr Words expr (record { span = s; form = itm.Quantified q n (record { low = r.low; high = h }) p })) ≡ item_form expr (itm.Quantified q n (record { low = r.low; high = h }) p)) [ None ↦ refl | Some h ↦ refl ]

arg_47 : (s : Span) (c : ArgChoice Expr) (v : Option (Item Expr)) → arg (λ w. w) ((shapes.former-Expr-node-at-47).map Expr Words expr (record { span = s; choice = c; value = v })) ≡ arg expr (record { span = s; choice = c; value = v })
arg_47 s cho.Others None = refl
arg_47 s cho.Others (Some i) = ap (λ (z : Words). word res.Others ++ (symbol del.Arrow ++ z)) (item_45 i.span i.form)
arg_47 s (cho.Range l h) None = refl
arg_47 s (cho.Range l h) (Some i) = ap (λ (z : Words). (expr l ++ symbol del.DoubleDot ++ expr h) ++ (symbol del.Arrow ++ z)) (item_45 i.span i.form)
arg_47 s (cho.Item i) None = ap (λ (z : Words). z ++ []) (item_24 i.span i.form)
arg_47 s (cho.Item i) (Some j) = ap₂ (λ (y z : Words). y ++ (symbol del.Arrow ++ z)) (item_24 i.span i.form) (item_45 j.span j.form)

item_68 : (s : Span) (f : ItemForm Expr) → item_words (λ w. w) ((shapes.former-Expr-node-at-68).map Expr Words expr (record { span = s; form = f })) ≡ item_form expr f
item_68 s (itm.Plain e) = refl
item_68 s (itm.If as' None) = if_map _ _ _ (λ a. refl) as' _
item_68 s (itm.If as' (Some e)) = if_map _ _ _ (λ a. refl) as' _
item_68 s (itm.Quantified q n r p) = elim (r.high) as (λ (h : Option Expr). item_words (λ w. w) ((shapes.former-Expr-node-at-68).map Expr Words expr (record { span = s; form = itm.Quantified q n (record { low = r.low; high = h }) p })) ≡ item_form expr (itm.Quantified q n (record { low = r.low; high = h }) p)) [ None ↦ refl | Some h ↦ refl ]

item_89 : (s : Span) (f : ItemForm Expr) → item_words (λ w. w) ((shapes.former-Expr-node-at-89).map Expr Words expr (record { span = s; form = f })) ≡ item_form expr f
item_89 s (itm.Plain e) = refl
item_89 s (itm.If as' None) = if_map _ _ _ (λ a. refl) as' _
item_89 s (itm.If as' (Some e)) = if_map _ _ _ (λ a. refl) as' _
item_89 s (itm.Quantified q n r p) = elim (r.high) as (λ (h : Option Expr). item_words (λ w. w) ((shapes.former-Expr-node-at-89).map Expr Words expr (record { span = s; form = itm.Quantified q n (record { low = r.low; high = h }) p })) ≡ item_form expr (itm.Quantified q n (record { low = r.low; high = h }) p)) [ None ↦ refl | Some h ↦ refl ]

arg_91 : (s : Span) (c : ArgChoice Expr) (v : Option (Item Expr)) → arg (λ w. w) ((shapes.former-Expr-node-at-91).map Expr Words expr (record { span = s; choice = c; value = v })) ≡ arg expr (record { span = s; choice = c; value = v })
arg_91 s cho.Others None = refl
arg_91 s cho.Others (Some i) = ap (λ (z : Words). word res.Others ++ (symbol del.Arrow ++ z)) (item_89 i.span i.form)
arg_91 s (cho.Range l h) None = refl
arg_91 s (cho.Range l h) (Some i) = ap (λ (z : Words). (expr l ++ symbol del.DoubleDot ++ expr h) ++ (symbol del.Arrow ++ z)) (item_89 i.span i.form)
arg_91 s (cho.Item i) None = ap (λ (z : Words). z ++ []) (item_68 i.span i.form)
arg_91 s (cho.Item i) (Some j) = ap₂ (λ (y z : Words). y ++ (symbol del.Arrow ++ z)) (item_68 i.span i.form) (item_89 j.span j.form)

item_114 : (s : Span) (f : ItemForm Expr) → item_words (λ w. w) ((shapes.former-Expr-node-at-114).map Expr Words expr (record { span = s; form = f })) ≡ item_form expr f
item_114 s (itm.Plain e) = refl
item_114 s (itm.If as' None) = if_map _ _ _ (λ a. refl) as' _
item_114 s (itm.If as' (Some e)) = if_map _ _ _ (λ a. refl) as' _
item_114 s (itm.Quantified q n r p) = elim (r.high) as (λ (h : Option Expr). item_words (λ w. w) ((shapes.former-Expr-node-at-114).map Expr Words expr (record { span = s; form = itm.Quantified q n (record { low = r.low; high = h }) p })) ≡ item_form expr (itm.Quantified q n (record { low = r.low; high = h }) p)) [ None ↦ refl | Some h ↦ refl ]

item_135 : (s : Span) (f : ItemForm Expr) → item_words (λ w. w) ((shapes.former-Expr-node-at-135).map Expr Words expr (record { span = s; form = f })) ≡ item_form expr f
item_135 s (itm.Plain e) = refl
item_135 s (itm.If as' None) = if_map _ _ _ (λ a. refl) as' _
item_135 s (itm.If as' (Some e)) = if_map _ _ _ (λ a. refl) as' _
item_135 s (itm.Quantified q n r p) = elim (r.high) as (λ (h : Option Expr). item_words (λ w. w) ((shapes.former-Expr-node-at-135).map Expr Words expr (record { span = s; form = itm.Quantified q n (record { low = r.low; high = h }) p })) ≡ item_form expr (itm.Quantified q n (record { low = r.low; high = h }) p)) [ None ↦ refl | Some h ↦ refl ]

arg_137 : (s : Span) (c : ArgChoice Expr) (v : Option (Item Expr)) → arg (λ w. w) ((shapes.former-Expr-node-at-137).map Expr Words expr (record { span = s; choice = c; value = v })) ≡ arg expr (record { span = s; choice = c; value = v })
arg_137 s cho.Others None = refl
arg_137 s cho.Others (Some i) = ap (λ (z : Words). word res.Others ++ (symbol del.Arrow ++ z)) (item_135 i.span i.form)
arg_137 s (cho.Range l h) None = refl
arg_137 s (cho.Range l h) (Some i) = ap (λ (z : Words). (expr l ++ symbol del.DoubleDot ++ expr h) ++ (symbol del.Arrow ++ z)) (item_135 i.span i.form)
arg_137 s (cho.Item i) None = ap (λ (z : Words). z ++ []) (item_114 i.span i.form)
arg_137 s (cho.Item i) (Some j) = ap₂ (λ (y z : Words). y ++ (symbol del.Arrow ++ z)) (item_114 i.span i.form) (item_135 j.span j.form)

suffix_map : (x : Suffix Expr) → suffix (λ w. w) ((shapes.former-Expr-node-at-93).map Expr Words expr x) ≡ suffix expr x
suffix_map (suf.Selected k) = refl
suffix_map (suf.Ticked p (att.Named k)) = refl
suffix_map (suf.Ticked p att.Range) = refl
suffix_map (suf.Ticked p (att.Qualified as')) = ap (λ (z : Words). symbol del.Tick ++ z) (group_map _ _ _ (λ x. arg_47 x.span x.choice x.value) as')
suffix_map (suf.Applied as') = group_map _ _ _ (λ x. arg_91 x.span x.choice x.value) as'

node_words : (s : Span) (n : ExprNode Expr) → expr_step (map-Expr Expr Words expr (record { span = s; node = n })) ≡ expr_node expr n
node_words s (node.Number n) = refl
node_words s node.Null = refl
node_words s (node.Name n) = name_map n.first _ _ _ suffix_map n.suffixes
node_words s (node.Group as') = group_map _ _ _ (λ x. arg_137 x.span x.choice x.value) as'
node_words s (node.Unary p o a) = refl
node_words s (node.Binary p o a b) = refl
node_words s (node.Member p n a r) = elim (r.high) as (λ (h : Option Expr). expr_step (map-Expr Expr Words expr (record { span = s; node = node.Member p n a (record { low = r.low; high = h }) })) ≡ expr_node expr (node.Member p n a (record { low = r.low; high = h }))) [ None ↦ refl | Some h ↦ refl ]

pub expr_words : (s : Span) (n : ExprNode Expr) → expr (roll-Expr (record { span = s; node = n })) ≡ expr_node expr n
expr_words s n = fold-roll-Expr Words expr_step (record { span = s; node = n }) ∙ node_words s n
