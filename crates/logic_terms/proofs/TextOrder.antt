-- The order of texts is a strict order of terms and formulas.
use Rattle.std.proofs.Common.{◌≡◌, refl, sym, ◌∙◌, ap, ℕ, true, false, List}
use Rattle.std.proofs.lemmas.Bool.{false≢true}
use Rattle.std.proofs.lemmas.Cmp.{tied_itself}
use Rattle.std.specs.declared.cmp.Ordering.{Ordering}
use Rattle.std.specs.declared.cmp.Ordering.TheVariants.{Less, Equal, Greater}
use Rattle.std.specs.Cmp.{IsTotalOrder}
use Rattle.std.specs.Cmp.Lexicographic.{nat_list_cmp_total, texts_ties, bytes_decides}
use Rattle.std.specs.Ordering.{ordering_reverse, is_eq}
use Rattle.logic_terms.specs.Node.{Node}
use Rattle.logic_terms.specs.Text.{node_text, text_order, is_less, precedes}
use Rattle.logic_terms.proofs.Apart.{texts_apart}

pub total_order : IsTotalOrder text_order
total_order = nat_list_cmp_total

less_of : (o : Ordering) → is_less o ≡ true → o ≡ Less
less_of Less h = refl
less_of Equal h = absurd (false≢true h)
less_of Greater h = absurd (false≢true h)

pub precedes_chain : (a b c : Node) → precedes a b ≡ true → precedes b c ≡ true → precedes a c ≡ true
precedes_chain a b c f g =
    ap is_less (total_order.trans (node_text a) (node_text b) (node_text c) (less_of _ f) (less_of _ g))

pub precedes_itself : (a : Node) → precedes a a ≡ false
precedes_itself a = ap is_less (tied_itself total_order (node_text a))

pub same_texts : (xs ys : List ℕ) → text_order xs ys ≡ Equal → xs ≡ ys
same_texts xs ys e = (bytes_decides xs ys).0 (texts_ties xs ys ∙ ap is_eq e)

level : (o q : Ordering) → q ≡ ordering_reverse o → is_less o ≡ false → is_less q ≡ false → o ≡ Equal
level Less q r f g = absurd (false≢true (sym f))
level Equal q r f g = refl
level Greater q r f g = absurd (false≢true (sym g ∙ ap is_less r))

-- where neither comes first, they are one
pub precedes_neither : (a b : Node) → precedes a b ≡ false → precedes b a ≡ false → a ≡ b
precedes_neither a b f g =
    texts_apart a b (same_texts _ _ (level (text_order (node_text a) (node_text b)) (text_order (node_text b) (node_text a)) (total_order.antisymm (node_text b) (node_text a)) f g))
