-- `others` stands in the last alternative, or in none.
use Rattle.std.proofs.Common.{◌≡◌, refl, ap, List, Bool, true, false}
use Rattle.std.specs.Prelude.{not, ◌&&◌, ◌||◌}
use Rattle.syntax_view.specs.Trees as tree
use Rattle.statement_typing.specs.Choices.{are_others, has_others, others_last}

or_true : (x : Bool) → x || true ≡ true
or_true true = refl
or_true false = refl

pub not_last : (ks : List tree.Choice) (ss : tree.Stmts) (as' : tree.Alternatives) → has_others ks ≡ false → others_last (tree.alternative ks ss as') ≡ others_last as'
not_last ks ss tree.no_alternatives h = ap (λ (x : Bool). not x || are_others ks) h
not_last ks ss (tree.alternative js ts bs) h = ap (λ (x : Bool). not x && others_last (tree.alternative js ts bs)) h

pub alone : (ks : List tree.Choice) (ss : tree.Stmts) → has_others ks ≡ true → others_last (tree.alternative ks ss tree.no_alternatives) ≡ are_others ks
alone ks ss h = ap (λ (x : Bool). not x || are_others ks) h

pub too_early : (ks : List tree.Choice) (ss : tree.Stmts) (js : List tree.Choice) (ts : tree.Stmts) (bs : tree.Alternatives) → has_others ks ≡ true → others_last (tree.alternative ks ss (tree.alternative js ts bs)) ≡ false
too_early ks ss js ts bs h = ap (λ (x : Bool). not x && others_last (tree.alternative js ts bs)) h
