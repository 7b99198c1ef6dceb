-- Choices that are read one after another are the choices of the list.
use Rattle.std.proofs.Common.{◌≡◌, refl, ap, sym, ◌∙◌, List, [], ◌∷◌, ◌++◌, append-nil, append_assoc, ◌<◌, length, arith}
use Rattle.syntax_view.specs.Trees as tree
use Rattle.type_base.specs.declared.seen.Want.{Want}
use Rattle.type_base.specs.Scope.{Scope}
use Rattle.typing_rules.specs.declared.prefix.Found.{Found}
use Rattle.statement_typing.specs.declared.parts.Spread.{Spread}
use Rattle.statement_typing.specs.Choices.{choice_seen, spreads, spreads_in}
use Rattle.case_choices.specs.Choosing.{all_spreads_after, spreads_after}

after : (c : Scope) (w : Want) (xs : List (Found Spread)) (ks : List tree.Choice) → spreads_after c w xs ks ≡ xs ++ spreads_in c w ks
after c w xs [] = sym (append-nil xs)
after c w xs (tree.other_values ∷ ks) = after c w xs ks
after c w xs (tree.values r ∷ ks) = after c w (xs ++ choice_seen c w r ∷ []) ks ∙ append_assoc xs (choice_seen c w r ∷ []) (spreads_in c w ks)

pub after_none : (c : Scope) (w : Want) (ks : List tree.Choice) → spreads_after c w [] ks ≡ spreads_in c w ks
after_none c w ks = after c w [] ks

all_after : (c : Scope) (w : Want) (xs : List (Found Spread)) (as' : tree.Alternatives) → all_spreads_after c w xs as' ≡ xs ++ spreads c w as'
all_after c w xs tree.no_alternatives = sym (append-nil xs)
all_after c w xs (tree.alternative ks ss as') =
    ap (λ (ys : List (Found Spread)). all_spreads_after c w ys as') (after c w xs ks)
    ∙ all_after c w (xs ++ spreads_in c w ks) as'
    ∙ append_assoc xs (spreads_in c w ks) (spreads c w as')

pub all_after_none : (c : Scope) (w : Want) (as' : tree.Alternatives) → all_spreads_after c w [] as' ≡ spreads c w as'
all_after_none c w as' = all_after c w [] as'

pub none_left : {A : Type 0} → (xs : List A) → length xs < 1 → xs ≡ []
none_left [] h = refl
none_left (x ∷ xs) h = absurd (omega arith)
