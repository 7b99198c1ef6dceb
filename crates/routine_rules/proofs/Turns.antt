-- Turns of loops over what is listed.
use Rattle.std.proofs.Common.{◌≡◌, ◌<◌, ◌+◌, ◌∙◌, ap, sym, ℕ, List, length, get_or, drop}
use Rattle.std.proofs.lemmas.List.{drop_more}
use Rattle.typed_units.specs.declared.programs.GlobalItem.{GlobalItem}
use Rattle.typing_rules.specs.declared.prefix.Found.{Found}
use Rattle.statement_typing.specs.declared.parts.Listed.{Listed}
use Rattle.statement_typing.specs.Aspects.{distinct, fresh, globals_after}
use Rattle.statement_typing.specs.Checks.{added, all_onto}

-- one more of those that are listed
pub one_more : (gs : List ℕ) (done now all : Found (List GlobalItem)) (more : Found GlobalItem) (ls : List (Found Listed)) (k : ℕ) (d : Found Listed)
    → k < length ls → all_onto done (distinct gs (drop k ls)) ≡ all → more ≡ fresh gs (get_or ls k d) → now ≡ added done more
    → all_onto now (distinct (globals_after gs (get_or ls k d)) (drop (k + 1) ls)) ≡ all
one_more gs done now all more ls k d h before new is =
    ap (λ (f : Found (List GlobalItem)). all_onto f (distinct (globals_after gs (get_or ls k d)) (drop (k + 1) ls))) (is ∙ ap (λ (m : Found GlobalItem). added done m) new)
    ∙ ap (λ (l : List (Found Listed)). all_onto done (distinct gs l)) (sym (drop_more ls k d h))
    ∙ before
