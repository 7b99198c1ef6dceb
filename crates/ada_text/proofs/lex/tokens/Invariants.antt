use Rattle.std.proofs.Common.{◌≡◌, ◌-◌, ◌≤◌, All, drop, length}
use Rattle.ada_text.specs.Tokens.{AreInOrder, StandsIn, before, tokens_from, tokens_in}
use Rattle.ada_text.proofs.lex.tokens.Given as goal

-- the tokens so far, and then those of what is left, are those of the text
abbrev pub invariant-loop-at : goal.invariant-loop-at
invariant-loop-at l =
    (before l.found (tokens_from l.at 0 (drop l.at l.text)) ≡ tokens_in l.text) × (l.at ≤ length l.text) × AreInOrder 0 l.found l.at × All (StandsIn l.text) l.found

abbrev pub decreases-loop-at : goal.decreases-loop-at
decreases-loop-at l = length l.text - l.at
