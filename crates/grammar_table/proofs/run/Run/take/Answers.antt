use Rattle.std.proofs.Common.{◌<◌, ◌≤◌, List, length, map, ◌++◌, ◌∷◌, [], Some, ap, sym, subst, arith}
use Rattle.grammar_table.specs.declared.symbols.Construct.{Construct}
use Rattle.grammar_table.specs.Levels.{after}
use Rattle.grammar_table.specs.Runs.{Reached}
use Rattle.grammar_table.proofs.Reaching.{reached_take, too_deep}
use Rattle.grammar_table.proofs.run.Run.take.Goals as goal

pub returns-then-count-le-MOST_LEVELS : goal.returns-then-count-le-MOST_LEVELS
returns-then-count-le-MOST_LEVELS c = λ ts t r.
    let same = c.in_ok-apply.ensures in
    let low : length (after c.args.effect c.args.self.now.levels) ≤ 200 = omega (arith, ap (length {A = Construct}) same) in
    subst (λ (l : List Construct). Reached (map Some (ts ++ t ∷ [])) (ts ++ t ∷ []) c.args.self.now.numbers l c.args.self.now.stack) (sym same) (reached_take ts c.args.self.now.numbers c.args.self.now.levels t c.args.effect c.args.self.now.stack low r)

pub returns-else-count-le-MOST_LEVELS : goal.returns-else-count-le-MOST_LEVELS
returns-else-count-le-MOST_LEVELS c = λ ts t r.
    let same = c.in_ok-apply.ensures in
    let high : 200 < length (after c.args.effect c.args.self.now.levels) = omega (arith, ap (length {A = Construct}) same) in
    too_deep ts c.args.self.now.numbers c.args.self.now.levels t c.args.effect c.args.self.now.stack high r
