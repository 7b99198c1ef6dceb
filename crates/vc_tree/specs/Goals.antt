-- The goals of a tree: one for each check, in preorder.
use Rattle.std.specs.Prelude.{ℕ, suc, ◌==◌, List, [], ◌∷◌, ◌++◌, map, if◌then◌else◌}
use Rattle.logic_terms.specs.Node.{Node}
use Rattle.logic_terms.specs.Value.{Kind, numbers, no_kinds}
use Rattle.logic_terms.specs.Sorting.{Called, Problem}
use Rattle.logic_terms.specs.Goals.{symbols_of_goal, calls_of_goal, numbered}
use Rattle.logic_terms.specs.declared.goal.Role.{Role}
use Rattle.logic_terms.specs.declared.goal.Role.TheVariants as role
use Rattle.typed_units.specs.declared.checks.SiteKey.{SiteKey}
use Rattle.vc_tree.specs.declared.AnyRole.{AnyRole}
use Rattle.vc_tree.specs.declared.AnyRole.TheVariants as any_role
use Rattle.vc_tree.specs.Tree.{Tree, done, check, assume, any, both}

-- a symbol that the way to a check has met, with its kind and its role
pub record Met : Type 0 where
  pub number : ℕ
  pub kind : Kind
  pub role : Role

-- a call that a tree may make, by its number
pub record Known : Type 0 where
  pub number : ℕ
  pub called : Called

-- the way to a node: the symbols that it met, how many of them are choices, and what it assumed and checked
pub record Way : Type 0 where
  pub symbols : List Met
  pub choices : ℕ
  pub hypotheses : List Node

pub record SiteGoal : Type 0 where
  pub site : SiteKey
  pub problem : Problem
  pub roles : List Role

abbrev pub role_of : AnyRole → ℕ → Role
role_of (any_role.Input k) n = role.Input k
role_of any_role.Choice n = role.Choice n
role_of any_role.Plain n = role.Plain

abbrev pub choices_after : AnyRole → ℕ → ℕ
choices_after any_role.Choice n = suc n
choices_after _ n = n

abbrev pub meet : Way → ℕ → Kind → AnyRole → Way
meet w x k r = record w { symbols = w.symbols ++ record { number = x; kind = k; role = role_of r w.choices } ∷ []; choices = choices_after r w.choices }

abbrev pub learn : Way → Node → Way
learn w p = record w { hypotheses = w.hypotheses ++ p ∷ [] }

abbrev pub kind_met : List Met → ℕ → Kind
kind_met [] x = numbers
kind_met (m ∷ ms) x = if m.number == x then m.kind else kind_met ms x

abbrev pub role_met : List Met → ℕ → Role
role_met [] x = role.Plain
role_met (m ∷ ms) x = if m.number == x then m.role else role_met ms x

abbrev pub call_known : List Known → ℕ → Called
call_known [] k = record { takes = no_kinds; gives = numbers }
call_known (c ∷ cs) k = if c.number == k then c.called else call_known cs k

-- the goal of a check: its symbols and calls are those that appear in its formulas, in the order of first appearance
abbrev pub goal_at : List Known → Way → SiteKey → Node → SiteGoal
goal_at calls w c p =
    let ps = w.hypotheses ++ p ∷ [] in record {
      site = c;
      problem = record {
        signature = record { symbols = map (kind_met w.symbols) (symbols_of_goal ps); calls = map (call_known calls) (calls_of_goal ps) };
        hypotheses = map (numbered ps) w.hypotheses;
        conclusion = numbered ps p;
      };
      roles = map (role_met w.symbols) (symbols_of_goal ps);
    }

abbrev pub goals_from : List Known → Way → Tree → List SiteGoal
goals_from calls w done = []
goals_from calls w (check c p t) = goal_at calls w c p ∷ goals_from calls (learn w p) t
goals_from calls w (assume p t) = goals_from calls (learn w p) t
goals_from calls w (any x k r t) = goals_from calls (meet w x k r) t
goals_from calls w (both t u) = goals_from calls w t ++ goals_from calls w u

abbrev pub goals_of : List Known → Tree → List SiteGoal
goals_of calls t = goals_from calls (record { symbols = []; choices = 0; hypotheses = [] }) t
