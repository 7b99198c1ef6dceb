-- Statements whose names are all declared, and what is found of them.
use Rattle.std.specs.Prelude.{ℕ, List, [], ◌∷◌, Option, Some, None}
use Rattle.ada_text.specs.declared.token.Span.{Span}
use Rattle.name_numbers.specs.declared.words.Word.{Word}
use Rattle.name_numbers.specs.declared.words.Word.TheVariants as word
use Rattle.syntax_view.specs.Trees as tree
use Rattle.type_base.specs.declared.world.World.{World}
use Rattle.type_base.specs.Scope.{Scope}
use Rattle.typed_units.specs.declared.operators.Object.TheVariants as object
use Rattle.typing_rules.specs.declared.prefix.Found.{Found}
use Rattle.typing_rules.specs.declared.prefix.Found.TheVariants.{Refused, Unknown, Is}
use Rattle.typing_rules.specs.Lookups.{with_parameter}
use Rattle.typing_laws.specs.Declared.{IsDeclared, IsThere, ItemDeclared, NameDeclared, RangeDeclared}
use Rattle.statement_typing.specs.Statements.{Around, Returns, a_value, in_pragma, nothing}

-- accepted or refused
abbrev pub IsFound : {A : Type 0} → Found A → Type 0
IsFound (Refused f) = Unit {0}
IsFound Unknown = ⊥
IsFound (Is a) = Unit {0}

-- What a function returns stands in the world: where its result is refused, nothing is said of the values that it returns.
abbrev pub ResultKnown : World → Found ℕ → Type 0
ResultKnown w (Is k) = IsThere w k
ResultKnown w Unknown = ⊥
ResultKnown w (Refused f) = ⊥

abbrev pub ReturnsKnown : World → Returns → Type 0
ReturnsKnown w nothing = Unit {0}
ReturnsKnown w (a_value k) = ResultKnown w k

-- ---- parts of statements

abbrev pub ConditionDeclared : Scope → Option tree.Expr → Type 0
ConditionDeclared c None = Unit {0}
ConditionDeclared c (Some e) = IsDeclared c e

abbrev pub ChoicesDeclared : Scope → List tree.Choice → Type 0
ChoicesDeclared c [] = Unit {0}
ChoicesDeclared c (tree.other_values ∷ ks) = ChoicesDeclared c ks
ChoicesDeclared c (tree.values r ∷ ks) = RangeDeclared c r × ChoicesDeclared c ks

-- what stands before `=>` in a pragma is no name
abbrev pub ArgumentDeclared : Scope → tree.Arg → Type 0
ArgumentDeclared c (tree.arg s k (tree.value i)) = ItemDeclared c i
ArgumentDeclared c (tree.arg s (tree.part i) tree.no_value) = ItemDeclared c i
ArgumentDeclared c (tree.arg s k tree.no_value) = Unit {0}

abbrev pub ArgumentsDeclared : Scope → tree.Args → Type 0
ArgumentsDeclared c tree.no_args = Unit {0}
ArgumentsDeclared c (tree.args a as') = ArgumentDeclared c a × ArgumentsDeclared c as'

-- only assertions and the pragmas of loops have expressions -- Ada RM 11.4.2, SPARK RM 5.5.3
abbrev pub PragmaDeclared : Around → Option Word → tree.Args → Type 0
PragmaDeclared a (Some word.Assert) as' = ArgumentsDeclared (in_pragma a) as'
PragmaDeclared a (Some word.Assume) as' = ArgumentsDeclared (in_pragma a) as'
PragmaDeclared a (Some word.LoopInvariant) as' = ArgumentsDeclared (in_pragma a) as'
PragmaDeclared a (Some word.LoopVariant) as' = ArgumentsDeclared (in_pragma a) as'
PragmaDeclared a _ as' = Unit {0}

-- in the loop of this number, with what its statements see and its parameter
abbrev pub within : Around → ℕ → Scope → Option ℕ → Around
within a n c q = record a { scope = c; loop = Some (record { number = n; parameter = q }) }

-- in a loop over a range, whose parameter stands at a byte and has a subtype -- Ada RM 5.5(6)
abbrev pub in_turn : Around → ℕ → ℕ → ℕ → Around
in_turn a n at k = within a n (with_parameter a.scope at k (object.Turn (a.scope.number at))) (Some (a.scope.number at))

-- ---- statements all whose names are declared; the body of a loop over a range for a parameter of each subtype

abbrev mutual
  pub StmtDeclared : Around → tree.Stmt → Type 0
  StmtDeclared a (tree.statement s x) = ActionDeclared a s x

  pub ActionDeclared : Around → Span → tree.Action → Type 0
  ActionDeclared a s tree.skip = Unit {0}
  ActionDeclared a s (tree.call n) = NameDeclared a.scope n
  ActionDeclared a s (tree.assign n e) = NameDeclared a.scope n × IsDeclared a.scope e
  ActionDeclared a s (tree.branches bs ss) = BranchesDeclared a bs × StmtsDeclared a ss
  ActionDeclared a s (tree.case_of e as') = IsDeclared a.scope e × AlternativesDeclared a as'
  ActionDeclared a s (tree.loop tree.forever ss) = StmtsDeclared (within a (a.scope.number s.from) a.scope None) ss
  ActionDeclared a s (tree.loop (tree.while e) ss) = IsDeclared a.scope e × StmtsDeclared (within a (a.scope.number s.from) a.scope None) ss
  ActionDeclared a s (tree.loop (tree.for t b r) ss) =
      RangeDeclared a.scope r × ((k : ℕ) → IsThere a.scope.world k → StmtsDeclared (in_turn a (a.scope.number s.from) t.from k) ss)
  ActionDeclared a s (tree.exit e) = ConditionDeclared a.scope e
  ActionDeclared a s (tree.return e) = ConditionDeclared a.scope e
  ActionDeclared a s (tree.pragma_stmt q) = PragmaDeclared a (a.word q.name.from) q.args

  pub StmtsDeclared : Around → tree.Stmts → Type 0
  StmtsDeclared a tree.no_stmts = Unit {0}
  StmtsDeclared a (tree.stmts s ss) = StmtDeclared a s × StmtsDeclared a ss

  pub BranchesDeclared : Around → tree.Branches → Type 0
  BranchesDeclared a tree.no_branches = Unit {0}
  BranchesDeclared a (tree.branch e ss bs) = (IsDeclared a.scope e × StmtsDeclared a ss) × BranchesDeclared a bs

  pub AlternativesDeclared : Around → tree.Alternatives → Type 0
  AlternativesDeclared a tree.no_alternatives = Unit {0}
  AlternativesDeclared a (tree.alternative ks ss as') = (ChoicesDeclared a.scope ks × StmtsDeclared a ss) × AlternativesDeclared a as'
