-- The numbers of indexes, loop parameters and loops: by the order of their text. The lists have their first bytes.
use Rattle.std.specs.Prelude.{ℕ, suc, Bool, true, false, Option, Some, None, List, [], ◌∷◌, ◌++◌}
use Rattle.name_numbers.specs.declared.words.Word.{Word}
use Rattle.name_numbers.specs.declared.words.Word.TheVariants as word
use Rattle.syntax_view.specs.Trees as tree
use Rattle.reading_scope.specs.declared.numbers.Numbered.{Numbered}

-- ---- indexes of quantified expressions

abbrev mutual
  pub in_expr : tree.Expr → List ℕ
  in_expr (tree.at s n) = in_node n

  pub in_node : tree.Node → List ℕ
  in_node (tree.number n) = []
  in_node tree.null = []
  in_node (tree.name n) = in_name n
  in_node (tree.group as') = in_args as'
  in_node (tree.unary p o a) = in_expr a
  in_node (tree.binary p o a b) = in_expr a ++ in_expr b
  in_node (tree.member p n a r) = in_expr a ++ in_range r

  pub in_maybe : tree.MaybeExpr → List ℕ
  in_maybe tree.no_expr = []
  in_maybe (tree.an_expr e) = in_expr e

  pub in_range : tree.Range → List ℕ
  in_range (tree.range l h) = in_expr l ++ in_maybe h

  pub in_name : tree.Name → List ℕ
  in_name (tree.named s f ss) = in_suffixes ss

  pub in_suffixes : tree.Suffixes → List ℕ
  in_suffixes tree.no_suffixes = []
  in_suffixes (tree.suffixes s ss) = in_suffix s ++ in_suffixes ss

  pub in_suffix : tree.Suffix → List ℕ
  in_suffix (tree.selected s) = []
  in_suffix (tree.ticked p a) = in_attribute a
  in_suffix (tree.applied as') = in_args as'

  pub in_attribute : tree.Attribute → List ℕ
  in_attribute (tree.attribute s) = []
  in_attribute tree.range_attribute = []
  in_attribute (tree.qualified as') = in_args as'

  pub in_args : tree.Args → List ℕ
  in_args tree.no_args = []
  in_args (tree.args a as') = in_arg a ++ in_args as'

  pub in_arg : tree.Arg → List ℕ
  in_arg (tree.arg s c v) = in_choice c ++ in_value v

  pub in_choice : tree.ArgChoice → List ℕ
  in_choice tree.other_parts = []
  in_choice (tree.part i) = in_item i
  in_choice (tree.parts l h) = in_expr l ++ in_expr h

  pub in_value : tree.Value → List ℕ
  in_value tree.no_value = []
  in_value (tree.value i) = in_item i

  pub in_item : tree.Item → List ℕ
  in_item (tree.item s f) = in_form f

  pub in_form : tree.Form → List ℕ
  in_form (tree.plain e) = in_expr e
  in_form (tree.choose as' e) = in_arms as' ++ in_maybe e
  in_form (tree.quantified q s r p) = s.from ∷ in_range r ++ in_expr p

  pub in_arms : tree.Arms → List ℕ
  in_arms tree.no_arms = []
  in_arms (tree.arm c g as') = in_expr c ++ in_expr g ++ in_arms as'

abbrev pub in_option : Option tree.Expr → List ℕ
in_option None = []
in_option (Some e) = in_expr e

abbrev pub in_case_choices : List tree.Choice → List ℕ
in_case_choices [] = []
in_case_choices (tree.other_values ∷ ks) = in_case_choices ks
in_case_choices (tree.values r ∷ ks) = in_range r ++ in_case_choices ks

abbrev pub in_head : tree.LoopHead → List ℕ
in_head tree.forever = []
in_head (tree.while e) = in_expr e
in_head (tree.for s b r) = in_range r

abbrev mutual
  pub in_stmts : tree.Stmts → List ℕ
  in_stmts tree.no_stmts = []
  in_stmts (tree.stmts s ss) = in_stmt s ++ in_stmts ss

  pub in_stmt : tree.Stmt → List ℕ
  in_stmt (tree.statement s x) = in_action x

  pub in_action : tree.Action → List ℕ
  in_action tree.skip = []
  in_action (tree.call n) = in_name n
  in_action (tree.assign n e) = in_name n ++ in_expr e
  in_action (tree.branches bs ss) = in_branches bs ++ in_stmts ss
  in_action (tree.case_of e as') = in_expr e ++ in_alternatives as'
  in_action (tree.loop h ss) = in_head h ++ in_stmts ss
  in_action (tree.exit e) = in_option e
  in_action (tree.return e) = in_option e
  in_action (tree.pragma_stmt q) = in_args q.args

  pub in_branches : tree.Branches → List ℕ
  in_branches tree.no_branches = []
  in_branches (tree.branch e ss bs) = in_expr e ++ in_stmts ss ++ in_branches bs

  pub in_alternatives : tree.Alternatives → List ℕ
  in_alternatives tree.no_alternatives = []
  in_alternatives (tree.alternative ks ss as') = in_case_choices ks ++ in_stmts ss ++ in_alternatives as'

abbrev pub in_bounds : Option tree.Bounds → List ℕ
in_bounds None = []
in_bounds (Some b) = in_expr b.low ++ in_expr b.high

abbrev pub in_subtype : Option tree.SubInd → List ℕ
in_subtype None = []
in_subtype (Some s) = in_name s.name ++ in_bounds s.bounds

-- what a declarative part has: initial values and pragmas; the bounds of types are static
abbrev pub in_decl_form : tree.DeclForm → List ℕ
in_decl_form (tree.object_decl ns o) = in_subtype o.subtype ++ in_option o.value
in_decl_form (tree.pragma_decl q) = in_args q.args
in_decl_form _ = []

abbrev pub in_decl : tree.Decl → List ℕ
in_decl (tree.declaration s f) = in_decl_form f

abbrev pub in_decls : tree.Decls → List ℕ
in_decls tree.no_decls = []
in_decls (tree.decls d ds) = in_decl d ++ in_decls ds

abbrev pub in_aspect_value : Option tree.Item → List ℕ
in_aspect_value None = []
in_aspect_value (Some i) = in_item i

-- the aspects of a word
abbrev pub in_aspect : Bool → Option tree.Item → List ℕ
in_aspect true i = in_aspect_value i
in_aspect false i = []

abbrev pub is_pre : Option Word → Bool
is_pre (Some word.Pre) = true
is_pre _ = false

abbrev pub is_post : Option Word → Bool
is_post (Some word.Post) = true
is_post _ = false

abbrev pub in_aspects : (Option Word → Bool) → (ℕ → Option Word) → List tree.Aspect → List ℕ
in_aspects is words [] = []
in_aspects is words (a ∷ as') = in_aspect (is (words a.name.from)) a.value ++ in_aspects is words as'

-- the indexes of Pre, and then those of Post
abbrev pub in_contract : (ℕ → Option Word) → tree.Heading → List ℕ
in_contract words h = in_aspects is_pre words h.aspects ++ in_aspects is_post words h.aspects

-- ---- loops and their parameters

abbrev mutual
  pub loops_in : tree.Stmts → List ℕ
  loops_in tree.no_stmts = []
  loops_in (tree.stmts s ss) = loops_of s ++ loops_in ss

  pub loops_of : tree.Stmt → List ℕ
  loops_of (tree.statement s x) = loops_by s.from x

  pub loops_by : ℕ → tree.Action → List ℕ
  loops_by at (tree.branches bs ss) = loops_in_branches bs ++ loops_in ss
  loops_by at (tree.case_of e as') = loops_in_alternatives as'
  loops_by at (tree.loop h ss) = at ∷ loops_in ss
  loops_by at _ = []

  pub loops_in_branches : tree.Branches → List ℕ
  loops_in_branches tree.no_branches = []
  loops_in_branches (tree.branch e ss bs) = loops_in ss ++ loops_in_branches bs

  pub loops_in_alternatives : tree.Alternatives → List ℕ
  loops_in_alternatives tree.no_alternatives = []
  loops_in_alternatives (tree.alternative ks ss as') = loops_in ss ++ loops_in_alternatives as'

abbrev pub parameter_of : tree.LoopHead → List ℕ
parameter_of (tree.for s b r) = s.from ∷ []
parameter_of _ = []

abbrev mutual
  pub turns_in : tree.Stmts → List ℕ
  turns_in tree.no_stmts = []
  turns_in (tree.stmts s ss) = turns_of s ++ turns_in ss

  pub turns_of : tree.Stmt → List ℕ
  turns_of (tree.statement s x) = turns_by x

  pub turns_by : tree.Action → List ℕ
  turns_by (tree.branches bs ss) = turns_in_branches bs ++ turns_in ss
  turns_by (tree.case_of e as') = turns_in_alternatives as'
  turns_by (tree.loop h ss) = parameter_of h ++ turns_in ss
  turns_by _ = []

  pub turns_in_branches : tree.Branches → List ℕ
  turns_in_branches tree.no_branches = []
  turns_in_branches (tree.branch e ss bs) = turns_in ss ++ turns_in_branches bs

  pub turns_in_alternatives : tree.Alternatives → List ℕ
  turns_in_alternatives tree.no_alternatives = []
  turns_in_alternatives (tree.alternative ks ss as') = turns_in ss ++ turns_in_alternatives as'

-- ---- their numbers

abbrev pub numbered_from : ℕ → List ℕ → List Numbered
numbered_from n [] = []
numbered_from n (b ∷ bs) = record { at = b; number = n } ∷ numbered_from (suc n) bs

-- indexes go on from a number; those of a contract begin with 0, and those of a body come after them
abbrev pub numbered : ℕ → List ℕ → List ℕ → List ℕ → List Numbered
numbered first indexes turns loops = numbered_from first indexes ++ numbered_from 0 turns ++ numbered_from 0 loops
