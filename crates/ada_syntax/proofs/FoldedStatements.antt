-- What a statement or a declaration reads as, by its form.
use Rattle.std.proofs.Common.{◌≡◌, refl, ◌∙◌, ap, ap₂, List, [], ◌∷◌, ◌++◌, map, Option, Some, None}
use Rattle.ada_text.specs.declared.token.Span.{Span}
use Rattle.ada_text.specs.declared.reserved.Reserved.TheVariants as res
use Rattle.ada_syntax.specs.declared.statements.Action.{Action}
use Rattle.ada_syntax.specs.declared.statements.Action.TheVariants as act
use Rattle.ada_syntax.specs.declared.statements.Alternative.{Alternative}
use Rattle.ada_syntax.specs.declared.statements.Branch.{Branch}
use Rattle.ada_syntax.specs.declared.statements.Stmt.{Stmt, roll-Stmt, map-Stmt, fold-roll-Stmt}
use Rattle.ada_syntax.specs.declared.statements.Stmt.TheShapes as shapes
use Rattle.ada_text.specs.declared.delimiters.Delimiter.TheVariants as del
use Rattle.ada_syntax.specs.declared.expressions.Expr.{Expr}
use Rattle.ada_syntax.specs.declared.expressions.Name.{Name}
use Rattle.ada_syntax.specs.declared.declarations.Aspect.{Aspect}
use Rattle.ada_syntax.specs.declared.declarations.Param.{Param}
use Rattle.ada_syntax.specs.declared.declarations.Body.{Body}
use Rattle.ada_syntax.specs.declared.declarations.Decl.{Decl, roll-Decl, map-Decl, fold-roll-Decl}
use Rattle.ada_syntax.specs.declared.declarations.DeclForm.{DeclForm}
use Rattle.ada_syntax.specs.declared.declarations.DeclForm.TheVariants as dec
use Rattle.ada_syntax.specs.Words.{Words, each, separated, id, symbol, where_some, word}
use Rattle.ada_syntax.specs.Expressions.{expr, name}
use Rattle.ada_syntax.specs.Statements.{action, alternative, branch, case_choice, loop_head, otherwise, semicolon, stmt, stmt_step}
use Rattle.ada_syntax.specs.Declarations.{aspects, decl, decl_form, decl_step, end_name, params, sub, sub_kind}
use Rattle.ada_syntax.proofs.Folded.{each_map, separated_map}

otherwise_map : (ss : List Stmt) → otherwise (λ w. w) (map stmt ss) ≡ otherwise stmt ss
otherwise_map [] = refl
otherwise_map (s ∷ ss) = ap (λ (z : Words). word res.Else ++ (stmt s ++ z)) (each_map stmt (λ w. w) stmt (λ x. refl) ss)

branch_map : (b : Branch Stmt) → branch (λ w. w) ((shapes.former-Stmt-action-at-6).map Stmt Words stmt b) ≡ branch stmt b
branch_map b = ap (λ (z : Words). expr b.condition ++ word res.Then ++ z) (each_map stmt (λ w. w) stmt (λ x. refl) b.body)

alternative_map : (a : Alternative Stmt) → alternative (λ w. w) ((shapes.former-Stmt-action-at-14).map Stmt Words stmt a) ≡ alternative stmt a
alternative_map a = ap (λ (z : Words). word res.When ++ separated (symbol del.Bar) case_choice a.choices ++ symbol del.Arrow ++ z) (each_map stmt (λ w. w) stmt (λ x. refl) a.body)

action_words : (s : Span) (a : Action Stmt) → stmt_step (map-Stmt Stmt Words stmt (record { span = s; action = a })) ≡ action stmt a
action_words s act.Null = refl
action_words s (act.Call n) = refl
action_words s (act.Assign n e) = refl
action_words s (act.If bs ss) = ap₂ (λ (y z : Words). word res.If ++ y ++ z ++ word res.End ++ word res.If ++ semicolon) (separated_map (word res.Elsif) ((shapes.former-Stmt-action-at-6).map Stmt Words stmt) (branch (λ w. w)) (branch stmt) branch_map bs) (otherwise_map ss)
action_words s (act.Case e as') = ap (λ (z : Words). word res.Case ++ expr e ++ word res.Is ++ z ++ word res.End ++ word res.Case ++ semicolon) (each_map ((shapes.former-Stmt-action-at-14).map Stmt Words stmt) (alternative (λ w. w)) (alternative stmt) alternative_map as')
action_words s (act.Loop h ss) = ap (λ (z : Words). loop_head h ++ word res.Loop ++ z ++ word res.End ++ word res.Loop ++ semicolon) (each_map stmt (λ w. w) stmt (λ x. refl) ss)
action_words s (act.Exit e) = refl
action_words s (act.Return e) = refl
action_words s (act.Pragma p) = refl

pub stmt_words : (s : Span) (a : Action Stmt) → stmt (roll-Stmt (record { span = s; action = a })) ≡ action stmt a
stmt_words s a = fold-roll-Stmt Words stmt_step (record { span = s; action = a }) ∙ action_words s a

sub_words : (s t n : Span) (ps : List Param) (r : Option (Name Expr)) (as' : List Aspect) (b : Option (Body Decl)) → decl_step (map-Decl Decl Words decl (record { span = s; form = dec.Sub (record { span = t; name = n; params = ps; result = r; aspects = as'; body = b }) })) ≡ sub decl (record { span = t; name = n; params = ps; result = r; aspects = as'; body = b })
sub_words s t n ps r as' None = refl
sub_words s t n ps r as' (Some b) = ap (λ (z : Words). sub_kind r ++ id n ++ params ps ++ where_some (λ x. word res.Return ++ name expr x) r ++ aspects as' ++ (word res.Is ++ z ++ word res.Begin ++ each stmt b.statements ++ word res.End ++ end_name b.end_name ++ semicolon)) (each_map decl (λ w. w) decl (λ x. refl) b.declarations)

form_words : (s : Span) (f : DeclForm Decl) → decl_step (map-Decl Decl Words decl (record { span = s; form = f })) ≡ decl_form decl f
form_words s (dec.Type n t) = refl
form_words s (dec.Subtype n t) = refl
form_words s (dec.Object ns o) = refl
form_words s (dec.Sub q) = sub_words s q.span q.name q.params q.result q.aspects q.body
form_words s (dec.Pragma p) = refl
form_words s (dec.Use ns) = refl

pub decl_words : (s : Span) (f : DeclForm Decl) → decl (roll-Decl (record { span = s; form = f })) ≡ decl_form decl f
decl_words s f = fold-roll-Decl Words decl_step (record { span = s; form = f }) ∙ form_words s f
