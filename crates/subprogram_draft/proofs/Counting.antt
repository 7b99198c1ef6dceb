-- What the rules say of contracts and bodies is what is said of them by their counts.
use Rattle.std.proofs.Common.{◌≡◌, ℕ, ◌++◌, List, [], length, refl, true}
use Rattle.ada_values.specs.declared.place.Place.{Place}
use Rattle.typed_units.specs.declared.statements.Stmt.{Stmt}
use Rattle.syntax_view.specs.Trees as tree
use Rattle.typing_rules.specs.declared.prefix.Found.{Found}
use Rattle.typing_rules.specs.declared.prefix.Found.TheVariants.{Refused, Unknown, Is}
use Rattle.statement_typing.specs.declared.draft.Draft.{Draft}
use Rattle.statement_typing.specs.Aspects.{aspects_found}
use Rattle.statement_typing.specs.Files.{Home}
use Rattle.statement_typing.specs.Numbers.{in_contract, in_decls, in_stmts, loops_in, turns_in}
use Rattle.statement_typing.specs.Units.{contract_home, with_body, with_contract}
use Rattle.subprogram_draft.specs.Counted.{body_with, contract_with}

pub contract_by_count : (h : Home) (q : ℕ) (s : tree.Heading) (d : Draft) → with_contract h q s d ≡ contract_with q (aspects_found (contract_home h q s) d.world true [] s.aspects) (length (in_contract h.file.word s)) d
contract_by_count h q s d = refl

pub body_by_counts : (p : Place) (q : ℕ) (ds : tree.Decls) (ts : tree.Stmts) (f : Found (List Stmt)) (d : Draft) → with_body p q ds ts f d ≡ body_with p q (length (turns_in ts)) (length (in_decls ds ++ in_stmts ts)) (length (loops_in ts)) f d
body_by_counts p q ds ts (Is xs) d = refl
body_by_counts p q ds ts Unknown d = refl
body_by_counts p q ds ts (Refused f) d = refl
