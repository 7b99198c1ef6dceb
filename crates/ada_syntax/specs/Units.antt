-- What library units read as (Ada RM 7.1, 7.2, 10.1.1, 10.1.2).
use Rattle.std.specs.Prelude.{List, ◌++◌, Option}
use Rattle.ada_text.specs.declared.reserved.Reserved.TheVariants as res
use Rattle.ada_syntax.specs.declared.declarations.Decl.{Decl}
use Rattle.ada_syntax.specs.declared.units.ContextItem.{ContextItem}
use Rattle.ada_syntax.specs.declared.units.ContextItem.TheVariants as context'
use Rattle.ada_syntax.specs.declared.units.SourceUnit.{SourceUnit}
use Rattle.ada_syntax.specs.declared.units.Unit.{Unit}
use Rattle.ada_syntax.specs.declared.units.UnitForm.{UnitForm}
use Rattle.ada_syntax.specs.declared.units.UnitForm.TheVariants as unit'
use Rattle.ada_syntax.specs.Words.{Words, each, id, where_some, word}
use Rattle.ada_syntax.specs.Statements.{pragma, semicolon}
use Rattle.ada_syntax.specs.Declarations.{aspects, decl, end_name, names, sub}

abbrev pub context_item : ContextItem → Words
context_item (context'.Pragma p) = pragma p
context_item (context'.With ns) = word res.With ++ names ns ++ semicolon
context_item (context'.Use ns) = word res.Use ++ names ns ++ semicolon

abbrev pub private_part : Option (List Decl) → Words
private_part = where_some (λ ds. word res.Private ++ each decl ds)

abbrev pub unit_form : UnitForm → Words
unit_form (unit'.Package p) = word res.Package ++ id p.name ++ aspects p.aspects ++ word res.Is ++ each decl p.declarations ++ private_part p.private ++ word res.End ++ end_name p.end_name ++ semicolon
unit_form (unit'.PackageBody p) = word res.Package ++ word res.Body ++ id p.name ++ aspects p.aspects ++ word res.Is ++ each decl p.declarations ++ word res.End ++ end_name p.end_name ++ semicolon
unit_form (unit'.Sub s) = sub decl s

abbrev pub unit : Unit → Words
unit u = unit_form u.form

-- a file
abbrev pub spelled : SourceUnit → Words
spelled u = each context_item u.context ++ unit u.unit
