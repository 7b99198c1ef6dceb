-- What identifiers and points stand for, in the words of the rules.
use Rattle.statement_typing.specs.Subtypes.{Mark, mark}
use Rattle.static_rules.specs.declared.marks.Mark as code
use Rattle.syntax_view.specs.View.{expr, suffixes_of}

abbrev pub mark_as : code.Mark → Mark
mark_as m = mark m.entity (suffixes_of expr m.rest.now)
