-- A formula or its negation.
use Rattle.std.specs.Prelude.{Bool, true, false}
use Rattle.logic_terms.specs.Node.{Node}
use Rattle.logic_terms.specs.Binding.{negated}

abbrev pub literal : Bool → Node → Node
literal true p = p
literal false p = negated p
