-- Identifiers that stand alone before an argument's `=>`.
use Rattle.std.specs.Prelude.{ℕ, List, Option, Some, None, if◌then◌else◌}
use Rattle.type_base.specs.Scope.{Scope}
use Rattle.type_base.specs.declared.world.Formal.{Formal}
use Rattle.typing_rules.specs.Calls.{formal_named, still_open}
use Rattle.typing_rules.specs.Parts.{Operand}

-- the first byte of an identifier alone
abbrev pub lone_in : Operand → Option ℕ
lone_in o = if o.alone then Some o.from else None

-- the number of the formal of the name at a byte, where that isn't given yet
abbrev pub named_formal : Scope → List Formal → List ℕ → Option ℕ → Option ℕ
named_formal c fs given (Some at) = still_open given (formal_named fs (c.name at) 0)
named_formal c fs given None = None
