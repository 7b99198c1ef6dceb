-- What is found of subtypes and types has a modulus from 2 to 2 ** 64, where it has any. -- Ada RM 3.5.4
use Rattle.std.specs.List.{All}
use Rattle.ada_values.specs.Scalars.{IsModulus}
use Rattle.type_base.specs.Moduli.{HasModulus, HasModulusIn}
use Rattle.typing_rules.specs.declared.prefix.Found.{Found}
use Rattle.typing_rules.specs.declared.prefix.Found.TheVariants.{Refused, Unknown, Is}
use Rattle.statement_typing.specs.declared.parts.Definition.{Definition}
use Rattle.statement_typing.specs.declared.parts.Definition.TheVariants.{ArrayOf, Integer, RecordOf, Single}
use Rattle.statement_typing.specs.declared.parts.Group.{Group}
use Rattle.statement_typing.specs.declared.parts.Noted.{Noted}
use Rattle.statement_typing.specs.declared.parts.Noted.TheVariants.{Known, New}

abbrev pub IsSound : Noted → Type 0
IsSound (Known k) = Unit {0}
IsSound (New s) = HasModulus s

abbrev pub IsSoundGroup : Group → Type 0
IsSoundGroup g = IsSound g.subtype

abbrev pub IsSoundDefinition : Definition → Type 0
IsSoundDefinition (Integer c x) = IsModulus x.modulus
IsSoundDefinition (Single f) = HasModulusIn f
IsSoundDefinition (ArrayOf i n) = IsSound n
IsSoundDefinition (RecordOf gs) = All IsSoundGroup gs

-- what holds of what is found, where anything is
abbrev pub IfIs : {A : Type 0} → (A → Type 0) → Found A → Type 0
IfIs P (Refused f) = Unit {0}
IfIs P Unknown = Unit {0}
IfIs P (Is a) = P a
