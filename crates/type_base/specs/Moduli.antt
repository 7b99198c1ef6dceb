-- Which moduli types have. -- Ada RM 3.5.4
use Rattle.ada_values.specs.Scalars.{IsModulus}
use Rattle.type_base.specs.declared.world.Form.{Form}
use Rattle.type_base.specs.declared.world.Form.TheVariants as form
use Rattle.type_base.specs.declared.world.Subtype.{Subtype}

abbrev pub HasModulusIn : Form → Type 0
HasModulusIn (form.Number d s) = IsModulus s.modulus
HasModulusIn _ = Unit {0}

-- a modulus, where the subtype has one, is from 2 to 2 ** 64
abbrev pub HasModulus : Subtype → Type 0
HasModulus s = HasModulusIn s.form
