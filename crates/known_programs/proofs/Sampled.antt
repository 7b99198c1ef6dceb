-- All names of the sample program are declared.
use Rattle.std.proofs.Common.{refl, [], ◌∷◌}
use Rattle.known_programs.specs.Declared.{ProgramDeclared}
use Rattle.known_programs.specs.Sample.{sample}

pub sample_declared : ProgramDeclared (sample ∷ []) (0 ∷ [])
sample_declared = ((((tt, tt), tt), (((((record { subtype = _; is = refl }, tt), tt), tt), tt), (tt, (((record { subtype = _; is = refl }, tt), tt), tt)))), tt)
