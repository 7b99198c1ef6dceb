-- Standard's world stands in the worked program.
use Rattle.std.proofs.Common.{◌≡◌, subst, refl, ℕ, zero, suc, ℤ, pos, negsuc, Some, None, arith}
use Rattle.ada_values.specs.Scalars.{integer_last}
use Rattle.ada_values.specs.declared.shapes.Shape.TheVariants as shape
use Rattle.type_base.specs.declared.world.Discrete.TheVariants as discrete
use Rattle.type_base.specs.declared.world.Form.TheVariants as form
use Rattle.type_base.specs.declared.world.Subtype.{Subtype}
use Rattle.type_base.specs.Lookups.{subtype_at}
use Rattle.type_base.specs.Standard.{long_last, signed, standard}
use Rattle.typing_laws.proofs.Predefined as laws
use Rattle.program_typing.specs.Cases.{increment}
use Rattle.program_typing.specs.Subtypes.{SoundSubtype, class_of, shape_of, type_of}
use Rattle.program_typing.proofs.Cases.{increment_body, scalar_from, standard_sound}
use Rattle.typed_units.specs.declared.programs.Class.TheVariants as class
use Rattle.well_typed_programs.specs.Fits as world
use Rattle.well_typed_programs.specs.Fits.{StandsAs, WorldFits}
use Rattle.well_typed_programs.proofs.Worlds.{none_is, some_is}

abbrev Both : ℕ → Subtype → Type 0
Both k s = StandsAs increment standard k s × SoundSubtype increment k

both_for : (k : ℕ) (a s : Subtype) → Some a ≡ Some s → StandsAs increment standard k a → SoundSubtype increment k → Both k s
both_for k a s e z y = (subst (λ (x : Subtype). StandsAs increment standard k x) (some_is a s e) z, y)

number_stands : (k t last : ℕ) (lo : ℤ) → shape_of increment k ≡ Some (shape.Number (scalar_from last lo)) → class_of increment k ≡ Some class.Signed → type_of increment k ≡ Some t → StandsAs increment standard k (signed t last lo)
number_stands k t last lo a b c = record { shape = shape.Number (scalar_from last lo); of_shape = a; is_shape = world.number discrete.Signed (scalar_from last lo); of_class = b; of_type = c }

both_at : (k : ℕ) (s : Subtype) → subtype_at standard k ≡ Some s → Both k s
both_at zero s e =
    both_for 0 (record { of = 0; form = form.Truth }) s e (record { shape = shape.Truth; of_shape = refl; is_shape = world.truth; of_class = refl; of_type = refl }) (standard_sound increment_body 0 (omega arith))
both_at (suc zero) s e = both_for 1 (signed 1 integer_last (negsuc integer_last)) s e (number_stands 1 1 integer_last (negsuc integer_last) refl refl refl) (standard_sound increment_body 1 (omega arith))
both_at (suc (suc zero)) s e = both_for 2 (signed 1 integer_last (negsuc integer_last)) s e (number_stands 2 1 integer_last (negsuc integer_last) refl refl refl) (standard_sound increment_body 2 (omega arith))
both_at (suc (suc (suc zero))) s e = both_for 3 (signed 1 integer_last (pos 0)) s e (number_stands 3 1 integer_last (pos 0) refl refl refl) (standard_sound increment_body 3 (omega arith))
both_at (suc (suc (suc (suc zero)))) s e = both_for 4 (signed 1 integer_last (pos 1)) s e (number_stands 4 1 integer_last (pos 1) refl refl refl) (standard_sound increment_body 4 (omega arith))
both_at (suc (suc (suc (suc (suc zero))))) s e = both_for 5 (signed 5 long_last (negsuc long_last)) s e (number_stands 5 5 long_last (negsuc long_last) refl refl refl) (standard_sound increment_body 5 (omega arith))
both_at (suc (suc (suc (suc (suc (suc zero)))))) s e = both_for 6 (signed 5 long_last (negsuc long_last)) s e (number_stands 6 5 long_last (negsuc long_last) refl refl refl) (standard_sound increment_body 6 (omega arith))
both_at (suc (suc (suc (suc (suc (suc (suc k))))))) s e = absurd (none_is None s refl e)

pub standard_fits : WorldFits increment standard
standard_fits = record { world = laws.standard_sound; subtypes = λ k s e. (both_at k s e).0; sound = λ k s e. (both_at k s e).1 }
