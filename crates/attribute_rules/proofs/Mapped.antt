-- The rules of typing give what these do of an argument that has been read.
use Rattle.std.proofs.Common.{◌≡◌, refl, ℕ}
use Rattle.ada_values.specs.declared.place.Place.{Place}
use Rattle.type_base.specs.Scope.{Scope}
use Rattle.typing_rules.specs.declared.prefix.Mapping.{Mapping}
use Rattle.typing_rules.specs.declared.prefix.Mapping.TheVariants as mapping
use Rattle.typing_rules.specs.Attributes as rules
use Rattle.typing_rules.specs.Faults.{mapped_want}
use Rattle.typing_rules.specs.Parts.{Operand}
use Rattle.typing_rules.specs.Values.{place_of, seen_of}
use Rattle.attribute_rules.specs.Mappings.{mapped_by}

pub mapped_read : (c : Scope) (p : Place) (m : Mapping) (t : Place) (k : ℕ) (o : Operand) → rules.mapped_by c p m t k o ≡ mapped_by c p m t k (place_of c o) (seen_of c o (mapped_want c m k))
mapped_read c p mapping.Succ t k o = refl
mapped_read c p mapping.Pred t k o = refl
mapped_read c p mapping.Pos t k o = refl
mapped_read c p mapping.Val t k o = refl
