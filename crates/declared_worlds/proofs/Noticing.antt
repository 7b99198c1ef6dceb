-- What is seen and found in a sound world, by what is seen and found.
use Rattle.std.proofs.Common.{◌≡◌, subst, ℕ}
use Rattle.front_codes.specs.declared.codes.Code.{Code}
use Rattle.syntax_view.specs.Trees as tree
use Rattle.typed_units.specs.declared.expressions.Expr.{Expr}
use Rattle.type_base.specs.Scope.{Scope}
use Rattle.type_base.specs.declared.seen.Seen.{Seen}
use Rattle.type_base.specs.declared.seen.Seen.TheVariants.{Typed}
use Rattle.type_base.specs.declared.seen.Want.{Want}
use Rattle.type_base.specs.declared.world.Subtype.{Subtype}
use Rattle.typing_rules.specs.declared.prefix.Found.{Found}
use Rattle.typing_rules.specs.declared.prefix.Found.TheVariants.{Is}
use Rattle.typing_rules.specs.Reading.{seen}
use Rattle.statement_typing.specs.declared.parts.Noted.{Noted}
use Rattle.statement_typing.specs.declared.parts.Noted.TheVariants.{Known, New}
use Rattle.statement_typing.specs.Subtypes.{indicated}
use Rattle.sound_subtypes.specs.Sound.{IfIs}
use Rattle.typing_laws.specs.Declared.{IsSound, IsThere, IsWhole}
use Rattle.declared_worlds.proofs.Seen.{TypeThere}
use Rattle.declared_worlds.proofs.Reading.{type_there}
use Rattle.declared_worlds.proofs.Indicating.{NotedThere, indicated_noted}

pub typed_there : (c : Scope) (w : Want) (e : tree.Expr) (t : ℕ) (x : Expr) → IsSound c.world → seen c w e ≡ Typed t x → IsThere c.world t
typed_there c w e t x sound h = subst (λ (s : Seen). TypeThere c.world s) h (type_there c w e sound)

noted_there : (c : Scope) (r : Code) (s : tree.SubInd) (n : Noted) → IsSound c.world → indicated c r s ≡ Is n → NotedThere c.world n
noted_there c r s n sound h = subst (λ (m : Found Noted). IfIs (NotedThere c.world) m) h (indicated_noted c r s sound)

pub subtype_there : (c : Scope) (r : Code) (s : tree.SubInd) (k : ℕ) → IsSound c.world → indicated c r s ≡ Is (Known k) → IsThere c.world k
subtype_there c r s k sound h = noted_there c r s (Known k) sound h

pub constraint_there : (c : Scope) (r : Code) (s : tree.SubInd) (z : Subtype) → IsSound c.world → indicated c r s ≡ Is (New z) → IsWhole c.world z
constraint_there c r s z sound h = noted_there c r s (New z) sound h
