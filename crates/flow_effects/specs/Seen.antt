-- What the code's parts of objects are to the definitions. It serves the proof alone.
use Rattle.std.specs.Prelude.{map}
use Rattle.typed_units.specs.View.{var}
use Rattle.flow_rules.specs.Aliases.{Part, Step, to_field, to_some_item}
use Rattle.flow_effects.specs.declared.parts.Part.{Part as CodePart}
use Rattle.flow_effects.specs.declared.parts.PartStep.{PartStep}
use Rattle.flow_effects.specs.declared.parts.PartStep.TheVariants as step

abbrev pub step_of : PartStep → Step
step_of (step.Field k) = to_field k
step_of step.SomeItem = to_some_item

abbrev pub part_of : CodePart → Part
part_of a = record { object = var a.object; path = map step_of a.path }
