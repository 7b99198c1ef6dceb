-- What the code's actuals are to the definitions. It serves the proof alone.
use Rattle.std.specs.Option.{option_map}
use Rattle.flow_rules.specs.Aliases as rule
use Rattle.flow_rules.specs.Aliases.{Use, written, shared, copied}
use Rattle.flow_effects.specs.Seen.{part_of}
use Rattle.flow_effects.specs.declared.passed.Passed.{Passed}
use Rattle.flow_effects.specs.declared.passed.Usage.{Usage}
use Rattle.flow_effects.specs.declared.passed.Usage.TheVariants as usage

abbrev pub use_of : Usage → Use
use_of usage.Written = written
use_of usage.Shared = shared
use_of usage.Copied = copied

abbrev pub passed_of : Passed → rule.Passed
passed_of a = record { place = a.place; part = option_map part_of a.part; use_of = use_of a.usage }
