-- The flow rules hold.
use Rattle.std.specs.Prelude.{◌≡◌, []}
use Rattle.flow_rules.specs.Headed.{Headed}
use Rattle.flow_rules.specs.Sets.{IsEffects}
use Rattle.flow_rules.specs.Aliases.{alias_faults}
use Rattle.flow_rules.specs.Functions.{function_faults}
use Rattle.flow_rules.specs.Unset.{IsUnsetFault}
use Rattle.flow_rules.specs.declared.faults.Effects.{Effects}
use Rattle.flow_rules.specs.declared.faults.FlowFault.{FlowFault}

-- a program is fit: with its effects, F1 to F6 are broken nowhere
pub record Fit (p : Headed) : Type 0 where
  pub effects : Effects
  pub are_effects : IsEffects p.text effects
  -- F1, F2
  pub sets : (f : FlowFault) → IsUnsetFault p effects f → ⊥
  -- F4, F5
  pub aliases : alias_faults p.text effects ≡ []
  -- F3, F6
  pub functions : function_faults p effects ≡ []
