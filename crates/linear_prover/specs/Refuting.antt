-- What it means that lines refute forms: what the rule of certificates for steps over linear forms asks of them.
use Rattle.std.specs.Prelude.{◌≡◌, true, List}
use Rattle.linear_forms.specs.Form.{Form}
use Rattle.cert_lines.specs.Line.{Step}
use Rattle.cert_rules.specs.Judged.{yields}
use Rattle.cert_rules.specs.Linear.{run_steps, refuted}

-- the steps run: each uses forms that stand, with factors of at least 1, and all numbers fit; and the last form is a negative
-- constant, or without steps one of the forms is
pub record Refutes (fs : List Form) (ls : List Step) : Type 0 where
  pub forms : List Form
  pub run : run_steps fs ls ≡ yields forms
  pub negative : refuted ls forms ≡ true
