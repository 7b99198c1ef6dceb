-- What it is that a subprogram has a check.
use Rattle.std.specs.Prelude.{◌≡◌, ℕ, [], Some, Contains, slice_get}
use Rattle.typed_units.specs.declared.checks.SiteKey.{SiteKey}
use Rattle.typed_units.specs.Syntax.{Routine, Text}
use Rattle.unit_nodes.specs.Nodes.{Node, routine_onto}
use Rattle.check_sites.specs.Sites.{node_checks}

-- a node of the subprogram k has the check
pub record HasCheck (t : Text) (k : ℕ) (c : SiteKey) : Type 0 where
  pub routine : Routine
  pub numbered : slice_get t.routines k ≡ Some routine
  pub node : Node
  pub among : Contains (routine_onto [] routine) node
  pub check : Contains (node_checks t node) c
