use Rattle.ada_values.proofs.Parts.{item_law, new_item_law, component_law, new_component_law}
use Rattle.ada_values.proofs.shapes.part_laws.Goals as goal

pub returns-clause-item : goal.returns-clause-item
returns-clause-item c = item_law

pub returns-clause-new_item : goal.returns-clause-new_item
returns-clause-new_item c = new_item_law

pub returns-clause-component : goal.returns-clause-component
returns-clause-component c = component_law

pub returns-clause-new_component : goal.returns-clause-new_component
returns-clause-new_component c = new_component_law
