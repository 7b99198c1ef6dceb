-- What the variables of a run are.
use Rattle.typed_units.specs.Syntax.{param, local, global, turn, index, answer}
use Rattle.ada_semantics.specs.Store.{Store, slot_at}
use Rattle.run_store.specs.RunSlots.{run_slot, run_slots}
use Rattle.run_store.specs.declared.variables.RunVars.{RunVars}

abbrev pub store_of : RunVars → Store
store_of vars (param k) = slot_at (run_slots vars.params) k
store_of vars (local k) = slot_at (run_slots vars.locals) k
store_of vars (global k) = slot_at (run_slots vars.globals) k
store_of vars (turn k) = slot_at (run_slots vars.turns) k
store_of vars (index k) = slot_at (run_slots vars.indexes) k
store_of vars answer = run_slot vars.answer
