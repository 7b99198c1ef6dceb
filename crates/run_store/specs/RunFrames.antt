-- What a subprogram at work is.
use Rattle.ada_semantics.specs.Store.{Frame}
use Rattle.run_store.specs.RunStores.{store_of}
use Rattle.run_store.specs.Entries.{entry_of}
use Rattle.run_store.specs.declared.run_frames.RunFrame.{RunFrame}

abbrev pub frame_of : RunFrame → Frame
frame_of f = record { state = store_of f.state; start = store_of f.start; entries = λ k. store_of (entry_of f.entries f.start k) }
