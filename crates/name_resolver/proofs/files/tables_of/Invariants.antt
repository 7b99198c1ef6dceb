use Rattle.std.proofs.Common.{◌≡◌, map, take}
use Rattle.name_resolver.specs.Resolved.{texts_of}
use Rattle.name_resolver.proofs.files.tables_of.Given as goal

abbrev pub invariant-loop-file : goal.invariant-loop-file
invariant-loop-file l = map (λ t. t.now) l.texts.items ≡ texts_of (take l.file-index l.files)
