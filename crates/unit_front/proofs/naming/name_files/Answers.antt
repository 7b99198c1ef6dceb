use Rattle.std.proofs.Common.{◌<◌, ◌^◌, List, length, subst, sym}
use Rattle.std.specs.List.{sum_by}
use Rattle.name_resolver.specs.declared.files.SourceFile.{SourceFile}
use Rattle.unit_front.proofs.Sums.{short_sources, short_texts}
use Rattle.unit_front.proofs.naming.name_files.Goals as goal

pub read_files-requires-clause-short : goal.read_files-requires-clause-short
read_files-requires-clause-short c = short_texts c.args.files.now c.requires.short

pub resolve-requires : goal.resolve-requires
resolve-requires c =
    subst (λ (ss : List SourceFile). sum_by (λ f. length f.text) ss < 2 ^ 31) (sym c.as_slice.ensures)
    (short_sources c.args.files.now c.in_ok-sources.sources c.in_ok-sources.ensures.trees c.requires.short)
