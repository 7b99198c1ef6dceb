use Rattle.std.proofs.Common.{◌≡◌, ◌++◌, map, reverse, length}
use Rattle.term_reader.specs.declared.part.Part.TheVariants as part
use Rattle.term_reader.proofs.make.terms_of.Given as goal

abbrev pub invariant-loop-part : goal.invariant-loop-part
invariant-loop-part l = l.fn.parts ≡ l.parts ++ map part.Term (reverse l.backwards)

abbrev pub decreases-loop-part : goal.decreases-loop-part
decreases-loop-part l = length l.parts
