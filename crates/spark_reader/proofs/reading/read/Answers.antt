use Rattle.std.proofs.Common.{length}
use Rattle.spark_reader.proofs.Places.{few_in_text}
use Rattle.spark_reader.proofs.reading.read.Goals as goal

pub derive-requires : goal.derive-requires
derive-requires c = few_in_text c.in_ok-found.found (length c.args.text.now) 4294967296 c.in_ok-found.ensures.order c.requires
