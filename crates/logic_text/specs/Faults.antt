-- Faults of parts as those of whole texts.
use Rattle.term_reader.specs.declared.fault.ReadFault.{ReadFault}
use Rattle.term_reader.specs.declared.fault.ReadFault.TheVariants as part
use Rattle.logic_text.specs.declared.fault.TextFault.{TextFault}
use Rattle.logic_text.specs.declared.fault.TextFault.TheVariants as text

abbrev pub text_fault : ReadFault → TextFault
text_fault (part.BadText at) = text.BadText at
text_fault part.Starved = text.Starved
