use Rattle.cert_reader.proofs.Wholes.{good_cert}
use Rattle.cert_reader.proofs.laws.cert_texts_have_no_fault.Goals as goal

pub returns : goal.returns
returns c =
    λ ls at h b. good_cert ls at h b
