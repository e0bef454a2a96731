use Rattle.enc_stream.proofs.EncoderLemmas.{ascii_bytes, ascii_set}
use Rattle.enc_stream.proofs.laws.ascii_compatible_encode_ascii.Goals as goal

pub returns-clause-bytes : goal.returns-clause-bytes
returns-clause-bytes c = λ compatible b x is_ascii. ascii_bytes _ compatible b x is_ascii

pub returns-clause-set : goal.returns-clause-set
returns-clause-set c = λ compatible b x is_ascii. ascii_set _ compatible b x
