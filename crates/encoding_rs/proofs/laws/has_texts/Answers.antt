use Rattle.std.proofs.Common.{refl}
use Rattle.enc_stream.proofs.EncodingLemmas as encodings
use Rattle.encoding_rs.proofs.laws.has_texts.Goals as goal

pub returns : goal.returns
returns c = λ n m. encodings.has_texts _ _ _ refl refl n m
