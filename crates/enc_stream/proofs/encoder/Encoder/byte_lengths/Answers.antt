use Rattle.enc_stream.proofs.NeedLemmas.{enough_in}
use Rattle.enc_names.specs.EncodingTable.{codec_by_id}
use Rattle.enc_stream.proofs.encoder.Encoder.byte_lengths.Goals as goal

pub returns-clause-enough : goal.returns-clause-enough
returns-clause-enough c =
    let encoder = c.self.inside in
    rw (← c.self.view_is) (enough_in encoder.barred.now (codec_by_id encoder.encoding.id)
    encoder.raw c.self.invariant)
