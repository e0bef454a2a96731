use Rattle.enc_stream.proofs.NeedLemmas.{enough_from_utf_16}
use Rattle.enc_stream.proofs.encoder.Encoder.max_buffer_length_from_utf16_without_replacement.Goals as goal

pub returns-clause-enough : goal.returns-clause-enough
returns-clause-enough c =
    enough_from_utf_16 _ c.args.self.now c.byte_lengths.ensures.enough c.args.u16_length _
    (rw c.byte_lengths.ensures.lengths at c.from_utf16.ensures)
