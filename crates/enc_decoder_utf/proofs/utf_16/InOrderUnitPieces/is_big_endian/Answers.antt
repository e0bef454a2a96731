use Rattle.enc_decoder_utf.proofs.Utf16Pieces.{units_are_pieces}
use Rattle.enc_decoder_utf.proofs.utf_16.InOrderUnitPieces.is_big_endian.Goals as goal

pub returns : goal.returns
returns c = units_are_pieces c.args.self.big_endian
