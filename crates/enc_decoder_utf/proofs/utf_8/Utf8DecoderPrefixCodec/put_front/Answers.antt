use Rattle.enc_utf8.specs.Pieces.{IsUtf8Char}
use Rattle.enc_output.proofs.PiecesLemmas.{puts_as}
use Rattle.enc_decoder.specs.Taking.{IsWholeChar}
use Rattle.enc_decoder.specs.Prefixes.{prefix_rule}
use Rattle.enc_decoder_utf.specs.Utf8.{utf_8_prefix}
use Rattle.enc_decoder_utf.proofs.Utf8Pieces.{utf8_prefix_piece}
use Rattle.enc_decoder_utf.proofs.utf_8.Utf8DecoderPrefixCodec.put_front.Goals as goal

pub returns : goal.returns
returns g c =
    puts_as g.U.Units.units_of IsUtf8Char (IsWholeChar (prefix_rule utf_8_prefix) 0) _ _ _ _
    utf8_prefix_piece c.put_utf8_run.ensures
