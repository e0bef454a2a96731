-- The rule of the replacement encoding, and the state of its decoder (Encoding Standard 14.1.1,
-- "replacement decoder").
use Rattle.std.specs.Prelude.{Bool, [], ◌∷◌, if◌then◌else◌}
use Rattle.std.proofs.Common.{zero, suc}
use Rattle.enc_decoder.specs.declared.byte_codec.Kind.TheVariants.{Skipped, Malformed}
use Rattle.enc_decoder.specs.Segmentation.{Rule}
use Rattle.enc_decoder.specs.CodecState.{CodecState}

-- The first byte is malformed, and all others are skipped. The number of the character set is 0
-- before the first byte, and 1 after it.
unfoldable pub replacement_rule : Rule
replacement_rule zero b z = record { more = 0; text = 0xFFFD ∷ []; kind = Malformed; set = 1 }
replacement_rule (suc set) b z = record { more = 0; text = []; kind = Skipped; set = 1 }

-- by whether the first byte has been reported
abbrev pub replacement_state : Bool → CodecState
replacement_state reported =
    record { rule = replacement_rule; set = if reported then 1 else 0; pending = [] }
