-- Whole inputs that are recoded: decoded from one encoding, and written in the output encoding of
-- another.
use Rattle.std.specs.Prelude.{ℕ, Bool, ◌||◌, List, []}
use Rattle.enc_decoder.specs.Sequence.{sequence_text}
use Rattle.enc_encoder.specs.Unmappable.{any_unmappable}
use Rattle.enc_stream.specs.declared.bom.BomHandling.{BomHandling}
use Rattle.enc_stream.specs.declared.encoding.Encoding.{Encoding}
use Rattle.enc_stream.specs.Encodings.{output_rule}
use Rattle.enc_stream.specs.Decoding.{whole_sequences, whole_malformed}
use Rattle.enc_stream.specs.Encoder.{whole_bytes}

-- the text of a whole input
abbrev pub whole_text : BomHandling → Encoding → List ℕ → List ℕ
whole_text handling from bytes = sequence_text (whole_sequences handling from bytes)

-- its bytes in the output encoding, with references
abbrev pub recoded_bytes : BomHandling → Encoding → Encoding → List ℕ → List ℕ
recoded_bytes handling from to bytes = whole_bytes [] to (whole_text handling from bytes)

-- whether a sequence of a whole input is malformed, or a character of its text is unmappable in the
-- output encoding
abbrev pub any_replaced : BomHandling → Encoding → Encoding → List ℕ → Bool
any_replaced handling from to bytes =
    whole_malformed handling from bytes
    || any_unmappable (output_rule [] to) (whole_text handling from bytes)
