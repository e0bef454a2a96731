-- The lengths to allocate for the output of a decoder or an encoder.
use Rattle.std.specs.Prelude.{◌≡◌, ℕ, Bool, true, false, Option, Some, None, List, [], ◌∷◌, length}
use Rattle.std.specs.Char.{encode_utf8}
use Rattle.std.specs.Char.Escape.{encode_utf16}
use Rattle.enc_decoder.specs.declared.error_mode.ErrorMode.{ErrorMode}
use Rattle.enc_decoder.specs.declared.error_mode.ErrorMode.TheVariants.{Replacement, Fatal}
use Rattle.enc_decoder.specs.Remainder.{AreBytes}
use Rattle.enc_decoder.specs.Need.{NeedExceeds}
use Rattle.enc_utf8.specs.Checked.{checked_add, checked_max}
use Rattle.enc_decoder.specs.declared.text_lengths.TextLengths.{TextLengths}
use Rattle.enc_decoder.specs.Lengths.{utf_8_length, reporting_length, utf_16_length}
use Rattle.enc_codec.specs.Codecs.{codec_lengths}
use Rattle.enc_encoder.specs.declared.byte_lengths.ByteLengths.{ByteLengths}
use Rattle.enc_encode.specs.Encoders.{encoder_lengths}
use Rattle.enc_stream.specs.declared.encoding.Encoding.{Encoding}
use Rattle.enc_stream.specs.declared.lengths.Query.{Query}
use Rattle.enc_stream.specs.declared.lengths.Query.TheVariants.{Utf8, Utf8Reporting, Utf16}
use Rattle.enc_stream.specs.Bom.{Mark}
use Rattle.enc_names.specs.EncodingTable.{codec_by_id}
use Rattle.enc_stream.specs.Decoding.{DecoderState, decoder_remainder}

-- the formula of a query, for n more bytes and a codec that holds h
abbrev pub formula_length : Query → TextLengths → ℕ → ℕ → Option ℕ
formula_length Utf8 lengths n h = utf_8_length lengths n h
formula_length Utf8Reporting lengths n h = reporting_length lengths n h
formula_length Utf16 lengths n h = utf_16_length lengths n h

-- the formula for a codec that holds nothing
abbrev pub idle_length : Query → TextLengths → ℕ → Option ℕ
idle_length q lengths n = formula_length q lengths n 0

-- the greatest of a length and of those for the encodings of these byte order marks
abbrev pub length_with_marks : Query → List Mark → Option ℕ → ℕ → Option ℕ
length_with_marks q [] own n = own
length_with_marks q (m ∷ marks) own n =
    checked_max (idle_length q (codec_lengths (codec_by_id m.encoding.id)) n)
    (length_with_marks q marks own n)

-- the length for a sum of bytes, if the sum is a usize
abbrev pub length_at : (ℕ → Option ℕ) → Option ℕ → Option ℕ
length_at f None = None
length_at f (Some n) = f n

-- The length for n more bytes, if a codec with these formulas holds h of those pending: for its
-- encoding, or that of a byte order mark that may come. Bytes held as those of a byte order mark
-- count as two.
abbrev pub length_by_marks : Query → List Mark → Bool → TextLengths → ℕ → ℕ → Option ℕ
length_by_marks q marks false own n h = length_with_marks q marks (formula_length q own n h) n
length_by_marks q marks true own n h =
    length_at (λ all. length_with_marks q marks (idle_length q own all) all)
    (checked_add (Some n) 2)

-- The length to allocate for a decoder's output from n more bytes.
abbrev pub max_length : Query → DecoderState → ℕ → Option ℕ
max_length q d n = length_by_marks q d.marks d.held (codec_lengths (codec_by_id d.encoding.id)) n
    (length d.pending)

-- the code units of a query, and the error modes of its calls
abbrev pub query_units : Query → ℕ → List ℕ
query_units Utf8 = encode_utf8
query_units Utf8Reporting = encode_utf8
query_units Utf16 = encode_utf16

-- the query is for calls of this error mode
abbrev pub IsForMode : Query → ErrorMode → Type 0
IsForMode Utf8 Replacement = Unit {0}
IsForMode Utf8 Fatal = ⊥
IsForMode Utf8Reporting Replacement = ⊥
IsForMode Utf8Reporting Fatal = Unit {0}
IsForMode Utf16 mode = Unit {0}

-- The room is enough for any call with n bytes: its need does not exceed it.
abbrev pub IsEnoughRoom : (ℕ → List ℕ) → ErrorMode → DecoderState → ℕ → ℕ → Type 0
IsEnoughRoom units_of mode d n room =
    (src : List ℕ) (last : Bool) → AreBytes src → length src ≡ n
    → NeedExceeds units_of mode (decoder_remainder d) src last room → ⊥

-- the formulas of an encoding's encoder
abbrev pub output_lengths : Encoding → ByteLengths
output_lengths e = encoder_lengths (codec_by_id e.id)

-- the lengths to allocate for the three kinds of calls, by which crates above name them
abbrev pub max_utf_8_length : DecoderState → ℕ → Option ℕ
max_utf_8_length = max_length Utf8

abbrev pub max_reporting_length : DecoderState → ℕ → Option ℕ
max_reporting_length = max_length Utf8Reporting

abbrev pub max_utf_16_length : DecoderState → ℕ → Option ℕ
max_utf_16_length = max_length Utf16
