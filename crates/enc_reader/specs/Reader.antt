-- The state of a `DecodeReader`, and the text that it hands out.
use Rattle.std.specs.Prelude.{ℕ, ◌-◌, ◌≤◌, List, length, take, drop, if◌then◌else◌}
use Rattle.enc_reader.specs.declared.decode_reader.DecodeReader.{DecodeReader}
use Rattle.enc_reader.specs.declared.decode_reader.HandedText.{HandedText}
use Rattle.enc_reader.specs.Reading.{ReaderState}

-- its decoder, the undecoded bytes in its buffer, and whether its source is at its end
abbrev pub state_of : {T : Type 0} {S : _} → DecodeReader T S → ReaderState
state_of r = record {
  decoder = r.decoder;
  unread = take (r.filled - r.at) (drop r.at r.input.now);
  ended = r.ended;
}

-- The text that a read has handed out: the bytes before the undecoded ones in the reader's own
-- buffer, or else the first bytes of the buffer given.
abbrev pub handed_text : {T : Type 0} {S : _} → DecodeReader T S → List ℕ → HandedText → List ℕ
handed_text r dst handed =
    if handed.lent then take handed.len (drop (r.at - handed.len) r.input.now) else take handed.len
    dst

-- the number of bytes written to the buffer given
abbrev pub written_len : HandedText → ℕ
written_len handed = if handed.lent then 0 else handed.len

-- The buffer has that many bytes.
abbrev pub IsAtHand : {T : Type 0} {S : _} → DecodeReader T S → List ℕ → HandedText → Type 0
IsAtHand r dst handed = handed.len ≤ (if handed.lent then r.at else length dst)
