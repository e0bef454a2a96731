-- The state of the ISO-2022-JP decoder: the designated character set and the pending bytes.
use Rattle.std.specs.Prelude.{◌≡◌, ℕ, Bool, true, false, ◌==◌, Option, Some, None, List, [], ◌∷◌, ◌++◌}
use Rattle.enc_decoder.specs.declared.byte_codec.Kind.TheVariants.{Valid, Malformed}
use Rattle.enc_decoder.specs.declared.byte_codec.Text.TheVariants.{One}
use Rattle.enc_decoder.specs.declared.byte_codec.Emission.{Emission}
use Rattle.enc_decoder_iso_2022_jp.specs.declared.character_set.CharacterSet.{CharacterSet}
use Rattle.enc_decoder_iso_2022_jp.specs.declared.character_set.CharacterSet.TheVariants.{Ascii, Roman, Katakana}
use Rattle.enc_decoder_iso_2022_jp.specs.declared.character_set.CharacterSet.TheVariants.{Jis0208}
use Rattle.enc_decoder_iso_2022_jp.specs.declared.escape.Intermediate.{Intermediate}
use Rattle.enc_decoder_iso_2022_jp.specs.declared.escape.Intermediate.TheVariants.{Parenthesis, Dollar}
use Rattle.enc_decoder_iso_2022_jp.specs.declared.escape.Escape.{Escape}
use Rattle.enc_decoder_iso_2022_jp.specs.declared.escape.Escape.TheVariants.{ToAscii, ToRoman, ToKatakana}
use Rattle.enc_decoder_iso_2022_jp.specs.declared.escape.Escape.TheVariants.{ToJis0208Of1978, ToJis0208Of1983}
use Rattle.enc_decoder_iso_2022_jp.specs.declared.iso_2022_jp.Held.{Held}
use Rattle.enc_decoder_iso_2022_jp.specs.declared.iso_2022_jp.Held.TheVariants.{GivenBack, Lead, Whole, Start, Started}
use Rattle.enc_decoder.specs.CodecState.{CodecState}
use Rattle.enc_decoder_iso_2022_jp.specs.Iso2022Jp.{set_number, designated_set, is_lead_byte, iso_2022_jp_rule}

-- the designated character set and the held bytes
pub record Iso2022JpState : Type 0 where
  pub set : CharacterSet
  pub held : Option Held

abbrev pub state_with_held : CharacterSet → Option Held → Iso2022JpState
state_with_held set held = record { set = set; held = held }

-- the second byte of an escape sequence
abbrev pub intermediate_byte : Intermediate → ℕ
intermediate_byte Parenthesis = 0x28
intermediate_byte Dollar = 0x24

-- the bytes of an escape sequence
abbrev pub escape_bytes : Escape → List ℕ
escape_bytes ToAscii = 0x1B ∷ 0x28 ∷ 0x42 ∷ []
escape_bytes ToRoman = 0x1B ∷ 0x28 ∷ 0x4A ∷ []
escape_bytes ToKatakana = 0x1B ∷ 0x28 ∷ 0x49 ∷ []
escape_bytes ToJis0208Of1978 = 0x1B ∷ 0x24 ∷ 0x40 ∷ []
escape_bytes ToJis0208Of1983 = 0x1B ∷ 0x24 ∷ 0x42 ∷ []

-- the character set that an escape sequence designates
abbrev pub escape_set : Escape → CharacterSet
escape_set ToAscii = Ascii
escape_set ToRoman = Roman
escape_set ToKatakana = Katakana
escape_set ToJis0208Of1978 = Jis0208
escape_set ToJis0208Of1983 = Jis0208

-- a whole escape sequence, if there is one, and the bytes after it
abbrev pub escape_and_bytes : Option Escape → List ℕ → List ℕ
escape_and_bytes None z = z
escape_and_bytes (Some e) z = escape_bytes e ++ z

-- the pending bytes
abbrev pub bytes_of_held : Option Held → List ℕ
bytes_of_held None = []
bytes_of_held (Some (GivenBack b)) = b ∷ []
bytes_of_held (Some (Lead b)) = b ∷ []
bytes_of_held (Some (Whole e)) = escape_bytes e
bytes_of_held (Some (Start before)) = escape_and_bytes before (0x1B ∷ [])
bytes_of_held (Some (Started before i)) = escape_and_bytes before (0x1B ∷ intermediate_byte i ∷ [])

-- A restored byte begins no escape sequence and no character of two bytes. A held lead byte begins
-- such a character.
abbrev pub CanHold : CharacterSet → Option Held → Type 0
CanHold set None = Unit {0}
CanHold set (Some (GivenBack b)) = (is_lead_byte set b ≡ false) × ((b == 0x1B) ≡ false)
CanHold set (Some (Lead b)) = is_lead_byte set b ≡ true
CanHold set (Some (Whole e)) = Unit {0}
CanHold set (Some (Start before)) = Unit {0}
CanHold set (Some (Started before i)) = Unit {0}

-- the state as that of a codec
abbrev pub iso_2022_jp_state : Iso2022JpState → CodecState
iso_2022_jp_state s = record {
  rule = iso_2022_jp_rule;
  set = set_number s.set;
  pending = bytes_of_held s.held;
}

-- a lead byte whose character has no second byte
abbrev pub cuts_off_lead : List ℕ → Bool
cuts_off_lead [] = true
cuts_off_lead (b ∷ z) = b == 0x1B

-- The following bytes cut off the sequence that the held bytes begin. They do not complete a lead
-- byte's character or an escape sequence. They do not begin an escape sequence that directly
-- follows a whole one.
abbrev pub CutsOffHeld : Held → List ℕ → Type 0
CutsOffHeld (GivenBack b) z = Unit {0}
CutsOffHeld (Lead b) z = cuts_off_lead z ≡ true
CutsOffHeld (Whole e) z = designated_set z ≡ None
CutsOffHeld (Start before) z = designated_set (0x1B ∷ z) ≡ None
CutsOffHeld (Started before i) z = designated_set (0x1B ∷ intermediate_byte i ∷ z) ≡ None

-- a character of `len` bytes, or `len` malformed bytes if there is none
abbrev pub char_or_malformed : Option ℕ → ℕ → Bool → Iso2022JpState → Emission Iso2022JpState
char_or_malformed (Some c) len takes_byte next =
    record { text = One c; kind = Valid; len = len; takes_byte = takes_byte; next = next }
char_or_malformed None len takes_byte next =
    record { text = One 0xFFFD; kind = Malformed; len = len; takes_byte = takes_byte; next = next }

-- An escape sequence comes first, and the byte after it begins no other.
pub record StandsAlone (src : List ℕ) (e : Escape) : Type 0 where
  pub byte : ℕ
  pub rest : List ℕ
  pub bytes : src ≡ escape_bytes e ++ byte ∷ rest
  pub other : (byte == 0x1B) ≡ false
