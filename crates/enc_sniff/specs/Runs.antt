-- The runs of bytes that the code reads at once.
use Rattle.std.specs.Prelude.{ℕ, Bool}
use Rattle.std.specs.Char.{is_ascii_whitespace}
use Rattle.enc_sniff.specs.declared.scanning.Run.{Run}
use Rattle.enc_sniff.specs.declared.scanning.Run.TheVariants.{Spaces, Separators, Controls}
use Rattle.enc_sniff.specs.declared.scanning.Run.TheVariants.{AttributeName, UpTo, Word, Wsp, Token}
use Rattle.enc_sniff.specs.Positions.{is_not}
use Rattle.enc_sniff.specs.Xml.{is_control}
use Rattle.enc_sniff.specs.Attributes.{is_separator, is_name_byte, is_word_byte}
use Rattle.enc_sniff.specs.HeaderFields.{is_wsp}
use Rattle.enc_sniff.specs.HeaderTokens.{is_token_byte}

-- whether a byte belongs to the run
abbrev pub is_in : Run → ℕ → Bool
is_in Spaces = is_ascii_whitespace
is_in Separators = is_separator
is_in Controls = is_control
is_in AttributeName = is_name_byte
is_in (UpTo end) = is_not end
is_in (Word end) = is_word_byte end
is_in Wsp = is_wsp
is_in Token = is_token_byte
