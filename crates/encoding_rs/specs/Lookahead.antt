-- The lookahead of each kind of sequence, and the byte order mark that comes before the sequences
-- of an input.
use Rattle.std.specs.Prelude.{◌≡◌, ℕ, ◌≤◌, List, Option}
use Rattle.enc_decoder.specs.declared.byte_codec.Kind.{Kind}
use Rattle.enc_decoder.specs.declared.byte_codec.Kind.TheVariants.{Valid, Skipped, Malformed, RepeatedEscape}
use Rattle.enc_decoder.specs.Segmentation.{Rule}
use Rattle.enc_stream.specs.declared.bom.BomHandling.{BomHandling}
use Rattle.enc_stream.specs.declared.encoding.Encoding.{Encoding}
use Rattle.enc_stream.specs.declared.constants.TheConstants.{REPLACEMENT, ISO_2022_JP}
use Rattle.enc_stream.specs.Bom.{Mark, marks_looked_for, find_mark, encoding_of_mark_or}
use Rattle.enc_stream.specs.Encodings.{rule_of}
use Rattle.enc_stream.specs.MarkLaws.{bytes_after_mark}

-- 0 for a valid sequence and for a byte that replacement skips, 1 to 3 for a skipped escape
-- sequence of ISO-2022-JP, and 0 to 3 for a malformed sequence.
abbrev pub MayLook : Encoding → Kind → ℕ → Type 0
MayLook e Valid n = n ≡ 0
MayLook e Skipped n = (n ≤ 3) × (e ≡ REPLACEMENT → n ≡ 0) × (e ≡ ISO_2022_JP → 1 ≤ n)
MayLook e Malformed n = n ≤ 3
MayLook e RepeatedEscape n = n ≤ 3

-- the byte order mark that these bytes begin with, if one is looked for and found
abbrev pub mark_found : BomHandling → Encoding → List ℕ → Option Mark
mark_found handling e bytes = find_mark (marks_looked_for handling e) bytes

-- the rule of the sequences after it: that of its encoding, or else of this one
abbrev pub rule_found : BomHandling → Encoding → List ℕ → Rule
rule_found handling e bytes = rule_of (encoding_of_mark_or (mark_found handling e bytes) e)

-- the bytes after it, or all bytes if there is none
abbrev pub after_mark_found : BomHandling → Encoding → List ℕ → List ℕ
after_mark_found handling e bytes = bytes_after_mark (mark_found handling e bytes) bytes
