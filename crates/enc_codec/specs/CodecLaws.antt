-- The laws that each codec keeps: what the crates above need of its decoder.
use Rattle.std.specs.Prelude.{Bool, true, false}
use Rattle.enc_decoder.specs.Segmentation.{Rule}
use Rattle.enc_decoder.specs.RuleLaws.{HasTexts, IsLawfulRule}
use Rattle.enc_decoder.specs.Division.{IsDividedAfter, IsDividedBelowDigits}
use Rattle.enc_decoder.specs.Latin1.{HasNoByteSequences}
use Rattle.enc_decoder.specs.Need.{AreEnoughForCodec}
use Rattle.enc_codec.specs.Codecs.{CodecFacts, initial_state}
use Rattle.enc_codec.specs.Properties.{IsAsciiCompatible, IsSingleByte, DeterminesBbByItself}

-- The property holds if this is true, and does not if it is false.
abbrev pub Decides : Bool → Type 0 → Type 0
Decides true p = p
Decides false p = ¬ p

-- Some byte is a valid sequence by itself if this is true, and none is if it is false.
abbrev pub DecidesBytes : Bool → Rule → Type 0
DecidesBytes true rule = ¬ (HasNoByteSequences rule)
DecidesBytes false rule = HasNoByteSequences rule

-- Each input is divided after each byte below 30 if this is true, and some input is not divided
-- after a line feed if it is false.
abbrev pub DecidesDivision : Bool → Rule → Type 0
DecidesDivision true rule = IsDividedBelowDigits rule
DecidesDivision false rule = ¬ (IsDividedAfter 0x0A rule)

-- The rule is lawful, the lengths are enough for a decoder that has read nothing, each property is
-- as the facts say, and a pending BB needs no lookahead. Exactly the ASCII-compatible rules divide
-- inputs after line feeds.
pub record KeepsCodecLaws (rule : Rule) (facts : CodecFacts) : Type 0 where
  pub lawful : IsLawfulRule rule
  pub enough : AreEnoughForCodec facts.formulas (initial_state rule)
  pub texts : Decides facts.has_texts (HasTexts rule)
  pub bytes : DecidesBytes facts.has_bytes rule
  pub ascii : Decides facts.ascii_compatible (IsAsciiCompatible rule)
  pub single : Decides facts.single_byte (IsSingleByte rule)
  pub divided : DecidesDivision facts.ascii_compatible rule
  pub bb : DeterminesBbByItself rule
