-- The law of every encoder, which the layers above rest on.
use Rattle.std.specs.Prelude.{◌≡◌, true, List, ℕ}
use Rattle.enc_encoder.specs.declared.character_set.CharacterSet.{CharacterSet}
use Rattle.enc_encoder.specs.declared.character_set.CharacterSet.TheVariants.{Ascii}
use Rattle.enc_encoder.specs.EncoderRule.{EncoderRule, IsLawfulEncoderRule}
use Rattle.enc_encoder.specs.Stateless.{WritesAscii}
use Rattle.enc_encoder.specs.Barring.{barring_rule}
use Rattle.enc_encoder.specs.Need.{AreEnoughForEncoder}
use Rattle.enc_encode.specs.Encoders.{EncoderFacts}

-- ASCII has every character, so there are no escape sequences
abbrev pub StaysInAscii : EncoderRule → Type 0
StaysInAscii rule = (c : ℕ) → rule.has Ascii c ≡ true

-- the sets that may be designated: without escape sequences ASCII alone
abbrev pub MayBeIn : EncoderRule → CharacterSet → Type 0
MayBeIn rule s = StaysInAscii rule → s ≡ Ascii

-- The rule is lawful. The formulas are enough in every set that may be designated, whatever is
-- barred. Without escape sequences ASCII is written as itself.
pub record KeepsEncoderLaws (f : EncoderFacts) : Type 0 where
  pub lawful : IsLawfulEncoderRule f.rule
  pub enough : (b : List ℕ) (s : CharacterSet) → MayBeIn f.rule s
      → AreEnoughForEncoder f.formulas (record { rule = barring_rule b f.rule; set = s })
  pub ascii : StaysInAscii f.rule → WritesAscii f.rule.bytes
