-- Encodings that write each character by itself: their laws.
use Rattle.std.proofs.Common.{ℕ, ◌<◌, Option, List, refl, arith}
use Rattle.std.proofs.lemmas.Bool.{lt-ltb}
use Rattle.enc_encoder.specs.EncoderRule.{IsLawfulEncoderRule, IsReferenceCharacter}
use Rattle.enc_encoder.specs.Stateless.{stateless_rule, with_ascii, WritesAscii, WritesAtMostFour}

pub with_ascii_writes_ascii : (others : ℕ → Option (List ℕ)) → WritesAscii (with_ascii others)
with_ascii_writes_ascii others c l = rw (lt-ltb c 0x80 l) refl

-- what references are made of is ASCII
pub of_references_is_ascii : (c : ℕ) → IsReferenceCharacter c → c < 0x80
of_references_is_ascii c r = omega arith

pub stateless_is_lawful : (bytes : ℕ → Option (List ℕ)) → WritesAscii bytes → WritesAtMostFour bytes
    → IsLawfulEncoderRule (stateless_rule bytes)
stateless_is_lawful bytes h few = record {
  designates = λ c. refl;
  set_after_none = λ s. refl;
  set_after_more = λ s t c. refl;
  references = λ c r. h c (of_references_is_ascii c r);
  one_set = λ s c r. refl;
  few = few.few;
}
