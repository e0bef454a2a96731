-- Texts that are encoded one after another.
use Rattle.std.specs.Prelude.{◌≡◌, ℕ, List, ◌++◌}
use Rattle.enc_encoder.specs.declared.character_set.CharacterSet.TheVariants.{Ascii}
use Rattle.enc_encoder.specs.EncoderRule.{EncoderRule}
use Rattle.enc_encoder.specs.Text.{bytes_of_text, with_references}

-- The bytes of two texts with references, encoded as one, are those of each text, joined.
abbrev pub JoinsTexts : EncoderRule → Type 0
JoinsTexts e = (s t : List ℕ)
    → bytes_of_text e Ascii (with_references e (s ++ t))
    ≡ bytes_of_text e Ascii (with_references e s) ++ bytes_of_text e Ascii (with_references e t)
