-- The code's table of katakana.
use Rattle.std.proofs.Common.{◌≡◌, refl}
use Rattle.enc_encode.specs.declared.encoders.katakana.TheConstants.{KATAKANA}
use Rattle.enc_encode.specs.Katakana.{fullwidth_katakana}

-- it is that of the definition
pub katakana_are : KATAKANA ≡ fullwidth_katakana
katakana_are = refl
