-- What the bytes in front can be in EUC-KR.
-- Written by scripts/make-sources from data/templates: change the text there, and not this file.
use Rattle.std.proofs.Common.{refl, arith}
use Rattle.enc_decoder_multi_byte.specs.DoubleByte.{ArePairs}
use Rattle.enc_decoder_multi_byte.specs.EucKr.{is_euc_kr_lead, euc_kr_single_char, euc_kr_pair_text, euc_kr_prefix}
use Rattle.enc_decoder_multi_byte.proofs.DoubleByteLemmas.{char_is_text, ascii_is_basic, double_byte_laws}
use Rattle.std.proofs.lemmas.Bool.{cond-true, lt-ltb}
use Rattle.std.proofs.lemmas.Bool.Decides.{nat_tests}
use Rattle.enc_decoder_multi_byte.specs.MultiByte.{AreMultiBytePrefixes}

pub pairs : ArePairs is_euc_kr_lead euc_kr_single_char euc_kr_pair_text
pairs = record {
  ascii = λ b l. (grind (arith, nat_tests), cond-true _ _ _ (lt-ltb b 0x80 l));
  lead = 0x81;
  is_byte = omega arith;
  leads = refl;
  basic = ascii_is_basic;
  texts = λ a b. char_is_text _;
  no_trail = λ a. refl;
}

pub laws : AreMultiBytePrefixes euc_kr_prefix
laws = double_byte_laws _ _ _ pairs
