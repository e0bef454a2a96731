-- What the bytes in front can be in Shift_JIS.
use Rattle.std.proofs.Common.{◌≡◌, ℕ, ◌<◌, Some, refl, arith}
use Rattle.enc_decoder_multi_byte.specs.DoubleByte.{ArePairs}
use Rattle.enc_decoder_multi_byte.specs.ShiftJis.{is_shift_jis_lead, shift_jis_single_char, shift_jis_pair_text}
use Rattle.enc_decoder_multi_byte.specs.ShiftJis.{shift_jis_prefix}
use Rattle.enc_decoder_multi_byte.proofs.DoubleByteLemmas.{char_is_text, double_byte_laws}
use Rattle.std.proofs.lemmas.Bool.Decides.{nat_tests}
use Rattle.enc_decoder_multi_byte.specs.MultiByte.{AreMultiBytePrefixes}

single_is_basic : (b c : ℕ) → shift_jis_single_char b ≡ Some c → c < 0x1_0000
single_is_basic b c e = grind (arith, nat_tests)

pub pairs : ArePairs is_shift_jis_lead shift_jis_single_char shift_jis_pair_text
pairs = record {
  ascii = λ b l. (grind (arith, nat_tests), grind (arith, nat_tests));
  lead = 0x81;
  is_byte = omega arith;
  leads = refl;
  basic = single_is_basic;
  texts = λ a b. char_is_text _;
  no_trail = λ a. refl;
}

pub laws : AreMultiBytePrefixes shift_jis_prefix
laws = double_byte_laws _ _ _ pairs
