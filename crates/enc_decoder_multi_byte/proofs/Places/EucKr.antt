-- Two bytes of EUC-KR have the place of their character in the index, by the numbers of lead bytes and
-- of trail bytes.
-- Written by scripts/make-sources from data/templates: change the text there, and not this file.
use Rattle.std.proofs.Common.{◌≡◌, ◌∙◌, ℕ, ◌+◌, ◌-◌, ◌*◌, None, ap, arith}
use Rattle.std.proofs.lemmas.Bool.{cond-true}
use Rattle.enc_index.specs.DoubleByteIndexes.{euc_kr_shape}
use Rattle.enc_index.specs.Grid.{IsPlaceOf}
use Rattle.enc_index.specs.Runs.{euc_kr_at}
use Rattle.enc_index.proofs.Tables.EucKr.{has_no_more}
use Rattle.enc_index.proofs.PlaceLemmas.{pair_place}
use Rattle.enc_output.specs.Places.{number_in}
use Rattle.enc_decoder_multi_byte.specs.DoubleByte.{text_of_char, IsLeadPair}
use Rattle.enc_decoder_multi_byte.specs.EucKr.{is_euc_kr_lead, is_euc_kr_trail, euc_kr_pair_pointer, euc_kr_pair_text}
use Rattle.enc_decoder_multi_byte.proofs.PlaceNumbers.{range_number, number_below}

pub place : (a b : ℕ) {row column place : ℕ}
    → row ≡ number_in 0x81 0xFE 0 a 126
    → column ≡ number_in 0x41 0xFE 0 b 190
    → place ≡ 256 + row * 191 + column
    → IsPlaceOf euc_kr_shape (IsLeadPair is_euc_kr_lead euc_kr_pair_text a b) place
place a b r k p =
    pair_place euc_kr_shape has_no_more (is_euc_kr_lead a) (is_euc_kr_trail b) (a - 0x81) (b - 0x41)
    (r ∙ range_number 0x81 0xFE a 126) (k ∙ range_number 0x41 0xFE b 190) p
    (number_below 0x81 0xFE 126 a (omega arith)) (number_below 0x41 0xFE 190 b (omega arith))
    (λ c lead trail has. (
      lead,
      ap text_of_char
          (cond-true (is_euc_kr_trail b) (euc_kr_at (euc_kr_pair_pointer a b)) None trail ∙ has),
    ))
