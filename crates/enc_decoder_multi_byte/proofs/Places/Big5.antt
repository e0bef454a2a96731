-- Two bytes of Big5 have the place of their character in the index, by the numbers of lead bytes
-- and of trail bytes.
use Rattle.std.proofs.Common.{◌≡◌, ◌∙◌, ℕ, ◌+◌, ◌-◌, ◌*◌, ◌<◌, true, false, cond, ◌==◌, nat_lt, Some, None, refl, ap}
use Rattle.std.proofs.Common.{arith}
use Rattle.std.proofs.lemmas.Bool.{cond-true, cond-false, ne_eqb}
use Rattle.std.proofs.lemmas.Bool.Decides.{nat_tests}
use Rattle.enc_decoder.specs.declared.byte_codec.Text.TheVariants.{One}
use Rattle.enc_index.specs.DoubleByteIndexes.{big5_shape}
use Rattle.enc_index.specs.Grid.{IsPlaceOf}
use Rattle.enc_index.specs.Runs.{runs_of, big5_at}
use Rattle.enc_index.proofs.Tables.Big5.{has_no_more}
use Rattle.enc_index.proofs.PlaceLemmas.{pair_place, some_none}
use Rattle.enc_output.specs.Places.{number_in}
use Rattle.enc_decoder_multi_byte.specs.DoubleByte.{text_of_char, IsLeadPair}
use Rattle.enc_decoder_multi_byte.specs.Big5.{is_big5_lead, is_big5_trail, big5_pair_pointer, big5_pointer_text}
use Rattle.enc_decoder_multi_byte.specs.Big5.{big5_pair_text}
use Rattle.enc_decoder_multi_byte.proofs.PlaceNumbers.{range_number, number_below}

abbrev big5_number : ℕ → ℕ
big5_number b = b - cond (nat_lt b 0x7F) 0x40 0x62

big5_column : (b : ℕ)
    → number_in 0x40 0x7E 0 b (number_in 0xA1 0xFE 63 b 157)
    ≡ cond (is_big5_trail b) (big5_number b) 157
big5_column b = grind (arith, nat_tests)

big5_small : (b : ℕ) → is_big5_trail b ≡ true → big5_number b < 157
big5_small b trails = grind (arith, nat_tests)

-- the pointers of two characters have none in the index
apart : (n p c : ℕ) → big5_at n ≡ None → big5_at p ≡ Some c → (p == n) ≡ false
apart n p c none has_char = ne_eqb p n (λ same. some_none _ c (ap big5_at same ∙ none) has_char)

big5_one : (p c : ℕ) → big5_at p ≡ Some c → big5_pointer_text p ≡ Some (One c)
unfolding runs_of
big5_one p c has_char =
    cond-false _ _ _ (apart 1133 p c refl has_char)
    ∙ cond-false _ _ _ (apart 1135 p c refl has_char)
    ∙ cond-false _ _ _ (apart 1164 p c refl has_char)
    ∙ cond-false _ _ _ (apart 1166 p c refl has_char) ∙ ap text_of_char has_char

pub place : (a b : ℕ) {row column place : ℕ}
    → row ≡ number_in 0x81 0xFE 0 a 126
    → column ≡ number_in 0x40 0x7E 0 b (number_in 0xA1 0xFE 63 b 157)
    → place ≡ 256 + row * 158 + column
    → IsPlaceOf big5_shape (IsLeadPair is_big5_lead big5_pair_text a b) place
place a b r k p =
    pair_place big5_shape has_no_more (is_big5_lead a) (is_big5_trail b) (a - 0x81) (big5_number b)
    (r ∙ range_number 0x81 0xFE a 126) (k ∙ big5_column b) p
    (number_below 0x81 0xFE 126 a (omega arith)) (big5_small b)
    (λ c lead trail has. (
      lead,
      cond-true (is_big5_trail b) (big5_pointer_text (big5_pair_pointer a b)) None trail
          ∙ big5_one (big5_pair_pointer a b) c has,
    ))
