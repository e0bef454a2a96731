-- Two bytes of gb18030 have the place of their character in the index, by the numbers of lead bytes
-- and of trail bytes.
use Rattle.std.proofs.Common.{◌≡◌, ◌∙◌, ℕ, ◌+◌, ◌-◌, ◌*◌, ◌<◌, true, false, cond, Some, None, ap, arith}
use Rattle.std.proofs.lemmas.Bool.{cond-true, cond-false}
use Rattle.std.proofs.lemmas.Bool.Decides.{nat_tests}
use Rattle.enc_index.specs.DoubleByteIndexes.{gb18030_shape}
use Rattle.enc_index.specs.Grid.{IsPlaceOf}
use Rattle.enc_index.specs.Runs.{gb18030_at}
use Rattle.enc_index.proofs.Tables.Gb18030.{has_no_more}
use Rattle.enc_index.proofs.PlaceLemmas.{pair_place}
use Rattle.enc_output.specs.Places.{number_in}
use Rattle.enc_decoder_multi_byte.specs.DoubleByte.{text_of_char, trail_prefix, first_prefix}
use Rattle.enc_decoder_multi_byte.specs.MultiByte.{IsCharPair}
use Rattle.enc_decoder_multi_byte.specs.Gb18030.{is_gb18030_lead, is_gb18030_trail, gb18030_single_char}
use Rattle.enc_decoder_multi_byte.specs.Gb18030.{gb18030_pair_pointer, gb18030_pair_char, gb18030_prefix, is_digit}
use Rattle.enc_decoder_multi_byte.proofs.PlaceNumbers.{range_number, number_below, trail_number}

gb18030_column : (b : ℕ)
    → number_in 0x40 0x7E 0 b (number_in 0x80 0xFE 63 b 190)
    ≡ cond (is_gb18030_trail b) (trail_number b) 190
gb18030_column b = grind (arith, nat_tests)

gb18030_small : (b : ℕ) → is_gb18030_trail b ≡ true → trail_number b < 190
gb18030_small b t = grind (arith, nat_tests)

no_digit : (b : ℕ) → is_gb18030_trail b ≡ true → is_digit b ≡ false
no_digit b t = grind (arith, nat_tests)

gb18030_pair : (a b c : ℕ) → is_gb18030_lead a ≡ true → is_gb18030_trail b ≡ true
    → gb18030_at (gb18030_pair_pointer a b) ≡ Some c
    → IsCharPair gb18030_prefix a b c
gb18030_pair a b c lead trail has =
    let char : gb18030_pair_char a b ≡ Some c =
    cond-true (is_gb18030_trail b) (gb18030_at (gb18030_pair_pointer a b)) None trail ∙ has in
    record {
      first = ap (λ t. first_prefix t (gb18030_single_char a)) lead;
      both = cond-false _ _ _ (no_digit b trail)
          ∙ ap (λ x. trail_prefix 1 b (text_of_char x)) char;
    }

pub place : (a b : ℕ) {row column place : ℕ}
    → row ≡ number_in 0x81 0xFE 0 a 126
    → column ≡ number_in 0x40 0x7E 0 b (number_in 0x80 0xFE 63 b 190)
    → place ≡ 256 + row * 191 + column
    → IsPlaceOf gb18030_shape (IsCharPair gb18030_prefix a b) place
place a b r k p =
    pair_place gb18030_shape has_no_more (is_gb18030_lead a) (is_gb18030_trail b) (a - 0x81)
    (trail_number b) (r ∙ range_number 0x81 0xFE a 126) (k ∙ gb18030_column b) p
    (number_below 0x81 0xFE 126 a (omega arith))
    (gb18030_small b) (gb18030_pair a b)
