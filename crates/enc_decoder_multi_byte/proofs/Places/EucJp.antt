-- Two bytes of EUC-JP have the place of their character in the index, by the numbers of lead bytes
-- and of trail bytes.
use Rattle.std.proofs.Common.{◌≡◌, ◌∙◌, ℕ, ◌+◌, ◌-◌, ◌*◌, true, false, ◌&&◌, ◌==◌, Some, ap, arith}
use Rattle.std.proofs.lemmas.Bool.{cond-true, cond-false}
use Rattle.std.proofs.lemmas.Bool.Decides.{nat_tests}
use Rattle.enc_index.specs.DoubleByteIndexes.{jis0208_shape}
use Rattle.enc_index.specs.Grid.{IsPlaceOf}
use Rattle.enc_index.specs.Runs.{jis0208_at}
use Rattle.enc_index.proofs.Tables.Jis0208.{has_no_more}
use Rattle.enc_index.proofs.PlaceLemmas.{pair_place}
use Rattle.enc_output.specs.Places.{number_in}
use Rattle.enc_decoder_multi_byte.specs.DoubleByte.{text_of_char, trail_prefix, first_prefix}
use Rattle.enc_decoder_multi_byte.specs.MultiByte.{IsCharPair}
use Rattle.enc_decoder_multi_byte.specs.EucJp.{is_euc_byte, euc_pair_pointer, is_euc_jp_lead, euc_jp_single_char}
use Rattle.enc_decoder_multi_byte.specs.EucJp.{euc_jp_pair_char, euc_jp_prefix}
use Rattle.enc_decoder_multi_byte.proofs.PlaceNumbers.{range_number, number_below}

leads : (a : ℕ) → is_euc_byte a ≡ true → is_euc_jp_lead a ≡ true
leads a t = grind (arith, nat_tests)

no_katakana : (a : ℕ) → is_euc_byte a ≡ true → (a == 0x8E) ≡ false
no_katakana a t = grind (arith, nat_tests)

no_third : (a b : ℕ) → is_euc_byte a ≡ true → (a == 0x8F && is_euc_byte b) ≡ false
no_third a b t = grind (arith, nat_tests)

euc_jp_pair : (a b c : ℕ) → is_euc_byte a ≡ true → is_euc_byte b ≡ true
    → jis0208_at (euc_pair_pointer a b) ≡ Some c
    → IsCharPair euc_jp_prefix a b c
euc_jp_pair a b c lead trail has =
    let char : euc_jp_pair_char a b ≡ Some c =
    cond-false _ _ _ (no_katakana a lead) ∙ cond-true (is_euc_byte a && is_euc_byte b) _ _
    (ap (λ t. t && is_euc_byte b) lead ∙ trail) ∙ has in
    record {
      first = ap (λ t. first_prefix t (euc_jp_single_char a)) (leads a lead);
      both = cond-false _ _ _ (no_third a b lead)
          ∙ ap (λ x. trail_prefix 1 b (text_of_char x)) char;
    }

pub place : (a b : ℕ) {row column place : ℕ}
    → row ≡ number_in 0xA1 0xFE 0 a 120
    → column ≡ number_in 0xA1 0xFE 0 b 94
    → place ≡ 256 + row * 95 + column
    → IsPlaceOf jis0208_shape (IsCharPair euc_jp_prefix a b) place
place a b r k p =
    pair_place jis0208_shape has_no_more (is_euc_byte a) (is_euc_byte b) (a - 0xA1) (b - 0xA1)
    (r ∙ range_number 0xA1 0xFE a 120) (k ∙ range_number 0xA1 0xFE b 94) p
    (number_below 0xA1 0xFE 120 a (omega arith)) (number_below 0xA1 0xFE 94 b (omega arith))
    (euc_jp_pair a b)
