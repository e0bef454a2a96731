-- Two bytes of Shift_JIS have the place of their character in the index, by the numbers of lead
-- bytes and of trail bytes. Two rows of the index are to a lead, and none of the private use area.
use Rattle.std.proofs.Common.{◌≡◌, ◌∙◌, ℕ, ◌+◌, ◌-◌, ◌*◌, ◌/◌, ◌%◌, ◌<◌, ◌≤◌, Bool, true, false, cond, ◌&&◌, ◌||◌}
use Rattle.std.proofs.Common.{nat_le, nat_lt, None, ap, arith}
use Rattle.std.proofs.lemmas.Bool.{cond-true, cond-false}
use Rattle.std.proofs.lemmas.Bool.Decides.{nat_tests}
use Rattle.enc_index.specs.DoubleByteIndexes.{jis0208_shape}
use Rattle.enc_index.specs.Grid.{IsPlaceOf}
use Rattle.enc_index.specs.Runs.{jis0208_at}
use Rattle.enc_index.proofs.Tables.Jis0208.{has_no_more}
use Rattle.enc_index.proofs.PlaceLemmas.{Stands, below, place_at}
use Rattle.enc_output.specs.Places.{number_in}
use Rattle.enc_decoder_multi_byte.specs.DoubleByte.{text_of_char, IsLeadPair}
use Rattle.enc_decoder_multi_byte.specs.ShiftJis.{is_shift_jis_lead, is_shift_jis_trail, shift_jis_pair_pointer}
use Rattle.enc_decoder_multi_byte.specs.ShiftJis.{shift_jis_pointer_char, shift_jis_pair_text}
use Rattle.enc_decoder_multi_byte.proofs.PlaceNumbers.{trail_number}

abbrev has_rows : ℕ → Bool
has_rows a = (nat_le 0x81 a && nat_le a 0x9F)
    || ((nat_le 0xE0 a && nat_le a 0xEF) || (nat_le 0xFA a && nat_le a 0xFC))

-- the number of a lead
abbrev lead_number : ℕ → ℕ
lead_number a = a - cond (nat_lt a 0xA0) 0x81 0xC1

-- the row and the column of a trail, among those of a lead
abbrev second_row : ℕ → ℕ
second_row b = cond (is_shift_jis_trail b) (trail_number b / 94) 0

abbrev column_in_row : ℕ → ℕ
column_in_row b = cond (is_shift_jis_trail b) (trail_number b % 94) 94

shift_jis_row : (a : ℕ)
    → number_in 0x81 0x9F 0 a (number_in 0xE0 0xEF 31 a (number_in 0xFA 0xFC 57 a 60))
    ≡ cond (has_rows a) (lead_number a) 60
shift_jis_row a = grind (arith, nat_tests)

shift_jis_column : (b : ℕ)
    → number_in 0x40 0x7E 0 b (number_in 0x80 0x9E 63 b (number_in 0x9F 0xFC 95 b 94))
    ≡ second_row b * 95 + column_in_row b
shift_jis_column b = grind (arith, nat_tests)

shift_jis_few : (a b : ℕ) → cond (has_rows a) (lead_number a) 60 * 2 + second_row b < 122
shift_jis_few a b = grind (arith, nat_tests)

shift_jis_small : (b : ℕ) → column_in_row b ≤ 94
shift_jis_small b = grind (arith, nat_tests)

leads_too : (a : ℕ) → has_rows a ≡ true → is_shift_jis_lead a ≡ true
leads_too a t = grind (arith, nat_tests)

-- the pointers of these leads are not of the private use area
not_private : (a b : ℕ) → has_rows a ≡ true → is_shift_jis_trail b ≡ true
    → (nat_le 8836 (shift_jis_pair_pointer a b) && nat_le (shift_jis_pair_pointer a b) 10715)
    ≡ false
not_private a b t u = grind (arith, nat_tests)

shift_jis_pair : (a b c row : ℕ) → row ≡ cond (has_rows a) (lead_number a) 60
    → Stands jis0208_shape (row * 2 + second_row b) (column_in_row b) c
    → IsLeadPair is_shift_jis_lead shift_jis_pair_text a b c
shift_jis_pair a b c row row_is at =
    let in_rows : row * 2 + second_row b < 120 = at.in_rows in
    let lead = below (has_rows a) (lead_number a) 60 (omega (arith, row_is)) in
    let trail = below (is_shift_jis_trail b) (trail_number b % 94) 94 at.in_columns in
    let row_of_lead : row ≡ lead_number a = row_is ∙ cond-true _ _ _ lead in
    let row_of_trail : second_row b ≡ trail_number b / 94 = cond-true _ _ _ trail in
    let column_of_trail : column_in_row b ≡ trail_number b % 94 = cond-true _ _ _ trail in
    let same : shift_jis_pair_pointer a b ≡ (row * 2 + second_row b) * 94 + column_in_row b =
    omega arith in (
      leads_too a lead,
      ap text_of_char
          (cond-true (is_shift_jis_trail b) (shift_jis_pointer_char (shift_jis_pair_pointer a b))
          None trail
          ∙ cond-false _ _ _ (not_private a b lead trail) ∙ ap jis0208_at same ∙ at.is),
    )

pub place : (a b : ℕ) {row column place : ℕ}
    → row ≡ number_in 0x81 0x9F 0 a (number_in 0xE0 0xEF 31 a (number_in 0xFA 0xFC 57 a 60))
    → column ≡ number_in 0x40 0x7E 0 b (number_in 0x80 0x9E 63 b (number_in 0x9F 0xFC 95 b 94))
    → place ≡ 256 + row * 190 + column
    → IsPlaceOf jis0208_shape (IsLeadPair is_shift_jis_lead shift_jis_pair_text a b) place
place a b {row} {column} r k p =
    let row_is : row ≡ cond (has_rows a) (lead_number a) 60 = r ∙ shift_jis_row a in
    let column_is : column ≡ second_row b * 95 + column_in_row b = k ∙ shift_jis_column b in
    place_at jis0208_shape has_no_more (row * 2 + second_row b) (column_in_row b)
    (omega (arith, p)) (omega (arith, shift_jis_few a b)) (shift_jis_small b)
    (λ c at. shift_jis_pair a b c row row_is at)
