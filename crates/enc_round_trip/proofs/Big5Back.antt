-- Big5 gives each character back.
use Rattle.std.proofs.Common.{◌≡◌, ℕ, ◌+◌, ◌-◌, ◌/◌, ◌%◌, ◌<◌, true, false, nat_lt, ◌==◌, Option, Some, ap, ◌∙◌, arith}
use Rattle.std.proofs.Common.{if◌then◌else◌}
use Rattle.std.proofs.lemmas.Bool.{cond-true, cond-false}
use Rattle.std.proofs.lemmas.Bool.Decides.{nat_tests}
use Rattle.enc_index.specs.Runs.{big5_at}
use Rattle.enc_index_pointers.specs.Pointers.{big5_pointer, is_big5_pointer, is_last_in_big5}
use Rattle.enc_decoder_multi_byte.specs.DoubleByte.{text_of_char}
use Rattle.enc_decoder.specs.Prefixes.{prefix_rule}
use Rattle.enc_decoder_multi_byte.specs.Big5 as big5
use Rattle.enc_encode.specs.Big5.{big5_trail_byte, big5_bytes}
use Rattle.enc_round_trip.proofs.ReadBackLemmas.{IsReadBack}
use Rattle.enc_round_trip.proofs.PointerLemmas.{is_pointer}
use Rattle.enc_round_trip.proofs.DoubleByteBack.{within, IsPair, by_pairs}

-- the trail of a cell determines the cell

is_trail : (cell : ℕ) → cell < 157 → big5.is_big5_trail (big5_trail_byte cell) ≡ true
is_trail cell l = grind (arith, nat_tests)

cell_of : (cell : ℕ) → cell < 157
    → big5_trail_byte cell - (if nat_lt (big5_trail_byte cell) 0x7F then 0x40 else 0x62) ≡ cell
cell_of cell l = grind (arith, nat_tests)

big5_pointer_is : (p : ℕ) → big5.big5_pair_pointer (p / 157 + 0x81) (big5_trail_byte (p % 157)) ≡ p
big5_pointer_is p = omega (arith, cell_of (p % 157) (omega arith))

-- no pointer that counts is one of the four that have two characters
text_at : (p : ℕ) (o : Option ℕ) → is_big5_pointer p ≡ true → big5_at p ≡ o
    → big5.big5_pointer_text p ≡ text_of_char o
text_at p o h e =
    let not_1133 : (p == 1133) ≡ false = grind (arith, nat_tests) in
    let not_1135 : (p == 1135) ≡ false = grind (arith, nat_tests) in
    let not_1164 : (p == 1164) ≡ false = grind (arith, nat_tests) in
    let not_1166 : (p == 1166) ≡ false = grind (arith, nat_tests) in
    cond-false _ _ _ not_1133 ∙ cond-false _ _ _ not_1135 ∙ cond-false _ _ _ not_1164
    ∙ cond-false _ _ _ not_1166 ∙ ap text_of_char e

by_big5_pointer : (c p : ℕ) → big5_pointer c ≡ Some p
    → IsPair big5.is_big5_lead big5.big5_pair_text (p / 157 + 0x81) (big5_trail_byte (p % 157)) c
unfolding big5_pointer
by_big5_pointer c p found =
    let has_pointer = is_pointer big5_at is_big5_pointer is_last_in_big5 19782 c p found in
    let below = has_pointer.below in record {
      leads = within 0x81 0xFE (p / 157 + 0x81) (omega arith) (omega arith);
      has = cond-true _ _ _ (is_trail (p % 157) (omega arith))
          ∙ ap big5.big5_pointer_text (big5_pointer_is p)
          ∙ text_at p (Some c) has_pointer.counted has_pointer.has;
    }

pub big5_is_read : IsReadBack (prefix_rule big5.big5_prefix) big5_bytes (λ c. c)
big5_is_read =
    by_pairs big5.is_big5_lead big5.big5_pair_text (λ p. p / 157 + 0x81)
    (λ p. big5_trail_byte (p % 157)) big5_pointer
    (λ b l. grind (arith, nat_tests)) by_big5_pointer
