-- Two bytes have the place of their character in index jis0208.
use Rattle.std.proofs.Common.{◌≡◌, ◌∙◌, ℕ, ◌+◌, ◌-◌, ◌*◌, ◌<◌, ◌==◌, true, false, cond, None, ap, sym, subst, arith}
use Rattle.std.proofs.Common.{replicate}
use Rattle.std.proofs.lemmas.Bool.{cond-true}
use Rattle.std.proofs.lemmas.Bool.Decides.{nat_tests}
use Rattle.std.proofs.lemmas.Simd.{bit_mask_l, get_or-replicate}
use Rattle.enc_index.specs.DoubleByteIndexes.{jis0208_shape}
use Rattle.enc_index.specs.Grid.{IsPlaceOf}
use Rattle.enc_index.specs.Runs.{jis0208_at}
use Rattle.enc_index.proofs.Tables.Jis0208.{has_no_more}
use Rattle.enc_index.proofs.PlaceLemmas.{pair_place, places_of}
use Rattle.enc_output.specs.Pairs.{byte_or_pair}
use Rattle.enc_output.specs.Places.{has_bit, number_in}
use Rattle.enc_decoder_iso_2022_jp.specs.declared.character_set.CharacterSet.TheVariants.{Jis0208}
use Rattle.enc_decoder_iso_2022_jp.specs.Iso2022Jp.{is_jis0208_byte, two_byte_char, set_number}
use Rattle.enc_decoder_iso_2022_jp.specs.Iso2022Jp.{iso_2022_jp_rule, IsJis0208Pair}
use Rattle.enc_decoder_iso_2022_jp.proofs.Iso2022JpPieces.{pair_piece}
use Rattle.enc_decoder.specs.Taking.{IsWholeChar}

number : (a other : ℕ)
    → number_in 0x21 0x7E 0 a other ≡ cond (is_jis0208_byte a) (a - 0x21) other
number a other = grind (arith, nat_tests)

small : (b : ℕ) → is_jis0208_byte b ≡ true → b - 0x21 < 94
small b in_range = grind (arith, nat_tests)

pub bytes_place : (a b : ℕ) {row_of column_of place : ℕ}
    → row_of ≡ number_in 0x21 0x7E 0 a 120
    → column_of ≡ number_in 0x21 0x7E 0 b 94
    → place ≡ 256 + row_of * 95 + column_of
    → IsPlaceOf jis0208_shape (IsJis0208Pair a b) place
unfolding two_byte_char
bytes_place a b r k p =
    pair_place jis0208_shape has_no_more (is_jis0208_byte a) (is_jis0208_byte b) (a - 0x21)
    (b - 0x21)
    (r ∙ number a 120) (k ∙ number b 94) p (λ lead. omega (arith, small a lead)) (small b)
    (λ c lead trail has. (
      lead,
      cond-true (is_jis0208_byte b) (jis0208_at ((a - 0x21) * 94 + (b - 0x21))) None trail ∙ has,
    ))

-- each of sixteen bits is set
all_lead : (i : ℕ) → i < 16 → has_bit 0xFFFF i ≡ true
all_lead i l =
    ap (λ bit. bit == 1)
    (bit_mask_l (replicate 16 true) i ∙ ap (λ t. cond t 1 0) (get_or-replicate 16 i true false l))

-- the bytes of a place
pub place_means : (a b i place : ℕ) → i < 16 → IsPlaceOf jis0208_shape (IsJis0208Pair a b) place
    → IsPlaceOf jis0208_shape (IsWholeChar iso_2022_jp_rule (set_number Jis0208)
    (byte_or_pair (has_bit 0xFFFF i) a b)) place
place_means a b i place l at =
    subst (λ t. IsPlaceOf jis0208_shape
    (IsWholeChar iso_2022_jp_rule (set_number Jis0208) (byte_or_pair t a b)) place)
    (sym (all_lead i l))
    (places_of at (λ c p. pair_piece a b c p.1 p.0))
