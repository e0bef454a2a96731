-- The characters that Shift_JIS gives back.
use Rattle.std.proofs.Common.{◌≡◌, ℕ, ◌+◌, ◌-◌, ◌*◌, ◌/◌, ◌%◌, ◌<◌, ◌≤◌, Bool, true, false, nat_lt, nat_le, ◌&&◌}
use Rattle.std.proofs.Common.{◌==◌, Some, List, [], ◌∷◌, refl, ap, sym, ◌∙◌, arith, le-leb, if◌then◌else◌}
use Rattle.std.proofs.Common.{IfSome, inl, inr}
use Rattle.std.proofs.lemmas.Bool.{cond-true, cond-false, or_left, or_right, or_from}
use Rattle.std.proofs.lemmas.Bool.Decides.{nat_tests}
use Rattle.enc_index.specs.Runs.{jis0208_at}
use Rattle.enc_index_pointers.specs.Pointers.{shift_jis_pointer, is_shift_jis_pointer, no_character}
use Rattle.enc_decoder.specs.declared.byte_codec.Text.TheVariants.{One}
use Rattle.enc_decoder.specs.Taking.{IsWholeChar}
use Rattle.enc_decoder_multi_byte.specs.DoubleByte.{text_of_char}
use Rattle.enc_decoder.specs.Prefixes.{prefix_rule}
use Rattle.enc_decoder_multi_byte.specs.ShiftJis as decoder
use Rattle.enc_encode.specs.Japanese.{is_halfwidth_katakana, katakana_byte, with_fullwidth_minus}
use Rattle.enc_encode.specs.ShiftJis.{shift_jis_lead_byte, shift_jis_trail_byte, shift_jis_pair_bytes, shift_jis_other}
use Rattle.enc_encode.specs.ShiftJis.{shift_jis_bytes}
use Rattle.enc_decoder.proofs.FirstSequenceLemmas.{true_or_false}
use Rattle.enc_round_trip.specs.RoundTrip.{ascii_twin_or, private_use_or, char_read_in_shift_jis}
use Rattle.enc_round_trip.proofs.ReadBackLemmas.{IsReadBack, with_ascii_is_read}
use Rattle.enc_round_trip.proofs.PointerLemmas.{IsPointer, is_pointer, by_pointer}
use Rattle.enc_round_trip.proofs.DoubleByteBack.{single_piece, pair_piece}
use Rattle.enc_round_trip.proofs.JapaneseBack.{katakana_byte_is_read, low_not_latin, latin_is_read}

-- a row determines its lead, a cell its trail, and back

is_lead : (row : ℕ) → row < 60 → decoder.is_shift_jis_lead (shift_jis_lead_byte row) ≡ true
is_lead row l = grind (arith, nat_tests)

row_of : (row : ℕ) → row < 60
    → shift_jis_lead_byte row - (if nat_lt (shift_jis_lead_byte row) 0xA0 then 0x81 else 0xC1) ≡ row
row_of row l = grind (arith, nat_tests)

is_trail : (cell : ℕ) → cell < 188 → decoder.is_shift_jis_trail (shift_jis_trail_byte cell) ≡ true
is_trail cell l = grind (arith, nat_tests)

cell_of : (cell : ℕ) → cell < 188
    → shift_jis_trail_byte cell - (if nat_lt (shift_jis_trail_byte cell) 0x7F then 0x40 else 0x41)
    ≡ cell
cell_of cell l = grind (arith, nat_tests)

pointer_of_pair : (p : ℕ) → p < 11280
    → decoder.shift_jis_pair_pointer (shift_jis_lead_byte (p / 188))
    (shift_jis_trail_byte (p % 188)) ≡ p
pointer_of_pair p l =
    let row = row_of (p / 188) (omega arith) in
    let cell = cell_of (p % 188) (omega arith) in
    ap (λ r. r * 188 + (shift_jis_trail_byte (p % 188)
    - (if nat_lt (shift_jis_trail_byte (p % 188)) 0x7F then 0x40 else 0x41))) row
    ∙ ap (λ x. p / 188 * 188 + x) cell ∙ omega arith

-- the character at a pointer
char_at : (t : Bool) (p c : ℕ) → (nat_le 8836 p && nat_le p 10715) ≡ t → jis0208_at p ≡ Some c
    → decoder.shift_jis_pointer_char p ≡ Some (private_use_or c (Some p))
char_at true p c in_gap e = cond-true _ _ _ in_gap ∙ ap Some (sym (cond-true _ _ _ in_gap))
char_at false p c in_gap e = cond-false _ _ _ in_gap ∙ e ∙ ap Some (sym (cond-false _ _ _ in_gap))

is_pair : (c p : ℕ) → IsPointer jis0208_at is_shift_jis_pointer 11280 c p
    → decoder.shift_jis_pair_text (shift_jis_lead_byte (p / 188)) (shift_jis_trail_byte (p % 188))
    ≡ Some (One (private_use_or c (Some p)))
is_pair c p has_pointer =
    ap text_of_char (cond-true _ _ _ (is_trail (p % 188) (omega arith))
    ∙ ap decoder.shift_jis_pointer_char (pointer_of_pair p has_pointer.below)
    ∙ char_at _ p c refl has_pointer.has)

-- single bytes

abbrev Piece : List ℕ → ℕ → Type 0
Piece b c = IsWholeChar (prefix_rule decoder.shift_jis_prefix) 0 b c

low_piece : (b : ℕ) → b ≤ 0x80 → Piece (b ∷ []) b
low_piece b l =
    let is_low : nat_le b 0x80 ≡ true = grind (arith, nat_tests) in
    single_piece decoder.is_shift_jis_lead decoder.shift_jis_single_char decoder.shift_jis_pair_text
    b b (grind (arith, nat_tests)) (cond-true _ _ _ is_low)

katakana_piece : (c : ℕ) → is_halfwidth_katakana c ≡ true → Piece (katakana_byte c ∷ []) c
katakana_piece c k =
    let low : 0xFF61 ≤ c = grind (arith, nat_tests) in
    let high : c ≤ 0xFF9F = grind (arith, nat_tests) in
    single_piece decoder.is_shift_jis_lead decoder.shift_jis_single_char decoder.shift_jis_pair_text
    (katakana_byte c) c (not_lead c low high)
    (cond-false _ _ _ (not_low c low) ∙ katakana_byte_is_read c k)
  where
    not_lead : (c : ℕ) → 0xFF61 ≤ c → c ≤ 0xFF9F
        → decoder.is_shift_jis_lead (katakana_byte c) ≡ false
    not_lead c l h = grind (arith, nat_tests)

    not_low : (c : ℕ) → 0xFF61 ≤ c → nat_le (katakana_byte c) 0x80 ≡ false
    not_low c l = grind (arith, nat_tests)

-- all characters

low_itself : (c : ℕ) → c ≤ 0x80 → ascii_twin_or char_read_in_shift_jis c ≡ c
low_itself c low =
    low_not_latin char_read_in_shift_jis c low ∙ cond-true _ _ _ (or_left _ _ (le-leb c 0x80 low))

by_index : (c p : ℕ) → shift_jis_pointer c ≡ Some p
    → Piece (shift_jis_pair_bytes p) (private_use_or c (Some p))
unfolding shift_jis_pointer
by_index c p found =
    let has_pointer = is_pointer jis0208_at is_shift_jis_pointer no_character 11280 c p found in
    pair_piece decoder.is_shift_jis_lead decoder.shift_jis_single_char decoder.shift_jis_pair_text
    (shift_jis_lead_byte (p / 188)) (shift_jis_trail_byte (p % 188)) _
    (is_lead (p / 188) (let below = has_pointer.below in omega arith)) (is_pair c p has_pointer)

beyond : (c : ℕ) → 0x80 ≤ c
    → IfSome (shift_jis_other c) (λ b. Piece b (ascii_twin_or char_read_in_shift_jis c))
beyond c high = elim (true_or_false (c == 0x80)) [
  | inl is_80 ↦
      let same : c ≡ 0x80 = grind (arith, nat_tests) in rw same (low_piece 0x80 (omega arith))
  | inr not_80 ↦ rw not_80 (latin_is_read (prefix_rule decoder.shift_jis_prefix) _
      char_read_in_shift_jis c (λ a low. low_piece a (omega arith))
      (λ not_yen not_line. elim (true_or_false (is_halfwidth_katakana c)) [
        | inl is_katakana ↦
            let itself : char_read_in_shift_jis c ≡ c =
            cond-true _ _ _ (or_right _ _ is_katakana) in
            rw (itself, is_katakana) (katakana_piece c is_katakana)
        | inr no_katakana ↦
            let looked_up = with_fullwidth_minus c in
            let no_low : nat_le c 0x80 ≡ false = grind (arith, nat_tests) in
            let by_pointer_alone : char_read_in_shift_jis c
            ≡ private_use_or looked_up (shift_jis_pointer looked_up) =
            cond-false _ _ _ (or_from _ _ no_low no_katakana) in
            rw (by_pointer_alone, no_katakana) (by_pointer
            (λ x. Piece x (private_use_or looked_up (shift_jis_pointer looked_up)))
            shift_jis_pair_bytes (shift_jis_pointer looked_up)
            (λ p found. rw found (by_index looked_up p found)))
      ]))
]

pub shift_jis_is_read : IsReadBack (prefix_rule decoder.shift_jis_prefix) shift_jis_bytes
    (ascii_twin_or char_read_in_shift_jis)
shift_jis_is_read =
    with_ascii_is_read (prefix_rule decoder.shift_jis_prefix) shift_jis_other
    (ascii_twin_or char_read_in_shift_jis)
    (λ c low. rw (low_itself c (omega arith)) (low_piece c (omega arith))) beyond
