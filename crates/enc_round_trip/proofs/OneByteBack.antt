-- UTF-8, the legacy single-byte encodings and x-user-defined give each character back.
use Rattle.std.proofs.Common.{◌≡◌, ℕ, ◌+◌, ◌-◌, ◌<◌, ◌≤◌, true, false, nat_lt, nat_le, ◌&&◌, Option, Some}
use Rattle.std.proofs.Common.{refl, ap, ◌∙◌, arith, if◌then◌else◌, inl, inr}
use Rattle.std.proofs.lemmas.Bool.{lt-ltb, cond-true, cond-false}
use Rattle.std.proofs.lemmas.Bool.Decides.{nat_tests}
use Rattle.std.specs.Char.{encode_utf8}
use Rattle.enc_index.specs.declared.table.Planes.TheVariants.{Basic}
use Rattle.enc_index.specs.declared.single_byte_index.SingleByteIndex.{SingleByteIndex}
use Rattle.enc_index.specs.Index.{index_at}
use Rattle.enc_index.specs.Runs.{single_byte_runs}
use Rattle.enc_index_pointers.specs.Pointers.{single_byte_pointer, any_pointer, no_character}
use Rattle.enc_decoder.specs.Taking.{IsWholeChar}
use Rattle.enc_decoder.proofs.FirstSequenceLemmas.{true_or_false}
use Rattle.enc_decoder_utf.specs.Utf8.{utf_8_rule}
use Rattle.enc_decoder_utf.proofs.Utf8Pieces.{utf8_piece}
use Rattle.enc_decoder_single_byte.specs.OneByte.{one_byte_rule, single_byte_char, x_user_defined_char}
use Rattle.enc_decoder_single_byte.proofs.OneByteLemmas.{one_byte_piece}
use Rattle.enc_encode.specs.Utf8.{utf_8_bytes}
use Rattle.enc_encode.specs.SingleByte.{single_byte_of_pointer, single_byte_bytes, x_user_defined_other}
use Rattle.enc_encode.specs.SingleByte.{x_user_defined_bytes}
use Rattle.enc_round_trip.proofs.ReadBackLemmas.{IsReadBack, with_ascii_is_read}
use Rattle.enc_round_trip.proofs.PointerLemmas.{is_pointer, by_pointer}

pub utf_8_is_read : IsReadBack utf_8_rule utf_8_bytes (λ c. c)
utf_8_is_read = record {
  each = λ c scalar. utf8_piece (encode_utf8 c) c (scalar, refl);
}

-- a byte of ASCII, and one beyond it

ascii_char : (b : ℕ) (other : Option ℕ) → b < 0x80
    → (if nat_lt b 0x80 then Some b else other) ≡ Some b
ascii_char b other l = cond-true _ _ _ (lt-ltb b 0x80 l)

other_char : (p : ℕ) (other : Option ℕ)
    → (if nat_lt (p + 0x80) 0x80 then Some (p + 0x80) else other) ≡ other
other_char p other = let not_low : nat_lt (p + 0x80) 0x80 ≡ false = grind (arith, nat_tests) in
    cond-false _ _ _ not_low

single_byte_at : (index : SingleByteIndex) (c p : ℕ) → single_byte_pointer index c ≡ Some p
    → single_byte_char (single_byte_runs index) (p + 0x80) ≡ Some c
unfolding single_byte_pointer
single_byte_at index c p f =
    let has_pointer = is_pointer (λ q. index_at Basic (single_byte_runs index) q) any_pointer
    no_character 128 c p f in
    let same : p + 0x80 - 0x80 ≡ p = omega arith in
    other_char p _ ∙ ap (index_at Basic (single_byte_runs index)) same ∙ has_pointer.has

pub single_byte_is_read : (index : SingleByteIndex)
    → IsReadBack (one_byte_rule (single_byte_char (single_byte_runs index)))
    (single_byte_bytes index) (λ c. c)
single_byte_is_read index =
    let char = single_byte_char (single_byte_runs index) in
    with_ascii_is_read (one_byte_rule char) _ (λ c. c)
    (λ c l. one_byte_piece char c c (ascii_char c _ l))
    (λ c high. by_pointer (λ x. IsWholeChar (one_byte_rule char) 0 x c) single_byte_of_pointer
    (single_byte_pointer index c)
    (λ p found. one_byte_piece char (p + 0x80) c (single_byte_at index c p found)))

user_defined_at : (c : ℕ) → (nat_le 0xF780 c && nat_le c 0xF7FF) ≡ true
    → x_user_defined_char (c - 0xF780 + 0x80) ≡ Some c
user_defined_at c t =
    let low : 0xF780 ≤ c = grind (arith, nat_tests) in
    let same : 0xF780 + (c - 0xF780 + 0x80 - 0x80) ≡ c = omega arith in
    other_char (c - 0xF780) _ ∙ ap Some same

pub x_user_defined_is_read : IsReadBack (one_byte_rule x_user_defined_char) x_user_defined_bytes
    (λ c. c)
x_user_defined_is_read =
    with_ascii_is_read (one_byte_rule x_user_defined_char) x_user_defined_other (λ c. c)
    (λ c l. one_byte_piece x_user_defined_char c c (ascii_char c _ l))
    (λ c high. elim (true_or_false (nat_le 0xF780 c && nat_le c 0xF7FF)) [
      | inl is_own ↦ rw is_own
          (one_byte_piece x_user_defined_char (c - 0xF780 + 0x80) c (user_defined_at c is_own))
      | inr is_other ↦ rw is_other tt
    ])
