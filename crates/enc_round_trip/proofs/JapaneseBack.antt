-- Lemmas that the Japanese encodings share.
use Rattle.std.proofs.Common.{◌≡◌, ℕ, ◌<◌, ◌≤◌, true, false, ◌==◌, Option, Some, None, List, [], ◌∷◌, ap, ◌∙◌}
use Rattle.std.proofs.Common.{arith, if◌then◌else◌, refl, IfSome, inl, inr}
use Rattle.std.proofs.lemmas.Bool.{cond-true}
use Rattle.std.proofs.lemmas.Bool.Decides.{nat_tests}
use Rattle.enc_index.specs.Runs.{jis0208_at}
use Rattle.enc_index_pointers.specs.Pointers.{jis0208_pointer, any_pointer, no_character}
use Rattle.enc_decoder.specs.Segmentation.{Rule}
use Rattle.enc_decoder.specs.Taking.{IsWholeChar}
use Rattle.enc_decoder_multi_byte.specs.Katakana as read
use Rattle.enc_encode.specs.Japanese.{is_halfwidth_katakana, katakana_byte}
use Rattle.enc_round_trip.specs.RoundTrip.{ascii_twin_or}
use Rattle.enc_decoder.proofs.FirstSequenceLemmas.{true_or_false}
use Rattle.enc_round_trip.proofs.PointerLemmas.{IsPointer, is_pointer}

pub at_jis0208_pointer : (c p : ℕ) → jis0208_pointer c ≡ Some p
    → IsPointer jis0208_at any_pointer 8836 c p
unfolding jis0208_pointer
at_jis0208_pointer c p f = is_pointer jis0208_at any_pointer no_character 8836 c p f

-- the byte of half-width katakana

pub katakana_byte_is_read : (c : ℕ) → is_halfwidth_katakana c ≡ true
    → (if read.is_katakana_byte (katakana_byte c)
    then Some (read.katakana_of_byte (katakana_byte c)) else None) ≡ Some c
katakana_byte_is_read c is_katakana =
    let low : 0xFF61 ≤ c = grind (arith, nat_tests) in
    let high : c ≤ 0xFF9F = grind (arith, nat_tests) in
    let is_byte : read.is_katakana_byte (katakana_byte c) ≡ true = grind (arith, nat_tests) in
    let read_back : read.katakana_of_byte (katakana_byte c) ≡ c = omega arith in
    cond-true _ _ _ is_byte ∙ ap Some read_back

-- U+00A5 and U+203E are read as `\` and `~`, ASCII as itself, and other characters by `f`

pub low_not_latin : (f : ℕ → ℕ) (c : ℕ) → c ≤ 0x80 → ascii_twin_or f c ≡ f c
low_not_latin f c low =
    let not_yen : (c == 0xA5) ≡ false = grind (arith, nat_tests) in
    let not_line : (c == 0x203E) ≡ false = grind (arith, nat_tests) in
    rw (not_yen, not_line) refl

pub latin_is_read : (rule : Rule) (other : Option (List ℕ)) (f : ℕ → ℕ) (c : ℕ)
    → ((a : ℕ) → a < 0x80 → IsWholeChar rule 0 (a ∷ []) a)
    → ((c == 0xA5) ≡ false → (c == 0x203E) ≡ false
    → IfSome other (λ b. IsWholeChar rule 0 b (f c)))
    → IfSome
    (if c == 0xA5 then Some (0x5C ∷ []) else if c == 0x203E then Some (0x7E ∷ []) else other)
    (λ b. IsWholeChar rule 0 b (ascii_twin_or f c))
latin_is_read rule other f c ascii beyond = elim (true_or_false (c == 0xA5)) [
  | inl yen ↦ rw yen (ascii 0x5C (omega arith))
  | inr not_yen ↦ elim (true_or_false (c == 0x203E)) [
    | inl line ↦ rw (not_yen, line) (ascii 0x7E (omega arith))
    | inr not_line ↦ rw (not_yen, not_line) (beyond not_yen not_line)
  ]
]
