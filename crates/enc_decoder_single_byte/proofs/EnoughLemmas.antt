-- Which lengths are enough for encodings in which each byte stands alone, and for replacement.
use Rattle.std.proofs.Common.{◌≡◌, ℕ, ◌+◌, ◌*◌, ◌<◌, ◌≤◌, zero, suc, Bool, true, false}
use Rattle.std.proofs.Common.{Option, Some, None, List, [], ◌∷◌, length, drop, refl, ap, sym, arith, subst}
use Rattle.std.specs.Char.{encode_utf8}
use Rattle.std.specs.Char.Escape.{encode_utf16}
use Rattle.enc_utf8.specs.Text.{units_of_text}
use Rattle.enc_decoder.specs.Segmentation.{Rule, one_byte_head, head_sequence, sequences_after, sequences_of}
use Rattle.enc_decoder.specs.Remainder.{AreBytes}
use Rattle.enc_decoder.specs.declared.text_lengths.TextLengths.TheVariants as lengths
use Rattle.enc_decoder.specs.Lengths.{utf_8_length}
use Rattle.enc_decoder.specs.Need.{AreEnoughForCodec, IsBmpText}
use Rattle.enc_decoder.proofs.NeedLemmas.{units, units-both, units-one}
use Rattle.enc_decoder.proofs.EnoughLemmas.{thrice_is, same_some, basic_by, bounded, enough_by, HasUnitsWithin}
use Rattle.enc_decoder.specs.CodecState.{CodecState}
use Rattle.enc_decoder.specs.Prefixes.{prefix_state}
use Rattle.enc_decoder_single_byte.specs.OneByte.{one_byte_prefix, AreOneByteChars}
use Rattle.enc_decoder_single_byte.proofs.OneByteLemmas.{no_more, one_byte_heads}
use Rattle.enc_decoder_single_byte.specs.Replacement.{replacement_rule, replacement_state}

-- A text is that of a byte's character, or U+FFFD.
module _ (character : ℕ → Option ℕ) (laws : AreOneByteChars character) where
  abbrev rule : Rule
  rule = λ set b z. one_byte_head set (character b)

  head_is_basic : (set b : ℕ) (found : Option ℕ) → b < 256 → character b ≡ found
      → IsBmpText (one_byte_head set found).text
  head_is_basic set b None is_byte is_char = basic_by 0xFFFD (omega arith)
  head_is_basic set b (Some c) is_byte is_char = basic_by c (laws.basic b c is_byte is_char)

  -- at most `each` code units for each byte
  bounded_bytes : (units_of : ℕ → List ℕ) (each : ℕ)
      → ((text : List ℕ) → IsBmpText text → length (units_of_text units_of text) ≤ each)
      → (set : ℕ) (z : List ℕ) → AreBytes z
      → units units_of (sequences_of rule set z) ≤ each * length z
  unfolding sequences_after
  bounded_bytes units_of each most set [] are_bytes = omega arith
  bounded_bytes units_of each most set (b ∷ z) are_bytes =
      let head = rule set b z in
      let rest_is = ap (λ k. units units_of (sequences_after rule head.set k z))
      (no_more set (character b)) in
      grind (
        arith,
        most _ (head_is_basic set b (character b) are_bytes.0 refl),
        bounded_bytes units_of each most head.set z are_bytes.1,
        rest_is,
        units-both units_of (head_sequence head b z ∷ [])
            (sequences_after rule head.set head.more z),
        units-one units_of (head_sequence head b z) head.text refl,
      )

  abbrev state : CodecState
  state = record { rule = rule; set = 0; pending = [] }

  enough : AreEnoughForCodec lengths.OneByte state
  enough = enough_by lengths.OneByte state thrice thrice (λ src n bytes is_length. omega (
    arith,
    bounded_bytes encode_utf16 1 (λ _ basic. basic.utf_16) 0 src bytes,
    same_some (length src) n is_length,
  ))
    where
      thrice : HasUnitsWithin encode_utf8 (utf_8_length lengths.OneByte) state
      thrice src n bytes is_length = omega (
        arith,
        bounded_bytes encode_utf8 3 (λ _ basic. basic.utf_8) 0 src bytes,
        thrice_is (Some (length src)) (length src) n
            (λ k is_some. sym (same_some (length src) k is_some)) is_length,
      )

  pub one_byte_enough : AreEnoughForCodec lengths.OneByte
      (prefix_state (one_byte_prefix character) [])
  one_byte_enough = subst (λ r. AreEnoughForCodec lengths.OneByte
      (record { rule = r; set = 0; pending = [] })) (one_byte_heads character) enough

-- replacement: U+FFFD once

module _ (units_of : ℕ → List ℕ) where
  abbrev most_of : ℕ → ℕ → ℕ
  most_of zero n = length (units_of_text units_of (0xFFFD ∷ []))
  most_of (suc set) n = 0

  step : (set b : ℕ) (z : List ℕ)
      → length (units_of_text units_of (replacement_rule set b z).text)
      + most_of (replacement_rule set b z).set (length (drop (replacement_rule set b z).more z))
      ≤ most_of set (suc (length z))
  unfolding replacement_rule
  step zero b z = omega arith
  step (suc set) b z = omega arith

  replacement_within : (reported : Bool) (src : List ℕ)
      → units units_of (sequences_of replacement_rule (replacement_state reported).set src)
      ≤ length (units_of_text units_of (0xFFFD ∷ []))
  replacement_within false src = bounded units_of replacement_rule most_of step 0 src
  replacement_within true src =
      let none_more = bounded units_of replacement_rule most_of step 1 src in
      omega (arith, none_more)

pub replacement_enough : (reported : Bool)
    → AreEnoughForCodec lengths.Replacement (replacement_state reported)
replacement_enough reported =
    let is_basic = basic_by 0xFFFD (omega arith) in
    enough_by lengths.Replacement (replacement_state reported) thrice thrice
    (λ src n _ is_length. omega (
      arith,
      replacement_within encode_utf16 reported src,
      is_basic.utf_16,
      same_some 1 n is_length,
    ))
  where
    thrice : HasUnitsWithin encode_utf8 (utf_8_length lengths.Replacement)
        (replacement_state reported)
    thrice src n _ is_length =
        let is_basic = basic_by 0xFFFD (omega arith) in
        omega (
          arith,
          replacement_within encode_utf8 reported src,
          is_basic.utf_8,
          same_some 3 n is_length,
        )
