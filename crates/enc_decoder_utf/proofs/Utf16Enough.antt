-- Which lengths are enough for UTF-16.
use Rattle.std.proofs.Common.{◌≡◌, ℕ, ◌+◌, ◌*◌, ◌/◌, ◌<◌, ◌≤◌, suc, Bool, true, false, cond, Some, List, [], ◌∷◌, ◌++◌}
use Rattle.std.proofs.Common.{zero, length, drop, refl, ap, arith}
use Rattle.std.proofs.lemmas.List.{length-append}
use Rattle.std.specs.Char.{encode_utf8}
use Rattle.std.specs.Char.Escape.{encode_utf16}
use Rattle.enc_utf8.specs.Text.{units_of_text}
use Rattle.enc_utf8.specs.Checked.{checked_add, checked_mul, checked_half}
use Rattle.enc_decoder.specs.Segmentation.{Head, Rule, head_sequence, sequences_of, sequences_after}
use Rattle.enc_decoder.specs.Remainder.{AreBytes}
use Rattle.enc_decoder.specs.CodecState.{CodecState, remainder_of}
use Rattle.enc_decoder.specs.declared.error_mode.ErrorMode.{ErrorMode}
use Rattle.enc_decoder.specs.declared.error_mode.ErrorMode.TheVariants.{Replacement, Fatal}
use Rattle.enc_decoder.specs.RuleLaws.{IsSmallText}
use Rattle.enc_decoder.specs.declared.pending.Pending.{Pending}
use Rattle.enc_decoder.specs.declared.pending.Pending.TheVariants.{Nothing, One, Two, Three}
use Rattle.enc_decoder.specs.Pending.{bytes_of_pending}
use Rattle.enc_decoder.specs.declared.text_lengths.TextLengths.TheVariants as lengths
use Rattle.enc_decoder.specs.Need.{NeedExceeds, AreEnoughForCodec, IsBmpText}
use Rattle.enc_decoder.proofs.RuleLemmas.{one_small}
use Rattle.enc_decoder.proofs.NeedLemmas.{units, units-both, units-one}
use Rattle.enc_decoder.proofs.EnoughLemmas.{plus_is, times_is, half_is, sum_is, needed_less, needs_all, basic_by}
use Rattle.enc_decoder.specs.declared.byte_codec.Text.TheVariants.{One as One_char}
use Rattle.enc_decoder.specs.declared.prefix.Prefix.TheVariants.{Complete, Malformed, Incomplete}
use Rattle.enc_decoder.specs.Prefixes.{AreIncomplete, prefix_state}
use Rattle.enc_decoder_utf.specs.Utf16.{code_unit, is_lead_surrogate, is_trail_surrogate, pair_scalar, utf_16_prefix}
use Rattle.enc_decoder_utf.specs.Utf16.{utf_16_rule}
use Rattle.enc_decoder_utf.specs.Utf16State.{Utf16State}
use Rattle.enc_decoder_utf.proofs.Utf16Lemmas.{lead_range, holds_of_first, some_more}

unit_below : (big : Bool) (b c : ℕ) → b < 256 → c < 256 → code_unit big b c < 0x1_0000
unfolding code_unit
unit_below true b c first_is_byte second_is_byte = omega (arith, first_is_byte, second_is_byte)
unit_below false b c first_is_byte second_is_byte = omega (arith, first_is_byte, second_is_byte)

abbrev state : Utf16State → CodecState
state s = prefix_state (utf_16_prefix s.big_endian) (bytes_of_pending s.pending)

-- incomplete bytes of a whole code unit are a lead surrogate
begins_pair : (t u : Bool) (c : ℕ)
    → cond t Incomplete (cond u (Malformed 2) (Complete (One_char c))) ≡ Incomplete → t ≡ true
begins_pair true u c incomplete = refl
begins_pair false true c incomplete = absurd (cc)
begins_pair false false c incomplete = absurd (cc)

-- `each` units for two bytes, and `most` for n of them. A character beyond the Basic Multilingual
-- Plane has one more, and no more than twice as many.
module _ (units_of : ℕ → List ℕ) (each : ℕ) (most : ℕ → ℕ) (one : most 0 + each ≤ most 1)
    (more : (n : ℕ) → most n + each ≤ most (suc (suc n)))
    (basic : (text : List ℕ) → IsBmpText text → length (units_of_text units_of text) ≤ each)
    (small : (text : List ℕ) → IsSmallText text → (length (units_of_text units_of text) ≤ each + 1)
    × (length (units_of_text units_of text) ≤ each + each))
    (s : Utf16State) where
  abbrev rule : Rule
  rule = utf_16_rule s.big_endian

  abbrev of_char : ℕ → ℕ
  of_char c = length (units_of_text units_of (c ∷ []))

  replaced : of_char 0xFFFD ≤ each
  replaced = basic _ (basic_by 0xFFFD (omega arith))

  -- the first code unit is a character with at most `extra` units more

  abbrev IsUnitWithin : ℕ → ℕ → List ℕ → Type 0
  IsUnitWithin extra b [] = Unit {0}
  IsUnitWithin extra b (c ∷ z) = of_char (code_unit s.big_endian b c) ≤ each + extra

  bytes_are_within : (b : ℕ) (z : List ℕ) → b < 256 → AreBytes z → IsUnitWithin 0 b z
  bytes_are_within b [] is_byte are_bytes = tt
  bytes_are_within b (c ∷ z) is_byte are_bytes =
      let below = unit_below s.big_endian b c is_byte are_bytes.0 in
      omega (arith, basic _ (basic_by (code_unit s.big_endian b c) below))

  any_is_within : (b : ℕ) (z : List ℕ) → IsUnitWithin 1 b z
  any_is_within b [] = tt
  any_is_within b (c ∷ z) = (small _ (one_small (code_unit s.big_endian b c))).0

  -- the first sequence, and as many as there may be after it
  abbrev IsWithin : ℕ → List ℕ → Head → Type 0
  IsWithin b z h = (extra : ℕ) → IsUnitWithin extra b z
      → length (units_of_text units_of h.text) + most (length (drop h.more z))
      ≤ most (suc (length z)) + extra

  first_is_within : (set b : ℕ) (z : List ℕ) → IsWithin b z (rule set b z)
  first_is_within set = holds_of_first {Holds = IsWithin} (record {
    one_byte = λ b extra _. omega (arith, one, replaced);
    character = λ b c z _ _ extra unit. omega (arith, unit, more (length z));
    trail = λ b c z _ _ extra _. omega (arith, replaced, more (length z));
    lead_at_end = λ b c _ extra _. omega (arith, replaced, more 0);
    lead_and_byte = λ b c d _ extra _. omega (arith, replaced, one, more 1);
    pair = λ b c d e z _ _ extra _.
        let scalar = pair_scalar (code_unit s.big_endian b c) (code_unit s.big_endian d e) in
        omega (
          arith,
          (small (scalar ∷ []) (one_small scalar)).1,
          more (length z),
          more (suc (suc (length z))),
        );
    lead_alone = λ b c d e z _ _ extra _. omega (arith, replaced, more (suc (suc (length z))));
  })

  abbrev after : ℕ → ℕ → List ℕ → ℕ
  after set k z = units units_of (sequences_after rule set k z)

  with_rest : (set b : ℕ) (z : List ℕ) (extra slack : ℕ) → IsUnitWithin extra b z
      → after (rule set b z).set (rule set b z).more z
      ≤ most (length (drop (rule set b z).more z)) + slack
      → after set 0 (b ∷ z) ≤ most (suc (length z)) + extra + slack
  unfolding sequences_after
  with_rest set b z extra slack unit rest =
      let head = rule set b z in
      let others = sequences_after rule head.set head.more z in
      let first_units = first_is_within set b z extra unit in
      let both = units-both units_of (head_sequence head b z ∷ []) others in
      omega (arith, units-one units_of (head_sequence head b z) head.text refl)

  bytes_bounded : (set k : ℕ) (z : List ℕ) → AreBytes z → after set k z ≤ most (length (drop k z))
  unfolding sequences_after
  bytes_bounded set zero [] are_bytes = omega arith
  bytes_bounded set (suc k) [] are_bytes = omega arith
  bytes_bounded set (suc k) (b ∷ z) are_bytes = bytes_bounded set k z are_bytes.1
  bytes_bounded set zero (b ∷ z) are_bytes =
      let head = rule set b z in
      let rest = bytes_bounded head.set head.more z are_bytes.1 in
      let unit = bytes_are_within b z are_bytes.0 are_bytes.1 in
      omega (arith, with_rest set b z 0 0 unit (omega (arith, rest)))

  -- after a pending byte, and after two or three: the first sequence has two of these at least

  first_bounded : (set b : ℕ) (z : List ℕ) → AreBytes z
      → after set 0 (b ∷ z) ≤ most (suc (length z)) + 1
  first_bounded set b z are_bytes =
      let head = rule set b z in
      let rest = bytes_bounded head.set head.more z are_bytes in
      omega (arith, with_rest set b z 1 0 (any_is_within b z) (omega (arith, rest)))

  past_one : (set k c : ℕ) (z : List ℕ) → 0 < k → AreBytes z
      → after set k (c ∷ z) ≤ most (length (drop k (c ∷ z)))
  unfolding sequences_after
  past_one set zero c z some are_bytes = absurd (omega arith)
  past_one set (suc k) c z some are_bytes = bytes_bounded set k z are_bytes

  past_two : (set k c d : ℕ) (z : List ℕ) → 0 < k → AreBytes z
      → after set k (c ∷ d ∷ z) ≤ most (length (drop k (c ∷ d ∷ z))) + 1
  unfolding sequences_after
  past_two set zero c d z some are_bytes = absurd (omega arith)
  past_two set (suc zero) c d z some are_bytes = first_bounded set d z are_bytes
  past_two set (suc (suc k)) c d z some are_bytes =
      let rest = bytes_bounded set k z are_bytes in omega (arith, rest)

  pending_bounded : (p : Pending) (z : List ℕ)
      → AreIncomplete (utf_16_prefix s.big_endian) [] (bytes_of_pending p) → AreBytes z
      → after 0 0 (bytes_of_pending p ++ z) ≤ most (length (bytes_of_pending p ++ z)) + 1
  pending_bounded Nothing z leads are_bytes = omega (arith, bytes_bounded 0 0 z are_bytes)
  pending_bounded (One b) z leads are_bytes = first_bounded 0 b z are_bytes
  pending_bounded (Two b c) z leads are_bytes =
      let head = rule 0 b (c ∷ z) in
      let more_bytes = some_more s.big_endian 0 b (c ∷ z) (omega arith) in
      let rest = past_one head.set head.more c z more_bytes are_bytes in
      omega (arith, with_rest 0 b (c ∷ z) 1 0 (any_is_within b (c ∷ z)) (omega (arith, rest)))
  pending_bounded (Three b c d) z leads are_bytes =
      let head = rule 0 b (c ∷ d ∷ z) in
      let more_bytes = some_more s.big_endian 0 b (c ∷ d ∷ z) (omega arith) in
      let lead_in_range = lead_range (code_unit s.big_endian b c)
      (begins_pair (is_lead_surrogate (code_unit s.big_endian b c))
      (is_trail_surrogate (code_unit s.big_endian b c)) (code_unit s.big_endian b c) leads.1.0) in
      let is_basic = basic _ (basic_by (code_unit s.big_endian b c) (omega arith)) in
      let rest = past_two head.set head.more c d z more_bytes are_bytes in
      omega (arith, with_rest 0 b (c ∷ d ∷ z) 0 1 (omega (arith, is_basic)) rest)

  never : AreIncomplete (utf_16_prefix s.big_endian) [] (bytes_of_pending s.pending)
      → (mode : ErrorMode) (src : List ℕ) (last : Bool) (n : ℕ) → AreBytes src
      → most (length (bytes_of_pending s.pending) + length src) + 1 ≤ n
      → NeedExceeds units_of mode (remainder_of (state s)) src last n → ⊥
  never leads mode src last n are_bytes enough exceeds =
      let pending = bytes_of_pending s.pending in
      let bound = pending_bounded s.pending src leads are_bytes in
      let same_most = ap most (length-append pending src) in
      let less = needed_less units_of mode (sequences_of rule 0 (pending ++ src)) in
      omega (arith, needs_all units_of mode (state s) src last n exceeds)

-- the formulas: as many code units as pairs of bytes, rounded up, and one more

halved : (n h q : ℕ) → checked_half (checked_add (checked_add (Some n) h) 1) ≡ Some q
    → q ≡ (h + n + 1) / 2
halved n h q e =
    let half = half_is (checked_add (checked_add (Some n) h) 1) q e in
    let sum = plus_is (checked_add (Some n) h) 1 half.0 half.1 in
    let is_sum = sum_is n h sum.0 sum.1 in omega arith

thrice : (n h q : ℕ) →
    checked_add (checked_mul (checked_half (checked_add (checked_add (Some n) h) 1)) 3) 1 ≡ Some q
    → q ≡ 3 * ((h + n + 1) / 2) + 1
thrice n h q e =
    let half = checked_half (checked_add (checked_add (Some n) h) 1) in
    let sum = plus_is (checked_mul half 3) 1 q e in
    let product = times_is half 3 sum.0 sum.1 in
    omega (arith, halved n h product.0 product.1)

once : (n h q : ℕ) → checked_add (checked_half (checked_add (checked_add (Some n) h) 1)) 1 ≡ Some q
    → q ≡ (h + n + 1) / 2 + 1
once n h q e =
    let sum = plus_is (checked_half (checked_add (checked_add (Some n) h) 1)) 1 q e in
    omega (arith, halved n h sum.0 sum.1)

pub utf_16_enough : (s : Utf16State)
    → AreIncomplete (utf_16_prefix s.big_endian) [] (bytes_of_pending s.pending)
    → AreEnoughForCodec lengths.Utf16 (state s)
utf_16_enough s lead_first =
    let held = length (bytes_of_pending s.pending) in
    let never_utf_8 =
    never encode_utf8 3 (λ n. 3 * ((n + 1) / 2)) (omega arith) (λ n. omega arith)
    (λ t small. small.utf_8)
    (λ t small. (omega (arith, small.utf_8), omega (arith, small.utf_8))) s lead_first in
    let never_utf_16 =
    never encode_utf16 1 (λ n. (n + 1) / 2) (omega arith) (λ n. omega arith)
    (λ t small. small.utf_16)
    (λ t small. (omega (arith, small.utf_16), omega (arith, small.utf_16))) s lead_first in
    record {
      utf_8 = λ src last n are_bytes is_length.
          never_utf_8 Replacement src last n are_bytes
          (omega (arith, thrice (length src) held n is_length));
      reporting = λ src last n are_bytes is_length.
          never_utf_8 Fatal src last n are_bytes
          (omega (arith, thrice (length src) held n is_length));
      utf_16 = λ mode src last n are_bytes is_length.
          never_utf_16 mode src last n are_bytes
          (omega (arith, once (length src) held n is_length));
    }
