-- Which lengths are enough for UTF-8.
use Rattle.std.proofs.Common.{◌≡◌, ℕ, ◌+◌, ◌-◌, ◌*◌, ◌<◌, ◌≤◌, zero, suc, Bool, true, false, cond, Some, List, []}
use Rattle.std.proofs.Common.{◌∷◌, length, take, drop, refl, ap, sym, subst, arith}
use Rattle.std.proofs.lemmas.Bool.Decides.{nat_tests}
use Rattle.std.proofs.lemmas.List.{length-append, length-take-le, take-append-drop}
use Rattle.std.proofs.lemmas.Str.{length-encode, len_utf8_bounds}
use Rattle.std.specs.Char.{encode_utf8, len_utf8}
use Rattle.std.specs.Char.Escape.{encode_utf16}
use Rattle.enc_utf8.specs.Text.{units_of_text}
use Rattle.enc_utf8.specs.Checked.{checked_add, checked_mul}
use Rattle.enc_decoder.specs.Sequence.{Sequence, is_malformed}
use Rattle.enc_decoder.specs.Segmentation.{head_sequence, sequences_after, sequences_of}
use Rattle.enc_decoder.specs.CodecState.{CodecState}
use Rattle.enc_decoder.specs.declared.error_mode.ErrorMode.TheVariants.{Replacement, Fatal}
use Rattle.enc_decoder.specs.declared.text_lengths.TextLengths.TheVariants as lengths
use Rattle.enc_decoder.specs.Need.{sequences_before_malformed, needed_units, AreEnoughForCodec, IsBmpText}
use Rattle.enc_decoder.proofs.NeedLemmas.{units, units-both, units-one}
use Rattle.enc_decoder.proofs.EnoughLemmas.{plus_is, sum_is, thrice_is, never_passes, HasFewUnits, few_by_single_bytes}
use Rattle.enc_decoder.proofs.EnoughLemmas.{utf_8_bounded, utf_16_bounded, basic_by}
use Rattle.enc_utf8.specs.Utf8Sequences.{sequence_len, well_formed_tail_len, scalar_of}
use Rattle.enc_utf8.proofs.Utf8SequenceLemmas.{one_range, two_range, three_range, second_range}
use Rattle.enc_decoder_utf.specs.Utf8.{utf_8_rule}
use Rattle.enc_decoder_utf.proofs.Utf8Rule.{utf_8_is_lawful}
use Rattle.enc_decoder_utf.proofs.Utf8Lemmas.{holds_of_first}
use Rattle.enc_decoder_utf.proofs.Utf8Lemmas.{well_formed_tail_len-within, AreFollowing, reached_follow}

reach_taken : (b : ℕ) (z : List ℕ)
    → length (take (well_formed_tail_len b z) z) ≡ well_formed_tail_len b z
reach_taken b z = length-take-le (well_formed_tail_len b z) z (well_formed_tail_len-within b z)

replaced : IsBmpText (0xFFFD ∷ [])
replaced = basic_by 0xFFFD (omega arith)

alone_is_basic : (set b : ℕ) (z : List ℕ) → length (take (utf_8_rule set b z).more z) ≡ 0
    → IsBmpText (utf_8_rule set b z).text
alone_is_basic set b z = holds_of_first (λ h. length (take h.more z) ≡ 0 → IsBmpText h.text) set b z
    (λ len_is none_taken.
    let reaches_none : well_formed_tail_len b z ≡ 0 = omega (arith, none_taken, reach_taken b z) in
    let is_ascii = one_range b (omega arith) in
    subst (λ k. IsBmpText (scalar_of (b ∷ take k z) ∷ [])) (sym reaches_none)
    (basic_by b (omega arith)))
    (λ _. replaced)

utf_8_few : HasFewUnits utf_8_rule
utf_8_few = few_by_single_bytes utf_8_rule utf_8_is_lawful.small_texts alone_is_basic

-- a well-formed sequence has as many code units as bytes

utf_8_lens : (c : ℕ) → (c < 0x80 → len_utf8 c ≤ 1) × (c < 0x800 → len_utf8 c ≤ 2)
    × (c < 0x1_0000 → len_utf8 c ≤ 3)
utf_8_lens c = (
  λ below. grind (arith, nat_tests),
  λ below. grind (arith, nat_tests),
  λ below. grind (arith, nat_tests),
)

valid_units : (b : ℕ) (z : List ℕ) → AreFollowing b z → sequence_len b ≡ suc (length z)
    → len_utf8 (scalar_of (b ∷ z)) ≤ suc (length z)
valid_units b [] follow len_is = (utf_8_lens b).0 (one_range b len_is)
valid_units b (c ∷ []) follow len_is =
    let lead_in_range = two_range b len_is in
    let second_in_range = second_range b c follow.0 in
    (utf_8_lens (scalar_of (b ∷ c ∷ []))).1 (omega arith)
valid_units b (c ∷ d ∷ []) follow len_is =
    let lead_in_range = three_range b len_is in
    let second_in_range = second_range b c follow.0 in
    let third_in_range = second_range 0 d follow.1.0 in
    (utf_8_lens (scalar_of (b ∷ c ∷ d ∷ []))).2 (omega arith)
valid_units b (c ∷ d ∷ e ∷ z) follow len_is =
    let len_bounds = len_utf8_bounds (scalar_of (b ∷ c ∷ d ∷ e ∷ z)) in omega arith

-- and a malformed one has three
few_units : (set b : ℕ) (z : List ℕ)
    → length (units_of_text encode_utf8 (utf_8_rule set b z).text)
    ≤ cond (is_malformed (utf_8_rule set b z).kind) 3
    (suc (length (take (utf_8_rule set b z).more z)))
few_units set b z = holds_of_first
    (λ h. length (units_of_text encode_utf8 h.text)
    ≤ cond (is_malformed h.kind) 3 (suc (length (take h.more z)))) set b z
    (λ len_is.
    let reached = take (well_formed_tail_len b z) z in
    let character = scalar_of (b ∷ reached) in
    let same_len = reach_taken b z in
    let bound = valid_units b reached (reached_follow b (sequence_len b - 1) z) (omega arith) in
    omega (arith, length-encode character, length-append (encode_utf8 character) []))
    replaced.utf_8

before_bounded : (set k : ℕ) (z : List ℕ)
    → units encode_utf8 (sequences_before_malformed (sequences_after utf_8_rule set k z))
    ≤ length (drop k z) + 3
unfolding sequences_after
before_bounded set zero [] = omega arith
before_bounded set (suc k) [] = omega arith
before_bounded set (suc k) (b ∷ z) = before_bounded set k z
before_bounded set zero (b ∷ z) =
    let head = utf_8_rule set b z in
    let bytes = length-append (take head.more z) (drop head.more z) in
    let all_bytes = ap length (take-append-drop head.more z) in
    first (is_malformed head.kind) (head_sequence head b z)
    (sequences_before_malformed (sequences_after utf_8_rule head.set head.more z))
    (length (drop head.more z)) (suc (length z)) (before_bounded head.set head.more z)
    (few_units set b z) (omega arith)
  where
    first : (t : Bool) (s : Sequence) (rest : List Sequence) (left all : ℕ)
        → units encode_utf8 rest ≤ left + 3
        → length (units_of_text encode_utf8 s.text) ≤ cond t 3 (length s.bytes)
        → length s.bytes + left ≡ all
        → units encode_utf8 (cond t [] (s ∷ rest)) ≤ all + 3
    first true s rest left all rest_few few parts = omega arith
    first false s rest left all rest_few few parts = omega (
      arith,
      units-one encode_utf8 s s.text refl,
      units-both encode_utf8 (s ∷ []) rest,
    )

pub utf_8_enough : (v : CodecState) → v.rule ≡ utf_8_rule → AreEnoughForCodec lengths.Utf8 v
utf_8_enough v is_utf_8 = record {
  utf_8 = λ src last n _ is_length.
      never_passes encode_utf8 Replacement (λ k. 3 * k) v (utf_8_bounded v few) src last n
      (with_replacement src n is_length);
  reporting = λ src last n _ is_length.
      never_passes encode_utf8 Fatal (λ k. k + 3) v reporting_bounded src last n
      (sum_and 3 src n is_length);
  utf_16 = λ mode src last n _ is_length.
      never_passes encode_utf16 mode (λ k. k) v (utf_16_bounded v few mode) src last n
      (let fits = sum_and 1 src n is_length in omega arith);
}
  where
    few : HasFewUnits v.rule
    few = subst HasFewUnits (sym is_utf_8) utf_8_few

    reporting_bounded : (z : List ℕ)
        → needed_units encode_utf8 Fatal (sequences_of v.rule v.set z) ≤ length z + 3
    reporting_bounded z = rw is_utf_8 (before_bounded v.set 0 z)

    with_replacement : (src : List ℕ) (n : ℕ)
        → checked_add (checked_mul (checked_add (Some (length src)) (length v.pending)) 3) 3
        ≡ Some n → 3 * (length v.pending + length src) ≤ n
    with_replacement src n is_length =
        let given = checked_add (Some (length src)) (length v.pending) in
        let all = length src + length v.pending in
        let product = plus_is (checked_mul given 3) 3 n is_length in
        let is_all = thrice_is given all product.0 (sum_is (length src) (length v.pending))
        product.1 in
        omega arith

    sum_and : (k : ℕ) (src : List ℕ) (n : ℕ)
        → checked_add (checked_add (Some (length src)) (length v.pending)) k ≡ Some n
        → length v.pending + length src + k ≤ n
    sum_and k src n is_length =
        let sum = plus_is (checked_add (Some (length src)) (length v.pending)) k n is_length in
        let is_sum = sum_is (length src) (length v.pending) sum.0 sum.1 in
        omega arith
