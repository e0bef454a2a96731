-- Incomplete sequences of UTF-8, by the prefixes: more bytes may complete them, and the input may
-- end, so they determine nothing. All other bytes determine the first sequence.
use Rattle.std.proofs.Common.{◌≡◌, ℕ, ◌+◌, ◌-◌, ◌<◌, ◌≤◌, ◌==◌, zero, suc, Bool, true, false, cond, ◌&&◌, nat_lt, List}
use Rattle.std.proofs.Common.{[], ◌∷◌, ◌++◌, length, refl, ◌∙◌, sym, subst, arith}
use Rattle.std.proofs.lemmas.Bool.{false_from_ne_true}
use Rattle.std.proofs.lemmas.Bool.Decides.{nat_tests}
use Rattle.enc_utf8.specs.Utf8Sequences.{sequence_len, is_second_byte, is_continuation, continuing_len}
use Rattle.enc_utf8.specs.Utf8Sequences.{is_incomplete_sequence}
use Rattle.enc_utf8.proofs.Utf8SequenceLemmas.{at_most_four}
use Rattle.enc_decoder.specs.declared.prefix.Prefix.{Prefix}
use Rattle.enc_decoder.specs.declared.prefix.Prefix.TheVariants.{Complete, Malformed, Incomplete}
use Rattle.enc_decoder.specs.Segmentation.{sequences_of}
use Rattle.enc_decoder.specs.Remainder.{IsUndetermined}
use Rattle.enc_decoder.specs.Prefixes.{prefix_head, prefix_rule, AreIncomplete, is_incomplete, are_incomplete}
use Rattle.enc_decoder.proofs.PrefixLemmas.{by_test, still_incomplete}
use Rattle.enc_decoder.proofs.PrefixRule.{undetermined as undetermined_prefix}
use Rattle.enc_decoder_utf.specs.Utf8.{utf_8_rule, utf_8_prefix, first_byte_prefix, begun_prefix}
use Rattle.enc_decoder_utf.proofs.Utf8Prefixes.{utf_8_prefixes}
use Rattle.enc_decoder_utf.proofs.Utf8Rule.{utf_8_by_prefixes}

-- the tests of one to three bytes, by the length of the sequences that begin with the first

abbrev lacks : ℕ → ℕ → List ℕ → Bool
lacks a len z = (continuing_len a (len - 1) z == length z) && nat_lt (length z + 1) len

by_len : (Holds : ℕ → Type 0) → Holds 0 → Holds 1 → Holds 2 → Holds 3 → Holds 4 → (len : ℕ)
    → len ≤ 4 → Holds len
by_len Holds none one two three four zero few = none
by_len Holds none one two three four (suc zero) few = one
by_len Holds none one two three four (suc (suc zero)) few = two
by_len Holds none one two three four (suc (suc (suc zero))) few = three
by_len Holds none one two three four (suc (suc (suc (suc zero)))) few = four
by_len Holds none one two three four (suc (suc (suc (suc (suc n))))) few = absurd (omega arith)

abbrev leads : ℕ → ℕ → Bool
leads a len = is_incomplete (first_byte_prefix len a)

one : (a len : ℕ) → len ≤ 4 → lacks a len [] ≡ (leads a len && true)
one a = by_len (λ len. lacks a len [] ≡ (leads a len && true)) refl refl refl refl refl

abbrev follows : ℕ → ℕ → ℕ → Bool → Bool
follows a b len t = is_incomplete (cond t (begun_prefix len 2 (a ∷ b ∷ [])) (Malformed 1))

two : (a b : ℕ) (t : Bool) → is_second_byte a b ≡ t → (len : ℕ) → len ≤ 4
    → lacks a len (b ∷ []) ≡ (leads a len && (follows a b len t && true))
two a b false cut =
    by_len (λ len. lacks a len (b ∷ []) ≡ (leads a len && (follows a b len false && true))) refl
    refl (rw cut refl) (rw cut refl) (rw cut refl)
two a b true second =
    by_len (λ len. lacks a len (b ∷ []) ≡ (leads a len && (follows a b len true && true))) refl
    refl (rw second refl) (rw second refl) (rw second refl)

abbrev goes_on : ℕ → ℕ → ℕ → ℕ → Bool → Bool
goes_on a b c len u = is_incomplete (cond u (begun_prefix len 3 (a ∷ b ∷ c ∷ [])) (Malformed 2))

three : (a b c : ℕ) (t u : Bool) → is_second_byte a b ≡ t → is_continuation c ≡ u → (len : ℕ)
    → len ≤ 4 → lacks a len (b ∷ c ∷ [])
    ≡ (leads a len && (follows a b len t && (goes_on a b c len u && true)))
three a b c false u cut third =
    by_len (λ len. lacks a len (b ∷ c ∷ [])
    ≡ (leads a len && (follows a b len false && (goes_on a b c len u && true)))) refl refl
    (rw cut refl) (rw cut refl) (rw cut refl)
three a b c true false second cut =
    by_len (λ len. lacks a len (b ∷ c ∷ [])
    ≡ (leads a len && (follows a b len true && (goes_on a b c len false && true)))) refl refl
    (rw second refl) (rw (second, cut) refl) (rw (second, cut) refl)
three a b c true true second third =
    by_len (λ len. lacks a len (b ∷ c ∷ [])
    ≡ (leads a len && (follows a b len true && (goes_on a b c len true && true)))) refl refl
    (rw second refl) (rw (second, third) refl) (rw (second, third) refl)

-- An incomplete prefix has three bytes at most.
prefix_is_short : (bytes : List ℕ) → are_incomplete utf_8_prefix [] bytes ≡ true → length bytes ≤ 3
prefix_is_short bytes incomplete =
    utf_8_prefixes.short bytes (still_incomplete utf_8_prefix [] bytes utf_8_prefixes.nothing
    (by_test utf_8_prefix [] bytes incomplete))

pub incomplete_by_prefixes : (bytes : List ℕ) → 0 < length bytes
    → is_incomplete_sequence bytes ≡ are_incomplete utf_8_prefix [] bytes
incomplete_by_prefixes [] some = absurd (omega arith)
incomplete_by_prefixes (a ∷ []) some = one a (sequence_len a) (at_most_four a)
incomplete_by_prefixes (a ∷ b ∷ []) some =
    two a b _ refl (sequence_len a) (at_most_four a)
incomplete_by_prefixes (a ∷ b ∷ c ∷ []) some =
    three a b c _ _ refl refl (sequence_len a) (at_most_four a)
incomplete_by_prefixes (a ∷ b ∷ c ∷ d ∷ z) some =
    false_from_ne_true _ (λ test. let most = at_most_four a in grind (arith, nat_tests))
    ∙ sym (false_from_ne_true _
    (λ test. let short = prefix_is_short (a ∷ b ∷ c ∷ d ∷ z) test in omega arith))

pub incomplete_begun : (bytes : List ℕ) → is_incomplete_sequence bytes ≡ true
    → AreIncomplete utf_8_prefix [] bytes
incomplete_begun [] incomplete = tt
incomplete_begun (b ∷ z) incomplete =
    by_test utf_8_prefix [] (b ∷ z)
    (sym (incomplete_by_prefixes (b ∷ z) (omega arith)) ∙ incomplete)

pub incomplete_is_short : (bytes : List ℕ) → is_incomplete_sequence bytes ≡ true → length bytes < 4
incomplete_is_short [] incomplete = omega arith
incomplete_is_short (b ∷ z) incomplete =
    let short = prefix_is_short (b ∷ z)
    (sym (incomplete_by_prefixes (b ∷ z) (omega arith)) ∙ incomplete) in
    omega arith

-- Only the end of the input makes a sequence of them.
pub undetermined : (z : List ℕ) → AreIncomplete utf_8_prefix [] z
    → IsUndetermined (λ y. sequences_of utf_8_rule 0 (z ++ y))
undetermined z incomplete =
    subst (λ rule. IsUndetermined (λ y. sequences_of rule 0 (z ++ y))) utf_8_by_prefixes
    (undetermined_prefix utf_8_prefix utf_8_prefixes z incomplete)

-- Bytes after others change nothing.

same_head : (set : ℕ) (front : List ℕ) (r : Prefix) (z y : List ℕ)
    → (is_incomplete r && are_incomplete utf_8_prefix front z) ≡ false
    → prefix_head utf_8_prefix set front r (z ++ y) ≡ prefix_head utf_8_prefix set front r z
same_head set front (Complete text) z y determined = refl
same_head set front (Malformed n) z y determined = refl
same_head set front Incomplete [] y determined = absurd (cc)
same_head set front Incomplete (c ∷ z) y determined =
    same_head set (front ++ c ∷ []) (utf_8_prefix (front ++ c ∷ [])) z y determined

pub determined_head : (b : ℕ) (z y : List ℕ) → is_incomplete_sequence (b ∷ z) ≡ false
    → utf_8_rule 0 b (z ++ y) ≡ utf_8_rule 0 b z
unfolding prefix_rule
determined_head b z y determined =
    rw (← utf_8_by_prefixes) (same_head 0 (b ∷ []) (utf_8_prefix (b ∷ [])) z y
    (sym (incomplete_by_prefixes (b ∷ z) (omega arith)) ∙ determined))
