-- The rule of UTF-8 (Encoding Standard 8.1.1, "UTF-8 decoder"): well-formed sequences, and
-- malformed ones, each the maximal subpart of an ill-formed subsequence. `Utf8Sequences` of
-- `enc_utf8` has both in the words of the Unicode Standard.
use Rattle.std.specs.Prelude.{ℕ, ◌+◌, ◌==◌, List, [], ◌∷◌, take, if◌then◌else◌}
use Rattle.enc_utf8.specs.Utf8Sequences.{sequence_len, is_second_byte, is_continuation, well_formed_tail_len, scalar_of}
use Rattle.enc_decoder.specs.declared.byte_codec.Text.TheVariants.{One}
use Rattle.enc_decoder.specs.declared.prefix.Prefix.{Prefix}
use Rattle.enc_decoder.specs.declared.prefix.Prefix.TheVariants.{Complete, Incomplete}
use Rattle.enc_decoder.specs.declared.prefix.Prefix.TheVariants as kind
use Rattle.enc_decoder.specs.Segmentation.{Rule, character_head, malformed_head}

-- A whole well-formed sequence is valid. Otherwise the longest prefix that begins one is malformed,
-- and at least one byte.
unfoldable pub utf_8_rule : Rule
utf_8_rule set b z =
    if well_formed_tail_len b z + 1 == sequence_len b
    then character_head set (well_formed_tail_len b z)
    (scalar_of (b ∷ take (well_formed_tail_len b z) z))
    else malformed_head set (well_formed_tail_len b z)

-- The same by the kinds of prefixes (`utf_8_by_prefixes`).

-- bytes that all continue the first, n of them with it: a sequence of `len` bytes, or its start
abbrev pub begun_prefix : ℕ → ℕ → List ℕ → Prefix
begun_prefix len n bytes = if len == n then Complete (One (scalar_of bytes)) else Incomplete

abbrev pub first_byte_prefix : ℕ → ℕ → Prefix
first_byte_prefix len a = if len == 0 then kind.Malformed 1 else begun_prefix len 1 (a ∷ [])

-- the kind of a prefix
abbrev pub utf_8_prefix : List ℕ → Prefix
utf_8_prefix [] = Incomplete
utf_8_prefix (a ∷ []) = first_byte_prefix (sequence_len a) a
utf_8_prefix (a ∷ b ∷ []) =
    if is_second_byte a b then begun_prefix (sequence_len a) 2 (a ∷ b ∷ []) else kind.Malformed 1
utf_8_prefix (a ∷ b ∷ c ∷ []) =
    if is_continuation c then begun_prefix (sequence_len a) 3 (a ∷ b ∷ c ∷ []) else kind.Malformed 2
utf_8_prefix (a ∷ b ∷ c ∷ d ∷ z) =
    if is_continuation d then Complete (One (scalar_of (a ∷ b ∷ c ∷ d ∷ []))) else kind.Malformed 3
