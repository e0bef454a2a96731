-- The Latin-1 prefix of a decoder's next input: bytes that are the characters with their numbers
-- (the Unicode Standard's block of Latin-1 has the code points 00 to FF).
use Rattle.std.specs.Prelude.{◌≡◌, ℕ, ◌+◌, ◌<◌, ◌≤◌, Option, Some, None, List, [], ◌∷◌, ◌++◌, length, take}
use Rattle.std.specs.Prelude.{All, slice_index}
use Rattle.enc_decoder.specs.declared.byte_codec.Kind.TheVariants.{Valid}
use Rattle.enc_decoder.specs.Sequence.{Sequence}
use Rattle.enc_decoder.specs.Segmentation.{Rule}
use Rattle.enc_decoder.specs.Remainder.{Determines}
use Rattle.enc_decoder.specs.CodecState.{CodecState, remainder_of}
use Rattle.enc_decoder.specs.Taking.{IsWholeChar}

-- a valid sequence of one byte, of the character with the byte's number
pub record IsLatin1Sequence (s : Sequence) (b : ℕ) : Type 0 where
  pub bytes : s.bytes ≡ b ∷ []
  pub text : s.text ≡ b ∷ []
  pub kind : s.kind ≡ Valid

-- each of these sequences is so, of each of these bytes
abbrev pub AreLatin1Sequences : List Sequence → List ℕ → Type 0
AreLatin1Sequences [] [] = Unit {0}
AreLatin1Sequences [] (b ∷ z) = ⊥
AreLatin1Sequences (s ∷ ss) [] = ⊥
AreLatin1Sequences (s ∷ ss) (b ∷ z) = IsLatin1Sequence s b × AreLatin1Sequences ss z

-- The first k bytes are so, each a sequence by itself, whatever follows. The byte after them is
-- not.
pub record IsLatin1Prefix (remaining : List ℕ → List Sequence) (bytes : List ℕ)
    (k : ℕ) : Type 0 where
  pub within : k ≤ length bytes
  pub front : List Sequence
  pub themselves : AreLatin1Sequences front (take k bytes)
  pub first : Determines remaining (take k bytes) front
  pub longest : k < length bytes → (s : Sequence) → IsLatin1Sequence s (slice_index bytes k)
      → Determines remaining (take (k + 1) bytes) (front ++ s ∷ []) → ⊥

-- each of these bytes is the character with its number, a sequence by itself, whatever follows
abbrev pub AreLatin1Bytes : Rule → ℕ → List ℕ → Type 0
AreLatin1Bytes rule set bytes = All (λ b. IsWholeChar rule set (b ∷ []) b) bytes

-- At the start no byte is a valid sequence by itself.
abbrev pub HasNoByteSequences : Rule → Type 0
HasNoByteSequences rule = (b : ℕ) (z : List ℕ) → (rule 0 b z).kind ≡ Valid → 0 < (rule 0 b z).more

-- A byte may be so: nothing is pending, the designated character set is that of the start, and
-- there are such bytes.
pub record CodecMayBeLatin1 (s : CodecState) : Type 0 where
  pub none_pending : s.pending ≡ []
  pub at_start : s.set ≡ 0
  pub has_bytes : ¬ (HasNoByteSequences s.rule)

-- the answer for these bytes: `None` if no byte may be so, and otherwise the length of a prefix
-- that is
abbrev pub AnswersCodecLatin1 : CodecState → List ℕ → Option ℕ → Type 0
AnswersCodecLatin1 s bytes None = ¬ (CodecMayBeLatin1 s)
AnswersCodecLatin1 s bytes (Some k) = CodecMayBeLatin1 s
    × IsLatin1Prefix (remainder_of s).sequences bytes k
