-- Laws of escape sequences in ISO-2022-JP (Encoding Standard 12.2.1).
use Rattle.std.specs.Prelude.{◌≡◌, ℕ, ◌≤◌, ◌⊎◌, Option, Some, None, List, [], ◌∷◌, ◌++◌}
use Rattle.enc_decoder.specs.declared.byte_codec.Kind.TheVariants.{Skipped}
use Rattle.enc_decoder_iso_2022_jp.specs.declared.character_set.CharacterSet.{CharacterSet}
use Rattle.enc_decoder.specs.Sequence.{Sequence, sequence_bytes, set_after}
use Rattle.enc_decoder.specs.Segmentation.{Rule, sequences_of}
use Rattle.enc_decoder.specs.RuleLaws.{IsDeterminedWithin, IsLookahead, IsDeterminedByEnd}
use Rattle.enc_decoder_iso_2022_jp.specs.Iso2022Jp.{set_number, designated_set}

-- the later character set, if there is one
abbrev pub later_set_or : Option CharacterSet → Option CharacterSet → Option CharacterSet
later_set_or None earlier = earlier
later_set_or (Some s) earlier = Some s

-- The character set that the last escape sequence in these bytes designates, if there is one.
unfoldable pub last_designated_set : List ℕ → Option CharacterSet
last_designated_set [] = None
last_designated_set (b ∷ z) = later_set_or (last_designated_set z) (designated_set (b ∷ z))

-- the number of a character set, or this number if there is none
abbrev pub set_number_or : ℕ → Option CharacterSet → ℕ
set_number_or set None = set
set_number_or set (Some s) = set_number s

-- Between two sequences, the designated character set is that of the last escape sequence before,
-- or the initial one if there is none.
abbrev pub SetsAreOfLastEscapes : Rule → Type 0
SetsAreOfLastEscapes rule =
    (set : ℕ) (z : List ℕ) (before others : List Sequence)
    → sequences_of rule set z ≡ before ++ others
    → set_after set before ≡ set_number_or set (last_designated_set (sequence_bytes before))

-- A skipped escape sequence is never determined by its own bytes. One to three bytes after it
-- determine it, or the end of the input.
pub record HasSkippedLookahead (rule : Rule) : Type 0 where
  pub not_alone : (set b : ℕ) (z : List ℕ) → (rule set b z).kind ≡ Skipped
      → IsDeterminedWithin rule set b z 0 → ⊥
  pub soon : (set b : ℕ) (z : List ℕ) → (rule set b z).kind ≡ Skipped
      → ((n : ℕ) × (1 ≤ n) × (n ≤ 3) × IsLookahead rule set b z n) ⊎ IsDeterminedByEnd rule set b z
