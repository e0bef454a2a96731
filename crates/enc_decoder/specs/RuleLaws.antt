-- The laws of every encoding's rule: a bounded lookahead, short texts, and U+FFFD for what is
-- malformed.
use Rattle.std.specs.Prelude.{◌≡◌, ℕ, ◌+◌, ◌<◌, ◌≤◌, ◌⊎◌, true, List, [], ◌∷◌, ◌++◌, length, take}
use Rattle.std.specs.Char.{encode_utf8}
use Rattle.std.specs.Char.Escape.{encode_utf16}
use Rattle.enc_utf8.specs.Text.{units_of_text}
use Rattle.enc_decoder.specs.declared.byte_codec.Kind.TheVariants.{Valid}
use Rattle.enc_decoder.specs.Sequence.{is_malformed}
use Rattle.enc_decoder.specs.Segmentation.{Rule}
use Rattle.enc_decoder.specs.Remainder.{AreBytes}

-- Each sequence of this rule has a text: none is skipped.
abbrev pub HasTexts : Rule → Type 0
HasTexts rule = (set b : ℕ) (z : List ℕ) → (rule set b z).text ≡ [] → ⊥

-- A text of at most four UTF-8 code units, and two of UTF-16.
pub record IsSmallText (text : List ℕ) : Type 0 where
  pub utf_8 : length (units_of_text encode_utf8 text) ≤ 4
  pub utf_16 : length (units_of_text encode_utf16 text) ≤ 2

-- Each sequence has such a text.
abbrev pub HasSmallTexts : Rule → Type 0
HasSmallTexts rule = (set b : ℕ) (z : List ℕ) → IsSmallText (rule set b z).text

-- The text of each malformed sequence is U+FFFD.
abbrev pub ReplacesMalformed : Rule → Type 0
ReplacesMalformed rule = (set b : ℕ) (z : List ℕ) → is_malformed (rule set b z).kind ≡ true
    → (rule set b z).text ≡ 0xFFFD ∷ []

-- The first sequence is determined by its own bytes and the next n: it is the same whatever follows
-- those.
pub record IsDeterminedWithin (rule : Rule) (set b : ℕ) (z : List ℕ) (n : ℕ) : Type 0 where
  pub there : (rule set b z).more + n ≤ length z
  pub same : (y : List ℕ) → rule set b (take ((rule set b z).more + n) z ++ y) ≡ rule set b z

-- The lookahead of the first sequence is n: the next n bytes determine it, and fewer do not.
pub record IsLookahead (rule : Rule) (set b : ℕ) (z : List ℕ) (n : ℕ) : Type 0 where
  pub determined : IsDeterminedWithin rule set b z n
  pub least : AreBytes z → (m : ℕ) → m < n
      → ((y : List ℕ) → AreBytes y
      → rule set b (take ((rule set b z).more + m) z ++ y) ≡ rule set b z) → ⊥

-- Only the end of the input determines it, at most three bytes after it: it is another if the bytes
-- `more` follow.
pub record IsDeterminedByEnd (rule : Rule) (set b : ℕ) (z : List ℕ) : Type 0 where
  pub within : (rule set b z).more ≤ length z
  pub more : List ℕ
  pub bytes : AreBytes more
  pub other : rule set b (z ++ more) ≡ rule set b z → ⊥
  pub near : length z ≤ (rule set b z).more + 3

-- at most three bytes after it, or only the end, determine it
abbrev pub HasBoundedLookahead : Rule → ℕ → ℕ → List ℕ → Type 0
HasBoundedLookahead rule set b z = ((n : ℕ) × (n ≤ 3) × IsLookahead rule set b z n)
    ⊎ IsDeterminedByEnd rule set b z

-- The lookahead of a decoder: 0 for a valid sequence, and at most three bytes for a malformed or
-- skipped one.
pub record HasLookahead (rule : Rule) : Type 0 where
  pub valid : (set b : ℕ) (z : List ℕ) → (rule set b z).kind ≡ Valid
      → IsDeterminedWithin rule set b z 0
  pub others : (set b : ℕ) (z : List ℕ) → HasBoundedLookahead rule set b z

-- the laws of every encoding's rule
pub record IsLawfulRule (rule : Rule) : Type 0 where
  pub lookahead : HasLookahead rule
  pub small_texts : HasSmallTexts rule
  pub replacements : ReplacesMalformed rule
