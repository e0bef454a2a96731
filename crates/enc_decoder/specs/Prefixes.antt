-- Encodings by the kinds of prefixes: the first bytes of an input are a valid sequence, malformed
-- from the first on, or incomplete.
use Rattle.std.specs.Prelude.{◌≡◌, ◌≢◌, ℕ, ◌-◌, ◌<◌, ◌≤◌, Bool, true, false, ◌&&◌, ◌||◌, Option, Some, None, List, []}
use Rattle.std.specs.Prelude.{◌∷◌, ◌++◌, length, drop}
use Rattle.enc_decoder.specs.declared.byte_codec.Text.{Text}
use Rattle.enc_decoder.specs.declared.byte_codec.Text.TheVariants.{One}
use Rattle.enc_decoder.specs.declared.byte_codec.Kind.TheVariants.{Valid}
use Rattle.enc_decoder.specs.declared.prefix.Prefix.{Prefix}
use Rattle.enc_decoder.specs.declared.prefix.Prefix.TheVariants.{Complete, Malformed, Incomplete}
use Rattle.enc_decoder.specs.Segmentation.{Head, Rule, malformed_head}
use Rattle.enc_decoder.specs.CodecLaw.{text_chars}
use Rattle.enc_decoder.specs.CodecState.{CodecState}
use Rattle.enc_decoder.specs.Remainder.{AreBytes}
use Rattle.enc_decoder.specs.RuleLaws.{IsSmallText}

-- a byte that stands alone: its character, or malformed
abbrev pub single_prefix : Option ℕ → Prefix
single_prefix (Some c) = Complete (One c)
single_prefix None = Malformed 1

-- the first n bytes are malformed
abbrev pub malformed_prefix_head : ℕ → ℕ → Head
malformed_prefix_head set n = malformed_head set (n - 1)

-- The first sequence, by the kind of the prefix `front` and all bytes after it. An incomplete
-- prefix needs one byte more. At the end of the input it is malformed as a whole.
abbrev pub prefix_head : (List ℕ → Prefix) → ℕ → List ℕ → Prefix → List ℕ → Head
prefix_head prefix set front (Complete text) z =
    record { more = length front - 1; text = text_chars text; kind = Valid; set = set }
prefix_head prefix set front (Malformed n) z = malformed_prefix_head set n
prefix_head prefix set front Incomplete [] = malformed_prefix_head set (length front)
prefix_head prefix set front Incomplete (c ∷ z) =
    prefix_head prefix set (front ++ c ∷ []) (prefix (front ++ c ∷ [])) z

-- the rule, by the kinds of prefixes
unfoldable pub prefix_rule : (List ℕ → Prefix) → Rule
prefix_rule prefix set b z = prefix_head prefix set (b ∷ []) (prefix (b ∷ [])) z

-- with these pending bytes
abbrev pub prefix_state : (List ℕ → Prefix) → List ℕ → CodecState
prefix_state prefix pending = record { rule = prefix_rule prefix; set = 0; pending = pending }

-- each prefix of these bytes, after `front`, is incomplete
abbrev pub AreIncomplete : (List ℕ → Prefix) → List ℕ → List ℕ → Type 0
AreIncomplete prefix front [] = Unit {0}
AreIncomplete prefix front (c ∷ z) = (prefix (front ++ c ∷ []) ≡ Incomplete)
    × AreIncomplete prefix (front ++ c ∷ []) z

-- the same as a test

abbrev pub is_incomplete : Prefix → Bool
is_incomplete (Complete text) = false
is_incomplete (Malformed n) = false
is_incomplete Incomplete = true

abbrev pub are_incomplete : (List ℕ → Prefix) → List ℕ → List ℕ → Bool
are_incomplete prefix front [] = true
are_incomplete prefix front (c ∷ z) = is_incomplete (prefix (front ++ c ∷ []))
    && are_incomplete prefix (front ++ c ∷ []) z

-- Pending bytes are incomplete, unless a malformed sequence may leave others pending.
abbrev pub AreKept : Bool → (List ℕ → Prefix) → List ℕ → Type 0
AreKept leaves_others prefix pending = (are_incomplete prefix [] pending || leaves_others) ≡ true

-- What a malformed sequence leaves of the incomplete bytes before the one that shows it is
-- incomplete.
abbrev pub LeavesIncomplete : (List ℕ → Prefix) → Type 0
LeavesIncomplete prefix = (front : List ℕ) (b n : ℕ) → AreIncomplete prefix [] front
    → prefix (front ++ b ∷ []) ≡ Malformed n → AreIncomplete prefix [] (drop n front)

-- the text of a valid prefix has a character, and is small
pub record IsPrefixText (text : Text) : Type 0 where
  pub some : text_chars text ≢ []
  pub small : IsSmallText (text_chars text)

-- Some bytes after them make another first sequence than the end of the input does.
pub record CanBeOther (prefix : List ℕ → Prefix) (front : List ℕ) : Type 0 where
  pub more : List ℕ
  pub bytes : AreBytes more
  pub other : (set : ℕ) → prefix_head prefix set front Incomplete more
      ≡ malformed_prefix_head set (length front) → ⊥

-- The laws of prefixes in every encoding.
pub record ArePrefixes (prefix : List ℕ → Prefix) : Type 0 where
  pub nothing : prefix [] ≡ Incomplete
  pub texts : (front : List ℕ) (text : Text) → prefix front ≡ Complete text → IsPrefixText text
  pub malformed : (front : List ℕ) (n : ℕ) → prefix front ≡ Malformed n → (0 < n)
      × (n ≤ length front)
  pub short : (front : List ℕ) → prefix front ≡ Incomplete → length front ≤ 3
  pub can_be_other : (front : List ℕ) → 0 < length front → prefix front ≡ Incomplete
      → CanBeOther prefix front

-- an ASCII byte is the character with its number
abbrev pub HasAscii : (List ℕ → Prefix) → Type 0
HasAscii prefix = (b : ℕ) → b < 0x80 → prefix (b ∷ []) ≡ Complete (One b)

-- A byte below 30, the first ASCII digit, leaves no prefix incomplete if it is read after others.
abbrev pub AreSettledBelowDigits : (List ℕ → Prefix) → Type 0
AreSettledBelowDigits prefix = (c : ℕ) → c < 0x30 → (a : ℕ) (front : List ℕ)
    → prefix (a ∷ (front ++ c ∷ [])) ≢ Incomplete
