-- The one segmentation of a whole input into sequences (Encoding Standard 4.1, "process a queue").
use Rattle.std.specs.Prelude.{◌≡◌, ℕ, Option, Some, None, List, [], ◌∷◌, take, drop}
use Rattle.std.proofs.Common.{zero, suc}
use Rattle.enc_decoder.specs.declared.byte_codec.Kind.{Kind}
use Rattle.enc_decoder.specs.declared.byte_codec.Kind.TheVariants.{Valid, Malformed}
use Rattle.enc_decoder.specs.Sequence.{Sequence}

-- The first sequence: the number of its bytes after the first, its text and kind, and the character
-- set designated after it.
pub record Head : Type 0 where
  pub more : ℕ
  pub text : List ℕ
  pub kind : Kind
  pub set : ℕ

-- a character and a malformed sequence, by the number of bytes after the first
abbrev pub character_head : ℕ → ℕ → ℕ → Head
character_head set more c = record { more = more; text = c ∷ []; kind = Valid; set = set }

abbrev pub malformed_head : ℕ → ℕ → Head
malformed_head set more = record { more = more; text = 0xFFFD ∷ []; kind = Malformed; set = set }

-- a byte that stands alone: its character, or malformed if it has none
abbrev pub one_byte_head : ℕ → Option ℕ → Head
one_byte_head set (Some c) = character_head set 0 c
one_byte_head set None = malformed_head set 0

-- An encoding's rule gives the first sequence, by the designated character set, the first byte and
-- all bytes after it, to the end of the input.
abbrev pub Rule : Type 0
Rule = ℕ → ℕ → List ℕ → Head

-- the first sequence, with its bytes
abbrev pub head_sequence : Head → ℕ → List ℕ → Sequence
head_sequence h b z = record {
  bytes = b ∷ take h.more z;
  text = h.text;
  kind = h.kind;
  set = h.set;
}

-- the sequences after the first k bytes
unfoldable pub sequences_after : Rule → ℕ → ℕ → List ℕ → List Sequence
sequences_after rule set k [] = []
sequences_after rule set zero (b ∷ z) =
    head_sequence (rule set b z) b z ∷ sequences_after rule (rule set b z).set (rule set b z).more z
sequences_after rule set (suc k) (b ∷ z) = sequences_after rule set k z

-- the sequences of a byte list, from a designated character set on
abbrev pub sequences_of : Rule → ℕ → List ℕ → List Sequence
sequences_of rule set z = sequences_after rule set 0 z

-- These sequences are the bytes, each given by the rule at its place, and nothing is left.
abbrev pub IsSegmentation : Rule → ℕ → List ℕ → List Sequence → Type 0
IsSegmentation rule set z [] = z ≡ []
IsSegmentation rule set [] (s ∷ ss) = ⊥
IsSegmentation rule set (b ∷ z) (s ∷ ss) = (s ≡ head_sequence (rule set b z) b z)
    × IsSegmentation rule (rule set b z).set (drop (rule set b z).more z) ss
