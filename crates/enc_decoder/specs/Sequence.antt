-- Sequences of bytes: valid, malformed or skipped, with their texts (Encoding Standard 4.1,
-- "handler").
use Rattle.std.specs.Prelude.{ℕ, Bool, true, false, ◌||◌, List, [], ◌∷◌, ◌++◌}
use Rattle.enc_decoder.specs.declared.byte_codec.Kind.{Kind}
use Rattle.enc_decoder.specs.declared.byte_codec.Kind.TheVariants.{Malformed, RepeatedEscape}

-- A sequence: its bytes, its text (the characters of a valid one, nothing for a skipped one, U+FFFD
-- for a malformed one), its kind, and the character set designated after it.
pub record Sequence : Type 0 where
  pub bytes : List ℕ
  pub text : List ℕ
  pub kind : Kind
  pub set : ℕ

-- whether a sequence of this kind is malformed
abbrev pub is_malformed : Kind → Bool
is_malformed Malformed = true
is_malformed RepeatedEscape = true
is_malformed _ = false

-- An escape sequence that another one directly follows is malformed. The last byte of the other
-- determines it, and is read when it is reported. The byte that determines any other malformed
-- sequence stays unread, unless it is its own.
abbrev pub is_repeated_escape : Kind → Bool
is_repeated_escape RepeatedEscape = true
is_repeated_escape _ = false

-- the bytes of the sequences, joined
abbrev pub sequence_bytes : List Sequence → List ℕ
sequence_bytes [] = []
sequence_bytes (s ∷ ss) = s.bytes ++ sequence_bytes ss

-- the text of the sequences, joined
abbrev pub sequence_text : List Sequence → List ℕ
sequence_text [] = []
sequence_text (s ∷ ss) = s.text ++ sequence_text ss

-- whether one of them is malformed
abbrev pub any_malformed : List Sequence → Bool
any_malformed [] = false
any_malformed (s ∷ ss) = is_malformed s.kind || any_malformed ss

-- the character set designated after them, by the one designated before
abbrev pub set_after : ℕ → List Sequence → ℕ
set_after set [] = set
set_after set (s ∷ ss) = set_after s.set ss
