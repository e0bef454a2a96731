-- Inputs that are divided after a byte.
use Rattle.std.specs.Prelude.{◌≡◌, ℕ, ◌<◌, List, [], ◌∷◌, ◌++◌}
use Rattle.enc_decoder.specs.Segmentation.{Rule, sequences_of}

-- The sequences of an input are those of its bytes up to this one, and those of the bytes after it.
abbrev pub IsDividedAfter : ℕ → Rule → Type 0
IsDividedAfter c rule = (front back : List ℕ)
    → sequences_of rule 0 (front ++ c ∷ back)
    ≡ sequences_of rule 0 (front ++ c ∷ []) ++ sequences_of rule 0 back

-- The same after each byte below 30, the first ASCII digit. A line feed is one of them. After a
-- digit it is not so in gb18030: 81 30 begins a sequence of four bytes.
abbrev pub IsDividedBelowDigits : Rule → Type 0
IsDividedBelowDigits rule = (c : ℕ) → c < 0x30 → IsDividedAfter c rule
