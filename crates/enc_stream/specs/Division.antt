-- Whole inputs that are divided after a byte.
use Rattle.std.specs.Prelude.{◌≡◌, ℕ, List, [], ◌∷◌, ◌++◌}
use Rattle.enc_stream.specs.declared.bom.BomHandling.TheVariants.{Off}
use Rattle.enc_stream.specs.declared.encoding.Encoding.{Encoding}
use Rattle.enc_stream.specs.Decoding.{whole_sequences}

-- With no search for byte order marks, the sequences of an input are those of its bytes up to this
-- one, and those of the bytes after it.
abbrev pub ByteDivides : ℕ → Encoding → Type 0
ByteDivides c e = (front back : List ℕ)
    → whole_sequences Off e (front ++ c ∷ back)
    ≡ whole_sequences Off e (front ++ c ∷ []) ++ whole_sequences Off e back

-- so an input can be decoded line by line
abbrev pub LineFeedsDivide : Encoding → Type 0
LineFeedsDivide e = ByteDivides 0x0A e
