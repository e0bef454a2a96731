-- The arguments PART and LENGTH: the byte order marks to look for in a part, and the most bytes to
-- read.
use Rattle.std.specs.Prelude.{◌≡◌, ℕ, ◌<◌, List, Option, None, Some, String, ◌==◌, if◌then◌else◌}
use Rattle.std.specs.String.{string_bytes}
use Rattle.enc_stream.specs.declared.bom.BomHandling.{BomHandling}
use Rattle.enc_stream.specs.declared.bom.BomHandling.TheVariants.{Remove, Off}
use Rattle.recode_part.specs.Numbers.{IsNumber, IsNoNumber}

-- In part 1 the mark of the encoding itself is looked for, and dropped. In the parts after it none
-- is looked for: their first bytes stand within the file.
abbrev pub handling_of_part : ℕ → BomHandling
handling_of_part n = if n == 1 then Remove else Off

-- The word is the number of a part, from 1, in which these marks are looked for.
abbrev pub NamesPart : List ℕ → BomHandling → Type 0
NamesPart word handling =
    (n : ℕ) × IsNumber word n × (0 < n) × (handling ≡ handling_of_part n)

abbrev pub NamesNoPart : List ℕ → Type 0
NamesNoPart word = (n : ℕ) → IsNumber word n → n ≡ 0

-- The most bytes to read: the number that the word is, and no bound if there is no word.
abbrev pub IsBound : {Z : Type 0} → Option (String Z) → Option ℕ → Type 0
IsBound None bound = bound ≡ None
IsBound (Some word) bound = (n : ℕ) × IsNumber (string_bytes word) n × (bound ≡ Some n)

-- There is a word, and it is no number.
abbrev pub HasNoBound : {Z : Type 0} → Option (String Z) → Type 0
HasNoBound None = ⊥
HasNoBound (Some word) = IsNoNumber (string_bytes word)
