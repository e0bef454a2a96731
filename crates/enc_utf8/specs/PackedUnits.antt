-- The UTF-8 of code units in lanes of the same width, without the bytes that a character does not
-- have.
use Rattle.std.specs.Prelude.{ℕ, zero, suc, ◌+◌, ◌-◌, ◌/◌, ◌%◌, List, [], ◌∷◌, ◌++◌, map}
use Rattle.std.specs.Prelude.{slice_index, nat_lt, if◌then◌else◌}

-- the number of bytes of the UTF-8 of a code unit (Unicode Standard 3.9, table 3-6)
abbrev pub unit_len : ℕ → ℕ
unit_len unit = if nat_lt unit 0x80 then 1 else if nat_lt unit 0x800 then 2 else 3

-- n numbers from `from` on
abbrev pub count_up : ℕ → ℕ → List ℕ
count_up from zero = []
count_up from (suc n) = from ∷ count_up (suc from) n

-- the places of the first bytes of lanes, as many of each as the list says; the first lane begins
-- at `from`
abbrev pub places_of : ℕ → List ℕ → ℕ → List ℕ
places_of width [] from = []
places_of width (len ∷ lens) from = count_up from len ++ places_of width lens (from + width)

-- the first bytes of lanes, as many of each as the list says
abbrev pub kept_bytes : ℕ → List ℕ → List ℕ → List ℕ
kept_bytes width lens bytes = map (λ place. slice_index bytes place) (places_of width lens 0)

-- of n lanes, 2, or 1 where the bit of the lane is set, the first in the lowest
abbrev pub pair_lens : ℕ → ℕ → List ℕ
pair_lens zero mask = []
pair_lens (suc n) mask = (2 - mask % 2) ∷ pair_lens n (mask / 2)

-- of n lanes, 3 less the number of bits that are set of the two of the lane
abbrev pub triple_lens : ℕ → ℕ → List ℕ
triple_lens zero mask = []
triple_lens (suc n) mask = (3 - mask % 2 - mask / 2 % 2) ∷ triple_lens n (mask / 4)
