-- The places of sixteen bytes in a table with rows of pairs.
use Rattle.std.specs.Prelude.{ℕ, ◌+◌, ◌-◌, ◌/◌, ◌%◌, ◌^◌, ◌<◌, ◌==◌, ◌&&◌, nat_le, Bool, List, slice_index}
use Rattle.std.specs.Prelude.{if◌then◌else◌}
use Rattle.enc_output.specs.Pairs.{byte_or_pair}

-- whether the nth bit is set
abbrev pub has_bit : ℕ → ℕ → Bool
has_bit mask n = mask / 2 ^ n % 2 == 1

-- the number of a byte in a range whose first byte has `number`, and `other` of a byte outside it
abbrev pub number_in : ℕ → ℕ → ℕ → ℕ → ℕ → ℕ
number_in first last number byte other =
    if nat_le first byte && nat_le byte last then byte - first + number else other

-- Each of the first n bytes is looked up at its place, with the byte after it where its bit is set.
abbrev pub ArePlaces : (ℕ → List ℕ → Type 0) → ℕ → List ℕ → ℕ → List ℕ → List ℕ → Type 0
ArePlaces StandsFor n places leads first second =
    (i : ℕ) → i < n → StandsFor (slice_index places i)
    (byte_or_pair (has_bit leads i) (slice_index first i) (slice_index second i))

-- Bytes are looked up at this place.
abbrev pub IsPlace : (ℕ → List ℕ → Type 0) → ℕ → Type 0
IsPlace StandsFor place = (bytes : List ℕ) × StandsFor place bytes

-- Bytes are looked up at each of sixteen places.
abbrev pub EachIsPlace : (ℕ → List ℕ → Type 0) → List ℕ → Type 0
EachIsPlace StandsFor places = (i : ℕ) → i < 16 → IsPlace StandsFor (slice_index places i)
