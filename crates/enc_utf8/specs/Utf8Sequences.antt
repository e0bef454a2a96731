-- The sequences of UTF-8 (Unicode Standard 3.9): those that are well-formed (table 3-7) with their
-- scalar values (table 3-6), and how many bytes begin one (a maximal subpart, D93b).
use Rattle.std.specs.Prelude.{ℕ, ◌+◌, ◌-◌, ◌*◌, Bool, false, ◌&&◌, ◌==◌, nat_lt, nat_le, List, [], ◌∷◌, length}
use Rattle.std.specs.Prelude.{if◌then◌else◌}
use Rattle.std.proofs.Common.{zero, suc}

-- the length of the well-formed sequences that begin with a byte, or 0 if none does
unfoldable pub sequence_len : ℕ → ℕ
sequence_len b =
    if nat_lt b 0x80 then 1 else if nat_lt b 0xC2 then 0 else if nat_lt b 0xE0 then 2
    else if nat_lt b 0xF0 then 3 else if nat_lt b 0xF5 then 4 else 0

-- the range of the second byte, by the first
abbrev pub second_byte_min : ℕ → ℕ
second_byte_min b = if b == 0xE0 then 0xA0 else if b == 0xF0 then 0x90 else 0x80

abbrev pub second_byte_max : ℕ → ℕ
second_byte_max b = if b == 0xED then 0x9F else if b == 0xF4 then 0x8F else 0xBF

unfoldable pub is_second_byte : ℕ → ℕ → Bool
is_second_byte b c = nat_le (second_byte_min b) c && nat_le c (second_byte_max b)

-- the range of the third and the fourth byte
unfoldable pub is_continuation : ℕ → Bool
is_continuation c = nat_le 0x80 c && nat_le c 0xBF

-- the scalar value of a well-formed sequence
abbrev pub scalar_of : List ℕ → ℕ
scalar_of [] = 0
scalar_of (a ∷ []) = a
scalar_of (a ∷ b ∷ []) = (a - 0xC0) * 64 + (b - 0x80)
scalar_of (a ∷ b ∷ c ∷ []) = (a - 0xE0) * 4096 + (b - 0x80) * 64 + (c - 0x80)
scalar_of (a ∷ b ∷ c ∷ d ∷ z) =
    (a - 0xF0) * 262144 + (b - 0x80) * 4096 + (c - 0x80) * 64 + (d - 0x80)

-- the number of continuation bytes at the front, at most n
abbrev pub continuations : ℕ → List ℕ → ℕ
continuations zero z = 0
continuations (suc n) [] = 0
continuations (suc n) (c ∷ z) = if is_continuation c then suc (continuations n z) else 0

-- the number of bytes after the first that continue a sequence which requires n more
abbrev pub continuing_len : ℕ → ℕ → List ℕ → ℕ
continuing_len b zero z = 0
continuing_len b (suc n) [] = 0
continuing_len b (suc n) (c ∷ z) = if is_second_byte b c then suc (continuations n z) else 0

-- the number of bytes after the first that begin a well-formed sequence with it
abbrev pub well_formed_tail_len : ℕ → List ℕ → ℕ
well_formed_tail_len b z = continuing_len b (sequence_len b - 1) z

-- The bytes begin a well-formed sequence and are not all of it: a maximal subpart that more bytes
-- may complete.
abbrev pub is_incomplete_sequence : List ℕ → Bool
is_incomplete_sequence [] = false
is_incomplete_sequence (b ∷ z) =
    (well_formed_tail_len b z == length z) && nat_lt (length z + 1) (sequence_len b)
