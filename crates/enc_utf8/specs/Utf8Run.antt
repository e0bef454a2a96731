-- Bytes that may follow one another in well-formed UTF-8 (Unicode Standard 3.9, table 3-7).
use Rattle.std.specs.Prelude.{◌≡◌, ℕ, suc, ◌<◌, ◌≤◌, ◌⊎◌, Bool, true, ◌&&◌, ◌||◌, ◌==◌, List, slice_index}
use Rattle.std.specs.Prelude.{nat_lt, nat_le, if◌then◌else◌}
use Rattle.enc_utf8.specs.Utf8Sequences.{sequence_len, is_second_byte, is_continuation}

-- whether the second of two bytes begins a character, or is the second byte of one
abbrev pub begins_or_is_second : ℕ → ℕ → Bool
begins_or_is_second first second =
    (nat_lt first 0xC0 && (nat_lt second 0x80 || nat_le 0xC0 second))
    || (nat_le 2 (sequence_len first) && is_second_byte first second)

-- The faults of two bytes: none exactly if the second begins a character or is the second byte of
-- one, and 0x80 exactly if both are continuation bytes.
pub record ArePairFaults (first second faults : ℕ) : Type 0 where
  pub none : (faults == 0) ≡ begins_or_is_second first second
  pub continue : (faults == 0x80) ≡ (is_continuation first && is_continuation second)

-- the faults that a byte must have with the one before it, by the two before that: those of two
-- continuation bytes, if a character of three or four bytes requires them
abbrev pub required_faults : ℕ → ℕ → ℕ
required_faults third second = if nat_le 0xE0 second || nat_le 0xF0 third then 0x80 else 0

-- The byte may follow these three: it is a continuation byte exactly if one of them requires it,
-- and otherwise begins a character. That a byte never begins a character shows at the byte after
-- it.
pub record CanFollowBytes (third second first byte : ℕ) : Type 0 where
  pub begins : first < 0xC0 → second < 0xE0 → third < 0xF0 → (byte < 0x80) ⊎ (0xC0 ≤ byte)
  pub after_first : 0xC0 ≤ first → (2 ≤ sequence_len first) × (is_second_byte first byte ≡ true)
  pub after_second : 0xE0 ≤ second → is_continuation byte ≡ true
  pub after_third : 0xF0 ≤ third → is_continuation byte ≡ true

-- the fourth byte from k on may follow the three before it
abbrev pub CanFollowBytesAt : List ℕ → ℕ → Type 0
CanFollowBytesAt bytes k =
    CanFollowBytes (slice_index bytes k) (slice_index bytes (suc k))
    (slice_index bytes (suc (suc k))) (slice_index bytes (suc (suc (suc k))))

-- none of the three bytes from k on requires a byte after them
abbrev pub IsCharBoundaryAfter : List ℕ → ℕ → Type 0
IsCharBoundaryAfter bytes k = (slice_index bytes k < 0xF0) × (slice_index bytes (suc k) < 0xE0)
    × (slice_index bytes (suc (suc k)) < 0xC0)
