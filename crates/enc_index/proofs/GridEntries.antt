-- The entries of grids: the word of a character's UTF-8, and its UTF-16 unit.
use Rattle.std.proofs.Common.{◌≡◌, ℕ, ◌/◌, Bool, true, false, refl, ◌&&◌, ◌==◌, nat_le, List, [], ◌∷◌, take, eqb-true}
use Rattle.std.proofs.Common.{leb-true, Option, Some}
use Rattle.std.proofs.Math.Utf8.{scalar}
use Rattle.std.proofs.lemmas.Bool.{and_parts}
use Rattle.std.specs.Char.{IsScalar, encode_utf8}
use Rattle.std.specs.Int.{to_le_bytes, w32}
use Rattle.enc_index.specs.Grid.{IsUtf8Word, HasWord}
use Rattle.enc_index.proofs.GridTests.{all_at, rows_ok, entry_ok, byte_ok, places_ok, Found}

unfoldable pub same_bytes : List ℕ → List ℕ → Bool
same_bytes [] [] = true
same_bytes [] (b ∷ bs) = false
same_bytes (a ∷ rest) [] = false
same_bytes (a ∷ rest) (b ∷ bs) = a == b && same_bytes rest bs

same_bytes-true : (rest bs : List ℕ) → same_bytes rest bs ≡ true → rest ≡ bs
unfolding same_bytes
same_bytes-true [] [] h = refl
same_bytes-true [] (b ∷ bs) h = cc
same_bytes-true (a ∷ rest) [] h = cc
same_bytes-true (a ∷ rest) (b ∷ bs) h =
    let parts = and_parts (a == b) (same_bytes rest bs) h in
    cc (eqb-true a b parts.0, same_bytes-true rest bs parts.1)

unfoldable pub is_word : ℕ → ℕ → Bool
is_word c word =
    scalar c && (nat_le (word / 0x100_0000) 3
    && same_bytes (take (word / 0x100_0000) (to_le_bytes w32 word)) (encode_utf8 c))

unfoldable pub is_unit : ℕ → ℕ → Bool
is_unit c unit = scalar c && unit == c

is_word-true : (c word : ℕ) → is_word c word ≡ true → IsUtf8Word c word
unfolding is_word
is_word-true c word h =
    let parts = and_parts (scalar c) _ h in
    let more = and_parts (nat_le (word / 0x100_0000) 3) _ parts.1 in
    record {
      scalar = parts.0;
      bound = leb-true (word / 0x100_0000) 3 more.0;
      bytes = same_bytes-true _ _ more.1;
    }

pub word_found : (character : Option ℕ) (word : ℕ) → Found is_word character word
    → HasWord character word
word_found character word found =
    record { c = found.0; is = found.1; utf8 = is_word-true found.0 word found.2 }

pub unit_found : (character : Option ℕ) (unit : ℕ) → Found is_unit character unit
    → (character ≡ Some unit) × IsScalar unit
unfolding is_unit
unit_found character unit found =
    let parts = and_parts (scalar found.0) (unit == found.0) found.2 in
    rw (eqb-true unit found.0 parts.1) (found.1, parts.0)

-- `unfolding grid_tests` opens the tests of grids
unfoldable pub grid_tests : Unit {0}
unfolding encode_utf8 same_bytes is_word is_unit all_at rows_ok entry_ok byte_ok places_ok
grid_tests = tt
