-- Grids: double-byte indexes laid out by rows, in which the place of two bytes is a sum.
use Rattle.std.specs.Prelude.{◌≡◌, ℕ, ◌+◌, ◌-◌, ◌*◌, ◌/◌, ◌%◌, ◌<◌, ◌≤◌, nat_lt, Option, Some, None, List, take}
use Rattle.std.specs.Prelude.{slice_index, if◌then◌else◌}
use Rattle.std.specs.Char.{IsScalar, encode_utf8}
use Rattle.std.specs.Int.{to_le_bytes, w32}
use Rattle.enc_index.specs.declared.table.Planes.{Planes}
use Rattle.enc_index.specs.Index.{Run, index_at}

-- A double-byte index: the planes that contain its characters, its runs, the number of its rows of
-- pointers, and the number of pointers in a row.
pub record Shape : Type 0 where
  pub planes : Planes
  pub runs : List Run
  pub rows : ℕ
  pub width : ℕ

-- the character of a pointer ("index code point")
abbrev pub pointer_char : Shape → ℕ → Option ℕ
pointer_char shape pointer = index_at shape.planes shape.runs pointer

-- no pointer after those of the rows has a character
abbrev pub HasNoMore : Shape → Type 0
HasNoMore shape = (pointer : ℕ) → shape.rows * shape.width ≤ pointer
    → pointer_char shape pointer ≡ None

-- 256 places for single bytes, and the rows, each with an empty place after it; the last two rows
-- are empty
abbrev pub grid_len : Shape → ℕ
grid_len shape = 256 + (shape.rows + 2) * (shape.width + 1)

-- the character of a place after those of single bytes: that of the pointer at its row and column,
-- and none in the last column
abbrev pub cell_char : Shape → ℕ → Option ℕ
cell_char shape cell =
    let row = cell / (shape.width + 1) in
    let column = cell % (shape.width + 1) in
    if nat_lt column shape.width then pointer_char shape (row * shape.width + column) else None

-- the character of a place: ASCII, none for other single bytes, and then those of the index
unfoldable pub grid_char : Shape → ℕ → Option ℕ
grid_char shape place =
    if nat_lt place 128 then Some place else
    (if nat_lt place 256 then None else cell_char shape (place - 256))

-- the word has the UTF-8 of a character: its bytes, the first lowest, and their number in the
-- highest byte, at most 3
pub record IsUtf8Word (c word : ℕ) : Type 0 where
  pub scalar : IsScalar c
  pub bound : word / 0x100_0000 ≤ 3
  pub bytes : take (word / 0x100_0000) (to_le_bytes w32 word) ≡ encode_utf8 c

-- there is a character, and the word has its UTF-8
pub record HasWord (character : Option ℕ) (word : ℕ) : Type 0 where
  pub c : ℕ
  pub is : character ≡ Some c
  pub utf8 : IsUtf8Word c word

-- A place of the grid. The character there, if there is one, has this property.
pub record IsPlaceOf (shape : Shape) (P : ℕ → Type 0) (place : ℕ) : Type 0 where
  pub within : place < grid_len shape
  pub char : (c : ℕ) → grid_char shape place ≡ Some c → P c

-- Sixteen places of the grid. The character at each is that of its two bytes.
abbrev pub ArePairPlaces : Shape → (ℕ → ℕ → ℕ → Type 0) → List ℕ → List ℕ → List ℕ → Type 0
ArePairPlaces shape IsPair places first second =
    (i : ℕ) → i < 16
    → IsPlaceOf shape (IsPair (slice_index first i) (slice_index second i)) (slice_index places i)
