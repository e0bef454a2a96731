-- Outputs of code units (Unicode Standard 3.9, code unit sequences).
use Rattle.std.specs.Prelude.{ℕ, ◌-◌, List, [], ◌++◌, length, take, drop}
use Rattle.std.specs.Borrow.{GName, MutBor}

-- an output: the code units written, the number that still fit, the old ones after them, and the
-- borrow that it writes through
pub record Output : Type 0 where
  pub written : List ℕ
  pub room : ℕ
  pub unwritten : List ℕ
  pub borrow : GName

-- the output after these code units are appended
abbrev pub with_appended : Output → List ℕ → Output
with_appended o units = record {
  written = o.written ++ units;
  room = o.room - length units;
  unwritten = drop (length units) o.unwritten;
  borrow = o.borrow;
}

-- a slice as an output: its first `len` elements are written
abbrev pub slice_output : ℕ → List ℕ → GName → Output
slice_output len dst borrow = record {
  written = take len dst;
  room = length dst - len;
  unwritten = drop len dst;
  borrow = borrow;
}

-- the same of a slice that is borrowed
abbrev pub borrowed_output : ℕ → MutBor (List ℕ) → Output
borrowed_output len dst = slice_output len dst.now dst.ghost_name

-- a String as an output: all its bytes are written, and `room` more fit
abbrev pub string_output : List ℕ → ℕ → GName → Output
string_output text room borrow =
    record { written = text; room = room; unwritten = []; borrow = borrow }

-- the room left in a buffer whose first `len` elements are the text
abbrev pub room_in : ℕ → MutBor (List ℕ) → ℕ
room_in len buffer = length buffer.now - len

-- such a buffer as an output: any elements may come after the text
abbrev pub buffer_output : ℕ → MutBor (List ℕ) → Output
buffer_output len buffer =
    string_output (take len buffer.now) (room_in len buffer) buffer.ghost_name
