-- The code units of the first bytes of UTF-8, which a loop writes to the front of a slice.
use Rattle.std.proofs.Common.{◌≡◌, ◌∙◌, ℕ, ◌+◌, ◌≤◌, List, ◌++◌, length, take, drop, ap, arith}
use Rattle.std.proofs.Common.{refl}
use Rattle.enc_output.specs.Utf8Units.{units_from}
use Rattle.enc_utf8.specs.Validity.{IsWellFormedUtf8}
use Rattle.enc_utf8.proofs.LengthLemmas.{lengths}
use Rattle.enc_output.proofs.Utf8CountLemmas.{enough_units}
use Rattle.enc_output.proofs.Utf8UnitsLemmas.{units_further, units_few, units_parts}

-- `read` of `len` bytes are read, and the slice is unchanged after the code units of all
pub record UnitsWritten (src first dst : List ℕ) (len read written : ℕ) : Type 0 where
  pub within : read ≤ len
  pub few : written ≤ read
  pub long : length dst ≡ length first
  pub count : written ≡ length (units_from src 0 read)
  pub front : take written dst ≡ units_from src 0 read
  pub rest : drop (length (units_from src 0 len)) dst ≡ drop (length (units_from src 0 len)) first

-- those of n bytes more are stored after them
pub written_further : {src first dst new : List ℕ} {len read written after : ℕ} (n : ℕ)
    → UnitsWritten src first dst len read written → read + n ≤ len
    → length new ≡ length dst → after ≤ length new
    → take after new ≡ take written dst ++ units_from src read n
    → drop (length (units_from src 0 len)) new ≡ drop (length (units_from src 0 len)) dst
    → UnitsWritten src first new len (read + n) after
written_further {src} {read = read} {after = after} n writes within long inside stored same =
    let front = units_further src 0 read read n (read + n) writes.front stored (omega arith) refl in
    let count : after ≡ length (units_from src 0 (read + n)) =
    omega (arith, lengths, ap length front) in
    record {
      within = within;
      few = omega (arith, count, units_few src 0 (read + n));
      long = long ∙ writes.long;
      count = count;
      front = front;
      rest = same ∙ writes.rest;
    }

-- in front of the last 52 bytes, sixteen code units fit in the place of those to come
pub sixteen_ahead : (src : List ℕ) (len read : ℕ) → len ≤ length src
    → IsWellFormedUtf8 (take len src) → read + 52 ≤ len
    → length (units_from src 0 read) + 16 ≤ length (units_from src 0 len)
sixteen_ahead src len read within utf8 far =
    let enough = enough_units src len read within utf8 far in
    omega (arith, units_parts src read len (omega arith), enough)
