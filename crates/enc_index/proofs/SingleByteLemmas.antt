-- The tables of the single-byte indexes have what their runs say.
use Rattle.std.proofs.Common.{◌≡◌, ◌∙◌, ℕ, ◌+◌, ◌-◌, ◌*◌, ◌<◌, ◌≤◌, Bool, true, ◌&&◌, Some, List}
use Rattle.std.proofs.Common.{get_or, slice_range, refl, sym, ap, arith, length, ◌||◌, ◌==◌, nat_lt, nat_le, leb-true}
use Rattle.std.proofs.Common.{le-ltb, ltb-true, eqb-true}
use Rattle.std.proofs.lemmas.Bool.{and_parts}
use Rattle.enc_index.specs.declared.table.Planes.TheVariants.{Basic}
use Rattle.enc_index.specs.declared.single_byte_index.SingleByteIndex.{SingleByteIndex}
use Rattle.enc_index.specs.declared.single_byte_index.SingleByteIndex.TheVariants.{Ibm866}
use Rattle.enc_index.specs.declared.data.single_byte.TheConstants.{SINGLE_BYTE_TABLE}
use Rattle.enc_index.specs.declared.data.single_byte_words.TheConstants.{SINGLE_BYTE_WORDS, SINGLE_BYTE_UNITS}
use Rattle.enc_index.specs.Index.{entry_character, index_at}
use Rattle.enc_index.specs.Runs.{single_byte_runs}
use Rattle.enc_index.specs.Letters.{HasLetters}
use Rattle.enc_index.specs.SingleByteTables.{table_number, letters_of}
use Rattle.enc_index.proofs.GridEntries.{grid_tests, is_word, is_unit, unit_found}
use Rattle.enc_index.proofs.GridTests.{places_ok, Found, byte_entry, row_entry, all_at, all_at-at, or_last}
use Rattle.enc_index.proofs.TableLemmas.{agrees, agrees-true}
use Rattle.enc_index.proofs.Computing.{tests}

abbrev pub table_of : SingleByteIndex → List ℕ
table_of index = slice_range SINGLE_BYTE_TABLE (table_number index * 128)
    (table_number index * 128 + 128)

-- the 256 entries of the bytes of the index with a number
abbrev pub bytes_of : ℕ → List ℕ → List ℕ
bytes_of n entries = slice_range entries (n * 256) (n * 256 + 256)

-- the entries of 256 bytes fit: ASCII, and then the table
abbrev pub bytes_ok : (ℕ → ℕ → Bool) → SingleByteIndex → List ℕ → Bool
bytes_ok kind index gs = places_ok kind Basic 128 (table_of index) 128 gs

tables_ok : SingleByteIndex → Bool
tables_ok index = agrees (single_byte_runs index) (table_of index)
    && (bytes_ok is_word index (bytes_of (table_number index) SINGLE_BYTE_WORDS)
    && bytes_ok is_unit index (bytes_of (table_number index) SINGLE_BYTE_UNITS))

all_tables : (index : SingleByteIndex) → tables_ok index ≡ true
unfolding tests grid_tests tables_ok
all_tables Ibm866 = refl
all_tables _ = refl

pub single_byte_table : (index : SingleByteIndex) (p : ℕ)
    → entry_character Basic (get_or (table_of index) p 0)
    ≡ index_at Basic (single_byte_runs index) p
unfolding tables_ok
single_byte_table index p =
    agrees-true Basic (single_byte_runs index) (table_of index) (and_parts _ _ (all_tables index)).0
    p

-- the words and the units of the index with the number n fit
module _ (index : SingleByteIndex) {n : ℕ} (is_number : n ≡ table_number index) where
  pub words_fit : bytes_ok is_word index (bytes_of n SINGLE_BYTE_WORDS) ≡ true
  unfolding tables_ok
  words_fit = rw is_number (and_parts _ _ (and_parts _ _ (all_tables index)).1).0

  pub units_fit : bytes_ok is_unit index (bytes_of n SINGLE_BYTE_UNITS) ≡ true
  unfolding tables_ok
  units_fit = rw is_number (and_parts _ _ (and_parts _ _ (all_tables index)).1).1

-- the entry of a byte, if it is not 0, where the 256 of its index fit
module _ (kind : ℕ → ℕ → Bool) (index : SingleByteIndex) (gs : List ℕ) (b entry : ℕ)
    (ok : bytes_ok kind index gs ≡ true) (is_entry : entry ≡ get_or gs b 0) (some : 0 < entry) where
  pub ascii_found : b < 128 → Found kind (Some b) entry
  ascii_found l =
      let found = byte_entry kind Basic 128 (table_of index) 128 gs ok b l (rw is_entry at some) in
      rw is_entry (b, refl, found.1)

  pub pointer_found : 128 ≤ b → b < 256
      → Found kind (index_at Basic (single_byte_runs index) (b - 128)) entry
  pointer_found l h =
      let found = (row_entry kind Basic 128 (table_of index) 128 gs ok 0 (b - 128) b (omega arith)
      (omega arith) (rw is_entry at some)).1 in
      let pointer : b - 128 ≡ 0 * 128 + (b - 128) = omega arith in
      let char = ap (index_at Basic (single_byte_runs index)) pointer
      ∙ sym (single_byte_table index (0 * 128 + (b - 128))) ∙ found.1 in
      rw is_entry (found.0, char, found.2)

-- letters

-- the unit of a byte is that of a letter, if it is one
letter_test : ℕ × ℕ × ℕ → ℕ → ℕ → Bool
letter_test letters b unit =
    nat_lt b letters.0 || (nat_lt letters.1 b
    || (unit == b + letters.2 && (nat_lt 0 unit && nat_lt unit 0x10000)))

letters_fit : SingleByteIndex → Bool
letters_fit index =
    let letters = letters_of index in
    nat_le 128 letters.0 && (nat_lt letters.1 256
    && all_at (letter_test letters) 0 (bytes_of (table_number index) SINGLE_BYTE_UNITS))

all_letters : (index : SingleByteIndex) → letters_fit index ≡ true
unfolding letters_fit letter_test all_at
all_letters Ibm866 = refl
all_letters _ = refl

units_count : (index : SingleByteIndex)
    → length (bytes_of (table_number index) SINGLE_BYTE_UNITS) ≡ 256
units_count Ibm866 = refl
units_count _ = refl

pub single_byte_letters : (index : SingleByteIndex)
    → HasLetters (single_byte_runs index) (letters_of index)
unfolding letters_fit letter_test
single_byte_letters index b low high =
    let letters = letters_of index in
    let units = bytes_of (table_number index) SINGLE_BYTE_UNITS in
    let fit = and_parts _ _ (all_letters index) in
    let first = leb-true 128 letters.0 fit.0 in
    let rest = and_parts _ _ fit.1 in
    let last = ltb-true letters.1 256 rest.0 in
    let tested = all_at-at (letter_test letters) 0 0 units b b rest.1
    (omega (arith, last, units_count index)) (omega arith) in
    let not_below = le-ltb b letters.0 low in
    let not_above = le-ltb letters.1 b high in
    let letter = and_parts _ _ (or_last _ _ not_above (or_last _ _ not_below tested)) in
    let some = and_parts _ _ letter.1 in
    let is : get_or units b 0 ≡ b + letters.2 = eqb-true _ _ letter.0 in
    let found = unit_found _ _ (pointer_found is_unit index units b (get_or units b 0)
    (units_fit index refl) refl (ltb-true _ _ some.0) (omega (arith, first))
    (omega (arith, last))) in
    (omega (arith, first), rw is at found.0, rw is at found.1, rw is at (ltb-true _ _ some.1))
